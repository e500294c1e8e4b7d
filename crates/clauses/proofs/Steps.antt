-- What the records of a file give, as they are gone through.
use Rattle.std.proofs.Common.{◌≡◌, ℕ, ◌+◌, ◌<◌, ◌≤◌, List, [], ◌∷◌, ◌++◌, map, length, get_or, drop, sym, refl, ap, ◌∙◌, append_assoc}
use Rattle.std.proofs.lemmas.List.{append-nil, at_drop_more, at_drop_all, map-append}
use Rattle.case_columns.specs.Spread.{spread}

-- the records left give the rest of the whole
module _ {K X Y R : Type 0} (F : K → ℕ → X → List Y) (k : K) (m : R → X) (rs : List R) (r : ℕ) (xs whole : List Y) where
  pub given : (j : K) (d : R) (ws ys : List Y) → r < length rs → j ≡ k → ws ≡ xs → ys ≡ ws ++ F j r (m (get_or rs r d)) → xs ++ spread (F k) r (map m (drop r rs)) ≡ whole → ys ++ spread (F k) (r + 1) (map m (drop (r + 1) rs)) ≡ whole
  given j d ws ys h e w p inv =
      ap (λ l. l ++ spread (F k) (r + 1) (map m (drop (r + 1) rs))) (p ∙ (λ i. w i ++ F (e i) r (m (get_or rs r d))))
      ∙ append_assoc xs (F k r (m (get_or rs r d))) (spread (F k) (r + 1) (map m (drop (r + 1) rs)))
      ∙ ap (◌++◌ xs) (sym (at_drop_more (λ l. spread (F k) r (map m l)) rs r d h))
      ∙ inv

  pub all_given : length rs ≤ r → xs ++ spread (F k) r (map m (drop r rs)) ≡ whole → xs ≡ whole
  all_given h inv = sym (append-nil xs) ∙ ap (◌++◌ xs) (sym (at_drop_all (λ l. spread (F k) r (map m l)) rs r h)) ∙ inv

-- what a function makes of what the records give
pub spread_map : {X Y Z : Type 0} (g : Y → Z) (f : ℕ → X → List Y) (r : ℕ) (es : List X) → map g (spread f r es) ≡ spread (λ k e. map g (f k e)) r es
spread_map g f r [] = refl
spread_map g f r (e ∷ es) = map-append g (f r e) (spread f (r + 1) es) ∙ ap (◌++◌ (map g (f r e))) (spread_map g f (r + 1) es)
