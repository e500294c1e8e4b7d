-- The terms from a column on.
use Rattle.std.proofs.Common.{◌≡◌, ℕ, zero, suc, ◌+◌, ◌-◌, ◌<◌, ◌≤◌, Bool, true, false, List, [], ◌∷◌, ◌++◌, length, get_or, drop, ℤ, pos, negsuc, sym, refl, ap, ◌∙◌, append_assoc, arith, ne_eqb}
use Rattle.std.proofs.lemmas.List.{drop_more, drop_all, append-nil}
use Rattle.std.proofs.lemmas.Bool.{and_left}
use Rattle.std.specs.List.{list_all}
use Rattle.listing_fields.specs.declared.term.Term.{Term}
use Rattle.clauses.specs.Terms.{nought, kept, terms_from}
use Rattle.clauses.proofs.Fails.{fails_within}

some : {X : Type 0} (xs : List X) → 0 < length xs → X
some [] h = absurd (omega arith)
some (x ∷ xs) h = x

some_nought : (z : ℤ) → (z ≡ pos 0 → ⊥) → nought z ≡ false
some_nought (pos n) h = ne_eqb n 0 (λ e. h (ap pos e))
some_nought (negsuc n) h = refl

module _ {X : Type 0} (f : X → ℤ) (xs : List X) where
  -- one column on
  pub one_more : (n : ℕ) (d : X) → n < length xs → terms_from n f (drop n xs) ≡ kept (nought (f (get_or xs n d))) (record { column = n; coefficient = f (get_or xs n d) }) (terms_from (n + 1) f (drop (n + 1) xs))
  one_more n d h =
      ap (terms_from n f) (drop_more xs n d h)
      ∙ (let e : suc n ≡ n + 1 = omega arith in ap (λ m. kept (nought (f (get_or xs n d))) (record { column = n; coefficient = f (get_or xs n d) }) (terms_from m f (drop (n + 1) xs))) e)

  pub skip_one : (n : ℕ) (d : X) → n < length xs → f (get_or xs n d) ≡ pos 0 → terms_from n f (drop n xs) ≡ terms_from (n + 1) f (drop (n + 1) xs)
  skip_one n d h z = one_more n d h ∙ ap (λ v. kept (nought v) (record { column = n; coefficient = v }) (terms_from (n + 1) f (drop (n + 1) xs))) z

  -- over columns whose coefficient is nought
  pub skip : (k n : ℕ) → n + k ≤ length xs → ((i : ℕ) (d : X) → n ≤ i → i < n + k → f (get_or xs i d) ≡ pos 0) → terms_from n f (drop n xs) ≡ terms_from (n + k) f (drop (n + k) xs)
  skip zero n h z = let e : n ≡ n + 0 = omega arith in ap (λ m. terms_from m f (drop m xs)) e
  skip (suc k) n h z =
      let e : (n + 1) + k ≡ n + suc k = omega arith in
      let y = some xs (omega arith) in
      skip_one n y (omega arith) (z n y (omega arith) (omega arith))
      ∙ skip k (n + 1) (omega arith) (λ i d low high. z i d (omega arith) (omega arith))
      ∙ ap (λ m. terms_from m f (drop m xs)) e

  pub skip_to : (n m : ℕ) → n ≤ m → m ≤ length xs → ((i : ℕ) (d : X) → n ≤ i → i < m → f (get_or xs i d) ≡ pos 0) → terms_from n f (drop n xs) ≡ terms_from m f (drop m xs)
  skip_to n m le h z =
      let e : n + (m - n) ≡ m = omega arith in
      skip (m - n) n (omega arith) (λ i d low high. z i d low (omega arith)) ∙ ap (λ k. terms_from k f (drop k xs)) e

  -- a column is listed, or passed over
  module _ (n : ℕ) (d : X) (out whole : List Term) (c : ℤ) (h : n < length xs) (e : c ≡ f (get_or xs n d)) (inv : whole ≡ out ++ terms_from n f (drop n xs)) where
    step : whole ≡ out ++ kept (nought c) (record { column = n; coefficient = c }) (terms_from (n + 1) f (drop (n + 1) xs))
    step = inv ∙ ap (◌++◌ out) (one_more n d h ∙ ap (λ v. kept (nought v) (record { column = n; coefficient = v }) (terms_from (n + 1) f (drop (n + 1) xs))) (sym e))

    pub listed : (c ≡ pos 0 → ⊥) → whole ≡ (out ++ (record { column = n; coefficient = c }) ∷ []) ++ terms_from (n + 1) f (drop (n + 1) xs)
    listed z =
        step
        ∙ ap (λ b. out ++ kept b (record { column = n; coefficient = c }) (terms_from (n + 1) f (drop (n + 1) xs))) (some_nought c z)
        ∙ sym (append_assoc out ((record { column = n; coefficient = c }) ∷ []) (terms_from (n + 1) f (drop (n + 1) xs)))

    -- where it is listed and a test fails of it, the test fails of one
    pub held_out : (c ≡ pos 0 → ⊥) → (p : Term → Bool) → p (record { column = n; coefficient = c }) ≡ false → list_all p whole ≡ false
    held_out z p h =
        ap (list_all p) (listed z ∙ append_assoc out ((record { column = n; coefficient = c }) ∷ []) _) ∙ fails_within p out ((record { column = n; coefficient = c }) ∷ []) _ (and_left (p (record { column = n; coefficient = c })) true h)

    pub passed : c ≡ pos 0 → whole ≡ out ++ terms_from (n + 1) f (drop (n + 1) xs)
    passed z = step ∙ ap (λ b. out ++ kept (nought b) (record { column = n; coefficient = b }) (terms_from (n + 1) f (drop (n + 1) xs))) z

pub all_listed : {X : Type 0} (f : X → ℤ) (xs : List X) (n : ℕ) (out whole : List Term) → length xs ≤ n → whole ≡ out ++ terms_from n f (drop n xs) → out ≡ whole
all_listed f xs n out whole h inv = sym (inv ∙ ap (λ l. out ++ terms_from n f l) (drop_all n xs h) ∙ append-nil out)
