-- The terms of any coefficients: they rise strictly over columns that exist, and none is nought.
use Rattle.std.proofs.Common.{◌≡◌, ℕ, suc, ◌+◌, ◌≤◌, Bool, true, false, not, ltb, leb, List, [], ◌∷◌, length, ℤ, pos, negsuc, sym, refl, ◌∙◌, arith}
use Rattle.std.proofs.lemmas.Bool.{and_from, and_parts, lt-ltb, le-leb, not_from_false}
use Rattle.listing_fields.specs.Tests.{is_nought, is_coefficient, terms_in_range, terms_refer, terms_rise}
use Rattle.books.specs.Conditions.{every}
use Rattle.clauses.specs.Terms.{nought, kept, terms_from}

same_nought : (z : ℤ) → nought z ≡ is_nought z
same_nought (pos n) = refl
same_nought (negsuc n) = refl

module _ {X : Type 0} (f : X → ℤ) where
  -- over columns that exist
  pub terms_below : (n m : ℕ) (xs : List X) → n + length xs ≤ m → terms_refer m (terms_from n f xs) ≡ true
  terms_below n m [] h = refl
  terms_below n m (x ∷ xs) h = go (nought (f x)) (terms_below (suc n) m xs (omega arith))
    where
      go : (b : Bool) → terms_refer m (terms_from (suc n) f xs) ≡ true → terms_refer m (kept b (record { column = n; coefficient = f x }) (terms_from (suc n) f xs)) ≡ true
      go true e = e
      go false e = and_from (ltb n m) _ (lt-ltb n m (omega arith)) e

  -- strictly rising, none nought
  pub terms_rising : (least n : ℕ) (xs : List X) → least ≤ n → terms_rise least (terms_from n f xs) ≡ true
  terms_rising least n [] h = refl
  terms_rising least n (x ∷ xs) h =
      go (nought (f x)) refl (terms_rising least (suc n) xs (omega arith)) (terms_rising (n + 1) (suc n) xs (omega arith))
    where
      go : (b : Bool) → nought (f x) ≡ b → terms_rise least (terms_from (suc n) f xs) ≡ true → terms_rise (n + 1) (terms_from (suc n) f xs) ≡ true → terms_rise least (kept b (record { column = n; coefficient = f x }) (terms_from (suc n) f xs)) ≡ true
      go true is e g = e
      go false is e g =
          and_from _ _ (and_from (leb least n) (not (is_nought (f x))) (le-leb least n h) (not_from_false (is_nought (f x)) (sym (same_nought (f x)) ∙ is))) g

  -- in range where the coefficients are
  pub terms_ranged : (n : ℕ) (xs : List X) → n + length xs ≤ 65536 → every (λ (x : X). is_coefficient (f x)) xs ≡ true → terms_in_range (terms_from n f xs) ≡ true
  terms_ranged n [] h w = refl
  terms_ranged n (x ∷ xs) h w = go (nought (f x)) (terms_ranged (suc n) xs (omega arith) s.1)
    where
      s : (is_coefficient (f x) ≡ true) × (every (λ (y : X). is_coefficient (f y)) xs ≡ true)
      s = and_parts (is_coefficient (f x)) (every (λ (y : X). is_coefficient (f y)) xs) w

      go : (b : Bool) → terms_in_range (terms_from (suc n) f xs) ≡ true → terms_in_range (kept b (record { column = n; coefficient = f x }) (terms_from (suc n) f xs)) ≡ true
      go true e = e
      go false e = and_from _ _ (and_from (ltb n 65536) (is_coefficient (f x)) (lt-ltb n 65536 (omega arith)) s.0) e
