-- A loop over the terms that an iterator gives: what is left of them.
use Rattle.std.proofs.Common.{◌≡◌, ℕ, ◌+◌, Bool, true, false, not, ◌&&◌, leb, List, [], ◌∷◌, Some, None, Option, sym, ap, ◌∙◌, subst}
use Rattle.std.specs.Iterator.{AlwaysYields}
use Rattle.std.proofs.lemmas.Bool.{and_left}
use Rattle.listing_fields.specs.declared.term.Term.{Term}
use Rattle.listing_fields.specs.Tests.{is_nought, terms_rise}

module _ {S : Type 0} (steps : S → Option Term → S → Type 0) where
  -- the terms left are those that the iterator still gives, and the answer lies in them
  pub record Left (s : S) (least : ℕ) (ts : List Term) : Type 0 where
    pub left : List Term
    pub yields : AlwaysYields steps (λ t. t) s left
    pub same : terms_rise 0 ts ≡ terms_rise least left

  abbrev rises : ℕ → Term → Bool
  rises least t = leb least t.column && not (is_nought t.coefficient)

  module _ (s t : S) (least : ℕ) (ts : List Term) where
    next : (x : Term) (left : List Term) → AlwaysYields steps (λ t. t) s left → terms_rise 0 ts ≡ terms_rise least left → steps s (Some x) t → rises least x ≡ true → Left t (x.column + 1) ts
    next x [] y e h r = absurd (y x t h)
    next x (z ∷ left) y e h r =
        let p = y.1 x t h in
        record {
          left = left;
          yields = p.1;
          same = e ∙ ap (λ w. rises least w && terms_rise (w.column + 1) left) (sym p.0) ∙ ap (λ b. b && terms_rise (x.column + 1) left) r;
        }

    pub left_more : (x : Term) (n : ℕ) → Left s least ts → steps s (Some x) t → rises least x ≡ true → n ≡ x.column → Left t (n + 1) ts
    left_more x n l h r e = subst (λ m. Left t (m + 1) ts) (sym e) (next x l.left l.yields l.same h r)

    fails : (x : Term) (left : List Term) → AlwaysYields steps (λ t. t) s left → terms_rise 0 ts ≡ terms_rise least left → steps s (Some x) t → rises least x ≡ false → false ≡ terms_rise 0 ts
    fails x [] y e h r = absurd (y x t h)
    fails x (z ∷ left) y e h r =
        let p = y.1 x t h in
        sym (e ∙ ap (λ w. rises least w && terms_rise (w.column + 1) left) (sym p.0) ∙ and_left _ _ r)

    pub left_fails : (x : Term) → Left s least ts → steps s (Some x) t → rises least x ≡ false → false ≡ terms_rise 0 ts
    left_fails x l h r = fails x l.left l.yields l.same h r

    none : (left : List Term) → AlwaysYields steps (λ t. t) s left → terms_rise 0 ts ≡ terms_rise least left → steps s None t → true ≡ terms_rise 0 ts
    none [] y e h = sym e
    none (z ∷ left) y e h = absurd (y.0 t h)

    pub left_none : Left s least ts → steps s None t → true ≡ terms_rise 0 ts
    left_none l h = none l.left l.yields l.same h
