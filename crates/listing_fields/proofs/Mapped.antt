-- What a `Result` was before its error was mapped.
use Rattle.std.proofs.Common.{◌≡◌, Ok, Err, Result, sym, refl, ◌∙◌, subst}
use Rattle.std.specs.Prelude.{MatchResult, IsErrAnd}

module _ {T D E : Type 0} (P : D → E → Type 0) (s : Result T E) where
  pub was_ok : (r : Result T D) (x : T) → MatchResult r (λ y. s ≡ Ok y) (λ d. IsErrAnd s (P d)) → s ≡ Ok x → r ≡ Ok x
  was_ok (Ok y) x h e = let same : ◌≡◌ {A = Result T E} (Ok y) (Ok x) = sym h ∙ e in cc
  was_ok (Err d) x h e = let no : IsErrAnd {T = T} {E = E} (Ok x) (P d) = subst (λ z. IsErrAnd z (P d)) e h in absurd no

  pub was_err : (r : Result T D) (k : E) → MatchResult r (λ y. s ≡ Ok y) (λ d. IsErrAnd s (P d)) → s ≡ Err k → (d : D) × (r ≡ Err d) × P d k
  was_err (Ok y) k h e = let no : ◌≡◌ {A = Result T E} (Ok y) (Err k) = sym h ∙ e in cc
  was_err (Err d) k h e = (d, refl, subst (λ z. IsErrAnd z (P d)) e h)
