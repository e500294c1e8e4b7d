-- Going from field to field.
use Rattle.std.specs.Prelude.{◌≡◌, ℕ, ◌-◌, ◌<◌, List, [], length, Option, Result, MatchOption, MatchResult}
use Rattle.fields.specs.Fields.{Begins, Cut}
use Rattle.fields.specs.declared.fault.FaultKind.{FaultKind}
use Rattle.fields.specs.declared.fault.FaultKind.TheVariants.{PastEnd}
use Rattle.fields.specs.declared.head.Field.{Field}
use Rattle.fields.specs.declared.walk.Fields.{Fields}

-- bytes begin with this field and go on with the rest, or they begin with none, and nothing is left
abbrev pub IsCut : List ℕ → Result Field FaultKind → List ℕ → Type 0
IsCut bs field rest = MatchResult field (λ f. Begins bs f.tag f.body.now rest) (λ k. (k ≡ PastEnd) × Cut bs × (rest ≡ []))

-- one step from what is left: its place, and the field that it begins with, or that it begins with none
pub record Step (s : Fields) (at : ℕ) (field : Result Field FaultKind) (t : Fields) : Type 0 where
  pub some : 0 < length s.rest.now
  pub input : t.input.now ≡ s.input.now
  pub place : at ≡ length s.input.now - length s.rest.now
  pub cut : IsCut s.rest.now field t.rest.now

abbrev pub Cuts : Fields → Option (ℕ × Result Field FaultKind) → Fields → Type 0
Cuts s r t = MatchOption r (s.rest.now ≡ []) (λ p. Step s p.0 p.1 t)
