-- One step from field to field.
use Rattle.std.specs.Prelude.{◌≡◌, ℕ, Bool, false, List, [], ◌∷◌}
use Rattle.fields.specs.Fields.{Begins}
use Rattle.inputs.specs.Parts.{is_certificate_tag}

-- the bytes begin with the tag of a certificate
abbrev pub certificate_in_front : List ℕ → Bool
certificate_in_front [] = false
certificate_in_front (tag ∷ bs) = is_certificate_tag tag

-- a whole field that is no certificate stands in front, and this follows it
pub record Passes (bs after : List ℕ) : Type 0 where
  pub tag : ℕ
  pub body : List ℕ
  pub begins : Begins bs tag body after
  pub other : is_certificate_tag tag ≡ false
