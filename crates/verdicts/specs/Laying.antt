-- The calls that the certificates of an input make.
use Rattle.std.specs.Prelude.{◌≡◌, ℕ, List, map}
use Rattle.inputs.specs.Parts.{FieldsOf, kind_of}
use Rattle.docket.specs.Calls.{Laid, laid}

-- the call that a field makes
abbrev pub call_of : List ℕ → Laid
call_of bs = laid (kind_of bs) bs

-- the calls of the fields that bytes are cut into, in their order
pub record CallsOf (bs : List ℕ) (calls : List Laid) : Type 0 where
  pub fields : List (List ℕ)
  pub cut : FieldsOf bs fields
  pub made : calls ≡ map call_of fields
