-- The parts of an input are determined by its bytes.
use Rattle.std.specs.Prelude.{◌≡◌, ℕ, List}
use Rattle.inputs.specs.Parts.{CasePart, FieldsOf}

-- an input has one case, and one rest behind it
abbrev pub OneCase : Type 0
OneCase =
    (bs case case' rest rest' : List ℕ) → CasePart bs case rest → CasePart bs case' rest' → (case ≡ case') × (rest ≡ rest')

-- bytes are cut into fields in one way
abbrev pub OneCut : Type 0
OneCut = (bs : List ℕ) (fs gs : List (List ℕ)) → FieldsOf bs fs → FieldsOf bs gs → fs ≡ gs
