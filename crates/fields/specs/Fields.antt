-- A field: one tag byte, a two-byte length and a body.
use Rattle.std.specs.Prelude.{◌≡◌, ℕ, ◌<◌, List, ◌∷◌, ◌++◌, length}
use Rattle.fields.specs.Bytes.{two}

-- the bytes of a field
unfoldable pub field : ℕ → List ℕ → List ℕ
field tag body = tag ∷ (two (length body) ++ body)

-- the bytes begin with the field of this tag and body, and go on with the rest
pub record Begins (bs : List ℕ) (tag : ℕ) (body rest : List ℕ) : Type 0 where
  pub bytes : bs ≡ field tag body ++ rest
  pub short : length body < 65536

-- the bytes begin with no whole field: the head or the body passes the end
abbrev pub Cut : List ℕ → Type 0
Cut bs = (tag : ℕ) (body rest : List ℕ) → Begins bs tag body rest → ⊥

-- the bytes begin with a field of which P holds
pub record InField (bs : List ℕ) (P : ℕ → List ℕ → List ℕ → Type 0) : Type 0 where
  pub tag : ℕ
  pub body : List ℕ
  pub rest : List ℕ
  pub begins : Begins bs tag body rest
  pub holds : P tag body rest
