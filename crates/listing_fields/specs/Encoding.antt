-- The bytes of a field: its tag, and its body.
use Rattle.std.specs.Prelude.{ℕ, ◌<◌, List, [], ◌∷◌, FitsSigned}
use Rattle.std.specs.Int.{w32, w64}
use Rattle.fields.specs.Bytes.{signed_four, signed_eight, put}
use Rattle.listing_fields.specs.declared.term.Term.{Term}
use Rattle.listing_fields.specs.Terms.{terms_bytes}
use Rattle.listing_fields.specs.Entries.{Entry}
use Rattle.listing_fields.specs.Entries.Entry.{column, row}

abbrev pub tag : Entry → ℕ
tag (column c) = 10
tag (row r) = 11

abbrev pub body : Entry → List ℕ
body (column c) =
    put (signed_four c.lower ∷ signed_four c.upper ∷ signed_four c.price ∷ (c.switch ∷ []) ∷ []) []
body (row r) =
    put ((r.code ∷ []) ∷ (r.side ∷ []) ∷ signed_eight r.lower ∷ signed_eight r.upper ∷ []) (terms_bytes r.terms)

-- the numbers fit the bytes that hold them
abbrev pub TermsWritten : List Term → Type 0
TermsWritten [] = Unit {0}
TermsWritten (t ∷ ts) = (t.column < 65536) × FitsSigned w32 t.coefficient × TermsWritten ts

abbrev pub Written : Entry → Type 0
Written (column c) = FitsSigned w32 c.lower × FitsSigned w32 c.upper × FitsSigned w32 c.price × (c.switch < 256)
Written (row r) =
    (r.code < 256) × (r.side < 256) × FitsSigned w64 r.lower × FitsSigned w64 r.upper × TermsWritten r.terms
