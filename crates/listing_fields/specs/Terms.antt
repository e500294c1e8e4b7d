-- The terms of a row, six bytes each: an unsigned two-byte column number and a signed four-byte coefficient.
use Rattle.std.specs.Prelude.{ℕ, ◌+◌, ◌*◌, List, [], ◌∷◌, ◌++◌}
use Rattle.std.specs.Int.{w32}
use Rattle.std.proofs.Common.{to_z}
use Rattle.std.specs.List.{flat_map}
use Rattle.fields.specs.Bytes.{two, signed_four}
use Rattle.listing_fields.specs.declared.term.Term.{Term}

abbrev pub term_bytes : Term → List ℕ
term_bytes t = two t.column ++ signed_four t.coefficient

abbrev pub terms_bytes : List Term → List ℕ
terms_bytes ts = flat_map term_bytes ts

-- the term that six bytes hold
abbrev pub term_of : ℕ → ℕ → ℕ → ℕ → ℕ → ℕ → Term
term_of a b c d e f =
    record { column = a * 256 + b; coefficient = to_z w32 (c * 16777216 + d * 65536 + e * 256 + f) }

-- the terms that bytes hold
abbrev pub terms_in : List ℕ → List Term
terms_in [] = []
terms_in (a ∷ []) = []
terms_in (a ∷ b ∷ []) = []
terms_in (a ∷ b ∷ c ∷ []) = []
terms_in (a ∷ b ∷ c ∷ d ∷ []) = []
terms_in (a ∷ b ∷ c ∷ d ∷ e ∷ []) = []
terms_in (a ∷ b ∷ c ∷ d ∷ e ∷ f ∷ rest) = term_of a b c d e f ∷ terms_in rest
