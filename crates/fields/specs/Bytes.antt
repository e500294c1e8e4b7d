-- Numbers as a file writes them, the highest byte first.
use Rattle.std.specs.Prelude.{ℕ, ◌/◌, ◌%◌, ◌<◌, List, [], ◌∷◌, ◌++◌, ℤ, slice_index}
use Rattle.std.specs.Int.{w32, w64}
use Rattle.std.proofs.Common.{of_z}

-- every element is a byte
abbrev pub Bytes : List ℕ → Type 0
Bytes bs = (k : ℕ) → slice_index bs k < 256

-- an unsigned number in two bytes
unfoldable pub two : ℕ → List ℕ
two n = (n / 256 % 256) ∷ (n % 256) ∷ []

-- an unsigned number in four bytes
unfoldable pub four : ℕ → List ℕ
four n = (n / 16777216 % 256) ∷ (n / 65536 % 256) ∷ (n / 256 % 256) ∷ (n % 256) ∷ []

-- an unsigned number in eight bytes
unfoldable pub eight : ℕ → List ℕ
eight n =
    (n / 72057594037927936 % 256) ∷ (n / 281474976710656 % 256) ∷ (n / 1099511627776 % 256) ∷ (n / 4294967296 % 256) ∷ (n / 16777216 % 256) ∷ (n / 65536 % 256) ∷ (n / 256 % 256) ∷ (n % 256) ∷ []

-- a signed number in four bytes, and in eight, in two's complement
unfoldable pub signed_four : ℤ → List ℕ
signed_four z = four (of_z w32 z)

unfoldable pub signed_eight : ℤ → List ℕ
signed_eight z = eight (of_z w64 z)

-- parts one after the other, then the rest
abbrev pub put : List (List ℕ) → List ℕ → List ℕ
put [] rest = rest
put (p ∷ ps) rest = p ++ put ps rest
