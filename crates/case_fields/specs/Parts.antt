-- Blocks and points, eight bytes each: two signed four-byte numbers.
use Rattle.std.specs.Prelude.{ℕ, ◌+◌, ◌*◌, List, [], ◌∷◌, ◌++◌, map, ℤ}
use Rattle.std.specs.Int.{w32}
use Rattle.std.proofs.Common.{to_z}
use Rattle.std.specs.List.{flat_map}
use Rattle.fields.specs.Bytes.{signed_four}
use Rattle.case_fields.specs.declared.part.Block.{Block}
use Rattle.case_fields.specs.declared.part.Point.{Point}

-- the bytes of blocks and of points
abbrev pub block_bytes : Block → List ℕ
block_bytes b = signed_four b.price ++ signed_four b.maximum

abbrev pub point_bytes : Point → List ℕ
point_bytes p = signed_four p.flow ++ signed_four p.loss

abbrev pub blocks_bytes : List Block → List ℕ
blocks_bytes bs = flat_map block_bytes bs

abbrev pub points_bytes : List Point → List ℕ
points_bytes ps = flat_map point_bytes ps

-- the signed number that four bytes hold
abbrev number : ℕ → ℕ → ℕ → ℕ → ℤ
number a b c d = to_z w32 (a * 16777216 + b * 65536 + c * 256 + d)

-- the pairs of numbers that bytes hold
abbrev pub pairs_in : List ℕ → List (ℤ × ℤ)
pairs_in [] = []
pairs_in (a ∷ []) = []
pairs_in (a ∷ b ∷ []) = []
pairs_in (a ∷ b ∷ c ∷ []) = []
pairs_in (a ∷ b ∷ c ∷ d ∷ []) = []
pairs_in (a ∷ b ∷ c ∷ d ∷ e ∷ []) = []
pairs_in (a ∷ b ∷ c ∷ d ∷ e ∷ f ∷ []) = []
pairs_in (a ∷ b ∷ c ∷ d ∷ e ∷ f ∷ g ∷ []) = []
pairs_in (a ∷ b ∷ c ∷ d ∷ e ∷ f ∷ g ∷ h ∷ rest) = (number a b c d, number e f g h) ∷ pairs_in rest

abbrev pub block_of : ℤ × ℤ → Block
block_of p = record { price = p.0; maximum = p.1 }

abbrev pub point_of : ℤ × ℤ → Point
point_of p = record { flow = p.0; loss = p.1 }

-- the blocks, and the points, that bytes hold
abbrev pub blocks_in : List ℕ → List Block
blocks_in bs = map block_of (pairs_in bs)

abbrev pub points_in : List ℕ → List Point
points_in bs = map point_of (pairs_in bs)
