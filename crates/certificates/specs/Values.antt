-- The numbers of a certificate: the highest byte first, in two's complement.
use Rattle.std.specs.Prelude.{ℕ, ◌+◌, ◌*◌, List, [], ◌∷◌, ℤ}
use Rattle.std.specs.Int.{w32, w64}
use Rattle.std.proofs.Common.{to_z}

-- the numbers of a schedule, four bytes each; bytes that make no whole number are left out
abbrev pub quantities : List ℕ → List ℤ
quantities [] = []
quantities (a ∷ []) = []
quantities (a ∷ b ∷ []) = []
quantities (a ∷ b ∷ c ∷ []) = []
quantities (a ∷ b ∷ c ∷ d ∷ rest) = to_z w32 (a * 16777216 + b * 65536 + c * 256 + d) ∷ quantities rest

-- the multipliers of a set, eight bytes each
abbrev pub multipliers : List ℕ → List ℤ
multipliers [] = []
multipliers (a ∷ []) = []
multipliers (a ∷ b ∷ []) = []
multipliers (a ∷ b ∷ c ∷ []) = []
multipliers (a ∷ b ∷ c ∷ d ∷ []) = []
multipliers (a ∷ b ∷ c ∷ d ∷ e ∷ []) = []
multipliers (a ∷ b ∷ c ∷ d ∷ e ∷ f ∷ []) = []
multipliers (a ∷ b ∷ c ∷ d ∷ e ∷ f ∷ g ∷ []) = []
multipliers (a ∷ b ∷ c ∷ d ∷ e ∷ f ∷ g ∷ h ∷ rest) =
    to_z w64 (a * 72057594037927936 + b * 281474976710656 + c * 1099511627776 + d * 4294967296 + e * 16777216 + f * 65536 + g * 256 + h) ∷ multipliers rest
