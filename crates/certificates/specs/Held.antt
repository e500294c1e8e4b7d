-- The numbers of a certificate stand one after the other, each in the same number of bytes.
use Rattle.std.proofs.Common.{◌≡◌, ℕ, ◌/◌, List, [], ◌∷◌, length, drop, refl, arith, lit<}
use Rattle.fields.specs.Sequences.{Held}
use Rattle.certificates.specs.Values.{quantities, multipliers}

quantities_count : (bs : List ℕ) → length (quantities bs) ≡ length bs / 4
quantities_count [] = refl
quantities_count (a ∷ []) = refl
quantities_count (a ∷ b ∷ []) = refl
quantities_count (a ∷ b ∷ c ∷ []) = refl
quantities_count (a ∷ b ∷ c ∷ d ∷ bs) = omega (arith, quantities_count bs)

quantities_skip : (bs : List ℕ) → quantities (drop 4 bs) ≡ drop 1 (quantities bs)
quantities_skip [] = refl
quantities_skip (a ∷ []) = refl
quantities_skip (a ∷ b ∷ []) = refl
quantities_skip (a ∷ b ∷ c ∷ []) = refl
quantities_skip (a ∷ b ∷ c ∷ d ∷ bs) = refl

pub quantities_held : Held 4 quantities
quantities_held = record { some = lit< tt; count = quantities_count; skip = quantities_skip }

multipliers_count : (bs : List ℕ) → length (multipliers bs) ≡ length bs / 8
multipliers_count [] = refl
multipliers_count (a ∷ []) = refl
multipliers_count (a ∷ b ∷ []) = refl
multipliers_count (a ∷ b ∷ c ∷ []) = refl
multipliers_count (a ∷ b ∷ c ∷ d ∷ []) = refl
multipliers_count (a ∷ b ∷ c ∷ d ∷ e ∷ []) = refl
multipliers_count (a ∷ b ∷ c ∷ d ∷ e ∷ f ∷ []) = refl
multipliers_count (a ∷ b ∷ c ∷ d ∷ e ∷ f ∷ g ∷ []) = refl
multipliers_count (a ∷ b ∷ c ∷ d ∷ e ∷ f ∷ g ∷ h ∷ bs) = omega (arith, multipliers_count bs)

multipliers_skip : (bs : List ℕ) → multipliers (drop 8 bs) ≡ drop 1 (multipliers bs)
multipliers_skip [] = refl
multipliers_skip (a ∷ []) = refl
multipliers_skip (a ∷ b ∷ []) = refl
multipliers_skip (a ∷ b ∷ c ∷ []) = refl
multipliers_skip (a ∷ b ∷ c ∷ d ∷ []) = refl
multipliers_skip (a ∷ b ∷ c ∷ d ∷ e ∷ []) = refl
multipliers_skip (a ∷ b ∷ c ∷ d ∷ e ∷ f ∷ []) = refl
multipliers_skip (a ∷ b ∷ c ∷ d ∷ e ∷ f ∷ g ∷ []) = refl
multipliers_skip (a ∷ b ∷ c ∷ d ∷ e ∷ f ∷ g ∷ h ∷ bs) = refl

pub multipliers_held : Held 8 multipliers
multipliers_held = record { some = lit< tt; count = multipliers_count; skip = multipliers_skip }
