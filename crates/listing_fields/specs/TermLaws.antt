-- What terms in bytes owe as a sequence; the source gives this proof.
use Rattle.std.specs.Prelude.{◌≡◌, ℕ, ◌/◌, List, [], ◌∷◌, length, drop, refl}
use Rattle.std.proofs.Common.{arith}
use Rattle.fields.specs.Sequences.{Held}
use Rattle.listing_fields.specs.Terms.{terms_in}

-- how many terms there are
pub terms_length : (bs : List ℕ) → length (terms_in bs) ≡ length bs / 6
terms_length [] = refl
terms_length (a ∷ []) = refl
terms_length (a ∷ b ∷ []) = refl
terms_length (a ∷ b ∷ c ∷ []) = refl
terms_length (a ∷ b ∷ c ∷ d ∷ []) = refl
terms_length (a ∷ b ∷ c ∷ d ∷ e ∷ []) = refl
terms_length (a ∷ b ∷ c ∷ d ∷ e ∷ f ∷ bs) = let more = terms_length bs in omega arith

-- behind the first term come the others
terms_skip : (bs : List ℕ) → terms_in (drop 6 bs) ≡ drop 1 (terms_in bs)
terms_skip [] = refl
terms_skip (a ∷ []) = refl
terms_skip (a ∷ b ∷ []) = refl
terms_skip (a ∷ b ∷ c ∷ []) = refl
terms_skip (a ∷ b ∷ c ∷ d ∷ []) = refl
terms_skip (a ∷ b ∷ c ∷ d ∷ e ∷ []) = refl
terms_skip (a ∷ b ∷ c ∷ d ∷ e ∷ f ∷ bs) = refl

pub terms_held : Held 6 terms_in
terms_held = record { some = omega arith; count = terms_length; skip = terms_skip }
