-- The numbers of a body, one after the other.
use Rattle.std.proofs.Common.{◌≡◌, ℕ, suc, List, [], ◌∷◌, ◌++◌, refl, ap, ◌∙◌, subst}
use Rattle.fields.specs.Bytes.{Bytes, put}

pub step : (p : List ℕ) {b r t : List ℕ} → b ≡ p ++ r → r ≡ t → b ≡ p ++ t
step p e h = e ∙ ap (λ l. p ++ l) h

-- what follows a part of bytes are bytes
bytes_after : (p r : List ℕ) → Bytes (p ++ r) → Bytes r
bytes_after [] r h = h
bytes_after (x ∷ p) r h = bytes_after p r (λ k. h (suc k))

pub after : (p r : List ℕ) {b : List ℕ} → b ≡ p ++ r → Bytes b → Bytes r
after p r e h = bytes_after p r (subst Bytes e h)

-- what follows parts of bytes are bytes
pub rest_bytes : (ps : List (List ℕ)) (r : List ℕ) {b : List ℕ} → b ≡ put ps r → Bytes b → Bytes r
rest_bytes [] r e h = subst Bytes e h
rest_bytes (p ∷ ps) r e h = rest_bytes ps r refl (after p (put ps r) e h)
