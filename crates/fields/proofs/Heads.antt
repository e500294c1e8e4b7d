-- Bytes begin with at most one field.
use Rattle.std.proofs.Common.{◌≡◌, ℕ, ◌+◌, ◌<◌, List, [], ◌++◌, length, take, drop, sym, refl, ap, ◌∙◌, arith}
use Rattle.std.proofs.lemmas.List.{take_at, drop_at}
use Rattle.fields.specs.Bytes.{two}
use Rattle.fields.specs.Fields.{field, Begins}
use Rattle.fields.proofs.Injective.{two_one}

-- how many bytes a field has
pub length-field : (t : ℕ) (b : List ℕ) → length (field t b) ≡ 3 + length b
unfolding field two
length-field t b = omega arith

-- there is no field in no bytes
pub field_some : (t : ℕ) (b x : List ℕ) → field t b ++ x ≡ [] → ⊥
unfolding field
field_some t b x e = let z : ◌≡◌ {A = ℕ} 0 1 = cc in omega arith

-- fronts of one length are equal, and what follows them, where the whole is
front_one : {A : Type 0} (b d x y : List A) → length b ≡ length d → b ++ x ≡ d ++ y → (b ≡ d) × (x ≡ y)
front_one b d x y l e = (
  sym (take_at b x (length d) l) ∙ ap (take (length d)) e ∙ take_at d y (length d) refl,
  sym (drop_at b x (length d) l) ∙ ap (drop (length d)) e ∙ drop_at d y (length d) refl,
)

-- tag, body and what follows are equal where the bytes are
pub field_one : (t u : ℕ) (b d x y : List ℕ) → length b < 65536 → length d < 65536 → field t b ++ x ≡ field u d ++ y → (t ≡ u) × (b ≡ d) × (x ≡ y)
unfolding field two
field_one t u b d x y p q e =
    let rest : two (length b) ++ (b ++ x) ≡ two (length d) ++ (d ++ y) = cc in
    let s = two_one (length b) (length d) (b ++ x) (d ++ y) p q rest in
    let r = front_one b d x y s.0 s.1 in
    (cc, r.0, r.1)

-- the same of the field that bytes begin with
pub begins_one : {bs : List ℕ} {t u : ℕ} {b d x y : List ℕ} → Begins bs t b x → Begins bs u d y → (t ≡ u) × (b ≡ d) × (x ≡ y)
begins_one {t = t} {u} {b} {d} {x} {y} p q = field_one t u b d x y p.short q.short (sym p.bytes ∙ q.bytes)
