-- Two walks over the same bytes come to the same parts.
use Rattle.std.proofs.Common.{◌≡◌, ℕ, true, false, List, [], ◌∷◌, ◌++◌, length, get_or, sym, refl, ap, ◌∙◌, arith}
use Rattle.fields.specs.Fields.{field, Begins}
use Rattle.fields.proofs.Heads.{begins_one}
use Rattle.fields.proofs.Loops.{sizes}
use Rattle.inputs.specs.Parts.{is_certificate_tag, CasePart, at_end, at_certificate, at_cut, past_field, FieldsOf, one_whole, one_cut, none_left}
use Rattle.inputs.specs.Determined.{OneCase, OneCut}

-- the first byte of a whole field is its tag
first_byte : {bs : List ℕ} {tag : ℕ} {body after : List ℕ} → Begins bs tag body after → get_or bs 0 0 ≡ tag
unfolding field
first_byte b = ap (λ l. get_or l 0 0) b.bytes

clash : {X : Type 0} (t u : ℕ) → t ≡ u → is_certificate_tag t ≡ true → is_certificate_tag u ≡ false → X
clash t u e p q = absurd (let f = ap is_certificate_tag e in let z : ◌≡◌ {A = ℕ} 0 1 = cc in omega arith)

moved : {bs bs' : List ℕ} {tag : ℕ} {body after : List ℕ} → bs ≡ bs' → Begins bs tag body after → Begins bs' tag body after
moved e b = record { bytes = sym e ∙ b.bytes; short = b.short }

none_there : {X : Type 0} {bs : List ℕ} {tag : ℕ} {body after : List ℕ} → bs ≡ [] → Begins bs tag body after → X
none_there e b = absurd (let s = sizes b in let l = ap length e in omega arith)

other : {X : Type 0} {t : ℕ} {bs : List ℕ} → ◌≡◌ {A = List ℕ} [] (t ∷ bs) → X
other e = absurd (let z : ◌≡◌ {A = ℕ} 0 1 = cc in omega arith)

one_case_by : (bs bs' : List ℕ) {c r c' r' : List ℕ} → bs ≡ bs' → CasePart bs c r → CasePart bs' c' r' → (c ≡ c') × (r ≡ r')
one_case_by bs bs' e at_end at_end = (refl, refl)
one_case_by bs bs' e at_end (at_certificate t) = other e
one_case_by bs bs' e at_end (at_cut o c) = other e
one_case_by bs bs' e at_end (past_field o b q) = none_there (sym e) b
one_case_by bs bs' e (at_certificate t) at_end = other (sym e)
one_case_by bs bs' e (at_certificate t) (at_certificate u) = (refl, e)
one_case_by bs bs' e (at_certificate t) (at_cut o c) = clash _ _ (ap (λ l. get_or l 0 0) e) t o
one_case_by bs bs' e (at_certificate t) (past_field o b q) = clash _ _ (first_byte (moved (sym e) b)) t o
one_case_by bs bs' e (at_cut o c) at_end = other (sym e)
one_case_by bs bs' e (at_cut o c) (at_certificate t) = clash _ _ (ap (λ l. get_or l 0 0) (sym e)) t o
one_case_by bs bs' e (at_cut o c) (at_cut p d) = (e, refl)
one_case_by bs bs' e (at_cut o c) (past_field p b q) = absurd (c _ _ _ (moved (sym e) b))
one_case_by bs bs' e (past_field o b p) at_end = none_there e b
one_case_by bs bs' e (past_field o b p) (at_certificate t) = clash _ _ (first_byte (moved e b)) t o
one_case_by bs bs' e (past_field o b p) (at_cut u c) = absurd (c _ _ _ (moved e b))
one_case_by bs bs' e (past_field o b p) (past_field u d q) =
    let s = begins_one (moved e b) d in
    let r = one_case_by _ _ s.2 p q in
    ((λ i. field (s.0 i) (s.1 i) ++ r.0 i), r.1)

pub one_case : OneCase
one_case bs case case' rest rest' p q = one_case_by bs bs refl p q

one_cut_by : (bs bs' : List ℕ) {fs gs : List (List ℕ)} → bs ≡ bs' → FieldsOf bs fs → FieldsOf bs' gs → fs ≡ gs
one_cut_by bs bs' e none_left none_left = refl
one_cut_by bs bs' e none_left (one_cut c) = other e
one_cut_by bs bs' e none_left (one_whole b g) = none_there (sym e) b
one_cut_by bs bs' e (one_cut c) none_left = other (sym e)
one_cut_by bs bs' e (one_cut c) (one_cut d) = ap (λ (l : List ℕ). l ∷ []) e
one_cut_by bs bs' e (one_cut c) (one_whole b g) = absurd (c _ _ _ (moved (sym e) b))
one_cut_by bs bs' e (one_whole b f) none_left = none_there e b
one_cut_by bs bs' e (one_whole b f) (one_cut c) = absurd (c _ _ _ (moved e b))
one_cut_by bs bs' e (one_whole b f) (one_whole d g) =
    let s = begins_one (moved e b) d in
    let r = one_cut_by _ _ s.2 f g in
    λ i. field (s.0 i) (s.1 i) ∷ r i

pub cut_once : OneCut
cut_once bs fs gs f g = one_cut_by bs bs refl f g
