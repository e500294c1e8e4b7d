-- The parts of an input: a case, and then certificates.
use Rattle.std.specs.Prelude.{◌≡◌, ℕ, Bool, true, false, cond, ◌||◌, List, [], ◌∷◌, ◌++◌, length, ◌==◌, ◌<◌}
use Rattle.fields.specs.Fields.{field, Begins, Cut}
use Rattle.fields.specs.declared.certificate.CertificateKind.{CertificateKind}
use Rattle.fields.specs.declared.certificate.CertificateKind.TheVariants.{Schedule, Multipliers}

-- a tag that certificates have
abbrev pub is_certificate_tag : ℕ → Bool
is_certificate_tag t = t == 20 || t == 21

-- The case of an input and what follows it. From field to field by their lengths, the case ends where a certificate's tag stands at the start of a field, or at the end of the input; a field before that which passes the end belongs to the case.
pub data CasePart : List ℕ → List ℕ → List ℕ → Type 0 where
  at_end : CasePart [] [] []
  at_certificate : {tag : ℕ} {bs : List ℕ} → is_certificate_tag tag ≡ true → CasePart (tag ∷ bs) [] (tag ∷ bs)
  at_cut : {tag : ℕ} {bs : List ℕ} → is_certificate_tag tag ≡ false → Cut (tag ∷ bs) → CasePart (tag ∷ bs) (tag ∷ bs) []
  past_field : {tag : ℕ} {body after case rest : List ℕ} {bs : List ℕ} → is_certificate_tag tag ≡ false → Begins bs tag body after → CasePart after case rest → CasePart bs (field tag body ++ case) rest

-- What follows the case, as the bytes of fields: each is cut off by its length, and a last one that passes the end by that end.
pub data FieldsOf : List ℕ → List (List ℕ) → Type 0 where
  none_left : FieldsOf [] []
  one_cut : {tag : ℕ} {bs : List ℕ} → Cut (tag ∷ bs) → FieldsOf (tag ∷ bs) ((tag ∷ bs) ∷ [])
  one_whole : {tag : ℕ} {body after : List ℕ} {bs : List ℕ} {fs : List (List ℕ)} → Begins bs tag body after → FieldsOf after fs → FieldsOf bs (field tag body ∷ fs)

-- the bytes begin with one such field, and go on with what is left
pub record CutsOff (bs front left : List ℕ) : Type 0 where
  pub less : length left < length bs
  pub on : (fs : List (List ℕ)) → FieldsOf left fs → FieldsOf bs (front ∷ fs)

-- the kind that the field of a certificate is laid as: a schedule by its tag, and anything else as multipliers
abbrev pub kind_of : List ℕ → CertificateKind
kind_of [] = Multipliers
kind_of (tag ∷ bs) = cond (tag == 20) Schedule Multipliers
