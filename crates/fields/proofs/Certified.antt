-- The one field of a certificate: which faults apply to it, and that the bytes determine it.
use Rattle.std.proofs.Common.{◌≡◌, ℕ, ◌<◌, ◌⊎◌, List, ◌++◌, length, Result, Ok, Err, refl, ⊎_elim, arith}
use Rattle.std.specs.Prelude.{MatchResult}
use Rattle.std.proofs.lemmas.List.{length-append, nil_from_length}
use Rattle.fields.specs.Bytes.{four}
use Rattle.fields.specs.Faults.{rule, First}
use Rattle.fields.specs.Fields.{Begins, Cut}
use Rattle.fields.specs.Certificates.{certificate_tag, IsCertificate, certificate_checks}
use Rattle.fields.specs.declared.certificate.Certificate.{Certificate}
use Rattle.fields.specs.declared.certificate.CertificateKind.{CertificateKind}
use Rattle.fields.specs.declared.fault.FieldFault.{FieldFault}
use Rattle.fields.specs.declared.fault.FaultKind.{FaultKind}
use Rattle.fields.specs.declared.fault.FaultKind.TheVariants.{PastEnd, UnknownTag, TagOrder, BadLength, OutOfRange, BadReference, TermOrder}
use Rattle.fields.proofs.Injective.{length-four, four_one}
use Rattle.fields.proofs.Heads.{begins_one}
use Rattle.fields.proofs.Laws.{NoneBelow, none_first, none_more, in_field, first_one}

module _ (k : CertificateKind) {bs : List ℕ} where
  pub past : Cut bs → First (certificate_checks k bs) PastEnd
  past cut = record { applies = cut; none_lower = none_first (certificate_checks k bs) }

  module _ {t : ℕ} {b r : List ℕ} (p : Begins bs t b r) where
    none_whole : NoneBelow (certificate_checks k bs) 2
    none_whole = none_more (certificate_checks k bs) PastEnd (none_first (certificate_checks k bs)) (λ cut. cut t b r p)

    pub foreign : (t ≡ certificate_tag k → ⊥) → First (certificate_checks k bs) UnknownTag
    foreign n = record { applies = record { tag = t; body = b; rest = r; begins = p; holds = n }; none_lower = none_whole }

    none_own : t ≡ certificate_tag k → NoneBelow (certificate_checks k bs) 4
    none_own e =
        none_more (certificate_checks k bs) TagOrder
        (none_more (certificate_checks k bs) UnknownTag none_whole (λ i. in_field (λ u d s. u ≡ certificate_tag k → ⊥) p i e))
        (λ never. never)

    pub unfit : t ≡ certificate_tag k → (length b < 4) ⊎ (0 < length r) → First (certificate_checks k bs) BadLength
    unfit e n =
        record { applies = record { tag = t; body = b; rest = r; begins = p; holds = n }; none_lower = none_own e }

    pub certified : (label : ℕ) (values : List ℕ) → t ≡ certificate_tag k → length r ≡ 0 → b ≡ four label ++ values → label < 4294967296 → IsCertificate k bs label values
    certified label values e empty body small =
        record { bytes = rw (← e, ← body, ← nil_from_length r empty) p; four_bytes = small }

  -- no fault applies to a certificate
  pub sound : (label : ℕ) (values : List ℕ) (j : FaultKind) → IsCertificate k bs label values → (rule j).applies (certificate_checks k bs) → ⊥
  sound label values PastEnd i cut = cut _ _ _ i.bytes
  sound label values UnknownTag i a = in_field (λ u d s. u ≡ certificate_tag k → ⊥) i.bytes a refl
  sound label values TagOrder i never = never
  sound label values BadLength i a =
      ⊎_elim (λ h. omega (arith, h, length-append (four label) values, length-four label)) (λ h. omega (arith, h))
      (in_field (λ u d s. (length d < 4) ⊎ (0 < length s)) i.bytes a)
  sound label values OutOfRange i never = never
  sound label values BadReference i never = never
  sound label values TermOrder i never = never

  -- the bytes determine label and values
  pub one : (l m : ℕ) (v w : List ℕ) → IsCertificate k bs l v → IsCertificate k bs m w → (l ≡ m) × (v ≡ w)
  one l m v w p q = four_one l m v w p.four_bytes q.four_bytes (begins_one p.bytes q.bytes).1

-- what a reading says settles what it gives for a certificate, and for a fault
module _ (k : CertificateKind) (bs : List ℕ) where
  abbrev pub Reads : Result Certificate FieldFault → Type 0
  Reads r =
      MatchResult r (λ c. IsCertificate k bs c.label c.values.now) (λ e. (e.offset ≡ 0) × First (certificate_checks k bs) e.kind)

  pub accepts : (r : Result Certificate FieldFault) → Reads r → (label : ℕ) (values : List ℕ) → IsCertificate k bs label values → MatchResult r (λ c. (c.label ≡ label) × (c.values.now ≡ values)) (λ _. ⊥)
  accepts (Ok c) is l v i = one k _ l _ v is i
  accepts (Err e) is l v i = sound k l v _ i is.1.applies

  pub refuses : (r : Result Certificate FieldFault) → Reads r → (j : FaultKind) → First (certificate_checks k bs) j → MatchResult r (λ _. ⊥) (λ e. e.kind ≡ j)
  refuses (Ok c) is j f = sound k _ _ j is f.applies
  refuses (Err e) is j f = first_one _ _ j is.1 f
