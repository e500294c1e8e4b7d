-- The answer to a call is one, and is an acceptance exactly when the call is to be accepted.
use Rattle.std.proofs.Common.{◌≡◌, ℕ, true, List, length, ℤ, Ok, Err, Result, sym, refl, ap, ◌∙◌, subst, inl, inr}
use Rattle.fields.specs.Certificates.{IsCertificate, certificate_checks}
use Rattle.fields.specs.declared.certificate.CertificateKind.{CertificateKind}
use Rattle.fields.specs.declared.certificate.CertificateKind.TheVariants.{Schedule, Multipliers}
use Rattle.fields.specs.declared.fault.FieldFault.{FieldFault}
use Rattle.fields.proofs.Certified.{one, sound as no_fault}
use Rattle.fields.proofs.Laws.{first_one}
use Rattle.books.specs.Lists.{Lists}
use Rattle.certificates.specs.Values.{quantities, multipliers}
use Rattle.certificates.specs.Checks.{right_count, schedule_answer, SchedulePasses, set_answer, SetPasses}
use Rattle.certificates.specs.declared.fault.DocketFault.{DocketFault}
use Rattle.certificates.specs.declared.fault.DocketFault.TheVariants.{Field}
use Rattle.docket.specs.Calls.{Laid, laid, value_answer, Judged, Answered, AcceptedSchedule, AcceptedSet, AcceptedCall, RightVerdict}
use Rattle.docket.specs.Verdicts.{verdict_of}

abbrev Outcome : Type 0
Outcome = Result ℤ DocketFault

same_fault : (f g : FieldFault) → f.offset ≡ g.offset → f.kind ≡ g.kind → f ≡ g
same_fault f g p q = λ i. record { kind = q i; offset = p i }

-- ---- the answer is one

answered_one : (b : Lists) (c : Laid) (r s : Outcome) → Answered b c r → Answered b c s → r ≡ s
answered_one b c r s (inl p) (inl q) =
    let k = first_one (certificate_checks c.kind c.bytes) p.fault.kind q.fault.kind p.first q.first in
    let e = same_fault p.fault q.fault (p.at_start ∙ sym q.at_start) k in
    p.answer ∙ ap (λ (f : FieldFault). Err (Field f)) e ∙ sym q.answer
answered_one b c r s (inl p) (inr q) = absurd (no_fault c.kind q.0 q.1.values p.fault.kind q.1.field p.first.applies)
answered_one b c r s (inr p) (inl q) = absurd (no_fault c.kind p.0 p.1.values q.fault.kind p.1.field q.first.applies)
answered_one b c r s (inr p) (inr q) =
    let e = one c.kind p.0 q.0 p.1.values q.1.values p.1.field q.1.field in
    p.1.answer ∙ ap (value_answer c.kind b) e.1 ∙ sym q.1.answer

-- what the checks on value bytes say
pub record Laws (b : Lists) : Type 0 where
  pub schedule_gives : (vs : List ℕ) (v : ℤ) → schedule_answer b vs ≡ Ok v → (right_count 4 (length b.columns) vs ≡ true) × SchedulePasses b (quantities vs) v
  pub schedule_from : (vs : List ℕ) (v : ℤ) → right_count 4 (length b.columns) vs ≡ true → SchedulePasses b (quantities vs) v → schedule_answer b vs ≡ Ok v
  pub set_gives : (vs : List ℕ) (v : ℤ) → set_answer b vs ≡ Ok v → (right_count 8 (length b.rows) vs ≡ true) × SetPasses b (multipliers vs) v
  pub set_from : (vs : List ℕ) (v : ℤ) → right_count 8 (length b.rows) vs ≡ true → SetPasses b (multipliers vs) v → set_answer b vs ≡ Ok v

module _ (b : Lists) (law : Laws b) where
  -- ---- an accepted call

  pub schedule_accepted : (bs : List ℕ) (label : ℕ) (v : ℤ) → Judged b (laid Schedule bs) label (Ok v) → AcceptedSchedule b (laid Schedule bs) label v
  schedule_accepted bs label v j =
      let g = law.schedule_gives j.values v (sym j.answer) in
      record { kind = refl; values = j.values; field = j.field; count = g.0; passes = g.1 }

  pub set_accepted : (bs : List ℕ) (label : ℕ) (v : ℤ) → Judged b (laid Multipliers bs) label (Ok v) → AcceptedSet b (laid Multipliers bs) label v
  set_accepted bs label v j =
      let g = law.set_gives j.values v (sym j.answer) in
      record { kind = refl; values = j.values; field = j.field; count = g.0; passes = g.1 }

  accepted_by : (k : CertificateKind) (bs : List ℕ) (label : ℕ) (v : ℤ) → Judged b (laid k bs) label (Ok v) → AcceptedCall b (laid k bs) label v
  accepted_by Schedule bs label v j = inl (schedule_accepted bs label v j)
  accepted_by Multipliers bs label v j = inr (set_accepted bs label v j)

  accepted_if : (c : Laid) (v : ℤ) (r : Outcome) → Answered b c r → r ≡ Ok v → (label : ℕ) × AcceptedCall b c label v
  accepted_if c v r (inl p) e = let f = p.answer in cc
  accepted_if c v r (inr p) e =
      (p.0, accepted_by c.kind c.bytes p.0 v (record { values = p.1.values; field = p.1.field; answer = sym e ∙ p.1.answer }))

  answered_schedule : (c : Laid) (label : ℕ) (v : ℤ) → AcceptedSchedule b c label v → Answered b c (Ok v)
  answered_schedule c label v a =
      inr (
        label,
        record {
          values = a.values;
          field = subst (λ k. IsCertificate k c.bytes label a.values) (sym a.kind) a.field;
          answer = sym (ap (λ k. value_answer k b a.values) a.kind ∙ law.schedule_from a.values v a.count a.passes);
        },
      )

  answered_set : (c : Laid) (label : ℕ) (v : ℤ) → AcceptedSet b c label v → Answered b c (Ok v)
  answered_set c label v a =
      inr (
        label,
        record {
          values = a.values;
          field = subst (λ k. IsCertificate k c.bytes label a.values) (sym a.kind) a.field;
          answer = sym (ap (λ k. value_answer k b a.values) a.kind ∙ law.set_from a.values v a.count a.passes);
        },
      )

  answered_call : (c : Laid) (label : ℕ) (v : ℤ) → AcceptedCall b c label v → Answered b c (Ok v)
  answered_call c label v (inl a) = answered_schedule c label v a
  answered_call c label v (inr a) = answered_set c label v a

  -- a refused call is accepted in no sense
  pub never_accepted : (c : Laid) (f : DocketFault) → Answered b c (Err f) → (label : ℕ) (v : ℤ) → AcceptedCall b c label v → ⊥
  never_accepted c f r label v a =
      let e : ◌≡◌ {A = Outcome} (Err f) (Ok v) = answered_one b c (Err f) (Ok v) r (answered_call c label v a) in
      cc

  -- a schedule is no set
  pub never_other : (k : CertificateKind) (bs : List ℕ) (l m : ℕ) (v w : ℤ) → AcceptedSchedule b (laid k bs) l v → AcceptedSet b (laid k bs) m w → ⊥
  never_other k bs l m v w p q = let e = p.kind in let f = q.kind in cc

  -- ---- the right verdict

  pub right : (c : Laid) (r : Outcome) → Answered b c r → RightVerdict b c (verdict_of r)
  right c r a = record {
    result = r;
    answered = a;
    verdict = refl;
    only = λ s p. answered_one b c s r p a;
    accepted = λ v e. accepted_if c v r a e;
    accepts = λ label v p. sym (answered_one b c (Ok v) r (answered_call c label v p) a);
  }
