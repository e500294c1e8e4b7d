-- Calls on a docket, each laying one certificate, and how each is answered.
use Rattle.std.specs.Prelude.{◌≡◌, ℕ, true, ◌⊎◌, List, length, ℤ, Ok, Err, Result}
use Rattle.fields.specs.Faults.{First}
use Rattle.fields.specs.Certificates.{IsCertificate, certificate_checks}
use Rattle.fields.specs.declared.fault.FieldFault.{FieldFault}
use Rattle.fields.specs.declared.certificate.CertificateKind.{CertificateKind}
use Rattle.fields.specs.declared.certificate.CertificateKind.TheVariants.{Schedule, Multipliers}
use Rattle.books.specs.Lists.{Lists}
use Rattle.certificates.specs.Values.{quantities, multipliers}
use Rattle.certificates.specs.Checks.{right_count, schedule_answer, SchedulePasses, set_answer, SetPasses}
use Rattle.certificates.specs.declared.fault.DocketFault.{DocketFault}
use Rattle.certificates.specs.declared.fault.DocketFault.TheVariants.{Field}
use Rattle.docket.specs.declared.standing.Labelled.{Labelled}
use Rattle.docket.specs.declared.verdict.Verdict.{Verdict}
use Rattle.docket.specs.Verdicts.{verdict_of}

-- a call: the kind of certificate that is laid, and the bytes
pub record Laid : Type 0 where
  pub kind : CertificateKind
  pub bytes : List ℕ

abbrev pub laid : CertificateKind → List ℕ → Laid
laid k bs = record { kind = k; bytes = bs }

-- the answer to the value bytes of a certificate
abbrev pub value_answer : CertificateKind → Lists → List ℕ → Result ℤ DocketFault
value_answer Schedule b values = schedule_answer b values
value_answer Multipliers b values = set_answer b values

-- the bytes are no whole field of the kind, with nothing behind it: the first fault of the field is the answer
pub record Unfit (c : Laid) (r : Result ℤ DocketFault) : Type 0 where
  pub fault : FieldFault
  pub at_start : fault.offset ≡ 0
  pub first : First (certificate_checks c.kind c.bytes) fault.kind
  pub answer : r ≡ Err (Field fault)

-- the bytes are one: its value bytes are judged
pub record Judged (b : Lists) (c : Laid) (label : ℕ) (r : Result ℤ DocketFault) : Type 0 where
  pub values : List ℕ
  pub field : IsCertificate c.kind c.bytes label values
  pub answer : r ≡ value_answer c.kind b values

-- the answer to a call by the checks in their order
abbrev pub Answered : Lists → Laid → Result ℤ DocketFault → Type 0
Answered b c r = Unfit c r ⊎ ((label : ℕ) × Judged b c label r)

-- a schedule is accepted under a label with a net benefit: the field is complete, the schedule meets every column and row, and the net benefit is within reach
pub record AcceptedSchedule (b : Lists) (c : Laid) (label : ℕ) (v : ℤ) : Type 0 where
  pub kind : c.kind ≡ Schedule
  pub values : List ℕ
  pub field : IsCertificate Schedule c.bytes label values
  pub count : right_count 4 (length b.columns) values ≡ true
  pub passes : SchedulePasses b (quantities values) v

-- a set is accepted under a label with a bound: the field is complete, and signs and sizes fit
pub record AcceptedSet (b : Lists) (c : Laid) (label : ℕ) (v : ℤ) : Type 0 where
  pub kind : c.kind ≡ Multipliers
  pub values : List ℕ
  pub field : IsCertificate Multipliers c.bytes label values
  pub count : right_count 8 (length b.rows) values ≡ true
  pub passes : SetPasses b (multipliers values) v

-- a call is accepted
abbrev pub AcceptedCall : Lists → Laid → ℕ → ℤ → Type 0
AcceptedCall b c label v = AcceptedSchedule b c label v ⊎ AcceptedSet b c label v

-- the right verdict on a call: it is that of the first check that fails, or of none; accepted exactly when the call is to be accepted
pub record RightVerdict (b : Lists) (c : Laid) (w : Verdict) : Type 0 where
  pub result : Result ℤ DocketFault
  pub answered : Answered b c result
  pub verdict : w ≡ verdict_of result
  pub only : (r : Result ℤ DocketFault) → Answered b c r → r ≡ result
  pub accepted : (v : ℤ) → result ≡ Ok v → (label : ℕ) × AcceptedCall b c label v
  pub accepts : (label : ℕ) (v : ℤ) → AcceptedCall b c label v → result ≡ Ok v

-- what judging a certificate tells: its label and figure, or the first check that fails
abbrev pub Told : Lists → Laid → Result Labelled DocketFault → Type 0
Told b c (Ok x) = Judged b c x.label (Ok x.figure)
Told b c (Err f) = Answered b c (Err f)
