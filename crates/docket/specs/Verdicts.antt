-- The verdict on a certificate that was judged: one definition for the figure of an accepted one, and number, place and clause of a refused one.
use Rattle.std.specs.Prelude.{Bool, true, false, ℤ, Ok, Err, Result}
use Rattle.certificates.specs.Faults.{rule}
use Rattle.certificates.specs.declared.fault.DocketFault.{DocketFault}
use Rattle.docket.specs.declared.verdict.Verdict.{Verdict}
use Rattle.docket.specs.declared.verdict.Verdict.TheVariants.{Accepted, Refused}

-- the refusal for a fault
abbrev pub refusal : DocketFault → Verdict
refusal f = Refused (rule f).number (rule f).place (rule f).clause

abbrev pub verdict_of : Result ℤ DocketFault → Verdict
verdict_of (Ok v) = Accepted v
verdict_of (Err f) = refusal f

-- a verdict is a refusal
abbrev pub is_refused : Verdict → Bool
is_refused (Accepted v) = false
is_refused (Refused n p c) = true
