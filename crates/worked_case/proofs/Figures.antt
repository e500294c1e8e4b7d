-- The bytes of the certificates, and what the checks make of them, by computation.
use Rattle.std.proofs.Common.{◌≡◌, pos, Ok, Err, refl, lit<}
use Rattle.fields.specs.Bytes.{two, four, eight, signed_four, signed_eight}
use Rattle.fields.specs.Fields.{field}
use Rattle.fields.specs.declared.certificate.CertificateKind.TheVariants.{Schedule, Multipliers}
use Rattle.certificates.specs.Checks.{judged_schedule, judged_set}
use Rattle.certificates.specs.declared.fault.DocketFault.TheVariants.{RowBroken, SideAbsent}
use Rattle.docket.specs.Calls.{Judged}
use Rattle.worked_case.specs.Certificates.{schedule, set, schedule_values, set_values, one_regulates, both_too_low, both_regulate, all_nought, row_multipliers, wrong_sign}
use Rattle.worked_case.specs.Lists.{worked_lists}
use Rattle.worked_case.specs.Written.{one_regulates_bytes, both_too_low_bytes, row_multipliers_bytes}
use Rattle.worked_case.proofs.Judged.{judged}

pub one_regulates_judged : Judged worked_lists (schedule 1 one_regulates) 1 (Ok (pos 41128000000))
unfolding judged_schedule four signed_four
one_regulates_judged = judged worked_lists Schedule 1 (schedule_values one_regulates) (Ok (pos 41128000000)) (lit< tt) (lit< tt) refl

pub both_too_low_judged : Judged worked_lists (schedule 2 both_too_low) 2 (Err (RowBroken 11 17))
unfolding judged_schedule four signed_four
both_too_low_judged = judged worked_lists Schedule 2 (schedule_values both_too_low) (Err (RowBroken 11 17)) (lit< tt) (lit< tt) refl

pub row_multipliers_judged : Judged worked_lists (set 3 row_multipliers) 3 (Ok (pos 4116800000000000))
unfolding judged_set four eight signed_eight
row_multipliers_judged = judged worked_lists Multipliers 3 (set_values row_multipliers) (Ok (pos 4116800000000000)) (lit< tt) (lit< tt) refl

pub all_nought_judged : Judged worked_lists (schedule 4 all_nought) 4 (Err (RowBroken 17 19))
unfolding judged_schedule four signed_four
all_nought_judged = judged worked_lists Schedule 4 (schedule_values all_nought) (Err (RowBroken 17 19)) (lit< tt) (lit< tt) refl

pub both_regulate_judged : Judged worked_lists (schedule 5 both_regulate) 5 (Ok (pos 40898000000))
unfolding judged_schedule four signed_four
both_regulate_judged = judged worked_lists Schedule 5 (schedule_values both_regulate) (Ok (pos 40898000000)) (lit< tt) (lit< tt) refl

pub wrong_sign_judged : Judged worked_lists (set 6 wrong_sign) 6 (Err (SideAbsent 17 19))
unfolding judged_set four eight signed_eight
wrong_sign_judged = judged worked_lists Multipliers 6 (set_values wrong_sign) (Err (SideAbsent 17 19)) (lit< tt) (lit< tt) refl

pub one_regulates_written : (schedule 1 one_regulates).bytes ≡ one_regulates_bytes
unfolding field two four signed_four
one_regulates_written = refl

pub both_too_low_written : (schedule 2 both_too_low).bytes ≡ both_too_low_bytes
unfolding field two four signed_four
both_too_low_written = refl

pub row_multipliers_written : (set 3 row_multipliers).bytes ≡ row_multipliers_bytes
unfolding field two four eight signed_eight
row_multipliers_written = refl
