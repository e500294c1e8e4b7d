use Rattle.std.proofs.Common.{pos, Err, inr}
use Rattle.certificates.specs.declared.fault.DocketFault.TheVariants.{RowBroken, SideAbsent}
use Rattle.docket.proofs.Answering.{schedule_accepted, set_accepted, right}
use Rattle.docket.proofs.Lawful.{laws}
use Rattle.worked_case.specs.Certificates.{schedule, set, both_too_low, all_nought, wrong_sign}
use Rattle.worked_case.specs.Lists.{worked_lists}
use Rattle.worked_case.specs.Outcomes.{empty_lists}
use Rattle.worked_case.proofs.Empty.{empty_kept, empty_listed, empty_only, empty_schedule_judged, empty_set_judged}
use Rattle.worked_case.proofs.Figures.{one_regulates_judged, both_too_low_judged, row_multipliers_judged, all_nought_judged, both_regulate_judged, wrong_sign_judged, one_regulates_written, both_too_low_written, row_multipliers_written}
use Rattle.worked_case.proofs.Judged.{run_of_two, run_of_three}
use Rattle.worked_case.proofs.Listed.{kept, worked}
use Rattle.worked_case.proofs.worked_case_outcomes.Goals as goal

pub returns : goal.returns
returns c =
    let law = laws worked_lists kept in
    let empty-law = laws empty_lists empty_kept in
    record {
      lists = worked;
      one_regulates_accepted = schedule_accepted worked_lists law _ 1 (pos 41128000000) one_regulates_judged;
      both_too_low_refused = right worked_lists law (schedule 2 both_too_low) (Err (RowBroken 11 17)) (inr (2, both_too_low_judged));
      row_multipliers_accepted = set_accepted worked_lists law _ 3 (pos 4116800000000000) row_multipliers_judged;
      all_nought_refused = right worked_lists law (schedule 4 all_nought) (Err (RowBroken 17 19)) (inr (4, all_nought_judged));
      both_regulate_accepted = schedule_accepted worked_lists law _ 5 (pos 40898000000) both_regulate_judged;
      wrong_sign_refused = right worked_lists law (set 6 wrong_sign) (Err (SideAbsent 17 19)) (inr (6, wrong_sign_judged));
      one_regulates_field = one_regulates_written;
      both_too_low_field = both_too_low_written;
      row_multipliers_field = row_multipliers_written;
      run =
          run_of_three worked_lists kept _ (record { label = 1; figure = pos 41128000000 }) one_regulates_judged _ (RowBroken 11 17) (inr (2, both_too_low_judged)) _ (record { label = 3; figure = pos 4116800000000000 }) row_multipliers_judged;
      empty_listing = empty_listed;
      empty_listing_only = empty_only;
      empty_schedule_accepted = schedule_accepted empty_lists empty-law _ 1 (pos 0) empty_schedule_judged;
      empty_set_accepted = set_accepted empty_lists empty-law _ 2 (pos 0) empty_set_judged;
      empty_run =
          run_of_two empty_lists empty_kept _ (record { label = 1; figure = pos 0 }) empty_schedule_judged _ (record { label = 2; figure = pos 0 }) empty_set_judged;
    }
