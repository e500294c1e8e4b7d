-- What the rules say of certificates for the worked case, and of the empty book, in one statement.
use Rattle.std.specs.Prelude.{◌≡◌, ℕ, [], ◌∷◌, ℤ, pos, Some, None}
use Rattle.books.specs.declared.part.Place.TheVariants.{Row}
use Rattle.books.specs.Lists.{Lists}
use Rattle.listings.specs.Listed.{listing_of}
use Rattle.docket.specs.declared.run.Answer.{Answer}
use Rattle.docket.specs.declared.standing.Standing.{Standing}
use Rattle.docket.specs.declared.verdict.Verdict.{Verdict}
use Rattle.docket.specs.declared.verdict.Verdict.TheVariants.{Accepted, Refused}
use Rattle.docket.specs.Calls.{AcceptedSchedule, AcceptedSet, RightVerdict}
use Rattle.docket.specs.Runs.{RightRun}
use Rattle.worked_case.specs.Certificates.{schedule, set, one_regulates, both_too_low, both_regulate, all_nought, row_multipliers, wrong_sign}
use Rattle.worked_case.specs.Lists.{worked_lists}
use Rattle.worked_case.specs.Worked.{WorkedLists}
use Rattle.worked_case.specs.Written.{one_regulates_bytes, both_too_low_bytes, row_multipliers_bytes}

-- a book of no columns and no rows
abbrev pub empty_lists : Lists
empty_lists = record { columns = []; rows = [] }

abbrev answer : Verdict → Standing → Answer
answer v s = record { verdict = v; standing = s }

-- a best net benefit stands under a label, and no bound yet
abbrev best_alone : ℕ → ℤ → Standing
best_alone label best =
    record { best_label = Some label; best = Some best; bound_label = None; bound = None; gap = None }

-- a best net benefit and a bound stand, each under its label, and the gap between them
abbrev both_stand : ℕ → ℤ → ℕ → ℤ → ℤ → Standing
both_stand label best m bound gap =
    record { best_label = Some label; best = Some best; bound_label = Some m; bound = Some bound; gap = Some gap }

pub record WorkedOutcomes : Type 0 where
  -- the bytes of the case mean the columns and rows that are written out, which are listed in 1,066 bytes; 1,065 is short
  pub lists : WorkedLists
  -- generations of 100,000 and 400,000, offer 1 alone regulating by 12,000: accepted
  pub one_regulates_accepted : AcceptedSchedule worked_lists (schedule 1 one_regulates) 1 (pos 41128000000)
  -- the same with regulations of 10,000 and 2,000: row 11, D.18.1.4, is broken
  pub both_too_low_refused : RightVerdict worked_lists (schedule 2 both_too_low) (Refused 22 (Row 11) (Some 17))
  -- these multipliers are accepted, with their bound in fine units
  pub row_multipliers_accepted : AcceptedSet worked_lists (set 3 row_multipliers) 3 (pos 4116800000000000)
  -- every number nought: row 17, the requirement, is broken
  pub all_nought_refused : RightVerdict worked_lists (schedule 4 all_nought) (Refused 22 (Row 17) (Some 19))
  -- regulations of 10,000 and 2,000 with generations of 190,000 and 310,000: accepted
  pub both_regulate_accepted : AcceptedSchedule worked_lists (schedule 5 both_regulate) 5 (pos 40898000000)
  -- a positive multiplier on the requirement, which has no upper side
  pub wrong_sign_refused : RightVerdict worked_lists (set 6 wrong_sign) (Refused 25 (Row 17) (Some 19))
  -- the fields of the first three are these bytes
  pub one_regulates_field : (schedule 1 one_regulates).bytes ≡ one_regulates_bytes
  pub both_too_low_field : (schedule 2 both_too_low).bytes ≡ both_too_low_bytes
  pub row_multipliers_field : (set 3 row_multipliers).bytes ≡ row_multipliers_bytes
  -- they are laid in this order: the verdicts, and what stands after each
  pub run : RightRun worked_lists
      (schedule 1 one_regulates ∷ schedule 2 both_too_low ∷ set 3 row_multipliers ∷ [])
      (answer (Accepted (pos 41128000000)) (best_alone 1 (pos 41128000000))
      ∷ answer (Refused 22 (Row 11) (Some 17)) (best_alone 1 (pos 41128000000))
      ∷ answer (Accepted (pos 4116800000000000)) (both_stand 1 (pos 41128000000) 3 (pos 4116800000000000) (pos 4000000000000))
      ∷ [])
      (both_stand 1 (pos 41128000000) 3 (pos 4116800000000000) (pos 4000000000000))
  -- the empty listing is that of a book of no columns and no rows, and of no other
  pub empty_listing : listing_of empty_lists ≡ []
  pub empty_listing_only : (b : Lists) → listing_of b ≡ [] → b ≡ empty_lists
  -- on it the empty schedule and the empty set are accepted, both with 0, and the gap is 0
  pub empty_schedule_accepted : AcceptedSchedule empty_lists (schedule 1 []) 1 (pos 0)
  pub empty_set_accepted : AcceptedSet empty_lists (set 2 []) 2 (pos 0)
  pub empty_run : RightRun empty_lists
      (schedule 1 [] ∷ set 2 [] ∷ [])
      (answer (Accepted (pos 0)) (best_alone 1 (pos 0)) ∷ answer (Accepted (pos 0)) (both_stand 1 (pos 0) 2 (pos 0) (pos 0)) ∷ [])
      (both_stand 1 (pos 0) 2 (pos 0) (pos 0))
