-- What the checks on value bytes say of every book.
use Rattle.std.proofs.Common.{◌≡◌, true}
use Rattle.books.specs.Lists.{Lists}
use Rattle.books.specs.Conditions.{sound}
use Rattle.schedules.proofs.Verdicts.{accepted_passes as schedule_gives, passes_accepted as schedule_from}
use Rattle.multipliers.proofs.Laws.{accepted_passes as set_gives, passes_accepted as set_from}
use Rattle.docket.proofs.Answering.{Laws}

pub laws : (b : Lists) → sound b ≡ true → Laws b
laws b kept = record {
  schedule_gives = schedule_gives b kept;
  schedule_from = schedule_from b;
  set_gives = set_gives b;
  set_from = set_from b;
}
