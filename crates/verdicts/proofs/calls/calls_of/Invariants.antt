use Rattle.std.proofs.Common.{map, vec_items}
use Rattle.docket.specs.Runs.{laid_by}
use Rattle.verdicts.proofs.Gathering.{SoFar}
use Rattle.verdicts.proofs.calls.calls_of.Given as goal

abbrev pub invariant-loop-field : goal.invariant-loop-field
invariant-loop-field l = SoFar l.certificates l.field-iterator.left.now (map laid_by (vec_items l.calls))
