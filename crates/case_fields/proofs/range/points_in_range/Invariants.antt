use Rattle.std.proofs.Common.{◌≡◌}
use Rattle.case_fields.specs.Parts.{points_in}
use Rattle.case_fields.specs.Tests.{points_fit}
use Rattle.case_fields.proofs.Ranges.{points_fit_after}
use Rattle.case_fields.proofs.range.points_in_range.Given as goal

-- what is left decides, with the last flow
abbrev pub invariant-loop-point : goal.invariant-loop-point
invariant-loop-point l = points_fit (points_in l.points.bytes.now) ≡ points_fit_after l.last (points_in l.point-iterator.rest.now)
