use Rattle.std.proofs.Common.{arith, w32, SFits, rules}
use Rattle.case_fields.specs.Parts.{point_of}
use Rattle.case_fields.proofs.Pairs.{part_read}
use Rattle.case_fields.proofs.part.PointElement.split.Goals as goal

pub returns : goal.returns
returns c =
    let first : SFits w32 c.in_ok-flow.flow = search rules in
    let second : SFits w32 c.in_ok-loss.loss = search rules in
    (part_read point_of _ _ _ first second c.in_ok-flow.ensures.0 c.in_ok-loss.ensures.0, omega (arith, c.in_ok-flow.ensures.1, c.in_ok-loss.ensures.1))
