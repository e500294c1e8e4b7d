use Rattle.std.proofs.Common.{ap}
use Rattle.docket.specs.Calls.{laid}
use Rattle.verdicts.proofs.Gathering.{one_more, all_cut}
use Rattle.verdicts.proofs.calls.calls_of.Goals as goal

pub loop-field-preserved : goal.loop-field-preserved
loop-field-preserved c =
    one_more c.args.certificates.now c.loop-field.field-iterator.left.now c.in-Some.field.now c.next.new.self.left.now _ _ _ c.loop-field.invariant c.in-Some.ensures.steps c.in_ok-push.ensures.items
    (ap (λ k. laid k c.in-Some.field.now) c.kind_of.ensures)

pub returns : goal.returns
returns c = all_cut c.args.certificates.now c.loop-field.field-iterator.left.now _ c.loop-field.invariant c.in-None.ensures.steps
