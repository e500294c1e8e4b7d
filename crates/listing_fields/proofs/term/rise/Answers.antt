use Rattle.std.proofs.Common.{sym}
use Rattle.listing_fields.proofs.Rises.{left_more, left_fails, left_none}
use Rattle.listing_fields.proofs.term.rise.Goals as goal

pub returns-then-not-rises : goal.returns-then-not-rises
returns-then-not-rises g c ts y =
    left_fails g.I.Iterator.next_gives _ _ _ ts c.in-Some.term (c.loop-term.invariant ts y) c.in-Some.ensures.steps (sym c.if-not-rises.ensures)

pub loop-term-preserved : goal.loop-term-preserved
loop-term-preserved g c ts y =
    left_more g.I.Iterator.next_gives _ _ _ ts c.in-Some.term _ (c.loop-term.invariant ts y) c.in-Some.ensures.steps (sym c.if-not-rises.ensures) c.from-least.ensures

pub returns : goal.returns
returns g c ts y = left_none g.I.Iterator.next_gives _ _ _ ts (c.loop-term.invariant ts y) c.in-None.ensures.steps
