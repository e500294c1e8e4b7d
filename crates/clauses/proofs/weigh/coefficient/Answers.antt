use Rattle.std.proofs.Common.{arith}
use Rattle.std.proofs.lemmas.Int.{ints}
use Rattle.clauses.proofs.Items.{coefficient_added}
use Rattle.clauses.proofs.weigh.coefficient.Goals as goal

pub loop-item-preserved : goal.loop-item-preserved
loop-item-preserved c =
    let step = coefficient_added c.args.items.now c.loop-item.item-index _ c.args.name c.loop-item-test.true c.amount.result _ _ c.amount.ensures.value c.loop-item.invariant.0 in
    (omega (arith, ints, step), omega (arith, ints), omega (arith, ints))
