use Rattle.std.proofs.Common.{◌≡◌, ◌+◌, nat_abs, sym, ap, ◌∙◌, w32, SFits, to_z, of_z, rules}
use Rattle.std.proofs.lemmas.Int.{to_z-of_z}
use Rattle.case_fields.specs.Parts.{blocks_in}
use Rattle.case_fields.specs.Tests.{blocks_fit}
use Rattle.case_fields.proofs.Ranges.{blocks_fit_after, blocks_more, over}
use Rattle.case_fields.proofs.range.blocks_in_range.Goals as goal
use Rattle.case_fields.proofs.range.blocks_in_range.Goals.{Else-not-is_in_range}

-- after a block in range the rest decides, with its maximum added
on : (c : Else-not-is_in_range) → blocks_fit (blocks_in c.args.blocks.bytes.now) ≡ blocks_fit_after (c.loop-block.sum + nat_abs (to_z w32 (of_z w32 c.in-Some.block.maximum))) (blocks_in c.next.new.self.rest.now)
on c =
    let fits : SFits w32 c.in-Some.block.maximum = search rules in
    c.loop-block.invariant.0
    ∙ ap (blocks_fit_after c.loop-block.sum) c.in-Some.ensures.steps
    ∙ blocks_more _ c.in-Some.block (blocks_in c.next.new.self.rest.now) c.if-not-is_in_range.ensures
    ∙ ap (λ z. blocks_fit_after (c.loop-block.sum + nat_abs z) (blocks_in c.next.new.self.rest.now)) (sym (to_z-of_z w32 _ fits))

pub returns-then-sum-gt1000000 : goal.returns-then-sum-gt1000000
returns-then-sum-gt1000000 c =
    sym (on (goal.at.returns-then-sum-gt1000000 c).Else-not-is_in_range ∙ over _ (blocks_in c.next.new.self.rest.now) c.if-sum-gt1000000.true)

pub loop-block-preserved : goal.loop-block-preserved
loop-block-preserved c = (on (goal.at.loop-block-preserved c).Else-not-is_in_range, c.if-sum-gt1000000.false)
