use Rattle.std.proofs.Common.{◌≡◌, ◌≤◌}
use Rattle.case_fields.specs.Parts.{blocks_in}
use Rattle.case_fields.specs.Tests.{blocks_fit}
use Rattle.case_fields.proofs.Ranges.{blocks_fit_after}
use Rattle.case_fields.proofs.range.blocks_in_range.Given as goal

-- what is left decides, with the sum so far
abbrev pub invariant-loop-block : goal.invariant-loop-block
invariant-loop-block l =
    (blocks_fit (blocks_in l.blocks.bytes.now) ≡ blocks_fit_after l.sum (blocks_in l.block-iterator.rest.now)) × (l.sum ≤ 1000000)
