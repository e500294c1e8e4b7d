use Rattle.std.proofs.Common.{arith, w32, SFits, rules}
use Rattle.case_fields.specs.Parts.{block_of}
use Rattle.case_fields.proofs.Pairs.{part_read}
use Rattle.case_fields.proofs.part.BlockElement.split.Goals as goal

pub returns : goal.returns
returns c =
    let first : SFits w32 c.in_ok-price.price = search rules in
    let second : SFits w32 c.in_ok-maximum.maximum = search rules in
    (part_read block_of _ _ _ first second c.in_ok-price.ensures.0 c.in_ok-maximum.ensures.0, omega (arith, c.in_ok-price.ensures.1, c.in_ok-maximum.ensures.1))
