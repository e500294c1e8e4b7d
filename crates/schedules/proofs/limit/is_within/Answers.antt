use Rattle.std.proofs.Common.{arith, rules, w32, SFits}
use Rattle.std.proofs.lemmas.Int.{to_z-of_z, ints}
use Rattle.schedules.proofs.limit.is_within.Goals as goal

pub returns : goal.returns
returns c =
    let low : SFits w32 c.args.column.lower = search rules in
    let high : SFits w32 c.args.column.upper = search rules in
    let fits : SFits w32 c.into.result = search rules in
    let e = c.contains.ensures.value in
    grind (arith, ints, to_z-of_z)
