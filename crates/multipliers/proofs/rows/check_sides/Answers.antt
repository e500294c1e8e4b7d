use Rattle.std.proofs.Common.{rules}
use Rattle.certificates.specs.Checks.{has_side}
use Rattle.certificates.specs.Values.{multipliers}
use Rattle.multipliers.proofs.Passes.{sides_checked}
use Rattle.multipliers.proofs.rows.check_sides.Goals as goal

pub returns : goal.returns
returns g c =
    let b = g.B.Book.meaning c.args.book.now in
    sides_checked b (multipliers c.args.values.bytes.now) c.check_rows-checked.result c.map_err.result _
    (c.check_rows-checked.ensures (λ r y. has_side y r.lower r.upper) (λ r y t fits p. search rules))
    (λ e f p. search rules) c.map_err.ensures.cases
