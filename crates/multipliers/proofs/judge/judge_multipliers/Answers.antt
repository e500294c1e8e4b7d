use Rattle.std.proofs.Common.{ap, ◌∙◌, w64, SFits, rules}
use Rattle.std.proofs.lemmas.Result.{err_from_is_err_and}
use Rattle.std.proofs.lemmas.Int.{to_z-of_z}
use Rattle.certificates.specs.Values.{multipliers}
use Rattle.multipliers.specs.Sums.{columns_total}
use Rattle.multipliers.proofs.Totals.{sizes_refuse, sides_refuse, judged_beyond, judged_is}
use Rattle.multipliers.proofs.judge.judge_multipliers.Goals as goal

pub returns-in_err-check_sizes-clause-answer : goal.returns-in_err-check_sizes-clause-answer
returns-in_err-check_sizes-clause-answer g c =
    let p = err_from_is_err_and c.from_residual.result c.from_residual.ensures.1 in
    rw (p.1, p.2) (sizes_refuse (g.B.Book.meaning c.args.book.now) (multipliers c.args.values.bytes.now) _ c.in_err-check_sizes.ensures)

pub returns-in_err-check_sides-clause-answer : goal.returns-in_err-check_sides-clause-answer
returns-in_err-check_sides-clause-answer g c =
    let p = err_from_is_err_and c.from_residual-in_err-check_sides.result c.from_residual-in_err-check_sides.ensures.1 in
    rw (p.1, p.2) (sides_refuse (g.B.Book.meaning c.args.book.now) (multipliers c.args.values.bytes.now) _ c.in_ok-check_sizes.ensures _ c.in_err-check_sides.ensures)

pub returns-in_err-total-clause-answer : goal.returns-in_err-total-clause-answer
returns-in_err-total-clause-answer g c =
    let p = err_from_is_err_and c.from_residual-in_err-total.result c.from_residual-in_err-total.ensures.1 in
    rw (p.1, p.2) (judged_beyond (g.B.Book.meaning c.args.book.now) (multipliers c.args.values.bytes.now) _ c.in_ok-check_sizes.ensures _ c.in_ok-check_sides.ensures _ c.in_err-total.ensures)

pub returns-clause-answer : goal.returns-clause-answer
returns-clause-answer g c =
    let b = g.B.Book.meaning c.args.book.now in
    let ys = multipliers c.args.values.bytes.now in
    let fits : SFits w64 c.in_ok-total.total = search rules in
    judged_is b ys _ c.in_ok-check_sizes.ensures _ c.in_ok-check_sides.ensures c.in_ok-total.total c.add_reduced_costs.result c.in_ok-total.ensures
    (c.add_reduced_costs.ensures.sum ∙ ap (columns_total b.rows ys 0 b.columns) (to_z-of_z w64 _ fits))
