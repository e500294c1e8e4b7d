use Rattle.std.proofs.Common.{Err, ap, ◌∙◌, w64, SFits, rules}
use Rattle.std.proofs.lemmas.Result.{err_from_is_err_and}
use Rattle.std.proofs.lemmas.Int.{to_z-of_z}
use Rattle.schedules.proofs.Verdicts.{answered, columns_refuse, rows_refuse, benefit_answers}
use Rattle.schedules.proofs.judge.judge_schedule.Goals as goal

pub returns-in_err-schedule : goal.returns-in_err-schedule
returns-in_err-schedule g c =
    let b = g.B.Book.meaning c.args.book.now in
    let vs = c.args.values.now in
    let p = err_from_is_err_and c.from_residual.result c.from_residual.ensures.1 in
    let refused = columns_refuse b vs (search rules) _ (rw c.new.ensures at c.in_err-schedule.ensures) in
    answered b vs _ (p.1 ∙ ap Err p.2 ∙ refused) (g.met.B.Book.kept _)

pub returns-in_err-check_rows : goal.returns-in_err-check_rows
returns-in_err-check_rows g c =
    let b = g.B.Book.meaning c.args.book.now in
    let vs = c.args.values.now in
    let book = c.in_ok-schedule.ensures.0 in
    let bytes = c.in_ok-schedule.ensures.1 ∙ c.new.ensures in
    let p = err_from_is_err_and c.from_residual-in_err-check_rows.result c.from_residual-in_err-check_rows.ensures.1 in
    let refused = rows_refuse b vs (search rules) (rw (book, bytes) at c.in_ok-schedule.schedule.limits) _ (rw (book, bytes) at c.in_err-check_rows.ensures) in
    answered b vs _ (p.1 ∙ ap Err p.2 ∙ refused) (g.met.B.Book.kept _)

pub returns : goal.returns
returns g c =
    let b = g.B.Book.meaning c.args.book.now in
    let vs = c.args.values.now in
    let fits : SFits w64 c.net_benefit-figure.result = search rules in
    let book = c.in_ok-schedule.ensures.0 in
    let bytes = c.in_ok-schedule.ensures.1 ∙ c.new.ensures in
    let limits = rw (book, bytes) at c.in_ok-schedule.schedule.limits in
    let sides = rw (book, bytes) at c.in_ok-check_rows.ensures in
    let figure = to_z-of_z w64 _ fits ∙ rw (book, bytes) at c.net_benefit-figure.ensures in
    answered b vs _ (c.reached.ensures ∙ benefit_answers b vs (search rules) limits _ sides _ figure) (g.met.B.Book.kept _)
