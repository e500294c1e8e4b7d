use Rattle.std.proofs.Common.{◌≡◌, length, inl, ap, ◌∙◌, ⊎_elim, arith, pos, w64, SFits, to_z, rules}
use Rattle.std.proofs.lemmas.Result.{err_from_is_err_and}
use Rattle.std.proofs.lemmas.Int.{to_z-of_z}
use Rattle.books.proofs.Walking.{few_heads}
use Rattle.certificates.proofs.Roads.{heads_left}
use Rattle.certificates.specs.Values.{multipliers}
use Rattle.multipliers.specs.Sums.{row_total}
use Rattle.multipliers.proofs.Passes.{heads_total, heads_are, total_stops, total_end, total_over}
use Rattle.multipliers.proofs.rows.add_rows.Goals as goal

pub loop-i-init : goal.loop-i-init
loop-i-init g c =
    let it = c.into_iter-i-iterator.result in
    let few = few_heads _ (g.met.B.Book.kept c.args.book.now) in
    let whole = heads_left g.B.Book.meaning c.args.book.now it.iter.a (cc) (cc) in
    let values : it.iter.b.rest.now ≡ c.args.values.bytes.now = cc in
    let none : it.count ≡ 0 = cc in
    let room = ap length whole in (
      ((tt, tt), tt, inl (omega (arith, few, room))),
      tt,
      omega (arith, few, room),
      λ i. heads_total (none i) (whole i) (multipliers (values i)) (pos 0),
    )

pub returns-in_err-total : goal.returns-in_err-total
returns-in_err-total g c =
    let b = g.B.Book.meaning c.args.book.now in
    let p = err_from_is_err_and c.from_residual.result c.from_residual.ensures.1 in
    let fits : SFits w64 c.into.result = search rules in
    let steps = c.in-Some.ensures.steps in
    let fault = c.in_err-total.ensures ∙ ap (λ y. row_total c.in-Some.i c.in-Some.row y (to_z w64 c.loop-i.total-bits)) (to_z-of_z w64 _ fits ∙ c.into.ensures) in
    rw (p.1, p.2) (total_stops _ _ _ _ _ _ _ _ _ c.loop-i.invariant.3 steps.0.0 steps.0.1 c.in-Some.i _ steps.1 fault ∙ heads_are 0 b.rows (multipliers c.args.values.bytes.now) (pos 0))

pub returns : goal.returns
returns g c =
    let b = g.B.Book.meaning c.args.book.now in
    let ys = multipliers c.args.values.bytes.now in
    let inv = c.loop-i.invariant.3 in
    (⊎_elim (λ s. total_end _ _ _ _ _ inv s.1.0) (λ s. total_over _ _ _ _ _ inv s.1.0) c.in-None.ensures.steps.0) ∙ heads_are 0 b.rows ys (pos 0)
