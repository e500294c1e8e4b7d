use Rattle.std.proofs.Common.{◌≡◌, ◌≤◌, length, inl, ap, ◌∙◌, ⊎_elim, arith, w64, SFits, to_z, of_z, rules}
use Rattle.std.proofs.lemmas.Result.{err_from_is_err_and}
use Rattle.std.proofs.lemmas.Int.{to_z-of_z}
use Rattle.books.proofs.Sounds.{sound_parts}
use Rattle.certificates.proofs.Roads.{columns_left}
use Rattle.multipliers.proofs.Passes.{costs_total, costs_are, column_stops, column_end, column_over}
use Rattle.multipliers.proofs.costs.Costs.add_columns.Goals as goal

pub loop-j-init : goal.loop-j-init
loop-j-init g c =
    let it = c.into_iter-j-iterator.result in
    let few = (sound_parts _ (g.met.B.Book.kept c.args.book.now)).few_columns in
    let whole = columns_left g.B.Book.meaning c.args.book.now it.iter.a (cc) (cc) in
    let costs : it.iter.b.rest.now ≡ c.args.self.now.entries = cc in
    let none : it.count ≡ 0 = cc in
    let room = ap length whole in (
      ((tt, tt), tt, inl (omega (arith, few, room))),
      tt,
      omega (arith, few, room),
      λ i. costs_total (none i) (whole i) (costs i) (to_z w64 (of_z w64 c.args.total)),
    )

pub returns-in_err-sum : goal.returns-in_err-sum
returns-in_err-sum g c =
    let b = g.B.Book.meaning c.args.book.now in
    let p = err_from_is_err_and c.from_residual.result c.from_residual.ensures.1 in
    let long : length b.columns ≤ length c.args.self.now.entries = search rules in
    let fits : SFits w64 c.args.total = search rules in
    let steps = c.in-Some.ensures.steps in
    rw (p.1, p.2) (column_stops _ _ _ _ _ _ _ _ _ c.loop-j.invariant.3 steps.0.0 steps.0.1 c.in-Some.j _ steps.1 c.in_err-sum.ensures ∙ ap (costs_total 0 b.columns c.args.self.now.entries) (to_z-of_z w64 _ fits) ∙ costs_are c.args.self.now.entries b.columns c.args.total long)

pub returns : goal.returns
returns g c =
    let b = g.B.Book.meaning c.args.book.now in
    let long : length b.columns ≤ length c.args.self.now.entries = search rules in
    let fits : SFits w64 c.args.total = search rules in
    let inv = c.loop-j.invariant.3 in
    (⊎_elim (λ s. column_end _ _ _ _ _ inv s.1.0) (λ s. column_over _ _ _ _ _ inv s.1.0) c.in-None.ensures.steps.0) ∙ ap (costs_total 0 b.columns c.args.self.now.entries) (to_z-of_z w64 _ fits) ∙ costs_are c.args.self.now.entries b.columns c.args.total long
