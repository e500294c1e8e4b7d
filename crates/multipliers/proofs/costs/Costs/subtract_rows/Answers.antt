use Rattle.std.proofs.Common.{◌+◌, length, refl, ap, ◌∙◌, arith, w64, SFits, rules}
use Rattle.std.proofs.lemmas.Int.{to_z-of_z}
use Rattle.books.specs.Walks.{terms_of}
use Rattle.certificates.specs.Held.{multipliers_held}
use Rattle.certificates.specs.Values.{multipliers}
use Rattle.multipliers.specs.Costs.{Held, rows_taken, row_taken}
use Rattle.multipliers.proofs.Same.{held_same}
use Rattle.multipliers.proofs.Passes.{row_turn, row_end}
use Rattle.multipliers.proofs.costs.Costs.subtract_rows.Goals as goal

pub loop-i-init : goal.loop-i-init
loop-i-init g c =
    let b = g.B.Book.meaning c.args.book.now in
    let many = multipliers_held.count c.args.values.bytes.now in
    let few = c.ranges.values.0 in
    let values = ap multipliers c.iter-y-items.ensures in
    let long = ap length values in
    (tt, tt, omega (arith, many, few, long), λ i. rows_taken b.rows (values i) c.args.self.now.entries, refl, refl)

pub loop-i-preserved : goal.loop-i-preserved
loop-i-preserved g c =
    let b = g.B.Book.meaning c.args.book.now in
    let i = c.loop-i.i in
    let front = c.in-Some.ensures.steps in
    let long = ap length front in
    let room = c.loop-i.invariant.2 in
    let fits : SFits w64 c.into.result = search rules in
    let step = c.subtract_row.ensures in
    let row = ap (λ (h : Held). h.entries) step ∙ ap (λ y. row_taken (terms_of b i) y c.loop-i.self.entries) (to_z-of_z w64 _ fits ∙ c.into.ensures) in (
      tt,
      tt,
      omega (arith, long, room),
      row_turn b i (i + 1) c.in-Some.y _ _ c.loop-i.self.entries _ c.loop-i.invariant.3 front refl i _ refl row,
      ap (λ (h : Held). h.block) step ∙ c.loop-i.invariant.4,
      ap (λ (h : Held). h.room) step ∙ c.loop-i.invariant.5,
    )

pub returns : goal.returns
returns g c =
    let inv = c.loop-i.invariant in
    held_same _ _ (row_end (g.B.Book.meaning c.args.book.now) c.loop-i.i _ _ _ inv.3 c.in-None.ensures.steps.0) inv.4 inv.5
