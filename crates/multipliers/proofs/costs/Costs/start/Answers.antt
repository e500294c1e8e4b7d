use Rattle.std.proofs.Common.{◌≡◌, length, inl, refl, ap, ◌∙◌, arith, vec_items, rules}
use Rattle.books.proofs.Sounds.{sound_parts}
use Rattle.certificates.proofs.Roads.{columns_left}
use Rattle.multipliers.specs.Costs.{Held, started}
use Rattle.multipliers.proofs.Same.{held_same}
use Rattle.multipliers.proofs.costs.Costs.start.Goals as goal

pub loop-j-init : goal.loop-j-init
loop-j-init g c =
    let it = c.into_iter-j-iterator.result in
    let few = (sound_parts _ (g.met.B.Book.kept c.args.book.now)).few_columns in
    let whole = columns_left g.B.Book.meaning c.args.book.now it.iter (cc) (cc) in
    let none : it.count ≡ 0 = cc in
    let room = ap length whole in (
      (tt, tt, inl (omega (arith, few, room))),
      tt,
      omega (arith, few, room),
      λ i. started (none i) (whole i) (vec_items c.self.inside.entries),
      c.self.invariant,
      refl,
      refl,
    )

pub returns-clause-starts : goal.returns-clause-starts
returns-clause-starts g c =
    let inv = c.loop-j.invariant in
    let stood = c.self.view_is in
    held_same _ _ (search rules) (inv.5 ∙ ap (λ (h : Held). h.block) stood) (inv.6 ∙ ap (λ (h : Held). h.room) stood)
