use Rattle.std.proofs.Common.{length, refl, w64, to_z, of_z, ap, ◌∙◌, arith}
use Rattle.listing_fields.specs.Tests.{terms_refer}
use Rattle.books.proofs.Sounds.{sound_parts}
use Rattle.certificates.proofs.Roads.{terms_left}
use Rattle.multipliers.specs.Costs.{terms_taken}
use Rattle.multipliers.proofs.Passes.{terms_known, refer_turn}
use Rattle.multipliers.proofs.costs.Costs.subtract_terms.Goals as goal

pub loop-term-init : goal.loop-term-init
loop-term-init g c =
    let b = g.B.Book.meaning c.args.book.now in
    let it = c.into_iter-term-iterator.result in
    let whole = terms_left g.B.Book.meaning c.args.book.now it c.args.i (cc) (cc) (cc) in (
      tt,
      tt,
      λ i. terms_taken (whole i) (to_z w64 (of_z w64 c.args.y)) c.args.self.now.entries,
      ap (terms_refer (length b.columns)) whole ∙ terms_known b (g.met.B.Book.kept c.args.book.now) c.args.i,
      refl,
      refl,
    )

pub subtract_at-requires : goal.subtract_at-requires
subtract_at-requires g c =
    let few = (sound_parts _ (g.met.B.Book.kept c.args.book.now)).few_columns in
    let first = refer_turn _ _ _ _ c.loop-term.invariant.3 c.in-Some.ensures.steps in
    omega (arith, few, first.0)
