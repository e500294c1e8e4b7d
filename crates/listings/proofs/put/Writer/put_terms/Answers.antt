use Rattle.std.proofs.Common.{drop, ap, ◌∙◌, arith}
use Rattle.listing_fields.specs.Terms.{term_bytes}
use Rattle.books.specs.Walks.{terms_of}
use Rattle.listings.proofs.Parts.{length-term}
use Rattle.listings.proofs.Runs.{run_none, run_room, run_more, run_all}
use Rattle.listings.proofs.put.Writer.put_terms.Goals as goal

pub loop-term-init : goal.loop-term-init
loop-term-init g c =
    let of = c.of-term-items.ensures in
    run_none term_bytes _ c.args.self.now c.requires _
    (ap (λ s. drop s.next (terms_of (g.B.Book.meaning s.book.now) s.row)) c.into_iter-term-iterator.ensures.into_iter_gives ∙ (λ i. drop (of.next i) (terms_of (g.B.Book.meaning (of.book i)) (of.row i))))

pub put_term-requires : goal.put_term-requires
put_term-requires g c =
    let room = run_room term_bytes _ c.args.self.now c.requires c.loop-term.invariant c.in-Some.term _ c.in-Some.ensures.steps in
    omega (arith, room, length-term c.in-Some.term)

pub loop-term-preserved : goal.loop-term-preserved
loop-term-preserved g c =
    run_more term_bytes _ c.args.self.now c.requires c.loop-term.invariant c.in-Some.term _ c.in-Some.ensures.steps c.put_term.ensures

pub returns : goal.returns
returns g c = run_all term_bytes _ c.args.self.now c.requires c.loop-term.invariant c.in-None.ensures.steps.0
