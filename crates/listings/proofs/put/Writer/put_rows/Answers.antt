use Rattle.std.proofs.Common.{◌≡◌, ◌∷◌, length, drop, sym, ap, ◌∙◌, subst, inl, arith}
use Rattle.std.specs.Iterator.Adapters.{enumerate_source, enumerate_count}
use Rattle.listing_fields.specs.Terms.{terms_bytes}
use Rattle.books.specs.Walks.{heads_of, terms_of}
use Rattle.books.proofs.Walking.{few_heads}
use Rattle.listings.specs.Writing.{row_bytes}
use Rattle.listings.specs.Puts.{Puts}
use Rattle.listings.proofs.Fews.{none_left, Next, next, next_terms, next_short, next_length, row_put}
use Rattle.listings.proofs.Parts.{length-head, length-terms}
use Rattle.listings.proofs.Chains.{puts_long}
use Rattle.listings.proofs.Runs.{run_none, run_room, run_more, run_all}
use Rattle.listings.proofs.put.Writer.put_rows.Given as given
use Rattle.listings.proofs.put.Writer.put_rows.Goals as goal
use Rattle.listings.proofs.put.Writer.put_rows.Goals.{After-into_iter-i-iterator, In-Some}

-- at first no row is counted, and all are left
none : (g : given.Over) (c : After-into_iter-i-iterator g) → enumerate_count c.into_iter-i-iterator.result ≡ 0
none g c = ap enumerate_count c.into_iter-i-iterator.ensures.into_iter_gives ∙ c.enumerate-i-items.ensures.count

all : (g : given.Over) (c : After-into_iter-i-iterator g) → let s = enumerate_source c.into_iter-i-iterator.result in drop s.next (heads_of (g.B.Book.meaning s.book.now)) ≡ heads_of (g.B.Book.meaning c.args.book.now)
all g c =
    let of = c.of.ensures in
    let source = ap enumerate_source c.into_iter-i-iterator.ensures.into_iter_gives ∙ c.enumerate-i-items.ensures.source in
    ap (λ s. drop s.next (heads_of (g.B.Book.meaning s.book.now))) source ∙ (λ i. drop (of.next i) (heads_of (g.B.Book.meaning (of.book i))))

pub loop-i-init-derived : goal.loop-i-init-derived
loop-i-init-derived g c =
    let few = few_heads (g.B.Book.meaning c.args.book.now) (g.met.B.Book.kept c.args.book.now) in
    ((tt, tt, inl (omega (arith, few, none g c, ap length (all g c)))), tt)

pub loop-i-init : goal.loop-i-init
loop-i-init g c =
    let b = g.B.Book.meaning c.args.book.now in
    let at = (goal.at.loop-i-init g c).After-into_iter-i-iterator in
    let n = none g at in
    (run_none row_bytes b.rows c.args.self.now c.requires _ (ap (λ k. drop k b.rows) n), ap (λ k. drop k (heads_of b)) n ∙ sym (all g at))

-- the row that comes
pub row : (g : given.Over) (c : In-Some g) → let n = enumerate_count c.loop-i.i-iterator in let t = enumerate_source c.next.new.self in Next (g.B.Book.meaning c.args.book.now) n c.in-Some.row (drop t.next (heads_of (g.B.Book.meaning t.book.now)))
row g c = next _ _ _ _ (c.loop-i.invariant.1 ∙ c.in-Some.ensures.steps.0)

pub put_head-requires : goal.put_head-requires
put_head-requires g c =
    let r = row g (goal.at.put_head-requires g c).In-Some in
    let room = run_room row_bytes _ c.args.self.now c.requires c.loop-i.invariant.0 r.full _ r.left in
    (omega (arith, room, next_length r), next_short r (g.met.B.Book.kept c.args.book.now))

pub put_terms-requires : goal.put_terms-requires
put_terms-requires g c =
    let b = g.B.Book.meaning c.args.book.now in
    let r = row g (goal.at.put_terms-requires g c).In-Some in
    let room = run_room row_bytes _ c.args.self.now c.requires c.loop-i.invariant.0 r.full _ r.left in
    omega (arith, room, next_length r, next_terms r, ap (λ k. length (terms_of b k)) c.in-Some.ensures.steps.1, length-terms (terms_of b c.in-Some.i), length-head c.in-Some.row, c.put_head.ensures.wrote.next_is, puts_long c.put_head.ensures)

pub loop-i-preserved : goal.loop-i-preserved
loop-i-preserved g c =
    let b = g.B.Book.meaning c.args.book.now in
    let r = row g (goal.at.loop-i-preserved g c).In-Some in
    let counted = c.in-Some.ensures.steps.2 in
    let terms = subst (λ k. Puts c.put_head.new.self (terms_bytes (terms_of b k)) c.put_terms.new.self) c.in-Some.ensures.steps.1 c.put_terms.ensures in (
      run_more row_bytes _ c.args.self.now c.requires c.loop-i.invariant.0 r.full _ (r.left ∙ ap (λ k. r.full ∷ drop k b.rows) (sym counted)) (row_put r c.put_head.ensures terms),
      ap (λ k. drop k (heads_of b)) counted ∙ r.others,
    )

pub returns : goal.returns
returns g c =
    let b = g.B.Book.meaning c.args.book.now in
    run_all row_bytes b.rows c.args.self.now c.requires c.loop-i.invariant.0 (none_left b _ (c.loop-i.invariant.1 ∙ c.in-None.ensures.steps.0.0))
