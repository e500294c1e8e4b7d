use Rattle.std.proofs.Common.{◌≡◌, ◌+◌, ◌*◌, ◌≤◌, length, drop, ap, ◌∙◌, arith}
use Rattle.std.proofs.lemmas.List.Sums.{sum_by-cons}
use Rattle.books.specs.declared.part.Row.{Row}
use Rattle.books.specs.Walks.{heads_of}
use Rattle.books.proofs.Sounds.{sound_parts}
use Rattle.listings.proofs.Fews.{taken, taken_most, length-taken}
use Rattle.listings.proofs.write.listing_length.Given as given
use Rattle.listings.proofs.write.listing_length.Goals as goal
use Rattle.listings.proofs.write.listing_length.Goals.{In-Some}

pub loop-row-init : goal.loop-row-init
loop-row-init g c =
    let of = c.of-row-items.ensures in
    let left = ap (λ s. drop s.next (heads_of (g.B.Book.meaning s.book.now))) c.into_iter-row-iterator.ensures.into_iter_gives ∙ (λ i. drop (of.next i) (heads_of (g.B.Book.meaning (of.book i)))) in
    omega (arith, ap taken left, c.column_count-length.ensures)

-- the length with the row that comes and those left is that of the listing, and that is not long
more : (g : given.Over) (c : In-Some g) → let b = g.B.Book.meaning c.args.book.now in let t = c.next.new.self in
    (c.loop-row.length + (21 + 6 * c.in-Some.row.terms) + taken (drop t.next (heads_of (g.B.Book.meaning t.book.now))) ≡ 16 * length b.columns + taken (heads_of b)) × (16 * length b.columns + taken (heads_of b) ≤ 12148000)
more g c =
    let b = g.B.Book.meaning c.args.book.now in
    let kept = g.met.B.Book.kept c.args.book.now in
    let t = c.next.new.self in
    let left = ap taken c.in-Some.ensures.steps ∙ sum_by-cons (λ (r : Row). 21 + 6 * r.terms) c.in-Some.row (drop t.next (heads_of (g.B.Book.meaning t.book.now))) in
    (omega (arith, left, c.loop-row.invariant), omega (arith, taken_most b kept, (sound_parts b kept).few_columns))

pub overflow_mul-length : goal.overflow_mul-length
overflow_mul-length g c =
    let few = (sound_parts _ (g.met.B.Book.kept c.args.book.now)).few_columns in
    record { fits = omega (arith, few, c.column_count-length.ensures) }

pub overflow_mul-length-in-loop-row : goal.overflow_mul-length-in-loop-row
overflow_mul-length-in-loop-row g c =
    let m = more g (goal.at.overflow_mul-length-in-loop-row g c).In-Some in record { fits = omega (arith, m.0, m.1) }

pub overflow_add-length : goal.overflow_add-length
overflow_add-length g c =
    let m = more g (goal.at.overflow_add-length g c).In-Some in record { fits = omega (arith, m.0, m.1) }

pub overflow_add-length-in-loop-row : goal.overflow_add-length-in-loop-row
overflow_add-length-in-loop-row g c =
    let m = more g (goal.at.overflow_add-length-in-loop-row g c).In-Some in record { fits = omega (arith, m.0, m.1) }

pub loop-row-preserved : goal.loop-row-preserved
loop-row-preserved g c = (more g (goal.at.loop-row-preserved g c).In-Some).0

pub returns : goal.returns
returns g c =
    let b = g.B.Book.meaning c.args.book.now in
    omega (arith, c.loop-row.invariant, ap taken c.in-None.ensures.steps.0, length-taken b)
