use Rattle.std.proofs.Common.{◌≡◌, true, length, drop}
use Rattle.listing_fields.specs.Tests.{terms_refer}
use Rattle.books.specs.Walks.{terms_of}
use Rattle.multipliers.specs.Costs.{terms_taken}
use Rattle.multipliers.proofs.costs.Costs.subtract_terms.Given as goal

-- what is left makes the whole, and names columns
abbrev pub invariant-loop-term : goal.invariant-loop-term
invariant-loop-term g l =
    let it = l.term-iterator in
    let b = g.B.Book.meaning l.book in
    let left = drop it.next (terms_of (g.B.Book.meaning it.book.now) it.row) in
    (goal.iterator-loop-term g).can_next it
    × (goal.iterator-loop-term g).is_finite it
    × (terms_taken left l.y l.self.entries ≡ terms_taken (terms_of b l.i) l.y l.initial.self.entries)
    × (terms_refer (length b.columns) left ≡ true)
    × (l.self.block ≡ l.initial.self.block)
    × (l.self.room ≡ l.initial.self.room)
