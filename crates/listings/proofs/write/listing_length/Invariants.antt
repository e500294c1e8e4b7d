use Rattle.std.proofs.Common.{◌≡◌, ◌+◌, ◌*◌, length, drop}
use Rattle.books.specs.Walks.{heads_of}
use Rattle.listings.proofs.Fews.{taken}
use Rattle.listings.proofs.write.listing_length.Given as goal

-- the length so far and that of the rows left
abbrev pub invariant-loop-row : goal.invariant-loop-row
invariant-loop-row g l =
    l.length + taken (drop l.row-iterator.next (heads_of (g.B.Book.meaning l.row-iterator.book.now))) ≡ 16 * length (g.B.Book.meaning l.book).columns + taken (heads_of (g.B.Book.meaning l.book))
