use Rattle.std.proofs.Common.{drop}
use Rattle.listing_fields.specs.Terms.{term_bytes}
use Rattle.books.specs.Walks.{terms_of}
use Rattle.listings.proofs.Runs.{Run}
use Rattle.listings.proofs.put.Writer.put_terms.Given as goal

abbrev pub invariant-loop-term : goal.invariant-loop-term
invariant-loop-term g l =
    Run term_bytes (terms_of (g.B.Book.meaning l.book) l.row) l.initial.self l.self (drop l.term-iterator.next (terms_of (g.B.Book.meaning l.term-iterator.book.now) l.term-iterator.row))
