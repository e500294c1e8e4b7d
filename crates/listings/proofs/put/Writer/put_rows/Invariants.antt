use Rattle.std.proofs.Common.{◌≡◌, drop}
use Rattle.std.specs.Iterator.Adapters.{enumerate_source, enumerate_count}
use Rattle.books.specs.Walks.{heads_of}
use Rattle.listings.specs.Writing.{row_bytes}
use Rattle.listings.proofs.Runs.{Run}
use Rattle.listings.proofs.put.Writer.put_rows.Given as goal

abbrev pub invariant-loop-i : goal.invariant-loop-i
invariant-loop-i g l =
    let b = g.B.Book.meaning l.book in
    let it = enumerate_source l.i-iterator in
    let n = enumerate_count l.i-iterator in
    Run row_bytes b.rows l.initial.self l.self (drop n b.rows) × (drop n (heads_of b) ≡ drop it.next (heads_of (g.B.Book.meaning it.book.now)))
