use Rattle.std.proofs.Common.{drop}
use Rattle.listings.specs.Writing.{column_bytes}
use Rattle.listings.proofs.Runs.{Run}
use Rattle.listings.proofs.put.Writer.put_columns.Given as goal

abbrev pub invariant-loop-column : goal.invariant-loop-column
invariant-loop-column g l =
    Run column_bytes (g.B.Book.meaning l.book).columns l.initial.self l.self (drop l.column-iterator.next (g.B.Book.meaning l.column-iterator.book.now).columns)
