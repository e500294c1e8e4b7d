-- What the book over a case means, and the names of its columns.
use Rattle.std.specs.Prelude.{List}
use Rattle.books.specs.Lists.{Lists}
use Rattle.stored_book.specs.Books.{book_lists}
use Rattle.case_columns.specs.declared.name.Named.{Named}
use Rattle.case_columns.specs.Tables.{columns_in}
use Rattle.clause_book.specs.declared.book.ClauseBook.{ClauseBook}

abbrev pub clause_lists : ClauseBook → Lists
clause_lists b = book_lists b.book

-- its columns with their names
abbrev pub named_in : ClauseBook → List Named
named_in b = columns_in b.table
