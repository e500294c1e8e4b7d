-- What a book with rows of its own means, by what the book below means.
use Rattle.std.specs.Prelude.{ℕ, ◌+◌, cond, ◌&&◌, List, [], ◌++◌, length, ◌==◌, nat_le}
use Rattle.books.specs.Lists.{FullRow, Lists}
use Rattle.books.specs.declared.book.Book.{Ghosts}
use Rattle.added_rows.specs.declared.added.AddedRows.{AddedRows}

-- all rows of the table count over a book of the columns for which they were judged and with room for them, else none
abbrev pub counted : Lists → ℕ → List FullRow → List FullRow
counted b n rows = cond (n == length b.columns && nat_le (length b.rows + length rows) 4000) rows []

-- the rows of its own, and how many there are
abbrev pub own_rows : {B : Type 0} {G : Ghosts B} → (B → Lists) → AddedRows B G → List FullRow
own_rows meaning a = counted (meaning a.below) a.columns a.table

abbrev pub own_count : {B : Type 0} {G : Ghosts B} → (B → Lists) → AddedRows B G → ℕ
own_count meaning a = length (own_rows meaning a)

-- the columns below, and the rows below with its own behind them
abbrev pub means : {B : Type 0} {G : Ghosts B} → (B → Lists) → AddedRows B G → Lists
means meaning a = record { columns = (meaning a.below).columns; rows = (meaning a.below).rows ++ own_rows meaning a }
