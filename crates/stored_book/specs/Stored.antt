-- The lists that stored columns and rows make.
use Rattle.std.specs.Prelude.{List, map, vec_items}
use Rattle.books.specs.declared.part.Column.{Column}
use Rattle.books.specs.Lists.{FullRow, Lists}
use Rattle.stored_book.specs.declared.row.StoredRow.{StoredRow}

-- a stored row as a row with its terms
abbrev pub full_row : StoredRow → FullRow
full_row r = record { code = r.code; lower = r.lower; upper = r.upper; terms = vec_items r.terms }

abbrev pub stored_lists : List Column → List StoredRow → Lists
stored_lists cs rs = record { columns = cs; rows = map full_row rs }
