-- The rows of the table.
use Rattle.std.specs.Prelude.{take}
use Rattle.books.specs.Lists.{FullRow}
use Rattle.added_rows.specs.declared.table.AddedRow.{AddedRow}

-- a stored row as a row with its terms
abbrev pub full_row : AddedRow → FullRow
full_row r = record { code = 0; lower = r.lower; upper = r.upper; terms = take r.count r.terms }
