-- The listing of a book: its columns, then its rows, as fields. And the lists that fields give.
use Rattle.std.specs.Prelude.{ℕ, cond, List, [], ◌∷◌, ◌++◌, map, Some, None, ◌==◌}
use Rattle.fields.specs.Files.{encoding}
use Rattle.listing_fields.specs.Entries.{Entry, Column as ColumnEntry, Row as RowEntry}
use Rattle.listing_fields.specs.Entries.Entry.{column, row}
use Rattle.listing_fields.specs.Tests.{has_lower, has_upper}
use Rattle.listing_fields.specs.Listings.{listing_format}
use Rattle.listing_fields.specs.Meant.{switch_byte, side_byte, side_number}
use Rattle.books.specs.declared.part.Column.{Column}
use Rattle.books.specs.Lists.{FullRow, Lists}

abbrev pub column_entry : Column → Entry
column_entry c =
    column (record { lower = c.lower; upper = c.upper; price = c.price; switch = switch_byte c.switch })

abbrev pub row_entry : FullRow → Entry
row_entry r =
    row (record { code = r.code; side = side_byte r.lower r.upper; lower = side_number r.lower; upper = side_number r.upper; terms = r.terms })

abbrev pub entries : Lists → List Entry
entries b = map column_entry b.columns ++ map row_entry b.rows

unfoldable pub listing_of : Lists → List ℕ
listing_of b = encoding listing_format (entries b)

-- the column and the row that a field gives
abbrev pub column_of : ColumnEntry → Column
column_of c = record { lower = c.lower; upper = c.upper; price = c.price; switch = (c.switch == 1) }

abbrev pub row_of : RowEntry → FullRow
row_of r =
    record {
      code = r.code;
      lower = cond (has_lower r.side) (Some r.lower) None;
      upper = cond (has_upper r.side) (Some r.upper) None;
      terms = r.terms;
    }

abbrev pub columns_given : List Entry → List Column
columns_given [] = []
columns_given (column c ∷ es) = column_of c ∷ columns_given es
columns_given (row r ∷ es) = columns_given es

abbrev pub rows_given : List Entry → List FullRow
rows_given [] = []
rows_given (column c ∷ es) = rows_given es
rows_given (row r ∷ es) = row_of r ∷ rows_given es

abbrev pub given : List Entry → Lists
given es = record { columns = columns_given es; rows = rows_given es }
