-- Adding a row to a book: what comes of it, and what it is refused for.
use Rattle.std.specs.Prelude.{◌≡◌, ℕ, Bool, cond, ◌&&◌, List, [], ◌∷◌, ◌++◌, length, ℤ, Ok, Err, Option, Result, nat_le, nat_lt}
use Rattle.listing_fields.specs.declared.term.Term.{Term}
use Rattle.books.specs.Lists.{FullRow, Lists}
use Rattle.books.specs.Conditions.{every, sound_row}
use Rattle.books.specs.declared.fault.BookFault.{BookFault}
use Rattle.books.specs.declared.fault.BookFault.TheVariants.{NoRoom, UnfitRow}

-- the row with these sides and terms, of no clause
abbrev pub row_of : Option ℤ → Option ℤ → List Term → FullRow
row_of l u ts = record { code = 0; lower = l; upper = u; terms = ts }

-- the same columns, and the row behind all others
pub record Added (b : Lists) (row : FullRow) (b' : Lists) : Type 0 where
  pub columns : b'.columns ≡ b.columns
  pub rows : b'.rows ≡ b.rows ++ row ∷ []

-- fewer than 32 rows were added, and the book has fewer than 4,000 in all
abbrev pub has_room : ℕ → Lists → Bool
has_room own b = nat_lt own 32 && nat_lt (length b.rows) 4000

-- at most 16 terms, and the conditions over n columns
abbrev pub is_fit : ℕ → FullRow → Bool
is_fit n row = nat_le (length row.terms) 16 && sound_row n row

-- each of the rows is
abbrev pub all_fit : ℕ → List FullRow → Bool
all_fit n rows = every (is_fit n) rows

-- the number of the row, or what it is refused for: for want of room first
abbrev pub answer : ℕ → Lists → FullRow → Result ℕ BookFault
answer own b row =
    cond (has_room own b) (cond (is_fit (length b.columns) row) (Ok (length b.rows)) (Err (UnfitRow (length b.rows)))) (Err (NoRoom (length b.rows)))
