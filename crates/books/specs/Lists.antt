-- What a book means: its columns and its rows, each row with its terms.
use Rattle.std.specs.Prelude.{ℕ, List, length, ℤ, Some, None, Option}
use Rattle.std.specs.List.{slice_get}
use Rattle.std.specs.Option.{option_map}
use Rattle.listing_fields.specs.declared.term.Term.{Term}
use Rattle.books.specs.declared.part.Column.{Column}
use Rattle.books.specs.declared.part.Row.{Row}

-- a row with its terms
pub record FullRow : Type 0 where
  pub code : ℕ
  pub lower : Option ℤ
  pub upper : Option ℤ
  pub terms : List Term

pub record Lists : Type 0 where
  pub columns : List Column
  pub rows : List FullRow

-- a row without its terms, of which it has the number
abbrev pub head : FullRow → Row
head r = record { code = r.code; lower = r.lower; upper = r.upper; terms = length r.terms }

-- the answers to the questions for one column, one row and one term: the entry, or none past the end
abbrev pub column_at : Lists → ℕ → Option Column
column_at b j = slice_get b.columns j

abbrev pub row_at : Lists → ℕ → Option Row
row_at b i = option_map head (slice_get b.rows i)

abbrev pub term_in : Option FullRow → ℕ → Option Term
term_in None k = None
term_in (Some r) k = slice_get r.terms k

abbrev pub term_at : Lists → ℕ → ℕ → Option Term
term_at b i k = term_in (slice_get b.rows i) k
