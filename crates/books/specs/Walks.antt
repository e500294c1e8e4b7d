-- The rows of a book without their terms, and the terms of one row.
use Rattle.std.specs.Prelude.{ℕ, List, [], map, Some, None, Option}
use Rattle.std.specs.List.{slice_get}
use Rattle.listing_fields.specs.declared.term.Term.{Term}
use Rattle.books.specs.declared.part.Row.{Row}
use Rattle.books.specs.Lists.{FullRow, Lists, head}

abbrev pub heads_of : Lists → List Row
heads_of b = map head b.rows

-- the terms of a row, if there is one
abbrev pub terms_in : Option FullRow → List Term
terms_in None = []
terms_in (Some r) = r.terms

-- the terms of the row of a number; none past the last row
abbrev pub terms_of : Lists → ℕ → List Term
terms_of b i = terms_in (slice_get b.rows i)
