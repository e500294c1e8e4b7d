-- The bound that a set of multipliers gives, one multiplier a row.
use Rattle.std.specs.Prelude.{◌≡◌, ℕ, suc, cond, List, [], ◌∷◌, ℤ, pos, negsuc, ◌+ℤ◌, ◌-ℤ◌, ◌*ℤ◌, ◌<ℤ◌, Some, ◌==◌}
use Rattle.std.specs.Option.{unwrap_or}
use Rattle.listing_fields.specs.declared.term.Term.{Term}
use Rattle.books.specs.declared.part.Column.{Column}
use Rattle.books.specs.Lists.{FullRow, Lists}

-- a fine unit is one part in K of its unit
abbrev pub K : ℤ
K = pos 100000

-- a factor times the upper of two numbers if it is positive, times the lower if it is negative
abbrev pub at_limit : ℤ → ℤ → ℤ → ℤ
at_limit (pos n) low high = pos n *ℤ high
at_limit (negsuc n) low high = negsuc n *ℤ low

-- what a row adds: its multiplier times the side that the sign takes
abbrev pub row_adds : FullRow → ℤ → ℤ
row_adds r y = at_limit y (unwrap_or r.lower (pos 0)) (unwrap_or r.upper (pos 0))

-- what the rows add
abbrev pub rows_add : List FullRow → List ℤ → ℤ
rows_add [] ys = pos 0
rows_add (r ∷ rs) [] = pos 0
rows_add (r ∷ rs) (y ∷ ys) = row_adds r y +ℤ rows_add rs ys

-- the coefficient of a column in a row, nought if no term names it
abbrev pub coefficient_of : List Term → ℕ → ℤ
coefficient_of [] j = pos 0
coefficient_of (t ∷ ts) j = cond (t.column == j) t.coefficient (coefficient_of ts j)

-- the reduced cost of column j: what it starts from, less multiplier times coefficient, row by row
abbrev pub reduced_cost : ℤ → List FullRow → List ℤ → ℕ → ℤ
reduced_cost k [] ys j = k
reduced_cost k (r ∷ rs) [] j = k
reduced_cost k (r ∷ rs) (y ∷ ys) j = reduced_cost (k -ℤ y *ℤ coefficient_of r.terms j) rs ys j

-- what column j adds: its reduced cost times the limit that the sign takes
abbrev pub column_adds : List FullRow → List ℤ → ℕ → Column → ℤ
column_adds rs ys j c = at_limit (reduced_cost (K *ℤ c.price) rs ys j) c.lower c.upper

-- what the columns add, of which the first has the number j
abbrev pub columns_add : List FullRow → List ℤ → ℕ → List Column → ℤ
columns_add rs ys j [] = pos 0
columns_add rs ys j (c ∷ cs) = column_adds rs ys j c +ℤ columns_add rs ys (suc j) cs

-- the bound, in fine units
abbrev pub bound : Lists → List ℤ → ℤ
bound b ys = rows_add b.rows ys +ℤ columns_add b.rows ys 0 b.columns

-- a positive multiplier has an upper side, and a negative one a lower
pub record SignFits (r : FullRow) (y : ℤ) : Type 0 where
  pub above : pos 0 <ℤ y → (s : ℤ) × (r.upper ≡ Some s)
  pub below : y <ℤ pos 0 → (s : ℤ) × (r.lower ≡ Some s)
