-- Clauses and their rows.
use Rattle.std.specs.Prelude.{ℕ, List, ℤ, ◌+ℤ◌, ◌-ℤ◌, Some, None, Option}
use Rattle.books.specs.Lists.{FullRow}
use Rattle.case_columns.specs.declared.name.Named.{Named}
use Rattle.clauses.specs.declared.sum.Item.{Item}
use Rattle.clauses.specs.Sums.{sum as summed}
use Rattle.clauses.specs.Terms.{terms as terms_of}

-- a clause: its code, its sides and its sum
pub record Clause : Type 0 where
  pub code : ℕ
  pub lower : Option ℤ
  pub upper : Option ℤ
  pub sum : List Item

-- the row of a clause over the columns of a case
abbrev pub row_of : List Named → Clause → FullRow
row_of cs c = record { code = c.code; lower = c.lower; upper = c.upper; terms = terms_of (summed c.sum) cs }

-- the sum equals a number
abbrev pub equal : ℕ → ℤ → List Item → Clause
equal c z s = record { code = c; lower = Some z; upper = Some z; sum = s }

-- equal, widened down and up by the allowance
abbrev pub about : ℕ → ℤ → ℤ → List Item → Clause
about c a z s = record { code = c; lower = Some (z -ℤ a); upper = Some (z +ℤ a); sum = s }

-- the sum is at least a number
abbrev pub at_least : ℕ → ℤ → List Item → Clause
at_least c z s = record { code = c; lower = Some z; upper = None; sum = s }

-- the sum is at most a number
abbrev pub at_most : ℕ → ℤ → List Item → Clause
at_most c z s = record { code = c; lower = None; upper = Some z; sum = s }
