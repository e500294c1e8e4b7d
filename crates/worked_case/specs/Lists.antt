-- The columns and rows of the worked case, written out.
use Rattle.std.specs.Prelude.{ℕ, true, false, List, [], ◌∷◌, ℤ, pos, Some, None}
use Rattle.listing_fields.specs.declared.term.Term.{Term}
use Rattle.books.specs.declared.part.Column.{Column}
use Rattle.books.specs.Lists.{FullRow, Lists}
use Rattle.case_fields.specs.Tests.{minus}

-- a column from 0 to an upper limit, at a price
abbrev upto : ℕ → ℤ → Column
upto high price = record { lower = pos 0; upper = pos high; price = price; switch = false }

-- 0 to 1,000,000, at no price
abbrev free : Column
free = upto 1000000 (pos 0)

-- 0 to 1,000,000, at a cost of 1,000,000
abbrev violation : Column
violation = upto 1000000 (minus 1000000)

-- a switch that is free to be 0 or 1
abbrev switch_column : Column
switch_column = record { lower = pos 0; upper = pos 1; price = pos 0; switch = true }

-- the 25 columns, by record
abbrev pub worked_columns : List Column
worked_columns =
    -- node 0: 0 Injection, 1 Angle, 2 Deficit, 3 Excess
    (record { lower = minus 20000000; upper = pos 20000000; price = pos 0; switch = false })
    ∷ upto 0 (pos 0)
    ∷ violation
    ∷ violation
    -- energy offer 0: 4 Generation, 5 OverUp, 6 OverDown, 7 its block
    ∷ free
    ∷ violation
    ∷ violation
    ∷ upto 200000 (minus 20000)
    -- energy offer 1: 8 Generation, 9 OverUp, 10 OverDown, 11 its block
    ∷ free
    ∷ violation
    ∷ violation
    ∷ upto 400000 (minus 17000)
    -- bid 0: 12 Purchase, 13 its block
    ∷ free
    ∷ upto 500000 (pos 100000)
    -- regulation offer 0: 14 Regulation, 15 Switch, 16 OverReg, 17 ShortReg, 18 its block
    ∷ free
    ∷ switch_column
    ∷ violation
    ∷ violation
    ∷ upto 10000 (minus 2000)
    -- regulation offer 1: 19 Regulation, 20 Switch, 21 OverReg, 22 ShortReg, 23 its block
    ∷ free
    ∷ switch_column
    ∷ violation
    ∷ violation
    ∷ upto 50000 (minus 6000)
    -- requirement: 24 ShortRequirement
    ∷ upto 12000 (minus 1000000)
    ∷ []

-- a coefficient times the column of a number
infixl 70 ◌·◌
abbrev ◌·◌ : ℤ → ℕ → Term
c · j = record { column = j; coefficient = c }

-- a row whose sum is nought, is at least a number, or is at most a number
abbrev nought : ℕ → List Term → FullRow
nought code ts = record { code = code; lower = Some (pos 0); upper = Some (pos 0); terms = ts }

abbrev at_least : ℕ → ℤ → List Term → FullRow
at_least code z ts = record { code = code; lower = Some z; upper = None; terms = ts }

abbrev at_most : ℕ → ℤ → List Term → FullRow
at_most code z ts = record { code = code; lower = None; upper = Some z; terms = ts }

-- the 18 rows, by record
abbrev pub worked_rows : List FullRow
worked_rows =
    -- node 0: 0 D.16.1.1, 1 D.16.1.2
    nought 1 (pos 2 · 0 ∷ [])
    ∷ nought 2 (pos 1 · 0 ∷ minus 1 · 2 ∷ pos 1 · 3 ∷ minus 1 · 4 ∷ minus 1 · 8 ∷ pos 1 · 12 ∷ [])
    -- energy offer 0: 2 D.15.1.2, 3 D.19.1.1, 4 D.19.1.2
    ∷ nought 9 (pos 1 · 4 ∷ minus 1 · 7 ∷ [])
    ∷ at_most 12 (pos 1000000) (pos 1 · 4 ∷ minus 1 · 5 ∷ [])
    ∷ at_least 13 (pos 0) (pos 1 · 4 ∷ pos 1 · 6 ∷ [])
    -- energy offer 1: 5 D.15.1.2, 6 D.19.1.1, 7 D.19.1.2
    ∷ nought 9 (pos 1 · 8 ∷ minus 1 · 11 ∷ [])
    ∷ at_most 12 (pos 1000000) (pos 1 · 8 ∷ minus 1 · 9 ∷ [])
    ∷ at_least 13 (pos 0) (pos 1 · 8 ∷ pos 1 · 10 ∷ [])
    -- bid 0: 8 D.15.2.2
    ∷ nought 14 (pos 1 · 12 ∷ minus 1 · 13 ∷ [])
    -- regulation offer 0: 9 D.18.1.2, 10 D.18.1.3, 11 D.18.1.4, 12 D.18.1.5
    ∷ nought 15 (pos 1 · 14 ∷ minus 1 · 18 ∷ [])
    ∷ at_most 16 (pos 1360000) (pos 1 · 4 ∷ pos 1 · 14 ∷ pos 1000000 · 15 ∷ minus 1 · 16 ∷ [])
    ∷ at_least 17 (minus 820000) (pos 1 · 4 ∷ minus 1 · 14 ∷ minus 1000000 · 15 ∷ pos 1 · 17 ∷ [])
    ∷ at_most 18 (pos 0) (pos 1 · 14 ∷ minus 1000000 · 15 ∷ [])
    -- regulation offer 1: 13 D.18.1.2, 14 D.18.1.3, 15 D.18.1.4, 16 D.18.1.5
    ∷ nought 15 (pos 1 · 19 ∷ minus 1 · 23 ∷ [])
    ∷ at_most 16 (pos 2000000) (pos 1 · 8 ∷ pos 1 · 19 ∷ pos 1000000 · 20 ∷ minus 1 · 21 ∷ [])
    ∷ at_least 17 (minus 1000000) (pos 1 · 8 ∷ minus 1 · 19 ∷ minus 1000000 · 20 ∷ pos 1 · 22 ∷ [])
    ∷ at_most 18 (pos 0) (pos 1 · 19 ∷ minus 1000000 · 20 ∷ [])
    -- requirement: 17 D.18.2.1
    ∷ at_least 19 (pos 12000) (pos 1 · 14 ∷ pos 1 · 19 ∷ pos 1 · 24 ∷ [])
    ∷ []

-- the columns and rows of the worked case
abbrev pub worked_lists : Lists
worked_lists = record { columns = worked_columns; rows = worked_rows }
