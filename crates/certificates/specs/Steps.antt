-- Every product and every running value of a bound, in the order in which they arise, each with the fault that it brings if it lies beyond ±2^60.
use Rattle.std.specs.Prelude.{ℕ, suc, Bool, cond, List, [], ◌∷◌, ◌++◌, ℤ, pos, ◌+ℤ◌, ◌-ℤ◌, ◌*ℤ◌, Some, None, Option, nat_le, unsigned_abs}
use Rattle.books.specs.declared.part.Column.{Column}
use Rattle.books.specs.Lists.{FullRow, Lists}
use Rattle.certificates.specs.declared.fault.DocketFault.{DocketFault}
use Rattle.certificates.specs.declared.fault.DocketFault.TheVariants.{RowBeyond, ColumnBeyond}
use Rattle.certificates.specs.Bounds.{K, row_adds, rows_add, coefficient_of, column_adds}

pub record Step : Type 0 where
  pub fault : DocketFault
  pub value : ℤ

abbrev step : DocketFault → ℤ → Step
step f z = record { fault = f; value = z }

-- the rows in order: what each adds, and the total, which starts from t
abbrev pub row_steps : ℕ → List FullRow → List ℤ → ℤ → List Step
row_steps i [] ys t = []
row_steps i (r ∷ rs) [] t = []
row_steps i (r ∷ rs) (y ∷ ys) t =
    step (RowBeyond i r.code) (row_adds r y)
    ∷ step (RowBeyond i r.code) (t +ℤ row_adds r y)
    ∷ row_steps (suc i) rs ys (t +ℤ row_adds r y)

-- the reduced cost of column j, row by row: each product, and what is left of k
abbrev pub cost_steps : ℕ → ℤ → List FullRow → List ℤ → List Step
cost_steps j k [] ys = []
cost_steps j k (r ∷ rs) [] = []
cost_steps j k (r ∷ rs) (y ∷ ys) =
    step (ColumnBeyond j) (y *ℤ coefficient_of r.terms j)
    ∷ step (ColumnBeyond j) (k -ℤ y *ℤ coefficient_of r.terms j)
    ∷ cost_steps j (k -ℤ y *ℤ coefficient_of r.terms j) rs ys

-- the columns in order, of which the first has the number j: where each starts, its reduced cost, what it adds, and the total
abbrev pub column_steps : List FullRow → List ℤ → ℕ → List Column → ℤ → List Step
column_steps rs ys j [] t = []
column_steps rs ys j (c ∷ cs) t =
    step (ColumnBeyond j) (K *ℤ c.price)
    ∷ (cost_steps j (K *ℤ c.price) rs ys
    ++ step (ColumnBeyond j) (column_adds rs ys j c)
    ∷ step (ColumnBeyond j) (t +ℤ column_adds rs ys j c)
    ∷ column_steps rs ys (suc j) cs (t +ℤ column_adds rs ys j c))

-- all of them: rows, then columns
abbrev pub steps : Lists → List ℤ → List Step
steps b ys = row_steps 0 b.rows ys (pos 0) ++ column_steps b.rows ys 0 b.columns (rows_add b.rows ys)

-- a number lies within ±2^60
abbrev pub in_reach : ℤ → Bool
in_reach z = nat_le (unsigned_abs z) 1152921504606846976

-- the fault of the first that lies beyond
abbrev pub first_beyond : List Step → Option DocketFault
first_beyond [] = None
first_beyond (s ∷ ss) = cond (in_reach s.value) (first_beyond ss) (Some s.fault)
