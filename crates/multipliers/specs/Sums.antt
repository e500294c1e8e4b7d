-- The totals of a bound, each with the fault that it brings where a product or a running value lies beyond ±2^60.
use Rattle.std.specs.Prelude.{ℕ, suc, Bool, cond, List, [], ◌∷◌, ℤ, pos, negsuc, ◌+ℤ◌, Some, None, Ok, Err, Option, Result}
use Rattle.std.specs.Option.{unwrap_or}
use Rattle.books.specs.declared.part.Column.{Column}
use Rattle.books.specs.declared.part.Row.{Row}
use Rattle.books.specs.Lists.{FullRow}
use Rattle.certificates.specs.declared.fault.DocketFault.{DocketFault}
use Rattle.certificates.specs.declared.fault.DocketFault.TheVariants.{RowBeyond, ColumnBeyond}
use Rattle.certificates.specs.Bounds.{at_limit, rows_add, columns_add}
use Rattle.certificates.specs.Steps.{row_steps, column_steps, first_beyond}
use Rattle.certificates.specs.Checks.{unless}
use Rattle.reach.specs.Ranged.{reach, after}

-- the lower of two numbers if the sign is negative, else the upper
abbrev pub by_sign : ℤ → ℤ → ℤ → ℤ
by_sign (pos n) low high = high
by_sign (negsuc n) low high = low

-- the total t and a factor times the limit that its sign takes, if both lie within the reach
abbrev pub with_limit : ℤ → ℤ → ℤ → ℤ → Option ℤ
with_limit t k low high = after (reach (at_limit k low high)) (λ p. reach (t +ℤ p))

-- a value, or the fault if there is none
abbrev pub or_fault : Option ℤ → DocketFault → Result ℤ DocketFault
or_fault None f = Err f
or_fault (Some t) f = Ok t

-- the first row, of which the first has the number i, that a test of the row and its multiplier refuses: its number and its code
abbrev pub first_refused : (Row → ℤ → Bool) → ℕ → List Row → List ℤ → Result (Unit {0}) (ℕ × ℕ)
first_refused test i [] ys = Ok tt
first_refused test i (r ∷ rs) [] = Ok tt
first_refused test i (r ∷ rs) (y ∷ ys) = cond (test r y) (first_refused test (suc i) rs ys) (Err (i, r.code))

-- what follows a value, or the fault in its place
abbrev pub then : Result ℤ DocketFault → (ℤ → Result ℤ DocketFault) → Result ℤ DocketFault
then (Err f) k = Err f
then (Ok t) k = k t

-- the total t and what row i adds
abbrev pub row_total : ℕ → Row → ℤ → ℤ → Result ℤ DocketFault
row_total i r y t = or_fault (with_limit t y (unwrap_or r.lower (pos 0)) (unwrap_or r.upper (pos 0))) (RowBeyond i r.code)

-- the total t and what the rows add, of which the first has the number i
abbrev pub rows_total : ℕ → List FullRow → List ℤ → ℤ → Result ℤ DocketFault
rows_total i rs ys t = unless (first_beyond (row_steps i rs ys t)) (Ok (t +ℤ rows_add rs ys))

-- the total t and what column j adds, by its reduced cost, which is absent if it left the reach
abbrev pub column_total : ℕ → Column → Option ℤ → ℤ → Result ℤ DocketFault
column_total j c o t = or_fault (after o (λ k. with_limit t k c.lower c.upper)) (ColumnBeyond j)

-- the total t and what the columns add, of which the first has the number j
abbrev pub columns_total : List FullRow → List ℤ → ℕ → List Column → ℤ → Result ℤ DocketFault
columns_total rs ys j cs t = unless (first_beyond (column_steps rs ys j cs t)) (Ok (t +ℤ columns_add rs ys j cs))
