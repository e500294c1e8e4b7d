-- Schedules: one number a column. What the prices and a row make of one, and when one meets a book.
-- A schedule may count in equal parts, d to the kilowatt: limits, sides and the on-value of a switch are then d times as large.
use Rattle.std.specs.Prelude.{◌≡◌, ℕ, true, ◌⊎◌, List, [], ◌∷◌, ℤ, pos, ◌+ℤ◌, ◌*ℤ◌, ◌≤ℤ◌, Some, slice_index_or}
use Rattle.std.specs.List.{AllByRecursion}
use Rattle.listing_fields.specs.declared.term.Term.{Term}
use Rattle.books.specs.declared.part.Column.{Column}
use Rattle.books.specs.Lists.{FullRow, Lists}

-- the activity of a row: the sum of coefficient times number over its terms
abbrev pub activity : List Term → List ℤ → ℤ
activity [] xs = pos 0
activity (t ∷ ts) xs = t.coefficient *ℤ slice_index_or xs t.column (pos 0) +ℤ activity ts xs

-- the net benefit: the sum of price times number over the columns
abbrev pub benefit : List Column → List ℤ → ℤ
benefit [] xs = pos 0
benefit (c ∷ cs) [] = pos 0
benefit (c ∷ cs) (x ∷ xs) = c.price *ℤ x +ℤ benefit cs xs

-- a number lies within a column's limits, and that of a switch is off or on
pub record MeetsColumn (d : ℕ) (c : Column) (x : ℤ) : Type 0 where
  pub from : (pos d *ℤ c.lower) ≤ℤ x
  pub to : x ≤ℤ (pos d *ℤ c.upper)
  pub off_or_on : c.switch ≡ true → (x ≡ pos 0) ⊎ (x ≡ pos d)

-- a row's activity lies on or between the sides that are present
pub record MeetsRow (d : ℕ) (xs : List ℤ) (r : FullRow) : Type 0 where
  pub from : (s : ℤ) → r.lower ≡ Some s → (pos d *ℤ s) ≤ℤ activity r.terms xs
  pub to : (s : ℤ) → r.upper ≡ Some s → activity r.terms xs ≤ℤ (pos d *ℤ s)

-- two lists are equally long, and P holds of each two elements at the same place
abbrev pub Paired : {X Y : Type 0} → (X → Y → Type 0) → List X → List Y → Type 0
Paired P [] [] = Unit {0}
Paired P [] (y ∷ ys) = ⊥
Paired P (x ∷ xs) [] = ⊥
Paired P (x ∷ xs) (y ∷ ys) = P x y × Paired P xs ys

-- a schedule in d parts to the kilowatt meets a book: one number a column, every column and every row met
pub record Meets (d : ℕ) (b : Lists) (xs : List ℤ) : Type 0 where
  pub each_column : Paired (MeetsColumn d) b.columns xs
  pub each_row : AllByRecursion (MeetsRow d xs) b.rows
