-- Each row by itself: what it says of the named quantities of its clause.
use Rattle.std.specs.Prelude.{◌≡◌, ℕ, suc, List, [], ◌∷◌, map, ℤ, pos, ◌+ℤ◌, ◌*ℤ◌, neg_ℤ, ◌≤ℤ◌, Some, slice_index_or}
use Rattle.books.specs.Lists.{FullRow}
use Rattle.books.specs.Schedules.{activity, MeetsRow}
use Rattle.case_columns.specs.declared.name.Named.{Named}
use Rattle.clauses.specs.declared.sum.Pick.{Pick}
use Rattle.clauses.specs.declared.sum.Factor.TheVariants.{Number, Minus}
use Rattle.clauses.specs.declared.sum.Item.{Item}
use Rattle.clauses.specs.Sums.{picks, when, amount}
use Rattle.clauses.specs.Rows.{Clause, row_of}

-- over columns that are numbered from n, coefficient times number
abbrev pub weighed : {X : Type 0} → ℕ → (X → ℤ) → List X → List ℤ → ℤ
weighed n f [] xs = pos 0
weighed n f (c ∷ cs) xs = f c *ℤ slice_index_or xs n (pos 0) +ℤ weighed (suc n) f cs xs

-- what an item comes to in a schedule
abbrev pub worth : List Named → List ℤ → Item → ℤ
worth cs xs i = weighed 0 (λ (c : Named). amount i c.name) cs xs

-- what all items of a sum come to
abbrev pub worths : List Named → List ℤ → List Item → ℤ
worths cs xs [] = pos 0
worths cs xs (i ∷ is) = worth cs xs i +ℤ worths cs xs is

-- the sum of the numbers of some columns
abbrev pub total : List Named → List ℤ → Pick → ℤ
total cs xs k = weighed 0 (λ (c : Named). when (picks k c.name) (pos 1)) cs xs

-- a clause holds of the named quantities of a schedule: what its items come to lies on or between its sides
pub record Holds (cs : List Named) (xs : List ℤ) (d : Clause) : Type 0 where
  pub from : (s : ℤ) → d.lower ≡ Some s → s ≤ℤ worths cs xs d.sum
  pub to : (s : ℤ) → d.upper ≡ Some s → worths cs xs d.sum ≤ℤ s

-- in every schedule, the activity of each clause's row is the sum of what its items come to; an item with a number comes to that number times the sum of its columns; and a schedule meets the row of a clause exactly when the clause holds
pub record Singly (cs : List Named) (ds : List Clause) (rs : List FullRow) : Type 0 where
  pub each : (xs : List ℤ) → map (λ (r : FullRow). activity r.terms xs) rs ≡ map (λ (d : Clause). worths cs xs d.sum) ds
  pub number : (xs : List ℤ) (c : ℤ) (k : Pick) → worth cs xs (record { factor = Number c; pick = k }) ≡ c *ℤ total cs xs k
  pub minus : (xs : List ℤ) (c : ℤ) (k : Pick) → worth cs xs (record { factor = Minus c; pick = k }) ≡ neg_ℤ c *ℤ total cs xs k
  pub met : (xs : List ℤ) (d : Clause) → MeetsRow 1 xs (row_of cs d) → Holds cs xs d
  pub holds : (xs : List ℤ) (d : Clause) → Holds cs xs d → MeetsRow 1 xs (row_of cs d)
