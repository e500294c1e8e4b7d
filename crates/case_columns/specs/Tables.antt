-- What a table holds.
use Rattle.std.specs.Prelude.{◌≡◌, ℕ, ◌+◌, List, [], ◌∷◌, ◌++◌, length, vec_items}
use Rattle.case_columns.specs.declared.name.Named.{Named}
use Rattle.case_columns.specs.declared.table.Table.{Table}

-- the columns of a table, in order
abbrev pub columns_in : Table → List Named
columns_in t = vec_items t.named

-- how many records have begun
abbrev pub begun : Table → ℕ
begun t = length (vec_items t.starts)

-- columns of the last of n records
abbrev pub Own : ℕ → List Named → Type 0
Own n [] = Unit {0}
Own n (c ∷ cs) = (c.name.place + 1 ≡ n) × Own n cs

-- the second table is the first with one record more, whose columns these are
pub record Adds (s t : Table) (cs : List Named) : Type 0 where
  pub columns : columns_in t ≡ columns_in s ++ cs
  pub begun : begun t ≡ begun s + 1
