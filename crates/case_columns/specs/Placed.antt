-- Where the columns of each record stand.
use Rattle.std.specs.Prelude.{◌≡◌, ℕ, ◌<◌, ◌≤◌, Bool, ◌&&◌, List, map, length, nat_le, nat_lt, slice_index, slice_index_or}
use Rattle.case_columns.specs.declared.name.Name.{Name}
use Rattle.case_columns.specs.declared.name.Named.{Named}

-- a column's record stands from one place to before another
abbrev pub among : ℕ → ℕ → Name → Bool
among first past n = nat_le first n.place && nat_lt n.place past

-- the first column of a record; past the last record the number of columns
abbrev pub start : List Named → List ℕ → ℕ → ℕ
start cs ss r = slice_index_or ss r (length cs)

-- no record begins past the last column
abbrev pub Low : List Named → List ℕ → Type 0
Low cs ss = (r : ℕ) → start cs ss r ≤ length cs

-- the place of the record of a column
abbrev pub place_at : List Named → ℕ → ℕ
place_at cs i = slice_index (map (λ (c : Named). c.name.place) cs) i

-- a column stands from a record's first on exactly if its own record is that one or a later one
abbrev pub Placed : List Named → List ℕ → Type 0
Placed cs ss = (i r : ℕ) → i < length cs → nat_le (start cs ss r) i ≡ nat_le r (place_at cs i)
