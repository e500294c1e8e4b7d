-- The working table: for each column its running reduced cost, absent if it left the reach.
use denote.RawPtr.{Ptr}
use Rattle.std.specs.Prelude.{ℕ, suc, Bool, false, cond, List, [], ◌∷◌, ℤ, pos, ◌*ℤ◌, Some, None, Ok, Option, Result, slice_index_or, slice_set}
use Rattle.listing_fields.specs.declared.term.Term.{Term}
use Rattle.listing_fields.specs.Tests.{is_nought}
use Rattle.books.specs.declared.part.Column.{Column}
use Rattle.books.specs.Lists.{FullRow}
use Rattle.certificates.specs.declared.fault.DocketFault.{DocketFault}
use Rattle.certificates.specs.Bounds.{K}
use Rattle.reach.specs.Ranged.{reach, after, less}
use Rattle.multipliers.specs.Sums.{then, column_total}

-- the reduced costs by column
abbrev pub Table : Type 0
Table = List (Option ℤ)

-- the reduced costs, and the block of memory that holds them: where it begins, and for how many entries it has room
pub record Held : Type 0 where
  pub entries : Table
  pub block : Ptr
  pub room : ℕ

-- other entries in the same block
abbrev pub with_entries : Table → Held → Held
with_entries tab h = record { entries = tab; block = h.block; room = h.room }

-- an entry between calls
abbrev pub nought : Option ℤ
nought = Some (pos 0)

-- an entry is nought
abbrev pub is_clear : Option ℤ → Bool
is_clear None = false
is_clear (Some z) = is_nought z

-- what a column starts from
abbrev pub start : Column → Option ℤ
start c = reach (K *ℤ c.price)

-- a reduced cost less multiplier times coefficient
abbrev pub cost_less : Option ℤ → ℤ → ℤ → Option ℤ
cost_less o y a = after o (λ k. less k y a)

-- the table with the starts of the columns, of which the first has the number j
abbrev pub started : ℕ → List Column → Table → Table
started j [] tab = tab
started j (c ∷ cs) tab = started (suc j) cs (slice_set tab j (start c))

-- the table less a row's terms, each times the multiplier
abbrev pub terms_taken : List Term → ℤ → Table → Table
terms_taken [] y tab = tab
terms_taken (t ∷ ts) y tab = terms_taken ts y (slice_set tab t.column (cost_less (slice_index_or tab t.column None) y t.coefficient))

-- the same, where a row of multiplier nought takes nothing
abbrev pub row_taken : List Term → ℤ → Table → Table
row_taken ts y tab = cond (is_nought y) tab (terms_taken ts y tab)

-- the table less every row
abbrev pub rows_taken : List FullRow → List ℤ → Table → Table
rows_taken [] ys tab = tab
rows_taken (r ∷ rs) [] tab = tab
rows_taken (r ∷ rs) (y ∷ ys) tab = rows_taken rs ys (row_taken r.terms y tab)

-- the total t and what the columns add by the table, of which the first has the number j
abbrev pub table_total : ℕ → List Column → Table → ℤ → Result ℤ DocketFault
table_total j [] tab t = Ok t
table_total j (c ∷ cs) tab t = then (column_total j c (slice_index_or tab j None) t) (λ s. table_total (suc j) cs tab s)
