-- Reduced costs in one block are told by their entries, their block and its room; and a working table by its costs.
use Rattle.std.proofs.Common.{◌≡◌, true, length}
use mathlib.Core.Bool.{Bool-set}
use mathlib.Core.HLevel.{is_prop→PathP}
use native.Mathlib.Nat.{ℕ_set}
use Rattle.books.specs.Conditions.{every}
use Rattle.multipliers.specs.Costs.{Held, is_clear}
use Rattle.multipliers.specs.declared.working_table.WorkingTable.{WorkingTable}

pub held_same : (h k : Held) → h.entries ≡ k.entries → h.block ≡ k.block → h.room ≡ k.room → h ≡ k
held_same h k entries block room = λ i. record { entries = entries i; block = block i; room = room i }

pub table_same : (s t : WorkingTable) → s.costs ≡ t.costs → s ≡ t
table_same s t e = λ i. record {
  costs = e i;
  long = is_prop→PathP (λ k. length (e k).entries ≡ 4000) (λ k. ℕ_set _ _) s.long t.long i;
  clear = is_prop→PathP (λ k. every is_clear (e k).entries ≡ true) (λ k. Bool-set _ _) s.clear t.clear i;
}
