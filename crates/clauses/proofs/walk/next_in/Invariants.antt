use Rattle.std.proofs.Common.{◌≡◌, ℕ, ◌<◌, ◌≤◌, length, get_or, drop}
use Rattle.case_columns.specs.declared.name.Named.{Named}
use Rattle.case_columns.specs.Tables.{columns_in}
use Rattle.clauses.specs.Sums.{sum}
use Rattle.clauses.proofs.walk.next_in.Given as goal

-- up to the best so far only what is left of the items counts
abbrev pub invariant-loop-item : goal.invariant-loop-item
invariant-loop-item l =
    (l.from ≤ l.best)
    × (l.best ≤ length (columns_in l.table))
    × ((i : ℕ) (d : Named) → l.from ≤ i → i < l.best → sum l.items (get_or (columns_in l.table) i d) ≡ sum (drop l.item-index l.items) (get_or (columns_in l.table) i d))
