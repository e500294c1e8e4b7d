use Rattle.std.proofs.Common.{◌≡◌, ◌*◌, drop, pos, ◌+ℤ◌, neg_ℤ, ◌≤ℤ◌}
use Rattle.clauses.specs.Sums.{coefficient}
use Rattle.clauses.proofs.weigh.coefficient.Given as goal

-- what is added and what is left make the whole
abbrev pub invariant-loop-item : goal.invariant-loop-item
invariant-loop-item l =
    (l.sum +ℤ coefficient (drop l.item-index l.items) l.name ≡ coefficient l.items l.name)
    × (neg_ℤ (pos (l.item-index * 2147483648)) ≤ℤ l.sum)
    × (l.sum ≤ℤ pos (l.item-index * 2147483648))
