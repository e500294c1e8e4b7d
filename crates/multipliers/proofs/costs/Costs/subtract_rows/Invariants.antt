use Rattle.std.proofs.Common.{◌≡◌, ◌+◌, ◌<◌, ◌^◌, length, drop}
use Rattle.certificates.specs.Values.{multipliers}
use Rattle.multipliers.specs.Costs.{rows_taken}
use Rattle.multipliers.proofs.costs.Costs.subtract_rows.Given as goal

-- what is left makes the whole
abbrev pub invariant-loop-i : goal.invariant-loop-i
invariant-loop-i g l =
    let left = multipliers l.y-iterator.rest.now in
    let rs = (g.B.Book.meaning l.book).rows in
    (goal.iterator-loop-i g).can_next l.y-iterator
    × (goal.iterator-loop-i g).is_finite l.y-iterator
    × (l.i + length left < 2 ^ 64)
    × (rows_taken (drop l.i rs) left l.self.entries ≡ rows_taken rs (multipliers l.values.bytes.now) l.initial.self.entries)
    × (l.self.block ≡ l.initial.self.block)
    × (l.self.room ≡ l.initial.self.room)
