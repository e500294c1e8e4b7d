use Rattle.std.proofs.Common.{◌≡◌, ◌+◌, ◌≤◌, length, drop}
use Rattle.multipliers.proofs.Passes.{costs_total}
use Rattle.multipliers.proofs.costs.Costs.add_columns.Given as goal

-- what is left makes the whole
abbrev pub invariant-loop-j : goal.invariant-loop-j
invariant-loop-j g l =
    let it = l.j-iterator in
    let left = drop it.iter.a.next (g.B.Book.meaning it.iter.a.book.now).columns in
    (goal.iterator-loop-j g).can_next it
    × (goal.iterator-loop-j g).is_finite it
    × (it.count + length left ≤ 4000)
    × (costs_total it.count left it.iter.b.rest.now l.sum ≡ costs_total 0 (g.B.Book.meaning l.book).columns l.fn.self.entries l.initial.sum)
