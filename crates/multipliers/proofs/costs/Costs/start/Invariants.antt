use Rattle.std.proofs.Common.{◌≡◌, ◌+◌, ◌≤◌, length, drop, vec_len, vec_items}
use Rattle.std.specs.Vec.{vec_ptr, vec_capacity}
use Rattle.multipliers.specs.Costs.{started}
use Rattle.multipliers.proofs.costs.Costs.start.Given as goal

-- what is left makes the whole
abbrev pub invariant-loop-j : goal.invariant-loop-j
invariant-loop-j g l =
    let it = l.j-iterator in
    let left = drop it.iter.next (g.B.Book.meaning it.iter.book.now).columns in
    (goal.iterator-loop-j g).can_next it
    × (goal.iterator-loop-j g).is_finite it
    × (it.count + length left ≤ 4000)
    × (started it.count left (vec_items l.self-inside.entries) ≡ started 0 (g.B.Book.meaning l.book).columns (vec_items l.initial.self-inside.entries))
    × (vec_len l.self-inside.entries ≡ 4000)
    × (vec_ptr l.self-inside.entries ≡ vec_ptr l.initial.self-inside.entries)
    × (vec_capacity l.self-inside.entries ≡ vec_capacity l.initial.self-inside.entries)
