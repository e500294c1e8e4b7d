use Rattle.std.proofs.Common.{◌≡◌, ◌+◌, ◌≤◌, length, drop, pos}
use Rattle.books.specs.Walks.{heads_of}
use Rattle.certificates.specs.Values.{multipliers}
use Rattle.multipliers.proofs.Passes.{heads_total}
use Rattle.multipliers.proofs.rows.add_rows.Given as goal

-- what is left makes the whole
abbrev pub invariant-loop-i : goal.invariant-loop-i
invariant-loop-i g l =
    let it = l.i-iterator in
    let left = drop it.iter.a.next (heads_of (g.B.Book.meaning it.iter.a.book.now)) in
    (goal.iterator-loop-i g).can_next it
    × (goal.iterator-loop-i g).is_finite it
    × (it.count + length left ≤ 4000)
    × (heads_total it.count left (multipliers it.iter.b.rest.now) l.total ≡ heads_total 0 (heads_of (g.B.Book.meaning l.book)) (multipliers l.values.bytes.now) (pos 0))
