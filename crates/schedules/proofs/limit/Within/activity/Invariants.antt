use Rattle.std.proofs.Common.{length, drop}
use Rattle.books.specs.Schedules.{activity}
use Rattle.books.specs.Walks.{terms_of}
use Rattle.certificates.specs.Values.{quantities}
use Rattle.schedules.proofs.Magnitudes.{Sum}
use Rattle.schedules.proofs.limit.Within.activity.Given as goal

-- the sum so far, with that of the terms left, is the activity
abbrev pub invariant-loop-term : goal.invariant-loop-term
invariant-loop-term g l =
    let ts = terms_of (g.B.Book.meaning l.self.book.now) l.i in
    let xs = quantities l.self.values.bytes.now in
    (goal.iterator-loop-term g).can_next l.term-iterator
    × (goal.iterator-loop-term g).is_finite l.term-iterator
    × Sum 20000000000000 (length l.yielded) (activity ts xs) (activity (drop (length l.yielded) ts) xs) l.sum
