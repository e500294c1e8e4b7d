use Rattle.std.proofs.Common.{length, drop}
use Rattle.std.specs.List.{zip}
use Rattle.certificates.specs.Values.{quantities}
use Rattle.schedules.proofs.Magnitudes.{Sum}
use Rattle.schedules.proofs.Scans.{gains}
use Rattle.schedules.proofs.limit.Within.net_benefit.Given as goal

-- the sum so far, with that of the columns left, is the net benefit
abbrev pub invariant-loop-column : goal.invariant-loop-column
invariant-loop-column g l =
    let pairs = zip (g.B.Book.meaning l.self.book.now).columns (quantities l.self.values.bytes.now) in
    (goal.iterator-loop-column g).can_next l.column-iterator
    × (goal.iterator-loop-column g).is_finite l.column-iterator
    × Sum 200000000000000 (length l.yielded) (gains pairs) (gains (drop (length l.yielded) pairs)) l.sum
