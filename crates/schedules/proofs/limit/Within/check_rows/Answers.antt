use Rattle.std.proofs.Common.{rules, tests, arith, inl}
use Rattle.std.proofs.lemmas.List.{length-drop}
use Rattle.std.proofs.lemmas.Iterator.Consumers.{YieldsList-from_enumerate}
use Rattle.std.proofs.lemmas.Iterator.Search.{find_from_yields_List}
use Rattle.books.proofs.Walking.{few_heads}
use Rattle.books.specs.Schedules.{activity}
use Rattle.books.specs.Walks.{heads_of, terms_of}
use Rattle.certificates.proofs.Roads.{rows_road}
use Rattle.certificates.specs.Values.{quantities}
use Rattle.schedules.proofs.Scans.{beyond_sides, rows_checked}
use Rattle.schedules.proofs.limit.Within.check_rows.Goals as goal

pub find-requires-clause-can : goal.find-requires-clause-can
find-requires-clause-can g c =
    let b = g.B.Book.meaning c.enumerate.result.iter.book.now in
    let few = few_heads b (g.met.B.Book.kept c.enumerate.result.iter.book.now) in
    let left = length-drop c.enumerate.result.iter.next (heads_of b) in
    let first = c.enumerate.ensures.count in
    (tt, tt, inl (omega (arith, few, left, first)))

pub returns : goal.returns
returns g c =
    let b = g.B.Book.meaning c.args.self.now.book.now in
    let xs = quantities c.args.self.now.values.bytes.now in
    let road = YieldsList-from_enumerate {s = c.enumerate.result} (rows_road g.B.Book.meaning c.args.self.now.book.now (cc) (cc)) (cc) in
    rows_checked b xs c.find.result c.map_or.result _
    (find_from_yields_List (beyond_sides (λ i. activity (terms_of b i) xs)) c.find.new.self _ c.find.result c.find.ensures.ran road (λ x t q k. search (rules, tests)))
    (λ p k. search rules) c.map_or.ensures
