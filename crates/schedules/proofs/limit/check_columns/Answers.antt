use Rattle.std.proofs.Common.{rules, tests, arith, inl}
use Rattle.std.proofs.lemmas.List.{length-drop}
use Rattle.std.proofs.lemmas.Iterator.{YieldsList-from_zip}
use Rattle.std.proofs.lemmas.Iterator.Search.{position_from_yields_List}
use Rattle.books.proofs.Sounds.{sound_parts}
use Rattle.certificates.proofs.Roads.{columns_road, elements_road}
use Rattle.certificates.specs.Values.{quantities}
use Rattle.schedules.proofs.Scans.{beyond, columns_pass, column_broken}
use Rattle.schedules.proofs.limit.check_columns.Goals as goal

pub position-beyond-requires-clause-fits : goal.position-beyond-requires-clause-fits
position-beyond-requires-clause-fits g c =
    let few = (sound_parts _ (g.met.B.Book.kept c.zip.result.a.book.now)).few_columns in
    let left = length-drop c.zip.result.a.next (g.B.Book.meaning c.zip.result.a.book.now).columns in
    inl (omega (arith, few, left))

pub invariant_of-result : goal.invariant_of-result
invariant_of-result g c =
    let b = g.B.Book.meaning c.args.book.now in
    let vs = c.args.values.bytes.now in
    let road = YieldsList-from_zip {s = c.zip.result} (columns_road g.B.Book.meaning c.args.book.now (cc) (cc)) (elements_road quantities vs (cc)) in
    record {
      limits = columns_pass b.columns (quantities vs) _ (position_from_yields_List beyond c.position-beyond.new.self _ c.position-beyond.result c.position-beyond.ensures.ran road (λ x b q k. search (rules, tests))) (cc);
    }

pub returns-in-Some : goal.returns-in-Some
returns-in-Some g c =
    let b = g.B.Book.meaning c.args.book.now in
    let vs = c.args.values.bytes.now in
    let road = YieldsList-from_zip {s = c.zip.result} (columns_road g.B.Book.meaning c.args.book.now (cc) (cc)) (elements_road quantities vs (cc)) in
    column_broken b.columns (quantities vs) _ (position_from_yields_List beyond c.position-beyond.new.self _ c.position-beyond.result c.position-beyond.ensures.ran road (λ x b q k. search (rules, tests))) _ (cc)
