use Rattle.std.proofs.Common.{rules, tests}
use Rattle.std.proofs.lemmas.Iterator.{YieldsList-from_zip}
use Rattle.std.proofs.lemmas.Iterator.Consumers.{YieldsList-from_enumerate}
use Rattle.std.proofs.lemmas.Iterator.Search.{find_from_yields_List}
use Rattle.books.specs.Walks.{heads_of}
use Rattle.certificates.proofs.Roads.{rows_road, elements_road}
use Rattle.certificates.specs.Values.{multipliers}
use Rattle.multipliers.proofs.Passes.{refuses, first_found}
use Rattle.multipliers.proofs.rows.check_rows.Goals as goal

pub returns : goal.returns
returns g c test acts =
    let b = g.B.Book.meaning c.args.book.now in
    let ys = multipliers c.args.values.bytes.now in
    let road = YieldsList-from_enumerate {s = c.enumerate.result} (YieldsList-from_zip {s = c.enumerate.result.iter} (rows_road g.B.Book.meaning c.args.book.now (cc) (cc)) (elements_road multipliers c.args.values.bytes.now (cc))) (cc) in
    first_found test (heads_of b) ys c.find.result c.map_or.result _
    (find_from_yields_List (refuses test) c.find.new.self _ c.find.result c.find.ensures.ran road (λ x t q k. search (rules, tests, acts)))
    (λ p k. search rules) c.map_or.ensures
