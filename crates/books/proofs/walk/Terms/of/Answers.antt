use Rattle.books.proofs.Walking.{few_terms}
use Rattle.books.proofs.walk.Terms.of.Goals as goal

pub returns-clause-few : goal.returns-clause-few
returns-clause-few g c = few_terms _ (g.met.B.Book.kept c.args.book.now) c.args.row
