use Rattle.books.proofs.Walking.{few_heads}
use Rattle.books.proofs.walk.Rows.of.Goals as goal

pub returns-clause-few : goal.returns-clause-few
returns-clause-few g c = few_heads _ (g.met.B.Book.kept c.args.book.now)
