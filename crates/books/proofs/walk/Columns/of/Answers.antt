use Rattle.books.proofs.Sounds.{sound_parts}
use Rattle.books.proofs.walk.Columns.of.Goals as goal

pub returns-clause-few : goal.returns-clause-few
returns-clause-few g c = (sound_parts _ (g.met.B.Book.kept c.args.book.now)).few_columns
