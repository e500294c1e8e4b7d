use Rattle.std.proofs.Common.{sym, ◌∙◌, rules}
use Rattle.books.proofs.Sounds.{sound_parts}
use Rattle.books.proofs.Walking.{left_some, stays, next_fits}
use Rattle.books.proofs.walk.ColumnsIterator.next.Goals as goal

pub returns-in_err-column-clause-steps : goal.returns-in_err-column-clause-steps
returns-in_err-column-clause-steps g c = stays ((g.B.Book.meaning c.args.self.now.book.now).columns) (c.args.self.now.next) _ (search rules) (sym c.column.ensures ∙ c.in_err-column.was)

pub overflow_add-self : goal.overflow_add-self
overflow_add-self g c =
    let small = next_fits ((g.B.Book.meaning c.args.self.now.book.now).columns) (c.args.self.now.next) _ 4000 (sym c.column.ensures ∙ c.in_ok-column.was) (sound_parts (g.B.Book.meaning c.args.self.now.book.now) (g.met.B.Book.kept c.args.self.now.book.now)).few_columns in
    search rules

pub returns-clause-steps : goal.returns-clause-steps
returns-clause-steps g c = left_some ((g.B.Book.meaning c.args.self.now.book.now).columns) (c.args.self.now.next) _ (sym c.column.ensures ∙ c.in_ok-column.was)

pub returns-clause-goes : goal.returns-clause-goes
returns-clause-goes g c =
    let more = left_some ((g.B.Book.meaning c.args.self.now.book.now).columns) (c.args.self.now.next) _ (sym c.column.ensures ∙ c.in_ok-column.was) in search rules
