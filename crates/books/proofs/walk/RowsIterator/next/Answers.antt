use Rattle.std.proofs.Common.{sym, ◌∙◌, rules}
use Rattle.books.proofs.Walking.{head_at, few_heads}
use Rattle.books.proofs.Walking.{left_some, stays, next_fits}
use Rattle.books.specs.Walks.{heads_of}
use Rattle.books.proofs.walk.RowsIterator.next.Goals as goal

pub returns-in_err-row-clause-steps : goal.returns-in_err-row-clause-steps
returns-in_err-row-clause-steps g c = stays (heads_of (g.B.Book.meaning c.args.self.now.book.now)) (c.args.self.now.next) _ (search rules) (head_at (g.B.Book.meaning c.args.self.now.book.now) c.args.self.now.next ∙ sym c.row.ensures ∙ c.in_err-row.was)

pub overflow_add-self : goal.overflow_add-self
overflow_add-self g c =
    let small = next_fits (heads_of (g.B.Book.meaning c.args.self.now.book.now)) (c.args.self.now.next) _ 4000 (head_at (g.B.Book.meaning c.args.self.now.book.now) c.args.self.now.next ∙ sym c.row.ensures ∙ c.in_ok-row.was) (few_heads (g.B.Book.meaning c.args.self.now.book.now) (g.met.B.Book.kept c.args.self.now.book.now)) in
    search rules

pub returns-clause-steps : goal.returns-clause-steps
returns-clause-steps g c = left_some (heads_of (g.B.Book.meaning c.args.self.now.book.now)) (c.args.self.now.next) _ (head_at (g.B.Book.meaning c.args.self.now.book.now) c.args.self.now.next ∙ sym c.row.ensures ∙ c.in_ok-row.was)

pub returns-clause-goes : goal.returns-clause-goes
returns-clause-goes g c =
    let more = left_some (heads_of (g.B.Book.meaning c.args.self.now.book.now)) (c.args.self.now.next) _ (head_at (g.B.Book.meaning c.args.self.now.book.now) c.args.self.now.next ∙ sym c.row.ensures ∙ c.in_ok-row.was) in search rules
