use Rattle.std.proofs.Common.{sym, ◌∙◌, rules}
use Rattle.books.proofs.Walking.{term_there, few_terms}
use Rattle.books.proofs.Walking.{left_some, stays, next_fits}
use Rattle.books.specs.Walks.{terms_of}
use Rattle.books.proofs.walk.TermsIterator.next.Goals as goal

pub returns-in_err-term-clause-steps : goal.returns-in_err-term-clause-steps
returns-in_err-term-clause-steps g c = stays (terms_of (g.B.Book.meaning c.args.self.now.book.now) c.args.self.now.row) (c.args.self.now.next) _ (search rules) (term_there (g.B.Book.meaning c.args.self.now.book.now) c.args.self.now.row c.args.self.now.next ∙ sym c.term.ensures ∙ c.in_err-term.was)

pub overflow_add-self : goal.overflow_add-self
overflow_add-self g c =
    let small = next_fits (terms_of (g.B.Book.meaning c.args.self.now.book.now) c.args.self.now.row) (c.args.self.now.next) _ 4000 (term_there (g.B.Book.meaning c.args.self.now.book.now) c.args.self.now.row c.args.self.now.next ∙ sym c.term.ensures ∙ c.in_ok-term.was) (few_terms (g.B.Book.meaning c.args.self.now.book.now) (g.met.B.Book.kept c.args.self.now.book.now) c.args.self.now.row) in
    search rules

pub returns-clause-steps : goal.returns-clause-steps
returns-clause-steps g c = left_some (terms_of (g.B.Book.meaning c.args.self.now.book.now) c.args.self.now.row) (c.args.self.now.next) _ (term_there (g.B.Book.meaning c.args.self.now.book.now) c.args.self.now.row c.args.self.now.next ∙ sym c.term.ensures ∙ c.in_ok-term.was)

pub returns-clause-goes : goal.returns-clause-goes
returns-clause-goes g c =
    let more = left_some (terms_of (g.B.Book.meaning c.args.self.now.book.now) c.args.self.now.row) (c.args.self.now.next) _ (term_there (g.B.Book.meaning c.args.self.now.book.now) c.args.self.now.row c.args.self.now.next ∙ sym c.term.ensures ∙ c.in_ok-term.was) in search rules
