use Rattle.std.proofs.Common.{◌≡◌, ◌+◌}
use Rattle.clause_book.specs.Books.{named_in}
use Rattle.model_text.specs.Names.{parts_before}
use Rattle.model_text.proofs.name.parts_before.Given as goal

-- those counted so far and those before the next column are all
abbrev pub invariant-loop-i : goal.invariant-loop-i
invariant-loop-i l = (l.n + parts_before (named_in l.initial.book) l.name l.i ≡ parts_before (named_in l.initial.book) l.name l.j) × (l.n + l.i ≡ l.j)
