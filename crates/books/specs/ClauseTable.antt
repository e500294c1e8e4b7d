-- The clause of each code, and the form of its row.
use Rattle.std.specs.Prelude.{◌≡◌, ℕ, suc, Bool, true, false, not, ◌&&◌, ◌||◌, List, [], ◌∷◌, length, codes, Option, ◌==◌, nat_le, slice_index}
use Rattle.std.specs.List.{slice_get}
use Rattle.books.specs.declared.clause.Clause.{Clause}
use Rattle.books.specs.declared.clause.RowForm.{RowForm}
use Rattle.books.specs.declared.clause.RowForm.TheVariants.{AnySides, Unused, Equal, Widened, AtLeast, AtMost}

-- a clause's text, as bytes, and the form of its row
pub record NamedClause : Type 0 where
  pub text : List ℕ
  pub form : RowForm

abbrev clause : List ℕ → RowForm → NamedClause
clause t f = record { text = t; form = f }

-- by code, from 0
abbrev pub clauses : List NamedClause
clauses =
    clause (codes "added row") AnySides
    ∷ clause (codes "D.16.1.1") Widened
    ∷ clause (codes "D.16.1.2") Equal
    ∷ clause (codes "D.16.2.1") AtLeast
    ∷ clause (codes "D.16.2.2") AtMost
    ∷ clause (codes "D.16.2.3") Widened
    ∷ clause (codes "D.16.3.1") Widened
    ∷ clause (codes "D.16.3.2") Widened
    ∷ clause (codes "D.16.3.3") Equal
    ∷ clause (codes "D.15.1.2") Equal
    ∷ clause (codes "unused") Unused
    ∷ clause (codes "unused") Unused
    ∷ clause (codes "D.19.1.1") AtMost
    ∷ clause (codes "D.19.1.2") AtLeast
    ∷ clause (codes "D.15.2.2") Equal
    ∷ clause (codes "D.18.1.2") Equal
    ∷ clause (codes "D.18.1.3") AtMost
    ∷ clause (codes "D.18.1.4") AtLeast
    ∷ clause (codes "D.18.1.5") AtMost
    ∷ clause (codes "D.18.2.1") AtLeast
    ∷ []

-- an entry of the code's table
abbrev pub entry_of : Clause → NamedClause
entry_of c = record { text = c.text.now; form = c.form }

-- the clause of a code, or none past the last code
abbrev pub clause_at : ℕ → Option NamedClause
clause_at code = slice_get clauses code

-- The rule of the table: the codes 1 to 9 and 12 to 19 name a clause of the rule book, whose row has sides of one of four forms.
abbrev named : ℕ → Bool
named code = (nat_le 1 code && nat_le code 9) || nat_le 12 code

abbrev is_clause_text : List ℕ → Bool
is_clause_text t = slice_index t 0 == 68 && slice_index t 1 == 46

abbrev has_form : RowForm → Bool
has_form AnySides = false
has_form Unused = false
has_form Equal = true
has_form Widened = true
has_form AtLeast = true
has_form AtMost = true

abbrev same : Bool → Bool → Bool
same true b = b
same false b = not b

abbrev ruled_from : ℕ → List NamedClause → Bool
ruled_from code [] = true
ruled_from code (c ∷ cs) = same (named code) (is_clause_text c.text) && same (named code) (has_form c.form) && ruled_from (suc code) cs

abbrev pub TableRuled : Type 0
TableRuled = (length clauses ≡ 20) × (ruled_from 0 clauses ≡ true)
