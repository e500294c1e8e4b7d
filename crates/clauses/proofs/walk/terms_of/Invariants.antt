use Rattle.std.proofs.Common.{◌≡◌, ◌-◌, ◌≤◌, ◌++◌, length, drop, vec_items}
use Rattle.case_columns.specs.Tables.{columns_in}
use Rattle.clauses.specs.Sums.{sum}
use Rattle.clauses.specs.Terms.{terms, terms_from}
use Rattle.clauses.proofs.walk.terms_of.Given as goal

-- what is listed and what is left make the whole
abbrev pub invariant-loop-named : goal.invariant-loop-named
invariant-loop-named l =
    (l.at ≤ length (columns_in l.table))
    × (terms (sum l.items) (columns_in l.table) ≡ vec_items l.out ++ terms_from l.at (sum l.items) (drop l.at (columns_in l.table)))

abbrev pub decreases-loop-named : goal.decreases-loop-named
decreases-loop-named l = length (columns_in l.table) - l.at
