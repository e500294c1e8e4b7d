use Rattle.std.proofs.Common.{◌≡◌, ◌++◌, map, drop}
use Rattle.case_fields.specs.Meant.{meant}
use Rattle.case_columns.specs.Spread.{spread}
use Rattle.case_columns.specs.Tables.{columns_in}
use Rattle.clauses.specs.Rows.{row_of}
use Rattle.clauses.specs.Stored.{rows_in}
use Rattle.clauses.specs.Clauses.{common, clauses_of, clauses}
use Rattle.clauses.proofs.build.rows_of.Given as goal

-- the rows so far and those of the records left make the whole
abbrev pub invariant-loop-place : goal.invariant-loop-place
invariant-loop-place l =
    rows_in l.rows ++ spread (λ r e. map (row_of (columns_in l.table)) (clauses_of (common (map meant l.records)) r e)) l.place (map meant (drop l.place l.records))
    ≡ map (row_of (columns_in l.table)) (clauses (map meant l.records))
