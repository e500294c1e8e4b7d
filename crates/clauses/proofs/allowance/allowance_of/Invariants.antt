use Rattle.std.proofs.Common.{◌≡◌, map, drop}
use Rattle.case_fields.specs.Meant.{meant}
use Rattle.clauses.specs.Clauses.{allowance}
use Rattle.clauses.proofs.allowance.allowance_of.Given as goal

-- no record so far sets one
abbrev pub invariant-loop-given : goal.invariant-loop-given
invariant-loop-given l = allowance (map meant l.records) ≡ allowance (map meant (drop l.given-index l.records))
