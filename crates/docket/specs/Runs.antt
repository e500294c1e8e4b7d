-- Whole runs: a docket is opened on a book, calls are made in any order, and the standing is read after each.
use Rattle.std.specs.Prelude.{◌≡◌, ℕ, suc, ◌≤◌, List, length, take, Some}
use Rattle.std.specs.List.{slice_get}
use Rattle.books.specs.Lists.{Lists}
use Rattle.docket.specs.declared.run.Answer.{Answer}
use Rattle.docket.specs.declared.run.Call.{Call}
use Rattle.docket.specs.declared.standing.Standing.{Standing}
use Rattle.docket.specs.Calls.{Laid, laid, RightVerdict}
use Rattle.docket.specs.Standings.{StandingOf, Shrinks}

abbrev pub laid_by : Call → Laid
laid_by c = laid c.kind c.field.now

-- the answers to the calls on a book, and what stands in the end
pub record RightRun (b : Lists) (calls : List Laid) (answers : List Answer) (last : Standing) : Type 0 where
  -- every call is answered
  pub each : length answers ≡ length calls
  -- each verdict is the right one
  pub verdicts : (k : ℕ) (c : Laid) (a : Answer) → slice_get calls k ≡ Some c → slice_get answers k ≡ Some a → RightVerdict b c a.verdict
  -- what stands after each call is what the calls so far establish
  pub standings : (k : ℕ) (a : Answer) → slice_get answers k ≡ Some a → StandingOf b (take (suc k) calls) a.standing
  pub final : StandingOf b calls last
  -- a gap that is there stays, and does not grow
  pub gaps : (j k : ℕ) (p q : Answer) → j ≤ k → slice_get answers j ≡ Some p → slice_get answers k ≡ Some q → Shrinks p.standing.gap q.standing.gap
