use Rattle.std.proofs.Common.{◌≡◌, map, take, vec_items}
use Rattle.docket.specs.Runs.{laid_by}
use Rattle.docket.proofs.Running.{SoFar}
use Rattle.docket.proofs.run.judge_calls.Given as goal

abbrev pub invariant-loop-call : goal.invariant-loop-call
invariant-loop-call g l =
    record {
      answered : SoFar (g.B.Book.meaning l.book) (map laid_by (take l.call-index l.calls)) (vec_items l.answers) l.docket.standing;
      book : l.docket.book ≡ l.book;
    }
