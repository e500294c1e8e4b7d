use Rattle.worked_case.proofs.Listed.{worked}
use Rattle.worked_case.proofs.worked_case_lists.Goals as goal

pub returns : goal.returns
returns c = worked
