use Rattle.inputs.proofs.Determined.{one_case, cut_once}
use Rattle.inputs.proofs.law.parts_are_determined.Goals as goal

pub returns : goal.returns
returns c = record { case = one_case; cut = cut_once }
