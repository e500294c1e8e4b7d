use Rattle.inputs.proofs.Walking.{Going}
use Rattle.inputs.proofs.part.case_length.Given as goal

abbrev pub invariant-loop-offset : goal.invariant-loop-offset
invariant-loop-offset l = Going l.input l.offset-iterator
