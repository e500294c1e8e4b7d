use Rattle.docket.proofs.Established.{gap_never_grows}
use Rattle.docket.proofs.theorem.gap_never_grows.Goals as goal

pub returns : goal.returns
returns c = gap_never_grows
