use Rattle.certificates.proofs.Weak.{weak_duality}
use Rattle.certificates.proofs.duality.bound_caps_schedules.Goals as goal

pub returns : goal.returns
returns c = weak_duality
