use Rattle.std.proofs.Common.{rules}
use Rattle.fields.proofs.Certified.{accepts, refuses}
use Rattle.fields.proofs.certificate.read_certificate.Goals as goal

pub returns-clause-accepts : goal.returns-clause-accepts
returns-clause-accepts c = accepts _ _ _ (search rules)

pub returns-clause-refuses : goal.returns-clause-refuses
returns-clause-refuses c = refuses _ _ _ (search rules)
