use Rattle.std.proofs.Common.{◌<◌, length, arith, rules}
use Rattle.fields.proofs.Loops.{sizes}
use Rattle.fields.proofs.walk.FieldsIterator.next.Goals as goal

pub returns-in-Ok-clause-goes : goal.returns-in-Ok-clause-goes
returns-in-Ok-clause-goes c =
    let fewer : length c.in-Ok.rest.now < length c.args.self.now.rest.now = omega (arith, sizes c.in-Ok.ensures.0) in
    search rules
