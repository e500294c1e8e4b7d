use Rattle.std.proofs.Common.{rules}
use Rattle.fields.proofs.Sequences.{held_get_rest}
use Rattle.fields.proofs.sequence.Sequence.get.Goals as goal

pub returns : goal.returns
returns g c =
    let front = held_get_rest g.met.T.Element.laws c.args.self.bytes.now c.args.i in search rules
