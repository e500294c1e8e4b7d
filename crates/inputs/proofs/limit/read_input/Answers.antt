use Rattle.std.proofs.Common.{sym}
use Rattle.inputs.proofs.Limited.{read_front}
use Rattle.inputs.proofs.limit.read_input.Goals as goal

pub returns : goal.returns
returns g c bs e =
    read_front g.R.Read.remaining c.args.reader c.take.result.inner bs _ _ 65537 _ (sym c.take.ensures.inner) (sym c.take.ensures.limit) c.new-input.ensures.items e c.in_ok-read_to_end.ensures.bytes
