use Rattle.std.proofs.Common.{rules}
use Rattle.fields.proofs.Numbers.{split_1}
use Rattle.fields.proofs.number.U8Number.split.Goals as goal

pub returns : goal.returns
returns c = split_1 _ (search rules)
