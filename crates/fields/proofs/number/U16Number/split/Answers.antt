use Rattle.std.proofs.Common.{rules}
use Rattle.fields.proofs.Numbers.{split_2}
use Rattle.fields.proofs.number.U16Number.split.Goals as goal

pub returns : goal.returns
returns c = split_2 _ _ (search rules) c.type_inv.bytes c.from_be_bytes.ensures
