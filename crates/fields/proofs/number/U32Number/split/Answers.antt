use Rattle.std.proofs.Common.{rules}
use Rattle.fields.proofs.Numbers.{split_4}
use Rattle.fields.proofs.number.U32Number.split.Goals as goal

pub returns : goal.returns
returns c = split_4 _ _ (search rules) c.type_inv.bytes c.from_be_bytes.ensures
