use Rattle.std.proofs.Common.{◌∙◌, w32, SFits, rules}
use Rattle.std.proofs.lemmas.Int.{to_z-of_z}
use Rattle.fields.proofs.Numbers.{split_signed_4}
use Rattle.fields.proofs.number.I32Number.split.Goals as goal

pub returns : goal.returns
returns c =
    let fits : SFits w32 c.from_be_bytes.result = search rules in
    split_signed_4 _ _ (search rules) c.type_inv.bytes (to_z-of_z w32 _ fits ∙ c.from_be_bytes.ensures)
