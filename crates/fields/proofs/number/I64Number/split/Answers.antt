use Rattle.std.proofs.Common.{◌∙◌, w64, SFits, rules}
use Rattle.std.proofs.lemmas.Int.{to_z-of_z}
use Rattle.fields.proofs.Numbers.{split_signed_8}
use Rattle.fields.proofs.number.I64Number.split.Goals as goal

pub returns : goal.returns
returns c =
    let fits : SFits w64 c.from_be_bytes.result = search rules in
    split_signed_8 _ _ (search rules) c.type_inv.bytes (to_z-of_z w64 _ fits ∙ c.from_be_bytes.ensures)
