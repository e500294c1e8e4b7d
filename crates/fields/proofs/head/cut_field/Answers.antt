use Rattle.std.proofs.Common.{◌∙◌, refl, rules}
use Rattle.fields.proofs.Cutting.{no_head, no_body, whole}
use Rattle.fields.proofs.head.cut_field.Goals as goal

pub returns-in_default : goal.returns-in_default
returns-in_default c = (refl, no_head c.args.input.now (search rules))

pub returns-then-rest-long : goal.returns-then-rest-long
returns-then-rest-long c =
    (refl, no_body c.args.input.now _ (search rules) (c.from-long.ensures ∙ c.from_be_bytes.ensures) c.if-rest-long.true)

pub returns : goal.returns
returns c =
    whole c.args.input.now _ _ _ (search rules) c.type_inv.input (c.from-long.ensures ∙ c.from_be_bytes.ensures) c.if-rest-long.false c.split_at.ensures.front c.split_at.ensures.back
