use Rattle.std.proofs.Common.{◌∙◌, rules}
use Rattle.inputs.proofs.Tags.{names_kind}
use Rattle.inputs.proofs.part.is_certificate_tag.Goals as goal

pub returns : goal.returns
returns c = c.is_ok.ensures.value ∙ names_kind c.args.tag c.try_from.result c.try_from.ensures
