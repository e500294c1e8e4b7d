use Rattle.std.proofs.Common.{ap, ◌∙◌, w32, SFits, rules}
use Rattle.std.specs.List.{slice_get}
use Rattle.std.proofs.lemmas.Int.{to_z-of_z}
use Rattle.certificates.specs.Values.{quantities}
use Rattle.schedules.proofs.Scans.{number_at}
use Rattle.schedules.proofs.activity.number_of.Goals as goal

pub returns : goal.returns
returns c =
    let fits : SFits w32 c.map_or.result = search rules in
    to_z-of_z w32 _ fits ∙ number_at (quantities c.args.values.bytes.now) c.args.column _ _ _ (c.get.ensures ∙ ap (λ i. slice_get (quantities c.args.values.bytes.now) i) c.from.ensures) (λ x p. search rules) c.map_or.ensures
