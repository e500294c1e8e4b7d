use Rattle.std.proofs.Common.{ltb, rules, tests}
use Rattle.std.proofs.lemmas.Iterator.Search.{all_from_yields_List}
use Rattle.listing_fields.specs.declared.term.Term.{Term}
use Rattle.listing_fields.proofs.term.refer.Goals as goal

pub returns : goal.returns
returns g c ts y =
    all_from_yields_List {steps = g.I.Iterator.next_gives} {v = λ (t : Term). t} (λ (t : Term). ltb t.column c.args.columns) _ _ _ c.all.ensures.ran (record { runs = y }) (λ x b q k. search (rules, tests))
