use Rattle.std.proofs.Common.{ap, rules}
use Rattle.std.proofs.lemmas.Iterator.Adapters.{items_from_extend}
use Rattle.std.proofs.lemmas.Iterator.Consumers.{YieldsList-from_first}
use Rattle.fields.specs.declared.sequence.Elements.{Elements}
use Rattle.listing_fields.specs.declared.term.Term.{Term}
use Rattle.listing_fields.specs.Terms.{terms_in}
use Rattle.listings.proofs.gather.owned_terms.Goals as goal

pub returns : goal.returns
returns c =
    let added = items_from_extend c.extend.result c.extend.ensures.ran (YieldsList-from_first (λ (t : Term). t) (λ (z : Elements Term). terms_in z.rest.now) _ (ap terms_in c.iter.ensures)) in
    search rules
