use Rattle.std.proofs.Common.{◌∙◌, w32, SFits, rules}
use Rattle.std.proofs.lemmas.Int.{to_z-of_z}
use Rattle.listing_fields.proofs.Sixes.{terms_more}
use Rattle.listing_fields.proofs.term.TermElement.split.Goals as goal

pub returns : goal.returns
returns c =
    let fits : SFits w32 c.from_be_bytes-coefficient.result = search rules in
    terms_more _ _ _ (search rules) c.from_be_bytes-column.ensures (to_z-of_z w32 _ fits ∙ c.from_be_bytes-coefficient.ensures)
