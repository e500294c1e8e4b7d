use Rattle.std.proofs.Common.{◌≡◌, ap, ◌∙◌, w32, SFits, rules}
use Rattle.std.proofs.lemmas.Int.{to_z-of_z}
use Rattle.fields.specs.Bytes.{four, signed_four}
use Rattle.listing_fields.specs.Meant.{switch_byte}
use Rattle.listings.proofs.Parts.{column_put}
use Rattle.listings.proofs.put.Writer.put_column.Goals as goal

pub returns : goal.returns
unfolding four signed_four
returns c =
    let col = c.args.column in
    let fl : SFits w32 col.lower = search rules in
    let fu : SFits w32 col.upper = search rules in
    let fp : SFits w32 col.price = search rules in
    let switch : c.from.result ≡ switch_byte col.switch = search rules in
    column_put col c.tag.result c.from.result _ _ _ c.tag.ensures
    (c.to_be_bytes.ensures ∙ ap signed_four (to_z-of_z w32 col.lower fl))
    (c.to_be_bytes-2.ensures ∙ ap signed_four (to_z-of_z w32 col.upper fu))
    (c.to_be_bytes-3.ensures ∙ ap signed_four (to_z-of_z w32 col.price fp))
    switch c.put.ensures c.put-2.ensures c.put-3.ensures c.put-4.ensures c.put-5.ensures
