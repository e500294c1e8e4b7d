use Rattle.std.proofs.Common.{ap, ◌∙◌, w64, SFits, rules}
use Rattle.std.proofs.lemmas.Int.{to_z-of_z}
use Rattle.fields.specs.Bytes.{two, eight, signed_eight}
use Rattle.listings.proofs.Parts.{head_put}
use Rattle.listings.proofs.put.Writer.put_head.Goals as goal

pub returns : goal.returns
unfolding two eight signed_eight
returns c =
    let row = c.args.row in
    let fl : SFits w64 c.side_number.result = search rules in
    let fu : SFits w64 c.side_number-2.result = search rules in
    head_put row c.tag.result c.side_byte.result _ _ _ c.tag.ensures c.to_be_bytes.ensures c.side_byte.ensures
    (c.to_be_bytes-2.ensures ∙ ap signed_eight (to_z-of_z w64 _ fl ∙ c.side_number.ensures))
    (c.to_be_bytes-3.ensures ∙ ap signed_eight (to_z-of_z w64 _ fu ∙ c.side_number-2.ensures))
    c.put.ensures c.put-2.ensures c.put-3.ensures c.put-4.ensures c.put-5.ensures
