use Rattle.std.proofs.Common.{ap, ◌∙◌, w32, SFits, rules}
use Rattle.std.proofs.lemmas.Int.{to_z-of_z}
use Rattle.fields.specs.Bytes.{two, four, signed_four}
use Rattle.listings.proofs.Parts.{term_put}
use Rattle.listings.proofs.put.Writer.put_term.Goals as goal

pub returns : goal.returns
unfolding two four signed_four
returns c =
    let t = c.args.term in
    let fits : SFits w32 t.coefficient = search rules in
    term_put t _ _ c.to_be_bytes.ensures (c.to_be_bytes-2.ensures ∙ ap signed_four (to_z-of_z w32 t.coefficient fits)) c.put.ensures c.put-2.ensures
