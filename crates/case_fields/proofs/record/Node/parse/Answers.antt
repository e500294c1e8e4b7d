use Rattle.std.proofs.Common.{◌≡◌, [], ◌∷◌, refl, rules}
use Rattle.std.proofs.lemmas.List.{nil_from_length}
use Rattle.fields.specs.Bytes.{signed_four, put}
use Rattle.case_fields.proofs.Parsing.{step}
use Rattle.case_fields.proofs.record.Node.parse.Goals as goal

pub returns : goal.returns
returns c =
    let whole : c.args.body.now ≡ put (signed_four c.in_ok-deficit_maximum.deficit_maximum ∷ signed_four c.in_ok-deficit_price.deficit_price ∷ signed_four c.in_ok-excess_maximum.excess_maximum ∷ signed_four c.in_ok-excess_price.excess_price ∷ []) c.in_ok-excess_price.field-0-1.now = step (signed_four c.in_ok-deficit_maximum.deficit_maximum) c.in_ok-deficit_maximum.ensures.0 (step (signed_four c.in_ok-deficit_price.deficit_price) c.in_ok-deficit_price.ensures.0 (step (signed_four c.in_ok-excess_maximum.excess_maximum) c.in_ok-excess_maximum.ensures.0 (c.in_ok-excess_price.ensures.0))) in
    record {
      bytes = search (rules, whole, nil_from_length c.in_ok-excess_price.field-0-1.now (search rules));
      tagged = refl;
      written = (search rules, search rules, search rules, search rules);
    }
