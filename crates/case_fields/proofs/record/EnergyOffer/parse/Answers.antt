use Rattle.std.proofs.Common.{◌≡◌, ℕ, ◌%◌, List, [], ◌∷◌, length, refl, arith, rules}
use Rattle.fields.specs.Bytes.{signed_four, two, put}
use Rattle.case_fields.proofs.Pairs.{blocks_back, blocks_written}
use Rattle.case_fields.proofs.Parsing.{step, rest_bytes}
use Rattle.case_fields.proofs.record.EnergyOffer.parse.Goals as goal

pub returns : goal.returns
returns c =
    let parts : List (List ℕ) = two c.in_ok-node.node ∷ signed_four c.in_ok-end_minimum.end_minimum ∷ signed_four c.in_ok-end_maximum.end_maximum ∷ signed_four c.in_ok-violation_price.violation_price ∷ [] in
    let whole : c.args.body.now ≡ put parts c.in_ok-violation_price.bytes.now = step (two c.in_ok-node.node) c.in_ok-node.ensures.0 (step (signed_four c.in_ok-end_minimum.end_minimum) c.in_ok-end_minimum.ensures.0 (step (signed_four c.in_ok-end_maximum.end_maximum) c.in_ok-end_maximum.ensures.0 (c.in_ok-violation_price.ensures.0))) in
    let bytes = rest_bytes parts _ whole (λ k. (c.type_inv.body k).fits) in
    let eighths : length c.in_ok-violation_price.bytes.now % 8 ≡ 0 = omega (arith, c.requires.1, c.in_ok-node.ensures.1, c.in_ok-end_minimum.ensures.1, c.in_ok-end_maximum.ensures.1, c.in_ok-violation_price.ensures.1) in
    rw c.new.ensures (record {
      bytes = search (rules, whole, blocks_back c.in_ok-violation_price.bytes.now bytes eighths);
      tagged = refl;
      written = (search rules, search rules, search rules, search rules, blocks_written c.in_ok-violation_price.bytes.now bytes);
    })
