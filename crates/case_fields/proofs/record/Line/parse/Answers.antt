use Rattle.std.proofs.Common.{◌≡◌, ℕ, ◌%◌, List, [], ◌∷◌, length, refl, arith, rules}
use Rattle.fields.specs.Bytes.{signed_four, two, put}
use Rattle.case_fields.proofs.Pairs.{points_back, points_written}
use Rattle.case_fields.proofs.Parsing.{step, rest_bytes}
use Rattle.case_fields.proofs.record.Line.parse.Goals as goal

pub returns : goal.returns
returns c =
    let parts : List (List ℕ) = two c.in_ok-start.start ∷ two c.in_ok-end.end ∷ signed_four c.in_ok-forward_limit.forward_limit ∷ signed_four c.in_ok-reverse_limit.reverse_limit ∷ signed_four c.in_ok-admittance.admittance ∷ signed_four c.in_ok-shift.shift ∷ signed_four c.in_ok-violation_price.violation_price ∷ [] in
    let whole : c.args.body.now ≡ put parts c.in_ok-violation_price.bytes.now = step (two c.in_ok-start.start) c.in_ok-start.ensures.0 (step (two c.in_ok-end.end) c.in_ok-end.ensures.0 (step (signed_four c.in_ok-forward_limit.forward_limit) c.in_ok-forward_limit.ensures.0 (step (signed_four c.in_ok-reverse_limit.reverse_limit) c.in_ok-reverse_limit.ensures.0 (step (signed_four c.in_ok-admittance.admittance) c.in_ok-admittance.ensures.0 (step (signed_four c.in_ok-shift.shift) c.in_ok-shift.ensures.0 (c.in_ok-violation_price.ensures.0)))))) in
    let bytes = rest_bytes parts _ whole (λ k. (c.type_inv.body k).fits) in
    let eighths : length c.in_ok-violation_price.bytes.now % 8 ≡ 0 = omega (arith, c.requires.1, c.in_ok-start.ensures.1, c.in_ok-end.ensures.1, c.in_ok-forward_limit.ensures.1, c.in_ok-reverse_limit.ensures.1, c.in_ok-admittance.ensures.1, c.in_ok-shift.ensures.1, c.in_ok-violation_price.ensures.1) in
    rw c.new.ensures (record {
      bytes = search (rules, whole, points_back c.in_ok-violation_price.bytes.now bytes eighths);
      tagged = refl;
      written = (search rules, search rules, search rules, search rules, search rules, search rules, search rules, points_written c.in_ok-violation_price.bytes.now bytes);
    })
