use Rattle.std.proofs.Common.{◌≡◌, ℕ, ◌%◌, List, [], ◌∷◌, length, refl, arith, rules}
use Rattle.fields.specs.Bytes.{two, put}
use Rattle.case_fields.proofs.Pairs.{blocks_back, blocks_written}
use Rattle.case_fields.proofs.Parsing.{rest_bytes}
use Rattle.case_fields.proofs.record.Bid.parse.Goals as goal

pub returns : goal.returns
returns c =
    let parts : List (List ℕ) = two c.in_ok-node.node ∷ [] in
    let whole : c.args.body.now ≡ put parts c.in_ok-node.bytes.now = c.in_ok-node.ensures.0 in
    let bytes = rest_bytes parts _ whole (λ k. (c.type_inv.body k).fits) in
    let eighths : length c.in_ok-node.bytes.now % 8 ≡ 0 = omega (arith, c.requires.1, c.in_ok-node.ensures.1) in
    rw c.new.ensures (record {
      bytes = search (rules, whole, blocks_back c.in_ok-node.bytes.now bytes eighths);
      tagged = refl;
      written = (search rules, blocks_written c.in_ok-node.bytes.now bytes);
    })
