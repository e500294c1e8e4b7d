use Rattle.std.proofs.Common.{◌≡◌, ◌%◌, length, arith, w64, SFits, rules}
use Rattle.std.proofs.lemmas.Int.{to_z-of_z}
use Rattle.std.proofs.lemmas.Bool.{eq-eqb}
use Rattle.listing_fields.proofs.Parsed.{row_parsed, row_terms_written}
use Rattle.listing_fields.proofs.row.RowField.read.Goals as goal

pub returns : goal.returns
returns c =
    let k = c.in_ok-code.ensures in
    let s = c.in_ok-side.ensures in
    let l = c.in_ok-lower.ensures in
    let u = c.in_ok-upper.ensures in
    let fl : SFits w64 c.in_ok-lower.lower = search rules in
    let fu : SFits w64 c.in_ok-upper.upper = search rules in
    let whole : length c.in_ok-upper.rest.now % 6 ≡ 0 = search rules in (
      eq-eqb _ _ (omega (arith, k.1, s.1, l.1, u.1)),
      row_parsed _ _ _ _ _ _ _ _ _ _ _ _ (to_z-of_z w64 _ fl) (to_z-of_z w64 _ fu) (λ i. (c.type_inv.bytes i).fits) k.0 s.0 l.0 u.0 c.new.ensures whole,
      (search rules, search rules, search rules, search rules, row_terms_written _ _ _ _ _ _ _ _ _ _ _ _ (to_z-of_z w64 _ fl) (to_z-of_z w64 _ fu) (λ i. (c.type_inv.bytes i).fits) k.0 s.0 l.0 u.0 c.new.ensures),
    )
