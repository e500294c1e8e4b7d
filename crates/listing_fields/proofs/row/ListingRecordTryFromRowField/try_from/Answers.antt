use Rattle.std.proofs.Common.{◌≡◌, true, false, Some, sym, refl, ◌∙◌, arith, w64, SFits, rules}
use Rattle.std.proofs.lemmas.Bool.{and_left, and_right, and_from, le-leb, lt-leb}
use Rattle.std.proofs.lemmas.Int.{to_z-of_z}
use Rattle.std.proofs.lemmas.Option.{MatchOption-at_some}
use Rattle.listing_fields.specs.Terms.{terms_in}
use Rattle.listing_fields.specs.Entries.Entry.{row}
use Rattle.listing_fields.specs.Tests.{are_sides, in_range}
use Rattle.listing_fields.specs.Reading.{row_written}
use Rattle.listing_fields.proofs.Judged.{gives_terms}
use Rattle.listing_fields.proofs.row.ListingRecordTryFromRowField.try_from.Goals as goal
use Rattle.listing_fields.proofs.row.ListingRecordTryFromRowField.try_from.Goals.{then-row-gt19-via-then-row-gt19, then-row-gt19-via-else-row-gt19+then-not-are_in_range}

pub returns-then-row-gt19 : goal.returns-then-row-gt19
returns-then-row-gt19 c =
    let out : in_range (row_written c.args.row) ≡ false = elim c.then-row-gt19.branch [
      | then-row-gt19-via-then-row-gt19 w ↦ and_left _ _ (and_left _ _ (lt-leb _ _ w.if-row-gt19.true))
      | then-row-gt19-via-else-row-gt19+then-not-are_in_range w ↦ and_right _ _ (sym (w.if-not-are_in_range.ensures _ (gives_terms w.iter.result _ w.iter.ensures)))
    ] in (out, refl)

pub returns : goal.returns
returns c =
    let r = c.args.row in
    let some : c.sides_of.result ≡ Some (c.in_ok-lower.lower, c.in_ok-lower.upper) = grind arith in
    let sides = MatchOption-at_some _ _ _ some c.sides_of.ensures in
    let terms = sym (c.if-not-are_in_range.ensures _ (gives_terms c.iter.result _ c.iter.ensures)) in
    let fl : SFits w64 r.lower = search rules in
    let fu : SFits w64 r.upper = search rules in
    let l = to_z-of_z w64 r.lower fl in
    let u = to_z-of_z w64 r.upper fu in
    let lower = sides.2 ∙ l in
    let upper = sides.3 ∙ u in
    let sided : are_sides r.side r.lower r.upper ≡ true = (λ i. are_sides r.side (sym l i) (sym u i)) ∙ sides.0 in (
      and_from _ _ (and_from _ _ (le-leb _ _ c.if-row-gt19.false) sided) terms,
      λ i. row (record { code = r.code; side = sides.1 i; lower = lower i; upper = upper i; terms = terms_in r.terms.bytes.now }),
    )
