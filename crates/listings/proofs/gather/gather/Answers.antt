use Rattle.std.proofs.Common.{vec_items, ap, ◌∙◌, w32, SFits, rules}
use Rattle.std.proofs.lemmas.List.{map_more}
use Rattle.std.proofs.lemmas.Int.{to_z-of_z}
use Rattle.listing_fields.specs.Terms.{terms_in}
use Rattle.listing_fields.specs.Meant.{meant}
use Rattle.books.specs.declared.part.Column.{Column}
use Rattle.books.specs.Lists.{FullRow}
use Rattle.listings.proofs.Gathering.{column_more, row_more}
use Rattle.listings.proofs.gather.gather.Goals as goal
use Rattle.listings.proofs.gather.gather.Goals.{in-Column+in_ok-push-in-Column, in-Row+in_ok-owned_terms-in-Row+in_ok-push-in-Row}

pub loop-next-preserved : goal.loop-next-preserved
loop-next-preserved c =
    elim c.match-next.branch [
      | in-Column+in_ok-push-in-Column w ↦
          let i = w.in-Column in
          let column : Column = record { lower = i.lower; upper = i.upper; price = i.price; switch = i.switch } in
          let fl : SFits w32 i.lower = search rules in
          let fu : SFits w32 i.upper = search rules in
          let fp : SFits w32 i.price = search rules in
          let more = map_more meant c.args.records.now c.loop-next.next-index _ c.loop-next-test.true in
          column_more _ _ _ _ _ _ _ c.loop-next.invariant more _ column (λ j. record { lower = to_z-of_z w32 i.lower fl j; upper = to_z-of_z w32 i.upper fu j; price = to_z-of_z w32 i.price fp j; switch = i.switch })
          (ap meant i.is) (ap vec_items w.columns-is ∙ w.in_ok-push-in-Column.ensures.items) (ap vec_items w.rows-is)
      | in-Row+in_ok-owned_terms-in-Row+in_ok-push-in-Row w ↦
          let more = map_more meant c.args.records.now c.loop-next.next-index _ c.loop-next-test.true in
          let i = w.in-Row in
          let terms = w.in_ok-owned_terms-in-Row.ensures in
          let full : FullRow = record { code = i.code; lower = i.lower; upper = i.upper; terms = terms_in i.terms.bytes.now } in
          row_more _ _ _ _ _ _ _ c.loop-next.invariant more _ full (λ j. record { code = i.code; lower = i.lower; upper = i.upper; terms = terms j })
          (ap meant i.is) (ap vec_items w.columns-is) (ap vec_items w.rows-is ∙ w.in_ok-push-in-Row.ensures.items)
    ]
