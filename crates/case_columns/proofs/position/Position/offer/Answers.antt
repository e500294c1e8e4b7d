use Rattle.std.proofs.Common.{rules, tests, arith, ◌≡◌, ◌++◌, false}
use Rattle.std.proofs.lemmas.Grind.{common_steps}
use Rattle.std.proofs.lemmas.Iterator.{YieldsList-from_map}
use Rattle.std.proofs.lemmas.Iterator.Adapters.{items_from_extend}
use Rattle.std.proofs.lemmas.Iterator.Consumers.{YieldsList-at}
use Rattle.case_fields.specs.Parts.{blocks_in}
use Rattle.case_columns.specs.declared.name.Quantity.TheVariants.{OfferBlock}
use Rattle.case_columns.specs.Columns.{offer_front, block_column}
use Rattle.case_columns.proofs.Extended.{elements_road, behind}
use Rattle.case_columns.proofs.position.Position.offer.Goals as goal

pub returns : goal.returns
returns c =
    let was = c.args.columns.now.items in
    let front = offer_front c.args.self.kinds c.args.self.place c.args.offer.node c.args.offer.violation_price in
    let begun : c.extend_from_slice.new.self.items ≡ was ++ front = grind (arith, common_steps) in
    let added = items_from_extend c.extend.result c.extend.ensures.ran (YieldsList-from_map _ (block_column false OfferBlock c.args.self.place) (YieldsList-at c.map.ensures.source (elements_road blocks_in _ c.iter-blocks.ensures)) c.map.ensures.closure (λ x r q k. search (rules, tests))) in
    behind was front _ c.extend.new.self.items _ c.extend.result begun added (λ h. h.0)
