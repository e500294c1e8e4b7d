use Rattle.std.proofs.Common.{rules, tests, arith, ◌≡◌, ◌++◌, [], ◌∷◌, true}
use Rattle.std.proofs.lemmas.Grind.{common_steps}
use Rattle.std.proofs.lemmas.Iterator.{YieldsList-from_map}
use Rattle.std.proofs.lemmas.Iterator.Adapters.{items_from_extend}
use Rattle.std.proofs.lemmas.Iterator.Consumers.{YieldsList-at}
use Rattle.case_fields.specs.Parts.{blocks_in}
use Rattle.case_columns.specs.declared.name.Quantity.TheVariants.{Purchase, BidBlock}
use Rattle.case_columns.specs.Kinds.{at}
use Rattle.case_columns.specs.Columns.{free, block_column}
use Rattle.case_columns.proofs.Extended.{elements_road, behind}
use Rattle.case_columns.proofs.position.Position.bid.Goals as goal

pub returns : goal.returns
returns c =
    let was = c.args.columns.now.items in
    let front = free Purchase c.args.self.place (at c.args.self.kinds.nodes c.args.bid.node) ∷ [] in
    let begun : c.push.new.self.items ≡ was ++ front = grind (arith, common_steps) in
    let added = items_from_extend c.extend.result c.extend.ensures.ran (YieldsList-from_map _ (block_column true BidBlock c.args.self.place) (YieldsList-at c.map.ensures.source (elements_road blocks_in _ c.iter.ensures)) c.map.ensures.closure (λ x r q k. search (rules, tests))) in
    behind was front _ c.extend.new.self.items _ c.extend.result begun added (λ h. h.0)
