-- The columns of a record have its place.
use Rattle.std.proofs.Common.{◌≡◌, ℕ, ◌+◌, Bool, true, false, List, [], ◌∷◌, map, refl, subst}
use Rattle.case_fields.specs.declared.part.Block.{Block}
use Rattle.case_fields.specs.declared.part.Point.{Point}
use Rattle.case_fields.specs.Entries.{Entry}
use Rattle.case_fields.specs.Entries.Entry.{period, node, line, energy_offer, bid, regulation_offer, requirement}
use Rattle.case_columns.specs.declared.name.Quantity.{Quantity}
use Rattle.case_columns.specs.declared.name.Quantity.TheVariants.{OfferBlock, BidBlock, RegulationBlock}
use Rattle.case_columns.specs.declared.kinds.Kinds.{Kinds}
use Rattle.case_columns.specs.Columns.{weight, block_column, columns_of}
use Rattle.case_columns.specs.Tables.{Own}

own_weights : (r : ℕ) (ps : List Point) → Own (r + 1) (map (weight r) ps)
own_weights r [] = tt
own_weights r (p ∷ ps) = (refl, own_weights r ps)

own_blocks : (bought : Bool) (q : Quantity) (r : ℕ) (bs : List Block) → Own (r + 1) (map (block_column bought q r) bs)
own_blocks bought q r [] = tt
own_blocks bought q r (b ∷ bs) = (refl, own_blocks bought q r bs)

own_columns : (k : Kinds) (r : ℕ) (e : Entry) → Own (r + 1) (columns_of k r e)
own_columns k r (period p) = tt
own_columns k r (node n) = (refl, (refl, (refl, (refl, tt))))
own_columns k r (line l) = (refl, (refl, (refl, (refl, (refl, (refl, own_weights r l.points))))))
own_columns k r (energy_offer o) = (refl, (refl, (refl, own_blocks false OfferBlock r o.blocks)))
own_columns k r (bid b) = (refl, own_blocks true BidBlock r b.blocks)
own_columns k r (regulation_offer o) = (refl, (refl, (refl, (refl, own_blocks false RegulationBlock r o.blocks))))
own_columns k r (requirement q) = (refl, tt)

pub own_added : (k : Kinds) (r : ℕ) (e : Entry) (n : ℕ) → r ≡ n → Own (n + 1) (columns_of k r e)
own_added k r e n p = subst (λ (m : ℕ). Own (m + 1) (columns_of k r e)) p (own_columns k r e)
