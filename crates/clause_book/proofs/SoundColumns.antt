-- Every column of a record that is in range keeps the conditions.
use Rattle.std.proofs.Common.{◌≡◌, ℕ, zero, suc, ◌<◌, min, Bool, true, false, cond, ◌&&◌, eqb, List, [], ◌∷◌, map, ℤ, pos, negsuc, neg_ℤ, refl, ap, ◌∙◌, arith}
use Rattle.std.proofs.lemmas.Int.{ints}
use Rattle.std.proofs.lemmas.Bool.{and_from}
use Rattle.case_fields.specs.declared.part.Block.{Block}
use Rattle.case_fields.specs.declared.part.Point.{Point}
use Rattle.case_fields.specs.Entries.{Entry}
use Rattle.case_fields.specs.Entries.Entry.{period, node, line, energy_offer, bid, regulation_offer, requirement}
use Rattle.case_fields.specs.Tests.{minus as minus_number, is_quantity, is_block_price, is_penalty, is_signed_quantity, each_block, each_point, in_range}
use Rattle.case_fields.proofs.Ranges.{parts}
use Rattle.listing_fields.specs.Tests.{is_price, is_coefficient}
use Rattle.books.specs.Conditions.{every, sound_column}
use Rattle.books.proofs.Sounds.{every_append}
use Rattle.case_columns.specs.declared.name.Name.{Name}
use Rattle.case_columns.specs.declared.name.Named.{Named}
use Rattle.case_columns.specs.declared.name.Quantity.{Quantity}
use Rattle.case_columns.specs.declared.name.Quantity.TheVariants.{Deficit, Excess, OverForward, OverReverse, ShortW, OverW, OverUp, OverDown, OfferBlock, BidBlock, OverReg, ShortReg, RegulationBlock, ShortRequirement}
use Rattle.case_columns.specs.declared.kinds.Kinds.{Kinds}
use Rattle.case_columns.specs.Columns.{minus, turn, priced, violation, weight, block_column, angle, line_front, offer_front, regulation_front, columns_of}
use Rattle.clause_book.proofs.Ranged.{ranged_line, ranged_offer, ranged_bid, ranged_regulation}
use Rattle.clause_book.proofs.Withins.{Between, between_parts, within_from, ordered}

-- a name whose point has numbers that a coefficient can have
abbrev pub tame : Name → Bool
tame n = is_coefficient n.flow && is_coefficient n.loss

-- a column that keeps the conditions, under such a name
abbrev pub kept : Named → Bool
kept c = sound_column c.column && tame c.name

-- minus a price is exact in range
minus_exact : (z : ℤ) → Between (minus_number 10000000) (pos 10000000) z → minus z ≡ neg_ℤ z
minus_exact (pos zero) b = refl
minus_exact (pos (suc n)) b =
    let h : n < 10000000 = omega (arith, ints, b.below) in
    let e : min n 2147483647 ≡ n = omega arith in
    ap negsuc e
minus_exact (negsuc n) b =
    let h : n < 10000000 = omega (arith, ints, b.above) in
    let e : min (suc n) 2147483647 ≡ suc n = omega arith in
    ap pos e

minus_between : (z : ℤ) → Between (minus_number 10000000) (pos 10000000) z → is_price (minus z) ≡ true
minus_between z b =
    ap is_price (minus_exact z b)
    ∙ within_from 10000000 (neg_ℤ z) (record { above = omega (arith, ints); below = omega (arith, ints) })

penalty_price : (z : ℤ) → is_penalty z ≡ true → is_price (minus z) ≡ true
penalty_price z h =
    let b = between_parts (pos 0) (pos 10000000) z h in
    minus_between z (record { above = omega (arith, ints); below = b.below })

-- a column from nought to a quantity
quantity_sound : (most price : ℤ) → is_quantity most ≡ true → is_price price ≡ true → sound_column (record { lower = pos 0; upper = most; price = price; switch = false }) ≡ true
quantity_sound most price h p =
    let b = between_parts (pos 0) (pos 1000000) most h in
    let limit = within_from 20000000 most (record { above = omega (arith, ints); below = omega (arith, ints) }) in
    and_from _ _ (and_from _ _ (and_from _ _ limit (ordered (pos 0) most b.above)) p) refl

priced_kept : (q : Quantity) (r n : ℕ) (most price : ℤ) → is_quantity most ≡ true → is_penalty price ≡ true → kept (priced q r n most price) ≡ true
priced_kept q r n most price h p = and_from _ _ (quantity_sound most (minus price) h (penalty_price price p)) refl

violation_kept : (q : Quantity) (r : ℕ) (price : ℤ) → is_penalty price ≡ true → kept (violation q r price) ≡ true
violation_kept q r price p = and_from _ _ (quantity_sound (pos 1000000) (minus price) refl (penalty_price price p)) refl

block_price : (bought : Bool) (z : ℤ) → is_block_price z ≡ true → is_price (cond bought z (minus z)) ≡ true
block_price true z h = within_from 10000000 z (between_parts _ _ z h)
block_price false z h = minus_between z (between_parts _ _ z h)

blocks_kept : (bought : Bool) (q : Quantity) (r : ℕ) (bs : List Block) → each_block bs ≡ true → every kept (map (block_column bought q r) bs) ≡ true
blocks_kept bought q r [] h = refl
blocks_kept bought q r (b ∷ bs) h =
    let p = parts _ _ h in
    let s = parts _ _ p.0 in
    and_from (kept (block_column bought q r b)) _ (and_from _ _ (quantity_sound b.maximum (cond bought b.price (minus b.price)) s.1 (block_price bought b.price s.0)) refl)
    (blocks_kept bought q r bs p.1)

flow_tame : (z : ℤ) → is_signed_quantity z ≡ true → is_coefficient z ≡ true
flow_tame z h = within_from 1000000 z (between_parts _ _ z h)

loss_tame : (z : ℤ) → is_quantity z ≡ true → is_coefficient z ≡ true
loss_tame z h =
    let b = between_parts (pos 0) (pos 1000000) z h in
    within_from 1000000 z (record { above = omega (arith, ints); below = b.below })

weights_kept : (r : ℕ) (ps : List Point) → each_point ps ≡ true → every kept (map (weight r) ps) ≡ true
weights_kept r [] h = refl
weights_kept r (x ∷ ps) h =
    let p = parts _ _ h in
    let s = parts _ _ p.0 in
    and_from (kept (weight r x)) _ (and_from _ _ (flow_tame x.flow s.0) (loss_tame x.loss s.1)) (weights_kept r ps p.1)

angle_kept : (b : Bool) → sound_column (record { lower = turn b (neg_ℤ (pos 1000000)); upper = turn b (pos 1000000); price = pos 0; switch = false }) ≡ true
angle_kept true = refl
angle_kept false = refl

pub columns_kept : (k : Kinds) (r : ℕ) (e : Entry) → in_range e ≡ true → every kept (columns_of k r e) ≡ true
columns_kept k r (period p) h = refl
columns_kept k r (node d) h =
    let a = parts _ _ h in
    let b = parts _ _ a.1 in
    let c = parts _ _ b.1 in
    and_from (kept (angle r k.nodes.first)) _ (and_from _ _ (angle_kept (eqb r k.nodes.first)) refl)
    (and_from _ _ (priced_kept Deficit r r d.deficit_maximum d.deficit_price a.0 b.0)
    (and_from _ _ (priced_kept Excess r r d.excess_maximum d.excess_price c.0 c.1) refl))
columns_kept k r (line l) h =
    let g = ranged_line l h in
    let v = l.violation_price in
    every_append kept (line_front k r l.start l.end v) (map (weight r) l.points)
    (and_from _ _ (violation_kept OverForward r v g.price)
    (and_from _ _ (violation_kept OverReverse r v g.price)
    (and_from _ _ (violation_kept ShortW r v g.price) (and_from _ _ (violation_kept OverW r v g.price) refl))))
    (weights_kept r l.points g.points)
columns_kept k r (energy_offer o) h =
    let g = ranged_offer o h in
    let v = o.violation_price in
    every_append kept (offer_front k r o.node v) (map (block_column false OfferBlock r) o.blocks)
    (and_from _ _ (violation_kept OverUp r v g.price) (and_from _ _ (violation_kept OverDown r v g.price) refl))
    (blocks_kept false OfferBlock r o.blocks g.blocks)
columns_kept k r (bid b) h = blocks_kept true BidBlock r b.blocks (ranged_bid b h)
columns_kept k r (regulation_offer o) h =
    let g = ranged_regulation o h in
    let v = o.violation_price in
    every_append kept (regulation_front r v) (map (block_column false RegulationBlock r) o.blocks)
    (and_from _ _ (violation_kept OverReg r v g.price) (and_from _ _ (violation_kept ShortReg r v g.price) refl))
    (blocks_kept false RegulationBlock r o.blocks g.blocks)
columns_kept k r (requirement q) h =
    let a = parts _ _ h in
    and_from _ _ (priced_kept ShortRequirement r 0 q.requirement q.deficit_price a.0 a.1) refl
