-- The columns that each record gives, in their order, each with its name.
use Rattle.std.specs.Prelude.{ℕ, Bool, true, false, cond, List, [], ◌∷◌, ◌++◌, map, ℤ, pos, neg_ℤ, ◌==◌}
use Rattle.std.specs.Int.{saturate_to_bits}
use Rattle.case_fields.specs.declared.part.Block.{Block}
use Rattle.case_fields.specs.declared.part.Point.{Point}
use Rattle.case_fields.specs.Entries.{Node, Line, EnergyOffer, Bid, RegulationOffer, Requirement, Entry}
use Rattle.case_fields.specs.Entries.Entry.{period, node, line, energy_offer, bid, regulation_offer, requirement}
use Rattle.case_columns.specs.declared.name.Quantity.{Quantity}
use Rattle.case_columns.specs.declared.name.Quantity.TheVariants.{Injection, Angle, Deficit, Excess, Flow, Loss, OverForward, OverReverse, ShortW, OverW, Weight, Generation, OverUp, OverDown, OfferBlock, Purchase, BidBlock, Regulation, Switch, OverReg, ShortReg, RegulationBlock, ShortRequirement}
use Rattle.case_columns.specs.declared.name.Named.{Named}
use Rattle.case_columns.specs.declared.kinds.Kinds.{Kinds}
use Rattle.case_columns.specs.Kinds.{at, kinds}
use Rattle.case_columns.specs.Spread.{spread}

-- minus a price, if need be the highest that a column can have
abbrev pub minus : ℤ → ℤ
minus z = saturate_to_bits 31 (neg_ℤ z)

-- a column of the record at a place, counted at a node, with its limits and its price
abbrev pub column_of : Quantity → ℕ → ℕ → ℤ → ℤ → ℤ → Named
column_of q r n low high price = record {
  name = record { quantity = q; place = r; start = n; end = 0; flow = pos 0; loss = pos 0 };
  column = record { lower = low; upper = high; price = price; switch = false };
}

-- 0 to 1,000,000, at no price
abbrev pub free : Quantity → ℕ → ℕ → Named
free q r n = column_of q r n (pos 0) (pos 1000000) (pos 0)

-- 0 to a maximum, at minus a price
abbrev pub priced : Quantity → ℕ → ℕ → ℤ → ℤ → Named
priced q r n most price = column_of q r n (pos 0) most (minus price)

-- 0 to 1,000,000, at minus the violation price
abbrev pub violation : Quantity → ℕ → ℤ → Named
violation q r price = column_of q r 0 (pos 0) (pos 1000000) (minus price)

-- a line's Flow or Loss, from the node where the line starts to that where it ends
abbrev pub between : Quantity → ℕ → ℕ → ℕ → ℤ → Named
between q r start end low = record {
  name = record { quantity = q; place = r; start = start; end = end; flow = pos 0; loss = pos 0 };
  column = record { lower = low; upper = pos 1000000; price = pos 0; switch = false };
}

-- a point's Weight, 0 to 100,000
abbrev pub weight : ℕ → Point → Named
weight r p = record {
  name = record { quantity = Weight; place = r; start = 0; end = 0; flow = p.flow; loss = p.loss };
  column = record { lower = pos 0; upper = pos 100000; price = pos 0; switch = false };
}

-- a regulation offer's Switch, 0 or 1
abbrev pub switch_column : ℕ → Named
switch_column r = record {
  name = record { quantity = Switch; place = r; start = 0; end = 0; flow = pos 0; loss = pos 0 };
  column = record { lower = pos 0; upper = pos 1; price = pos 0; switch = true };
}

-- 0 to a block's maximum; what is bought has the block's price, what is sold minus it
abbrev pub block_column : Bool → Quantity → ℕ → Block → Named
block_column bought q r b = column_of q r 0 (pos 0) b.maximum (cond bought b.price (minus b.price))

-- a node's Injection, within ±20,000,000
abbrev pub injection : ℕ → Named
injection r = column_of Injection r r (neg_ℤ (pos 20000000)) (pos 20000000) (pos 0)

-- the limit of an angle, which is nought at the reference node
abbrev pub turn : Bool → ℤ → ℤ
turn true z = pos 0
turn false z = z

-- a node's Angle, within ±1,000,000
abbrev pub angle : ℕ → ℕ → Named
angle r reference =
    column_of Angle r r (turn (r == reference) (neg_ℤ (pos 1000000))) (turn (r == reference) (pos 1000000)) (pos 0)

-- the columns of a node; k says where the records of each kind stand, and r is the place of this one
abbrev pub node_columns : Kinds → ℕ → Node → List Named
node_columns k r d =
    injection r
    ∷ angle r k.nodes.first
    ∷ priced Deficit r r d.deficit_maximum d.deficit_price
    ∷ priced Excess r r d.excess_maximum d.excess_price
    ∷ []

-- a line's columns before its Weights; start and end are numbers of nodes
abbrev pub line_front : Kinds → ℕ → ℕ → ℕ → ℤ → List Named
line_front k r start end price =
    between Flow r (at k.nodes start) (at k.nodes end) (neg_ℤ (pos 1000000))
    ∷ between Loss r (at k.nodes start) (at k.nodes end) (pos 0)
    ∷ violation OverForward r price
    ∷ violation OverReverse r price
    ∷ violation ShortW r price
    ∷ violation OverW r price
    ∷ []

-- the columns of a line
abbrev pub line_columns : Kinds → ℕ → Line → List Named
line_columns k r l = line_front k r l.start l.end l.violation_price ++ map (weight r) l.points

-- an energy offer's columns before its blocks; n is the number of its node
abbrev pub offer_front : Kinds → ℕ → ℕ → ℤ → List Named
offer_front k r n price =
    free Generation r (at k.nodes n)
    ∷ violation OverUp r price
    ∷ violation OverDown r price
    ∷ []

-- the columns of an energy offer
abbrev pub offer_columns : Kinds → ℕ → EnergyOffer → List Named
offer_columns k r o = offer_front k r o.node o.violation_price ++ map (block_column false OfferBlock r) o.blocks

-- the columns of a bid
abbrev pub bid_columns : Kinds → ℕ → Bid → List Named
bid_columns k r b = free Purchase r (at k.nodes b.node) ∷ map (block_column true BidBlock r) b.blocks

-- a regulation offer's columns before its blocks
abbrev pub regulation_front : ℕ → ℤ → List Named
regulation_front r price =
    free Regulation r 0
    ∷ switch_column r
    ∷ violation OverReg r price
    ∷ violation ShortReg r price
    ∷ []

-- the columns of a regulation offer
abbrev pub regulation_columns : ℕ → RegulationOffer → List Named
regulation_columns r o = regulation_front r o.violation_price ++ map (block_column false RegulationBlock r) o.blocks

-- the column of the requirement
abbrev pub requirement_columns : ℕ → Requirement → List Named
requirement_columns r q = priced ShortRequirement r 0 q.requirement q.deficit_price ∷ []

-- the columns of one record
abbrev pub columns_of : Kinds → ℕ → Entry → List Named
columns_of k r (period p) = []
columns_of k r (node d) = node_columns k r d
columns_of k r (line l) = line_columns k r l
columns_of k r (energy_offer o) = offer_columns k r o
columns_of k r (bid b) = bid_columns k r b
columns_of k r (regulation_offer o) = regulation_columns r o
columns_of k r (requirement q) = requirement_columns r q

-- the named columns of a case, in file order
abbrev pub columns : List Entry → List Named
columns es = spread (columns_of (kinds es)) 0 es
