-- The numbers by which a column is named.
use Rattle.std.specs.Prelude.{ℕ, zero, suc, ◌-◌, Bool, false, cond, ◌&&◌, ◌||◌, List, Some, None, Option, ◌==◌}
use Rattle.std.specs.List.{slice_get}
use Rattle.std.specs.Option.{option_map}
use Rattle.case_columns.specs.declared.name.Quantity.{Quantity}
use Rattle.case_columns.specs.declared.name.Quantity.TheVariants.{Injection, Angle, Deficit, Excess, Flow, Loss, OverForward, OverReverse, ShortW, OverW, Weight, Generation, OverUp, OverDown, OfferBlock, Purchase, BidBlock, Regulation, Switch, OverReg, ShortReg, RegulationBlock, ShortRequirement}
use Rattle.case_columns.specs.declared.name.Name.{Name}
use Rattle.case_columns.specs.declared.name.Named.{Named}
use Rattle.case_columns.specs.declared.kinds.Kinds.{Kinds}
use Rattle.clauses.specs.Sums.{number_of as quantity_number}
use Rattle.model_text.specs.declared.name.ColumnName.{ColumnName}

-- the first record of the kind that has a quantity; the requirement is of no kind with numbers
abbrev pub first_of : Kinds → Quantity → Option ℕ
first_of k Injection = Some k.nodes.first
first_of k Angle = Some k.nodes.first
first_of k Deficit = Some k.nodes.first
first_of k Excess = Some k.nodes.first
first_of k Flow = Some k.lines.first
first_of k Loss = Some k.lines.first
first_of k OverForward = Some k.lines.first
first_of k OverReverse = Some k.lines.first
first_of k ShortW = Some k.lines.first
first_of k OverW = Some k.lines.first
first_of k Weight = Some k.lines.first
first_of k Generation = Some k.offers.first
first_of k OverUp = Some k.offers.first
first_of k OverDown = Some k.offers.first
first_of k OfferBlock = Some k.offers.first
first_of k Purchase = Some k.bids.first
first_of k BidBlock = Some k.bids.first
first_of k Regulation = Some k.regulations.first
first_of k Switch = Some k.regulations.first
first_of k OverReg = Some k.regulations.first
first_of k ShortReg = Some k.regulations.first
first_of k RegulationBlock = Some k.regulations.first
first_of k ShortRequirement = None

-- the number of a column's record among those of its kind
abbrev pub number_of : Kinds → Name → Option ℕ
number_of k n = option_map (λ (first : ℕ). n.place - first) (first_of k n.quantity)

-- two quantities are the same
abbrev pub same : Quantity → Quantity → Bool
same p q = quantity_number p == quantity_number q

-- a record has several columns of this quantity, one for each point or block
abbrev pub is_part : Quantity → Bool
is_part q = same q Weight || same q OfferBlock || same q BidBlock || same q RegulationBlock

-- a column is of the record and the quantity of a name
abbrev pub is_like : Option Named → Name → Bool
is_like None n = false
is_like (Some c) n = c.name.place == n.place && same c.name.quantity n.quantity

-- how many columns straight before one of a number are of the record and the quantity of a name
abbrev pub parts_before : List Named → Name → ℕ → ℕ
parts_before cs n zero = 0
parts_before cs n (suc i) = cond (is_like (slice_get cs i) n) (suc (parts_before cs n i)) 0

-- the name of the column of a number
abbrev pub column_name : Kinds → List Named → ℕ → Name → ColumnName
column_name k cs j n =
    record {
      quantity = n.quantity;
      number = number_of k n;
      part = cond (is_part n.quantity) (Some (parts_before cs n j)) None;
    }
