-- What coefficient each column has in a sum.
use Rattle.std.specs.Prelude.{ℕ, Bool, true, false, ◌&&◌, List, [], ◌∷◌, ℤ, pos, ◌+ℤ◌, neg_ℤ, ◌==◌}
use Rattle.case_columns.specs.declared.name.Quantity.{Quantity}
use Rattle.case_columns.specs.declared.name.Quantity.TheVariants.{Injection, Angle, Deficit, Excess, Flow, Loss, OverForward, OverReverse, ShortW, OverW, Weight, Generation, OverUp, OverDown, OfferBlock, Purchase, BidBlock, Regulation, Switch, OverReg, ShortReg, RegulationBlock, ShortRequirement}
use Rattle.case_columns.specs.declared.name.Name.{Name}
use Rattle.case_columns.specs.declared.name.Named.{Named}
use Rattle.case_columns.specs.Placed.{among}
use Rattle.clauses.specs.declared.sum.Ends.{Ends}
use Rattle.clauses.specs.declared.sum.Ends.TheVariants.{Any, Start, End}
use Rattle.clauses.specs.declared.sum.Pick.{Pick}
use Rattle.clauses.specs.declared.sum.Factor.{Factor}
use Rattle.clauses.specs.declared.sum.Factor.TheVariants.{Number, Minus, MinusFlow, MinusLoss}
use Rattle.clauses.specs.declared.sum.Item.{Item}

-- a number for each quantity
abbrev pub number_of : Quantity → ℕ
number_of Injection = 0
number_of Angle = 1
number_of Deficit = 2
number_of Excess = 3
number_of Flow = 4
number_of Loss = 5
number_of OverForward = 6
number_of OverReverse = 7
number_of ShortW = 8
number_of OverW = 9
number_of Weight = 10
number_of Generation = 11
number_of OverUp = 12
number_of OverDown = 13
number_of OfferBlock = 14
number_of Purchase = 15
number_of BidBlock = 16
number_of Regulation = 17
number_of Switch = 18
number_of OverReg = 19
number_of ShortReg = 20
number_of RegulationBlock = 21
number_of ShortRequirement = 22

-- a column is where it counts
abbrev pub at_ends : Ends → Name → Bool
at_ends Any n = true
at_ends (Start r) n = n.start == r
at_ends (End r) n = n.end == r

-- a column is among those picked
abbrev pub picks : Pick → Name → Bool
picks k n = among k.span.first k.span.past n && (number_of n.quantity == number_of k.quantity && at_ends k.ends n)

-- what a column is multiplied by
abbrev pub factor : Factor → Name → ℤ
factor (Number c) n = c
factor (Minus c) n = neg_ℤ c
factor MinusFlow n = neg_ℤ n.flow
factor MinusLoss n = neg_ℤ n.loss

-- a number, or nought
abbrev pub when : Bool → ℤ → ℤ
when true z = z
when false z = pos 0

-- what an item adds to the coefficient of a column
abbrev pub amount : Item → Name → ℤ
amount i n = when (picks i.pick n) (factor i.factor n)

-- the coefficient of a column in a sum
abbrev pub coefficient : List Item → Name → ℤ
coefficient [] n = pos 0
coefficient (i ∷ is) n = amount i n +ℤ coefficient is n

-- the coefficients of a sum, column by column
abbrev pub sum : List Item → Named → ℤ
sum is c = coefficient is c.name
