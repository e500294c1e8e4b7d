-- The clauses of a case, one definition for each, as the rule book writes them.
use Rattle.std.specs.Prelude.{ℕ, ◌+◌, List, [], ◌∷◌, ◌++◌, ℤ, pos, ◌+ℤ◌, ◌-ℤ◌, ◌*ℤ◌, Some, None, Option}
use Rattle.case_fields.specs.Entries.{Entry}
use Rattle.case_fields.specs.Entries.Entry.{period, node, line, energy_offer, bid, regulation_offer, requirement}
use Rattle.case_fields.specs.Tests.{minus}
use Rattle.case_columns.specs.declared.name.Quantity.{Quantity}
use Rattle.case_columns.specs.declared.name.Quantity.TheVariants.{Injection, Angle, Deficit, Excess, Flow, Loss, OverForward, OverReverse, ShortW, OverW, Weight, Generation, OverUp, OverDown, OfferBlock, Purchase, BidBlock, Regulation, Switch, OverReg, ShortReg, RegulationBlock, ShortRequirement}
use Rattle.case_columns.specs.declared.kinds.Span.{Span}
use Rattle.case_columns.specs.declared.kinds.Kinds.{Kinds}
use Rattle.case_columns.specs.Kinds.{at, kinds}
use Rattle.case_columns.specs.Spread.{spread}
use Rattle.clauses.specs.declared.sum.Ends.TheVariants.{Any, Start, End}
use Rattle.clauses.specs.declared.sum.Pick.{Pick}
use Rattle.clauses.specs.declared.sum.Factor.TheVariants.{Number, Minus, MinusFlow, MinusLoss}
use Rattle.clauses.specs.declared.sum.Item.{Item}
use Rattle.clauses.specs.declared.setting.Setting.{Setting}
use Rattle.clauses.specs.Rows.{Clause, equal, about, at_least, at_most}

-- those of a quantity that belong to the record at a place
abbrev pub the : Quantity → ℕ → Pick
the q r = record { quantity = q; span = record { first = r; past = r + 1 }; ends = Any }

-- those of a quantity, of all records of a kind
abbrev pub all : Quantity → Span → Pick
all q k = record { quantity = q; span = k; ends = Any }

-- of these, those at a node; of lines, those that start there
abbrev pub starting : Quantity → Span → ℕ → Pick
starting q k r = record { quantity = q; span = k; ends = Start r }

-- of these, those of lines that end at a node
abbrev pub ending : Quantity → Span → ℕ → Pick
ending q k r = record { quantity = q; span = k; ends = End r }

-- a number times some columns, as one item
abbrev pub item : ℤ → Pick → Item
item c p = record { factor = Number c; pick = p }

-- minus a number times some columns, as one item
abbrev pub minus_item : ℤ → Pick → Item
minus_item c p = record { factor = Minus c; pick = p }

-- minus the Weights of a line, each times its point's flow, as one item
abbrev pub flows_item : ℕ → Item
flows_item r = record { factor = MinusFlow; pick = the Weight r }

-- minus the Weights of a line, each times its point's loss, as one item
abbrev pub losses_item : ℕ → Item
losses_item r = record { factor = MinusLoss; pick = the Weight r }

-- a number times some columns
infixl 7 ◌·◌
abbrev pub ◌·◌ : ℤ → Pick → List Item
c · p = item c p ∷ []

-- minus a number times some columns
infixl 7 ◌⁻·◌
abbrev pub ◌⁻·◌ : ℤ → Pick → List Item
c ⁻· p = minus_item c p ∷ []

-- minus the Weights of a line, each times its point's flow
abbrev pub minus_flows : ℕ → List Item
minus_flows r = flows_item r ∷ []

-- minus the Weights of a line, each times its point's loss
abbrev pub minus_losses : ℕ → List Item
minus_losses r = losses_item r ∷ []

-- one sum and another
infixl 6 ◌⊕◌
abbrev pub ◌⊕◌ : List Item → List Item → List Item
a ⊕ b = a ++ b

-- the InfinitePositiveValue
abbrev pub M : ℤ
M = pos 1000000

-- twice the Injection, less twice the Flows that leave, plus twice those that arrive, less the Losses of the lines here
abbrev pub node_flows : Setting → List Item
node_flows s =
    pos 2 · the Injection s.place
    ⊕ minus 2 · starting Flow s.kinds.lines s.place
    ⊕ pos 2 · ending Flow s.kinds.lines s.place
    ⊕ minus 1 · starting Loss s.kinds.lines s.place
    ⊕ minus 1 · ending Loss s.kinds.lines s.place

-- what flows into a node and out of it is balanced, within the allowance
abbrev pub d_16_1_1 : Setting → Clause
d_16_1_1 s = about 1 s.allowance (pos 0) (node_flows s)

-- the Injection, less the Generations here, plus the Purchases here, less the Deficit, plus the Excess
abbrev pub node_trade : Setting → List Item
node_trade s =
    pos 1 · the Injection s.place
    ⊕ minus 1 · starting Generation s.kinds.offers s.place
    ⊕ pos 1 · starting Purchase s.kinds.bids s.place
    ⊕ minus 1 · the Deficit s.place
    ⊕ pos 1 · the Excess s.place

-- what is generated and bought at a node is balanced
abbrev pub d_16_1_2 : Setting → Clause
d_16_1_2 s = equal 2 (pos 0) (node_trade s)

-- Flow plus OverReverse is at least the reverse limit
abbrev pub d_16_2_1 : Setting → ℤ → Clause
d_16_2_1 s reverse_limit = at_least 3 reverse_limit (pos 1 · the Flow s.place ⊕ pos 1 · the OverReverse s.place)

-- Flow less OverForward is at most the forward limit
abbrev pub d_16_2_2 : Setting → ℤ → Clause
d_16_2_2 s forward_limit = at_most 4 forward_limit (pos 1 · the Flow s.place ⊕ minus 1 · the OverForward s.place)

-- 1,000 times Flow is the admittance times the angle at the start less that at the end plus the shift, within the allowance; start and end are numbers of nodes
abbrev pub d_16_2_3 : Setting → ℕ → ℕ → ℤ → ℤ → Clause
d_16_2_3 s start end admittance shift =
    about 5 s.allowance (admittance *ℤ shift)
    (pos 1000 · the Flow s.place ⊕ admittance ⁻· the Angle (at s.kinds.nodes start) ⊕ admittance · the Angle (at s.kinds.nodes end))

-- 100,000 times Flow less ShortW plus OverW, less the Weights, each times its point's flow
abbrev pub weighed_flow : Setting → List Item
weighed_flow s =
    pos 100000 · the Flow s.place
    ⊕ minus 100000 · the ShortW s.place
    ⊕ pos 100000 · the OverW s.place
    ⊕ minus_flows s.place

-- the Flow is that of the weighed points, within the allowance
abbrev pub d_16_3_1 : Setting → Clause
d_16_3_1 s = about 6 s.allowance (pos 0) (weighed_flow s)

-- 100,000 times Loss is the sum of the points' losses by their Weights, within the allowance
abbrev pub d_16_3_2 : Setting → Clause
d_16_3_2 s = about 7 s.allowance (pos 0) (pos 100000 · the Loss s.place ⊕ minus_losses s.place)

-- the Weights of a line make 100,000
abbrev pub d_16_3_3 : Setting → Clause
d_16_3_3 s = equal 8 (pos 100000) (pos 1 · the Weight s.place)

-- a Generation is the sum of its blocks
abbrev pub d_15_1_2 : Setting → Clause
d_15_1_2 s = equal 9 (pos 0) (pos 1 · the Generation s.place ⊕ minus 1 · the OfferBlock s.place)

-- Generation less OverUp is at most the end maximum
abbrev pub d_19_1_1 : Setting → ℤ → Clause
d_19_1_1 s end_maximum = at_most 12 end_maximum (pos 1 · the Generation s.place ⊕ minus 1 · the OverUp s.place)

-- Generation plus OverDown is at least the end minimum
abbrev pub d_19_1_2 : Setting → ℤ → Clause
d_19_1_2 s end_minimum = at_least 13 end_minimum (pos 1 · the Generation s.place ⊕ pos 1 · the OverDown s.place)

-- a Purchase is the sum of its blocks
abbrev pub d_15_2_2 : Setting → Clause
d_15_2_2 s = equal 14 (pos 0) (pos 1 · the Purchase s.place ⊕ minus 1 · the BidBlock s.place)

-- a Regulation is the sum of its blocks
abbrev pub d_18_1_2 : Setting → Clause
d_18_1_2 s = equal 15 (pos 0) (pos 1 · the Regulation s.place ⊕ minus 1 · the RegulationBlock s.place)

-- with the Switch at 1, Generation plus Regulation less OverReg is at most the maximum; offer is the number of the energy offer
abbrev pub d_18_1_3 : Setting → ℕ → ℤ → Clause
d_18_1_3 s offer maximum =
    at_most 16 (maximum +ℤ M)
    (pos 1 · the Generation (at s.kinds.offers offer) ⊕ pos 1 · the Regulation s.place ⊕ minus 1 · the OverReg s.place ⊕ M · the Switch s.place)

-- with the Switch at 1, Generation less Regulation plus ShortReg is at least the minimum
abbrev pub d_18_1_4 : Setting → ℕ → ℤ → Clause
d_18_1_4 s offer minimum =
    at_least 17 (minimum -ℤ M)
    (pos 1 · the Generation (at s.kinds.offers offer) ⊕ minus 1 · the Regulation s.place ⊕ pos 1 · the ShortReg s.place ⊕ minus 1000000 · the Switch s.place)

-- with the Switch at 0 there is no Regulation
abbrev pub d_18_1_5 : Setting → Clause
d_18_1_5 s = at_most 18 (pos 0) (pos 1 · the Regulation s.place ⊕ minus 1000000 · the Switch s.place)

-- the Regulations and ShortRequirement are at least the requirement
abbrev pub d_18_2_1 : Setting → ℤ → Clause
d_18_2_1 s needed = at_least 19 needed (pos 1 · all Regulation s.kinds.regulations ⊕ pos 1 · the ShortRequirement s.place)

-- the clauses of a node, in the order of their codes
abbrev pub node_clauses : Setting → List Clause
node_clauses s = d_16_1_1 s ∷ d_16_1_2 s ∷ []

-- those of a line's limits
abbrev pub limit_clauses : Setting → ℤ → ℤ → List Clause
limit_clauses s forward_limit reverse_limit = d_16_2_1 s reverse_limit ∷ d_16_2_2 s forward_limit ∷ []

-- those of a line's points
abbrev pub loss_clauses : Setting → List Clause
loss_clauses s = d_16_3_1 s ∷ d_16_3_2 s ∷ d_16_3_3 s ∷ []

-- the clauses of a line
abbrev pub line_clauses : Setting → ℕ → ℕ → ℤ → ℤ → ℤ → ℤ → List Clause
line_clauses s start end forward_limit reverse_limit admittance shift =
    limit_clauses s forward_limit reverse_limit ++ d_16_2_3 s start end admittance shift ∷ loss_clauses s

-- the clauses of an energy offer
abbrev pub offer_clauses : Setting → ℤ → ℤ → List Clause
offer_clauses s end_minimum end_maximum = d_15_1_2 s ∷ d_19_1_1 s end_maximum ∷ d_19_1_2 s end_minimum ∷ []

-- the clauses of a regulation offer
abbrev pub regulation_clauses : Setting → ℕ → ℤ → ℤ → List Clause
regulation_clauses s offer minimum maximum = d_18_1_2 s ∷ d_18_1_3 s offer maximum ∷ d_18_1_4 s offer minimum ∷ d_18_1_5 s ∷ []

-- the clauses of a record in its setting
abbrev pub clauses_in : Setting → Entry → List Clause
clauses_in s (period p) = []
clauses_in s (node d) = node_clauses s
clauses_in s (line l) = line_clauses s l.start l.end l.forward_limit l.reverse_limit l.admittance l.shift
clauses_in s (energy_offer o) = offer_clauses s o.end_minimum o.end_maximum
clauses_in s (bid b) = d_15_2_2 s ∷ []
clauses_in s (regulation_offer o) = regulation_clauses s o.offer o.minimum o.maximum
clauses_in s (requirement q) = d_18_2_1 s q.requirement ∷ []

-- the allowance that a record sets
abbrev pub allowance_in : Entry → Option ℤ
allowance_in (period p) = Some p.allowance
allowance_in (node d) = None
allowance_in (line l) = None
allowance_in (energy_offer o) = None
allowance_in (bid b) = None
allowance_in (regulation_offer o) = None
allowance_in (requirement q) = None

-- what is set, or else another number
abbrev pub or_else : Option ℤ → ℤ → ℤ
or_else (Some z) y = z
or_else None y = y

-- the period's allowance
abbrev pub allowance : List Entry → ℤ
allowance [] = pos 0
allowance (e ∷ es) = or_else (allowance_in e) (allowance es)

-- what all records of a case have in common
pub record Common : Type 0 where
  pub kinds : Kinds
  pub allowance : ℤ

-- where the records of each kind stand, and the allowance
abbrev pub common : List Entry → Common
common es = record { kinds = kinds es; allowance = allowance es }

-- the clauses of the record at a place
abbrev pub clauses_of : Common → ℕ → Entry → List Clause
clauses_of m r e = clauses_in (record { kinds = m.kinds; allowance = m.allowance; place = r }) e

-- the clauses of a case, in file order
abbrev pub clauses : List Entry → List Clause
clauses es = spread (clauses_of (common es)) 0 es
