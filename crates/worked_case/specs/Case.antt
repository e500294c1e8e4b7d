-- The worked case: one node, two energy offers, one bid, two regulation offers and a requirement, as bytes and as records.
use Rattle.std.specs.Prelude.{ℕ, List, [], ◌∷◌, ◌++◌, pos}
use Rattle.case_fields.specs.declared.part.Block.{Block}
use Rattle.case_fields.specs.Entries.{Entry}
use Rattle.case_fields.specs.Entries.Entry.{period, node, energy_offer, bid, regulation_offer, requirement}

-- the bytes of each field
abbrev period_bytes : List ℕ
period_bytes = 1 ∷ 0 ∷ 8 ∷ 0 ∷ 0 ∷ 0 ∷ 1 ∷ 0 ∷ 0 ∷ 0 ∷ 0 ∷ []

abbrev node_bytes : List ℕ
node_bytes = 2 ∷ 0 ∷ 16 ∷ 0 ∷ 15 ∷ 66 ∷ 64 ∷ 0 ∷ 15 ∷ 66 ∷ 64 ∷ 0 ∷ 15 ∷ 66 ∷ 64 ∷ 0 ∷ 15 ∷ 66 ∷ 64 ∷ []

abbrev offer_0_bytes : List ℕ
offer_0_bytes = 4 ∷ 0 ∷ 22 ∷ 0 ∷ 0 ∷ 0 ∷ 0 ∷ 0 ∷ 0 ∷ 0 ∷ 15 ∷ 66 ∷ 64 ∷ 0 ∷ 15 ∷ 66 ∷ 64 ∷ 0 ∷ 0 ∷ 78 ∷ 32 ∷ 0 ∷ 3 ∷ 13 ∷ 64 ∷ []

abbrev offer_1_bytes : List ℕ
offer_1_bytes = 4 ∷ 0 ∷ 22 ∷ 0 ∷ 0 ∷ 0 ∷ 0 ∷ 0 ∷ 0 ∷ 0 ∷ 15 ∷ 66 ∷ 64 ∷ 0 ∷ 15 ∷ 66 ∷ 64 ∷ 0 ∷ 0 ∷ 66 ∷ 104 ∷ 0 ∷ 6 ∷ 26 ∷ 128 ∷ []

abbrev bid_bytes : List ℕ
bid_bytes = 5 ∷ 0 ∷ 10 ∷ 0 ∷ 0 ∷ 0 ∷ 1 ∷ 134 ∷ 160 ∷ 0 ∷ 7 ∷ 161 ∷ 32 ∷ []

abbrev regulation_0_bytes : List ℕ
regulation_0_bytes = 6 ∷ 0 ∷ 22 ∷ 0 ∷ 0 ∷ 0 ∷ 2 ∷ 191 ∷ 32 ∷ 0 ∷ 5 ∷ 126 ∷ 64 ∷ 0 ∷ 15 ∷ 66 ∷ 64 ∷ 0 ∷ 0 ∷ 7 ∷ 208 ∷ 0 ∷ 0 ∷ 39 ∷ 16 ∷ []

abbrev regulation_1_bytes : List ℕ
regulation_1_bytes = 6 ∷ 0 ∷ 22 ∷ 0 ∷ 1 ∷ 0 ∷ 0 ∷ 0 ∷ 0 ∷ 0 ∷ 15 ∷ 66 ∷ 64 ∷ 0 ∷ 15 ∷ 66 ∷ 64 ∷ 0 ∷ 0 ∷ 23 ∷ 112 ∷ 0 ∷ 0 ∷ 195 ∷ 80 ∷ []

abbrev requirement_bytes : List ℕ
requirement_bytes = 15 ∷ 0 ∷ 8 ∷ 0 ∷ 0 ∷ 46 ∷ 224 ∷ 0 ∷ 15 ∷ 66 ∷ 64 ∷ []

-- the bytes of the case
abbrev pub case_bytes : List ℕ
case_bytes =
    period_bytes ++ (node_bytes ++ (offer_0_bytes ++ (offer_1_bytes ++ (bid_bytes ++ (regulation_0_bytes ++ (regulation_1_bytes ++ requirement_bytes))))))

-- one block, of a quantity at a price
abbrev block : ℕ → ℕ → List Block
block maximum price = record { price = pos price; maximum = pos maximum } ∷ []

-- an energy offer at node 0, of one block
abbrev offer : ℕ → ℕ → Entry
offer maximum price =
    energy_offer (record { node = 0; end_minimum = pos 0; end_maximum = pos 1000000; violation_price = pos 1000000; blocks = block maximum price })

-- a regulation offer on an energy offer, from a minimum to a maximum, of one block
abbrev regulation : ℕ → ℕ → ℕ → ℕ → ℕ → Entry
regulation n minimum maximum most price =
    regulation_offer (record { offer = n; minimum = pos minimum; maximum = pos maximum; violation_price = pos 1000000; blocks = block most price })

-- the records of the case
abbrev pub case_entries : List Entry
case_entries =
    period (record { number = 1; allowance = pos 0 })
    ∷ node (record { deficit_maximum = pos 1000000; deficit_price = pos 1000000; excess_maximum = pos 1000000; excess_price = pos 1000000 })
    ∷ offer 200000 20000
    ∷ offer 400000 17000
    ∷ bid (record { node = 0; blocks = block 500000 100000 })
    ∷ regulation 0 180000 360000 10000 2000
    ∷ regulation 1 0 1000000 50000 6000
    ∷ requirement (record { requirement = pos 12000; deficit_price = pos 1000000 })
    ∷ []
