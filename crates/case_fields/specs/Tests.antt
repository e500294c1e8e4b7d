-- The tests that a case record has to pass.
use Rattle.std.specs.Prelude.{ℕ, ◌+◌, Bool, true, false, not, List, [], ◌∷◌, ℤ, pos, ◌+ℤ◌, neg_ℤ, Some, None, ◌==◌, int_le, int_lt, nat_le, nat_lt}
use Rattle.case_fields.specs.declared.kind.RecordKind.{RecordKind}
use Rattle.case_fields.specs.declared.part.Block.{Block}
use Rattle.case_fields.specs.declared.part.Point.{Point}
use Rattle.case_fields.specs.Kinds.{both, kind, once, takes}
use Rattle.case_fields.specs.Entries.{Entry}
use Rattle.case_fields.specs.Entries.Entry.{period, node, line, energy_offer, bid, regulation_offer, requirement}
use Rattle.case_fields.specs.Encoding.{tag}

abbrev pub either : Bool → Bool → Bool
either true b = true
either false b = b

-- ---- tags

-- a case has a field of this tag
abbrev pub known : ℕ → Bool
known t = elim (kind t) [ Some k ↦ true | None ↦ false ]

-- the tag of the last record, nought before the first
abbrev pub tag_of_last : List Entry → ℕ
tag_of_last [] = 0
tag_of_last (e ∷ []) = tag e
tag_of_last (e ∷ f ∷ es) = tag_of_last (f ∷ es)

-- tags never fall, and those of the period and of the requirement come once
abbrev pub in_turn : ℕ → RecordKind → ℕ → Bool
in_turn last k t = both (nat_le last t) (not (both (once k) (last == t)))

abbrev pub follows : List Entry → ℕ → Bool
follows es t = elim (kind t) [ Some k ↦ in_turn (tag_of_last es) k t | None ↦ false ]

-- a body of this tag can be so long
abbrev pub sized : ℕ → ℕ → Bool
sized t n = elim (kind t) [ Some k ↦ takes k n | None ↦ false ]

-- how many records have a tag
abbrev pub one : Bool → ℕ
one true = 1
one false = 0

abbrev pub count : ℕ → List Entry → ℕ
count t [] = 0
count t (e ∷ es) = one (tag e == t) + count t es

-- a case has a period, a node and a requirement
abbrev pub complete : List Entry → Bool
complete es = both (nat_lt 0 (count 1 es)) (both (nat_lt 0 (count 2 es)) (nat_lt 0 (count 15 es)))

-- ---- ranges

abbrev pub minus : ℕ → ℤ
minus n = neg_ℤ (pos n)

abbrev pub within : ℤ → ℤ → ℤ → Bool
within low high z = both (int_le low z) (int_le z high)

abbrev pub is_quantity : ℤ → Bool
is_quantity z = within (pos 0) (pos 1000000) z

abbrev pub is_reverse_limit : ℤ → Bool
is_reverse_limit z = within (minus 1000000) (pos 0) z

abbrev pub is_block_price : ℤ → Bool
is_block_price z = within (minus 10000000) (pos 10000000) z

-- the price of a violation, a deficit or an excess
abbrev pub is_penalty : ℤ → Bool
is_penalty z = within (pos 0) (pos 10000000) z

abbrev pub is_admittance : ℤ → Bool
is_admittance z = within (pos 1) (pos 1000000) z

-- a shift or a point's flow
abbrev pub is_signed_quantity : ℤ → Bool
is_signed_quantity z = within (minus 1000000) (pos 1000000) z

abbrev pub each_block : List Block → Bool
each_block [] = true
each_block (b ∷ bs) = both (both (is_block_price b.price) (is_quantity b.maximum)) (each_block bs)

abbrev pub sum_of_maxima : List Block → ℤ
sum_of_maxima [] = pos 0
sum_of_maxima (b ∷ bs) = b.maximum +ℤ sum_of_maxima bs

-- each block is in range, and the maxima sum to a quantity
abbrev pub blocks_fit : List Block → Bool
blocks_fit bs = both (each_block bs) (int_le (sum_of_maxima bs) (pos 1000000))

abbrev pub each_point : List Point → Bool
each_point [] = true
each_point (p ∷ ps) = both (both (is_signed_quantity p.flow) (is_quantity p.loss)) (each_point ps)

-- flows rise strictly
abbrev pub above : ℤ → List Point → Bool
above z [] = true
above z (p ∷ ps) = both (int_lt z p.flow) (above p.flow ps)

abbrev pub rising : List Point → Bool
rising [] = true
rising (p ∷ ps) = above p.flow ps

abbrev pub points_fit : List Point → Bool
points_fit ps = both (each_point ps) (rising ps)

-- a number in two unsigned bytes, and in four
abbrev pub is_short : ℕ → Bool
is_short n = nat_lt n 65536

abbrev pub in_range : Entry → Bool
in_range (period p) = both (nat_lt p.number 4294967296) (is_quantity p.allowance)
in_range (node n) =
    both (is_quantity n.deficit_maximum) (both (is_penalty n.deficit_price) (both (is_quantity n.excess_maximum) (is_penalty n.excess_price)))
in_range (line l) =
    both (both (is_short l.start) (is_short l.end)) (both (both (is_quantity l.forward_limit) (is_reverse_limit l.reverse_limit)) (both (is_admittance l.admittance) (both (is_signed_quantity l.shift) (both (is_penalty l.violation_price) (points_fit l.points)))))
in_range (energy_offer o) =
    both (is_short o.node) (both (is_quantity o.end_minimum) (both (is_quantity o.end_maximum) (both (is_penalty o.violation_price) (blocks_fit o.blocks))))
in_range (bid b) = both (is_short b.node) (blocks_fit b.blocks)
in_range (regulation_offer r) =
    both (is_short r.offer) (both (is_quantity r.minimum) (both (is_quantity r.maximum) (both (is_penalty r.violation_price) (blocks_fit r.blocks))))
in_range (requirement q) = both (is_quantity q.requirement) (is_penalty q.deficit_price)

-- ---- references

-- a record is a regulation offer on the energy offer of this number
abbrev pub regulates : ℕ → Entry → Bool
regulates k (period p) = false
regulates k (node n) = false
regulates k (line l) = false
regulates k (energy_offer o) = false
regulates k (bid b) = false
regulates k (regulation_offer r) = r.offer == k
regulates k (requirement q) = false

abbrev pub regulated : ℕ → List Entry → Bool
regulated k [] = false
regulated k (e ∷ es) = either (regulates k e) (regulated k es)

-- nodes and offers are numbered from 0 among those before the record; a line joins two nodes, and an offer regulates once
abbrev pub refers : List Entry → Entry → Bool
refers es (period p) = true
refers es (node n) = true
refers es (line l) =
    both (nat_lt l.start (count 2 es)) (both (nat_lt l.end (count 2 es)) (not (l.start == l.end)))
refers es (energy_offer o) = nat_lt o.node (count 2 es)
refers es (bid b) = nat_lt b.node (count 2 es)
refers es (regulation_offer r) = both (nat_lt r.offer (count 4 es)) (not (regulated r.offer es))
refers es (requirement q) = true
