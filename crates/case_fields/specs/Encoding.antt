-- The bytes of a case record: its tag, and its body, one line for each kind.
use Rattle.std.specs.Prelude.{ℕ, ◌<◌, List, [], ◌∷◌, FitsSigned}
use Rattle.std.specs.Int.{w32}
use Rattle.fields.specs.Bytes.{two, four, signed_four, put}
use Rattle.case_fields.specs.declared.part.Block.{Block}
use Rattle.case_fields.specs.declared.part.Point.{Point}
use Rattle.case_fields.specs.Parts.{blocks_bytes, points_bytes}
use Rattle.case_fields.specs.Entries.{Entry}
use Rattle.case_fields.specs.Entries.Entry.{period, node, line, energy_offer, bid, regulation_offer, requirement}

abbrev pub tag : Entry → ℕ
tag (period p) = 1
tag (node n) = 2
tag (line l) = 3
tag (energy_offer o) = 4
tag (bid b) = 5
tag (regulation_offer r) = 6
tag (requirement q) = 15

abbrev pub body : Entry → List ℕ
body (period p) = put (four p.number ∷ signed_four p.allowance ∷ []) []
body (node n) =
    put (signed_four n.deficit_maximum ∷ signed_four n.deficit_price ∷ signed_four n.excess_maximum ∷ signed_four n.excess_price ∷ []) []
body (line l) =
    put (two l.start ∷ two l.end ∷ signed_four l.forward_limit ∷ signed_four l.reverse_limit ∷ signed_four l.admittance ∷ signed_four l.shift ∷ signed_four l.violation_price ∷ []) (points_bytes l.points)
body (energy_offer o) =
    put (two o.node ∷ signed_four o.end_minimum ∷ signed_four o.end_maximum ∷ signed_four o.violation_price ∷ []) (blocks_bytes o.blocks)
body (bid b) = put (two b.node ∷ []) (blocks_bytes b.blocks)
body (regulation_offer r) =
    put (two r.offer ∷ signed_four r.minimum ∷ signed_four r.maximum ∷ signed_four r.violation_price ∷ []) (blocks_bytes r.blocks)
body (requirement q) = put (signed_four q.requirement ∷ signed_four q.deficit_price ∷ []) []

-- the numbers fit the bytes that hold them
abbrev pub BlocksWritten : List Block → Type 0
BlocksWritten [] = Unit {0}
BlocksWritten (b ∷ bs) = FitsSigned w32 b.price × FitsSigned w32 b.maximum × BlocksWritten bs

abbrev pub PointsWritten : List Point → Type 0
PointsWritten [] = Unit {0}
PointsWritten (p ∷ ps) = FitsSigned w32 p.flow × FitsSigned w32 p.loss × PointsWritten ps

abbrev pub Written : Entry → Type 0
Written (period p) = (p.number < 4294967296) × FitsSigned w32 p.allowance
Written (node n) =
    FitsSigned w32 n.deficit_maximum × FitsSigned w32 n.deficit_price × FitsSigned w32 n.excess_maximum × FitsSigned w32 n.excess_price
Written (line l) =
    (l.start < 65536) × (l.end < 65536) × FitsSigned w32 l.forward_limit × FitsSigned w32 l.reverse_limit × FitsSigned w32 l.admittance × FitsSigned w32 l.shift × FitsSigned w32 l.violation_price × PointsWritten l.points
Written (energy_offer o) =
    (o.node < 65536) × FitsSigned w32 o.end_minimum × FitsSigned w32 o.end_maximum × FitsSigned w32 o.violation_price × BlocksWritten o.blocks
Written (bid b) = (b.node < 65536) × BlocksWritten b.blocks
Written (regulation_offer r) =
    (r.offer < 65536) × FitsSigned w32 r.minimum × FitsSigned w32 r.maximum × FitsSigned w32 r.violation_price × BlocksWritten r.blocks
Written (requirement q) = FitsSigned w32 q.requirement × FitsSigned w32 q.deficit_price
