-- What a format owes, at the case format: a record in range can be written, and its field determines it.
use Rattle.std.proofs.Common.{◌≡◌, true, List, [], ◌∷◌, ℤ, pos, arith, lit<, w32, SFits}
use Rattle.std.proofs.lemmas.Int.{ints}
use Rattle.std.proofs.lemmas.Bool.{ltb-true}
use Rattle.fields.specs.Lawful.{Lawful}
use Rattle.fields.proofs.Injective.{two_one, four_one, signed_four_one}
use Rattle.case_fields.specs.Cases.{case_format}
use Rattle.case_fields.specs.declared.part.Block.{Block}
use Rattle.case_fields.specs.declared.part.Point.{Point}
use Rattle.case_fields.specs.Entries.{Entry}
use Rattle.case_fields.specs.Entries.Entry.{period, node, line, energy_offer, bid, regulation_offer, requirement}
use Rattle.case_fields.specs.Encoding.{tag, body, BlocksWritten, PointsWritten, Written}
use Rattle.case_fields.specs.Tests.{minus, within, is_quantity, is_reverse_limit, is_block_price, is_penalty, is_admittance, is_signed_quantity, each_block, each_point, in_range}
use Rattle.case_fields.proofs.Pairs.{blocks_one, points_one}
use Rattle.case_fields.proofs.Ranges.{parts}

-- a number in range fits four bytes
fits_within : (low high : ℤ) → SFits w32 low → SFits w32 high → (z : ℤ) → within low high z ≡ true → SFits w32 z
fits_within low high f g z h = record { sfits = grind (arith, ints) }

quantity : (z : ℤ) → is_quantity z ≡ true → SFits w32 z
quantity = fits_within (pos 0) (pos 1000000) (record { sfits = lit< tt }) (record { sfits = lit< tt })

reverse_limit : (z : ℤ) → is_reverse_limit z ≡ true → SFits w32 z
reverse_limit = fits_within (minus 1000000) (pos 0) (record { sfits = lit< tt }) (record { sfits = lit< tt })

block_price : (z : ℤ) → is_block_price z ≡ true → SFits w32 z
block_price = fits_within (minus 10000000) (pos 10000000) (record { sfits = lit< tt }) (record { sfits = lit< tt })

penalty : (z : ℤ) → is_penalty z ≡ true → SFits w32 z
penalty = fits_within (pos 0) (pos 10000000) (record { sfits = lit< tt }) (record { sfits = lit< tt })

admittance : (z : ℤ) → is_admittance z ≡ true → SFits w32 z
admittance = fits_within (pos 1) (pos 1000000) (record { sfits = lit< tt }) (record { sfits = lit< tt })

signed_quantity : (z : ℤ) → is_signed_quantity z ≡ true → SFits w32 z
signed_quantity = fits_within (minus 1000000) (pos 1000000) (record { sfits = lit< tt }) (record { sfits = lit< tt })

blocks_fitting : (bs : List Block) → each_block bs ≡ true → BlocksWritten bs
blocks_fitting [] h = tt
blocks_fitting (b ∷ bs) h =
    let p = parts _ _ h in
    let q = parts _ _ p.0 in
    (block_price b.price q.0, quantity b.maximum q.1, blocks_fitting bs p.1)

points_fitting : (ps : List Point) → each_point ps ≡ true → PointsWritten ps
points_fitting [] h = tt
points_fitting (p ∷ ps) h =
    let a = parts _ _ h in
    let b = parts _ _ a.0 in
    (signed_quantity p.flow b.0, quantity p.loss b.1, points_fitting ps a.1)

-- a record in range can be written
pub written : (e : Entry) → in_range e ≡ true → Written e
written (period p) h =
    let a = parts _ _ h in
    (ltb-true p.number 4294967296 a.0, quantity p.allowance a.1)
written (node n) h =
    let a = parts _ _ h in
    let b = parts _ _ a.1 in
    let c = parts _ _ b.1 in
    (quantity n.deficit_maximum a.0, penalty n.deficit_price b.0, quantity n.excess_maximum c.0, penalty n.excess_price c.1)
written (line l) h =
    let a = parts _ _ h in
    let ends = parts _ _ a.0 in
    let b = parts _ _ a.1 in
    let limits = parts _ _ b.0 in
    let c = parts _ _ b.1 in
    let d = parts _ _ c.1 in
    let e = parts _ _ d.1 in
    let points = parts _ _ e.1 in
    (ltb-true l.start 65536 ends.0, ltb-true l.end 65536 ends.1, quantity l.forward_limit limits.0, reverse_limit l.reverse_limit limits.1, admittance l.admittance c.0, signed_quantity l.shift d.0, penalty l.violation_price e.0, points_fitting l.points points.0)
written (energy_offer o) h =
    let a = parts _ _ h in
    let b = parts _ _ a.1 in
    let c = parts _ _ b.1 in
    let d = parts _ _ c.1 in
    let blocks = parts _ _ d.1 in
    (ltb-true o.node 65536 a.0, quantity o.end_minimum b.0, quantity o.end_maximum c.0, penalty o.violation_price d.0, blocks_fitting o.blocks blocks.0)
written (bid b) h =
    let a = parts _ _ h in
    let blocks = parts _ _ a.1 in
    (ltb-true b.node 65536 a.0, blocks_fitting b.blocks blocks.0)
written (regulation_offer r) h =
    let a = parts _ _ h in
    let b = parts _ _ a.1 in
    let c = parts _ _ b.1 in
    let d = parts _ _ c.1 in
    let blocks = parts _ _ d.1 in
    (ltb-true r.offer 65536 a.0, quantity r.minimum b.0, quantity r.maximum c.0, penalty r.violation_price d.0, blocks_fitting r.blocks blocks.0)
written (requirement q) h =
    let a = parts _ _ h in
    (quantity q.requirement a.0, penalty q.deficit_price a.1)

-- the tag and the body of a record determine it
pub one : (d e : Entry) → tag d ≡ tag e → body d ≡ body e → Written d → Written e → d ≡ e
one (period x) (period y) t e w v =
    let a = four_one x.number y.number _ _ w.0 v.0 e in
    let b = signed_four_one x.allowance y.allowance _ _ w.1 v.1 a.1 in
    λ j. period (record { number = a.0 j; allowance = b.0 j })
one (period x) (node y) t e w v = absurd (omega arith)
one (period x) (line y) t e w v = absurd (omega arith)
one (period x) (energy_offer y) t e w v = absurd (omega arith)
one (period x) (bid y) t e w v = absurd (omega arith)
one (period x) (regulation_offer y) t e w v = absurd (omega arith)
one (period x) (requirement y) t e w v = absurd (omega arith)
one (node x) (period y) t e w v = absurd (omega arith)
one (node x) (node y) t e w v =
    let a = signed_four_one x.deficit_maximum y.deficit_maximum _ _ w.0 v.0 e in
    let b = signed_four_one x.deficit_price y.deficit_price _ _ w.1 v.1 a.1 in
    let c = signed_four_one x.excess_maximum y.excess_maximum _ _ w.2 v.2 b.1 in
    let d = signed_four_one x.excess_price y.excess_price _ _ w.3 v.3 c.1 in
    λ j. node (record { deficit_maximum = a.0 j; deficit_price = b.0 j; excess_maximum = c.0 j; excess_price = d.0 j })
one (node x) (line y) t e w v = absurd (omega arith)
one (node x) (energy_offer y) t e w v = absurd (omega arith)
one (node x) (bid y) t e w v = absurd (omega arith)
one (node x) (regulation_offer y) t e w v = absurd (omega arith)
one (node x) (requirement y) t e w v = absurd (omega arith)
one (line x) (period y) t e w v = absurd (omega arith)
one (line x) (node y) t e w v = absurd (omega arith)
one (line x) (line y) t e w v =
    let a = two_one x.start y.start _ _ w.0 v.0 e in
    let b = two_one x.end y.end _ _ w.1 v.1 a.1 in
    let c = signed_four_one x.forward_limit y.forward_limit _ _ w.2 v.2 b.1 in
    let d = signed_four_one x.reverse_limit y.reverse_limit _ _ w.3 v.3 c.1 in
    let f = signed_four_one x.admittance y.admittance _ _ w.4 v.4 d.1 in
    let g = signed_four_one x.shift y.shift _ _ w.5 v.5 f.1 in
    let h = signed_four_one x.violation_price y.violation_price _ _ w.6 v.6 g.1 in
    let i = points_one x.points y.points w.7 v.7 h.1 in
    λ j. line (record { start = a.0 j; end = b.0 j; forward_limit = c.0 j; reverse_limit = d.0 j; admittance = f.0 j; shift = g.0 j; violation_price = h.0 j; points = i j })
one (line x) (energy_offer y) t e w v = absurd (omega arith)
one (line x) (bid y) t e w v = absurd (omega arith)
one (line x) (regulation_offer y) t e w v = absurd (omega arith)
one (line x) (requirement y) t e w v = absurd (omega arith)
one (energy_offer x) (period y) t e w v = absurd (omega arith)
one (energy_offer x) (node y) t e w v = absurd (omega arith)
one (energy_offer x) (line y) t e w v = absurd (omega arith)
one (energy_offer x) (energy_offer y) t e w v =
    let a = two_one x.node y.node _ _ w.0 v.0 e in
    let b = signed_four_one x.end_minimum y.end_minimum _ _ w.1 v.1 a.1 in
    let c = signed_four_one x.end_maximum y.end_maximum _ _ w.2 v.2 b.1 in
    let d = signed_four_one x.violation_price y.violation_price _ _ w.3 v.3 c.1 in
    let f = blocks_one x.blocks y.blocks w.4 v.4 d.1 in
    λ j. energy_offer (record { node = a.0 j; end_minimum = b.0 j; end_maximum = c.0 j; violation_price = d.0 j; blocks = f j })
one (energy_offer x) (bid y) t e w v = absurd (omega arith)
one (energy_offer x) (regulation_offer y) t e w v = absurd (omega arith)
one (energy_offer x) (requirement y) t e w v = absurd (omega arith)
one (bid x) (period y) t e w v = absurd (omega arith)
one (bid x) (node y) t e w v = absurd (omega arith)
one (bid x) (line y) t e w v = absurd (omega arith)
one (bid x) (energy_offer y) t e w v = absurd (omega arith)
one (bid x) (bid y) t e w v =
    let a = two_one x.node y.node _ _ w.0 v.0 e in
    let b = blocks_one x.blocks y.blocks w.1 v.1 a.1 in
    λ j. bid (record { node = a.0 j; blocks = b j })
one (bid x) (regulation_offer y) t e w v = absurd (omega arith)
one (bid x) (requirement y) t e w v = absurd (omega arith)
one (regulation_offer x) (period y) t e w v = absurd (omega arith)
one (regulation_offer x) (node y) t e w v = absurd (omega arith)
one (regulation_offer x) (line y) t e w v = absurd (omega arith)
one (regulation_offer x) (energy_offer y) t e w v = absurd (omega arith)
one (regulation_offer x) (bid y) t e w v = absurd (omega arith)
one (regulation_offer x) (regulation_offer y) t e w v =
    let a = two_one x.offer y.offer _ _ w.0 v.0 e in
    let b = signed_four_one x.minimum y.minimum _ _ w.1 v.1 a.1 in
    let c = signed_four_one x.maximum y.maximum _ _ w.2 v.2 b.1 in
    let d = signed_four_one x.violation_price y.violation_price _ _ w.3 v.3 c.1 in
    let f = blocks_one x.blocks y.blocks w.4 v.4 d.1 in
    λ j. regulation_offer (record { offer = a.0 j; minimum = b.0 j; maximum = c.0 j; violation_price = d.0 j; blocks = f j })
one (regulation_offer x) (requirement y) t e w v = absurd (omega arith)
one (requirement x) (period y) t e w v = absurd (omega arith)
one (requirement x) (node y) t e w v = absurd (omega arith)
one (requirement x) (line y) t e w v = absurd (omega arith)
one (requirement x) (energy_offer y) t e w v = absurd (omega arith)
one (requirement x) (bid y) t e w v = absurd (omega arith)
one (requirement x) (regulation_offer y) t e w v = absurd (omega arith)
one (requirement x) (requirement y) t e w v =
    let a = signed_four_one x.requirement y.requirement _ _ w.0 v.0 e in
    let b = signed_four_one x.deficit_price y.deficit_price _ _ w.1 v.1 a.1 in
    λ j. requirement (record { requirement = a.0 j; deficit_price = b.0 j })

pub lawful : Lawful case_format
unfolding case_format
lawful = record { one = one; written = written }
