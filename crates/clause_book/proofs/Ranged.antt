-- What it says of a record's numbers that they are in range.
use Rattle.std.proofs.Common.{◌≡◌, true, pos}
use lib.Signed.{le_z}
use Rattle.case_fields.specs.Kinds.{both}
use Rattle.case_fields.specs.Entries.{Line, EnergyOffer, Bid, RegulationOffer}
use Rattle.case_fields.specs.Entries.Entry.{line, energy_offer, bid, regulation_offer}
use Rattle.case_fields.specs.Tests.{is_short, is_quantity, is_reverse_limit, is_penalty, is_admittance, is_signed_quantity, each_block, sum_of_maxima, blocks_fit, each_point, rising, points_fit, in_range}
use Rattle.case_fields.proofs.Ranges.{parts}

pub record RangedLine (l : Line) : Type 0 where
  pub forward : is_quantity l.forward_limit ≡ true
  pub reverse : is_reverse_limit l.reverse_limit ≡ true
  pub admittance : is_admittance l.admittance ≡ true
  pub shift : is_signed_quantity l.shift ≡ true
  pub price : is_penalty l.violation_price ≡ true
  pub points : each_point l.points ≡ true

pub ranged_line : (l : Line) → in_range (line l) ≡ true → RangedLine l
ranged_line l h =
    let price = both (is_penalty l.violation_price) (points_fit l.points) in
    let shift = both (is_signed_quantity l.shift) price in
    let admittance = both (is_admittance l.admittance) shift in
    let limits = both (is_quantity l.forward_limit) (is_reverse_limit l.reverse_limit) in
    let a = (parts (both (is_short l.start) (is_short l.end)) (both limits admittance) h).1 in
    let b = parts limits admittance a in
    let c = parts (is_quantity l.forward_limit) (is_reverse_limit l.reverse_limit) b.0 in
    let d = parts (is_admittance l.admittance) shift b.1 in
    let e = parts (is_signed_quantity l.shift) price d.1 in
    let f = parts (is_penalty l.violation_price) (points_fit l.points) e.1 in
    record {
      forward = c.0;
      reverse = c.1;
      admittance = d.0;
      shift = e.0;
      price = f.0;
      points = (parts (each_point l.points) (rising l.points) f.1).0;
    }

pub record RangedOffer (o : EnergyOffer) : Type 0 where
  pub minimum : is_quantity o.end_minimum ≡ true
  pub maximum : is_quantity o.end_maximum ≡ true
  pub price : is_penalty o.violation_price ≡ true
  pub blocks : each_block o.blocks ≡ true

pub ranged_offer : (o : EnergyOffer) → in_range (energy_offer o) ≡ true → RangedOffer o
ranged_offer o h =
    let price = both (is_penalty o.violation_price) (blocks_fit o.blocks) in
    let maximum = both (is_quantity o.end_maximum) price in
    let minimum = both (is_quantity o.end_minimum) maximum in
    let a = parts (is_quantity o.end_minimum) maximum (parts (is_short o.node) minimum h).1 in
    let b = parts (is_quantity o.end_maximum) price a.1 in
    let c = parts (is_penalty o.violation_price) (blocks_fit o.blocks) b.1 in
    record {
      minimum = a.0;
      maximum = b.0;
      price = c.0;
      blocks = (parts (each_block o.blocks) (le_z (sum_of_maxima o.blocks) (pos 1000000)) c.1).0;
    }

pub ranged_bid : (b : Bid) → in_range (bid b) ≡ true → each_block b.blocks ≡ true
ranged_bid b h =
    let a = (parts (is_short b.node) (blocks_fit b.blocks) h).1 in
    (parts (each_block b.blocks) (le_z (sum_of_maxima b.blocks) (pos 1000000)) a).0

pub record RangedRegulation (o : RegulationOffer) : Type 0 where
  pub minimum : is_quantity o.minimum ≡ true
  pub maximum : is_quantity o.maximum ≡ true
  pub price : is_penalty o.violation_price ≡ true
  pub blocks : each_block o.blocks ≡ true

pub ranged_regulation : (o : RegulationOffer) → in_range (regulation_offer o) ≡ true → RangedRegulation o
ranged_regulation o h =
    let price = both (is_penalty o.violation_price) (blocks_fit o.blocks) in
    let maximum = both (is_quantity o.maximum) price in
    let minimum = both (is_quantity o.minimum) maximum in
    let a = parts (is_quantity o.minimum) maximum (parts (is_short o.offer) minimum h).1 in
    let b = parts (is_quantity o.maximum) price a.1 in
    let c = parts (is_penalty o.violation_price) (blocks_fit o.blocks) b.1 in
    record {
      minimum = a.0;
      maximum = b.0;
      price = c.0;
      blocks = (parts (each_block o.blocks) (le_z (sum_of_maxima o.blocks) (pos 1000000)) c.1).0;
    }
