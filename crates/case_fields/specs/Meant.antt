-- What a record that borrows the file means.
use Rattle.case_fields.specs.declared.record.Period.{Period}
use Rattle.case_fields.specs.declared.record.Node.{Node}
use Rattle.case_fields.specs.declared.record.Line.{Line}
use Rattle.case_fields.specs.declared.record.EnergyOffer.{EnergyOffer}
use Rattle.case_fields.specs.declared.record.Bid.{Bid}
use Rattle.case_fields.specs.declared.record.RegulationOffer.{RegulationOffer}
use Rattle.case_fields.specs.declared.record.Requirement.{Requirement}
use Rattle.case_fields.specs.declared.record.CaseRecord.{CaseRecord}
use Rattle.case_fields.specs.declared.record.CaseRecord.TheVariants as variant
use Rattle.case_fields.specs.Parts.{blocks_in, points_in}
use Rattle.case_fields.specs.Entries.{Entry}
use Rattle.case_fields.specs.Entries.Entry.{period, node, line, energy_offer, bid, regulation_offer, requirement}

abbrev pub period_meant : Period → Entry
period_meant p = period (record { number = p.number; allowance = p.allowance })

abbrev pub node_meant : Node → Entry
node_meant n =
    node (record { deficit_maximum = n.deficit_maximum; deficit_price = n.deficit_price; excess_maximum = n.excess_maximum; excess_price = n.excess_price })

abbrev pub line_meant : Line → Entry
line_meant l =
    line (record { start = l.start; end = l.end; forward_limit = l.forward_limit; reverse_limit = l.reverse_limit; admittance = l.admittance; shift = l.shift; violation_price = l.violation_price; points = points_in l.points.bytes.now })

abbrev pub energy_offer_meant : EnergyOffer → Entry
energy_offer_meant o =
    energy_offer (record { node = o.node; end_minimum = o.end_minimum; end_maximum = o.end_maximum; violation_price = o.violation_price; blocks = blocks_in o.blocks.bytes.now })

abbrev pub bid_meant : Bid → Entry
bid_meant b = bid (record { node = b.node; blocks = blocks_in b.blocks.bytes.now })

abbrev pub regulation_offer_meant : RegulationOffer → Entry
regulation_offer_meant r =
    regulation_offer (record { offer = r.offer; minimum = r.minimum; maximum = r.maximum; violation_price = r.violation_price; blocks = blocks_in r.blocks.bytes.now })

abbrev pub requirement_meant : Requirement → Entry
requirement_meant q = requirement (record { requirement = q.requirement; deficit_price = q.deficit_price })

abbrev pub meant : CaseRecord → Entry
meant (variant.Period p) = period_meant p
meant (variant.Node n) = node_meant n
meant (variant.Line l) = line_meant l
meant (variant.EnergyOffer o) = energy_offer_meant o
meant (variant.Bid b) = bid_meant b
meant (variant.RegulationOffer r) = regulation_offer_meant r
meant (variant.Requirement q) = requirement_meant q
