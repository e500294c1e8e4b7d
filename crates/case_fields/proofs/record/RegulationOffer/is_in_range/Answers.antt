use Rattle.std.proofs.Common.{rules}
use Rattle.case_fields.proofs.record.RegulationOffer.is_in_range.Goals as goal
use Rattle.case_fields.proofs.record.RegulationOffer.is_in_range.Goals.{then-is_quantity-2, else-is_quantity-2}

pub returns-then-is_penalty : goal.returns-then-is_penalty
returns-then-is_penalty c = elim c.if-is_quantity-2.branch [ then-is_quantity-2 w ↦ search rules | else-is_quantity-2 w ↦ search rules ]

pub returns-else-is_penalty : goal.returns-else-is_penalty
returns-else-is_penalty c = elim c.if-is_quantity-2.branch [ then-is_quantity-2 w ↦ search rules | else-is_quantity-2 w ↦ search rules ]
