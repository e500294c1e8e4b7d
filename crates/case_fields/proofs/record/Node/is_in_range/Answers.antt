use Rattle.std.proofs.Common.{rules}
use Rattle.case_fields.proofs.record.Node.is_in_range.Goals as goal
use Rattle.case_fields.proofs.record.Node.is_in_range.Goals.{then-is_quantity, else-is_quantity, then-is_penalty, else-is_penalty}

pub returns-then-is_quantity-2 : goal.returns-then-is_quantity-2
returns-then-is_quantity-2 c = elim c.if-is_penalty.branch [ then-is_penalty w ↦ search rules | else-is_penalty w ↦ search rules ]

pub returns-else-is_quantity-2 : goal.returns-else-is_quantity-2
returns-else-is_quantity-2 c = elim c.if-is_penalty.branch [ then-is_penalty w ↦ search rules | else-is_penalty w ↦ search rules ]
