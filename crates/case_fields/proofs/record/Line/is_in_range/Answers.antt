use Rattle.std.proofs.Common.{rules}
use Rattle.case_fields.proofs.record.Line.is_in_range.Goals as goal
use Rattle.case_fields.proofs.record.Line.is_in_range.Goals.{then-is_signed_quantity, else-is_signed_quantity}

pub returns-then-is_penalty : goal.returns-then-is_penalty
returns-then-is_penalty c = elim c.if-is_signed_quantity.branch [ then-is_signed_quantity w ↦ search rules | else-is_signed_quantity w ↦ search rules ]

pub returns-else-is_penalty : goal.returns-else-is_penalty
returns-else-is_penalty c = elim c.if-is_signed_quantity.branch [ then-is_signed_quantity w ↦ search rules | else-is_signed_quantity w ↦ search rules ]
