-- The faults of a field: the number of each, and when it applies.
use Rattle.std.specs.Prelude.{ℕ, ◌<◌}
use Rattle.fields.specs.declared.fault.FaultKind.{FaultKind}
use Rattle.fields.specs.declared.fault.FaultKind.TheVariants.{PastEnd, UnknownTag, TagOrder, BadLength, OutOfRange, BadReference, TermOrder}

-- what a format says is wrong with one field, fault by fault
pub record Checks : Type 1 where
  pub past_end : Type 0
  pub unknown_tag : Type 0
  pub tag_order : Type 0
  pub bad_length : Type 0
  pub out_of_range : Type 0
  pub bad_reference : Type 0
  pub term_order : Type 0

-- a fault's number, and when it applies
pub record Rule : Type 1 where
  pub number : ℕ
  pub applies : Checks → Type 0

abbrev pub rule : FaultKind → Rule
rule PastEnd = record { number = 1; applies = λ c. c.past_end }
rule UnknownTag = record { number = 2; applies = λ c. c.unknown_tag }
rule TagOrder = record { number = 3; applies = λ c. c.tag_order }
rule BadLength = record { number = 4; applies = λ c. c.bad_length }
rule OutOfRange = record { number = 5; applies = λ c. c.out_of_range }
rule BadReference = record { number = 6; applies = λ c. c.bad_reference }
rule TermOrder = record { number = 8; applies = λ c. c.term_order }

-- the fault that a field is refused for: it applies, and none of a lower number does
pub record First (c : Checks) (k : FaultKind) : Type 0 where
  pub applies : (rule k).applies c
  pub none_lower : (j : FaultKind) → (rule j).number < (rule k).number → (rule j).applies c → ⊥
