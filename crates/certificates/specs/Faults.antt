-- The faults of the docket layer: the number, the place and the clause code of each.
use Rattle.std.specs.Prelude.{ℕ, Some, None, Option}
use Rattle.fields.specs.Faults.{rule as field_rule}
use Rattle.books.specs.declared.part.Place.{Place}
use Rattle.books.specs.declared.part.Place.TheVariants.{Offset, Column, Row}
use Rattle.certificates.specs.declared.fault.DocketFault.{DocketFault}
use Rattle.certificates.specs.declared.fault.DocketFault.TheVariants.{Field, ValueCount, ColumnBroken, RowBroken, BenefitBeyond, MultiplierBeyond, SideAbsent, RowBeyond, ColumnBeyond}

pub record Rule : Type 0 where
  pub number : ℕ
  pub place : Place
  pub clause : Option ℕ

abbrev at_start : ℕ → Rule
at_start n = record { number = n; place = Offset 0; clause = None }

abbrev at_column : ℕ → ℕ → Rule
at_column n j = record { number = n; place = Column j; clause = None }

-- a row's fault names the row's clause
abbrev at_row : ℕ → ℕ → ℕ → Rule
at_row n i code = record { number = n; place = Row i; clause = Some code }

abbrev pub rule : DocketFault → Rule
rule (Field f) = record { number = (field_rule f.kind).number; place = Offset f.offset; clause = None }
rule ValueCount = at_start 20
rule (ColumnBroken j) = at_column 21 j
rule (RowBroken i code) = at_row 22 i code
rule BenefitBeyond = at_start 23
rule (MultiplierBeyond i code) = at_row 24 i code
rule (SideAbsent i code) = at_row 25 i code
rule (RowBeyond i code) = at_row 26 i code
rule (ColumnBeyond j) = at_column 26 j
