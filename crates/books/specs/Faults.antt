-- The faults of the book layer: the number and the place of each.
use Rattle.std.specs.Prelude.{ℕ}
use Rattle.fields.specs.Faults.{rule as field_rule}
use Rattle.fields.specs.declared.fault.ReadError.{ReadError}
use Rattle.fields.specs.declared.fault.ReadError.TheVariants.{Memory as NoMemory, Field as BadField}
use Rattle.books.specs.declared.part.Place.{Place}
use Rattle.books.specs.declared.part.Place.TheVariants.{Offset, Row}
use Rattle.books.specs.declared.fault.BookFault.{BookFault}
use Rattle.books.specs.declared.fault.BookFault.TheVariants.{Field, TooLarge, NoRoom, UnfitRow, ShortBuffer}
use Rattle.books.specs.declared.fault.BookError.{BookError}
use Rattle.books.specs.declared.fault.BookError.TheVariants.{Memory, Fault}

pub record Rule : Type 0 where
  pub number : ℕ
  pub place : Place

abbrev pub rule : BookFault → Rule
rule (Field f) = record { number = (field_rule f.kind).number; place = Offset f.offset }
rule (TooLarge n) = record { number = 7; place = Offset n }
rule (NoRoom i) = record { number = 30; place = Row i }
rule (UnfitRow i) = record { number = 31; place = Row i }
rule (ShortBuffer n) = record { number = 40; place = Offset n }

-- a refusal of the field layer as one of the book layer
abbrev pub book_error : ReadError → BookError
book_error NoMemory = Memory
book_error (BadField f) = Fault (Field f)
