-- What is known of a field that is being read.
use Rattle.std.specs.Prelude.{◌≡◌, ℕ, true, false, List, Ok, Err, Result}
use Rattle.fields.specs.Fields.{Begins}
use Rattle.fields.specs.Files.{Fits}
use Rattle.fields.specs.declared.fault.FaultKind.{FaultKind}
use Rattle.fields.specs.declared.fault.FaultKind.TheVariants.{OutOfRange}
use Rattle.listing_fields.specs.declared.record.ListingRecord.{ListingRecord}
use Rattle.listing_fields.specs.declared.read.Before.{Before}
use Rattle.listing_fields.specs.declared.column.ColumnField.{ColumnField}
use Rattle.listing_fields.specs.declared.row.RowField.{RowField}
use Rattle.listing_fields.specs.Terms.{terms_in}
use Rattle.listing_fields.specs.Entries.{Entry}
use Rattle.listing_fields.specs.Entries.Entry.{column, row}
use Rattle.listing_fields.specs.Encoding.{tag, body}
use Rattle.listing_fields.specs.Kinds.{last_tag}
use Rattle.listing_fields.specs.Tests.{tag_of_last, column_count, in_range}
use Rattle.listing_fields.specs.Meant.{meant}
use Rattle.listing_fields.specs.Listings.{listing_format}

-- what a field means before it is judged
abbrev pub column_written : ColumnField → Entry
column_written c = column (record { lower = c.lower; upper = c.upper; price = c.price; switch = c.switch })

abbrev pub row_written : RowField → Entry
row_written r =
    row (record { code = r.code; side = r.side; lower = r.lower; upper = r.upper; terms = terms_in r.terms.bytes.now })

-- a field as it is written becomes a record that means it, or is refused, exactly when its numbers are out of range
abbrev pub Turned : Entry → Result ListingRecord FaultKind → Type 0
Turned e (Ok v) = (in_range e ≡ true) × (meant v ≡ e)
Turned e (Err k) = (in_range e ≡ false) × (k ≡ OutOfRange)

-- what is known of the fields before the next
pub record Tells (b : Before) (es : List Entry) : Type 0 where
  pub columns_are : b.columns ≡ column_count es
  pub last_is : last_tag b.last ≡ tag_of_last es

-- the bytes begin with this field, which fits after the fields before it
pub record Reads (before : List Entry) (bs rest : List ℕ) (e : Entry) : Type 0 where
  pub begins : Begins bs (tag e) (body e) rest
  pub fits : Fits listing_format before e
