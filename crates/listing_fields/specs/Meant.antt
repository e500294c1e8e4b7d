-- What a record that borrows the listing means.
use Rattle.std.specs.Prelude.{ℕ, Bool, true, false, ℤ, pos, Some, None, Option}
use Rattle.listing_fields.specs.declared.record.ListingRecord.{ListingRecord}
use Rattle.listing_fields.specs.declared.record.ListingRecord.TheVariants.{Column, Row}
use Rattle.listing_fields.specs.Terms.{terms_in}
use Rattle.listing_fields.specs.Entries.{Entry}
use Rattle.listing_fields.specs.Entries.Entry.{column, row}

-- the byte of a switch
abbrev pub switch_byte : Bool → ℕ
switch_byte true = 1
switch_byte false = 0

-- the byte of the sides that a row has
abbrev pub side_byte : Option ℤ → Option ℤ → ℕ
side_byte (Some l) None = 1
side_byte None (Some u) = 2
side_byte (Some l) (Some u) = 3
side_byte None None = 0

-- the number of a side, nought where it is absent
abbrev pub side_number : Option ℤ → ℤ
side_number (Some z) = z
side_number None = pos 0

abbrev pub meant : ListingRecord → Entry
meant (Column l u p s) = column (record { lower = l; upper = u; price = p; switch = switch_byte s })
meant (Row c l u ts) =
    row (record { code = c; side = side_byte l u; lower = side_number l; upper = side_number u; terms = terms_in ts.bytes.now })
