-- What writing bytes into a buffer does to it.
use Rattle.std.specs.Prelude.{◌≡◌, ℕ, ◌+◌, ◌*◌, ◌<◌, ◌≤◌, List, [], ◌∷◌, ◌++◌, length, take, drop, Ok, Err, Result}
use Rattle.fields.specs.Bytes.{two, signed_eight}
use Rattle.fields.specs.Files.{encode}
use Rattle.listing_fields.specs.Listings.{listing_format}
use Rattle.listing_fields.specs.Meant.{side_byte, side_number}
use Rattle.books.specs.declared.part.Column.{Column}
use Rattle.books.specs.declared.part.Row.{Row}
use Rattle.books.specs.declared.fault.BookFault.{BookFault}
use Rattle.books.specs.declared.fault.BookFault.TheVariants.{ShortBuffer}
use Rattle.books.specs.Lists.{FullRow}
use Rattle.listings.specs.Listed.{column_entry, row_entry}

-- the bytes stand from a place up to the next in the new buffer, and all else is as in the old
pub record Wrote (old : List ℕ) (at : ℕ) (bs new : List ℕ) (next : ℕ) : Type 0 where
  pub bytes : new ≡ take at old ++ (bs ++ drop next old)
  pub next_is : next ≡ at + length bs
  pub room : next ≤ length old

-- the bytes of a column and of a row
abbrev pub column_bytes : Column → List ℕ
column_bytes c = encode listing_format (column_entry c)

abbrev pub row_bytes : FullRow → List ℕ
row_bytes r = encode listing_format (row_entry r)

-- the bytes of a row before those of its terms
abbrev pub head_bytes : Row → List ℕ
head_bytes r =
    (11 ∷ []) ++ (two (18 + 6 * r.terms) ++ ((r.code ∷ side_byte r.lower r.upper ∷ []) ++ (signed_eight (side_number r.lower) ++ signed_eight (side_number r.upper))))

-- the answer to writing a listing into a buffer that was old and is new
abbrev pub ListedInto : (listing old new : List ℕ) → Result ℕ BookFault → Type 0
ListedInto listing old new (Ok n) = (n ≡ length listing) × (n ≤ length old) × (new ≡ listing ++ drop n old)
ListedInto listing old new (Err e) = (e ≡ ShortBuffer (length listing)) × (length old < length listing) × (new ≡ old)
