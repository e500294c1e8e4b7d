-- What reading a listing gives.
use Rattle.std.specs.Prelude.{◌≡◌, ℕ, false, List, length}
use Rattle.fields.specs.Files.{IsFile, FirstFault}
use Rattle.listing_fields.specs.Listings.{listing_format}
use Rattle.books.specs.declared.fault.BookFault.{BookFault}
use Rattle.books.specs.declared.fault.BookFault.TheVariants.{Field, TooLarge, NoRoom, UnfitRow, ShortBuffer}
use Rattle.books.specs.declared.fault.BookError.{BookError}
use Rattle.books.specs.declared.fault.BookError.TheVariants.{Memory, Fault}
use Rattle.books.specs.Lists.{Lists}
use Rattle.books.specs.Conditions.{few}
use Rattle.listings.specs.Listed.{entries}

-- the bytes are the listing of lists with too many columns, rows or terms
pub record IsTooLarge (bs : List ℕ) : Type 0 where
  pub lists : Lists
  pub file : IsFile listing_format bs (entries lists)
  pub many : few lists ≡ false

-- what a refusal tells of the bytes
abbrev pub ToldFault : List ℕ → BookFault → Type 0
ToldFault bs (Field f) = FirstFault listing_format bs f
ToldFault bs (TooLarge n) = (n ≡ length bs) × IsTooLarge bs
ToldFault bs (NoRoom i) = ⊥
ToldFault bs (UnfitRow i) = ⊥
ToldFault bs (ShortBuffer n) = ⊥

abbrev pub Told : List ℕ → BookError → Type 0
Told bs Memory = Unit {0}
Told bs (Fault f) = ToldFault bs f
