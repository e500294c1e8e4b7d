-- The tag of a kind of entry.
use Rattle.std.specs.Prelude.{ℕ, Some, None, Option}
use Rattle.listing_fields.specs.declared.record.EntryKind.{EntryKind}
use Rattle.listing_fields.specs.declared.record.EntryKind.TheVariants.{Column, Row}

abbrev pub kind_tag : EntryKind → ℕ
kind_tag Column = 10
kind_tag Row = 11

-- the tag of the last entry, nought before the first
abbrev pub last_tag : Option EntryKind → ℕ
last_tag None = 0
last_tag (Some k) = kind_tag k
