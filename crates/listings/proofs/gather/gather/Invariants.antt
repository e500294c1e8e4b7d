use Rattle.std.proofs.Common.{◌≡◌, map, take}
use Rattle.listing_fields.specs.Meant.{meant}
use Rattle.stored_book.specs.Stored.{stored_lists}
use Rattle.listings.specs.Listed.{given}
use Rattle.listings.proofs.gather.gather.Given as goal

-- what the records so far give
abbrev pub invariant-loop-next : goal.invariant-loop-next
invariant-loop-next l = stored_lists l.columns.items l.rows.items ≡ given (map meant (take l.next-index l.records))
