use Rattle.std.proofs.Common.{◌≡◌, map, vec_items}
use Rattle.listing_fields.specs.Meant.{meant}
use Rattle.listing_fields.proofs.Steps.{Seen}
use Rattle.listing_fields.proofs.read.read_listing.Given as goal

abbrev pub invariant-loop-offset : goal.invariant-loop-offset
invariant-loop-offset l =
    record {
      whole : l.offset-iterator.input.now ≡ l.input;
      seen : Seen l.input (map meant (vec_items l.records)) l.offset-iterator.rest.now l.before;
    }
