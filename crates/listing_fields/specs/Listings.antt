-- The format of a listing. No field is required.
use Rattle.std.specs.Prelude.{true}
use Rattle.fields.specs.Files.{Format}
use Rattle.listing_fields.specs.Entries.{Entry}
use Rattle.listing_fields.specs.Encoding.{tag, body, Written}
use Rattle.listing_fields.specs.Tests.{known, follows, sized, in_range, refers, in_order}

unfoldable pub listing_format : Format Entry
listing_format =
    record {
      tag = tag;
      body = body;
      Written = Written;
      known = known;
      follows = follows;
      sized = sized;
      in_range = in_range;
      refers = refers;
      in_order = in_order;
      complete = λ es. true;
    }
