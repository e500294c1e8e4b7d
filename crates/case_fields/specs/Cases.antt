-- The format of a case.
use Rattle.std.specs.Prelude.{true}
use Rattle.fields.specs.Files.{Format}
use Rattle.case_fields.specs.Entries.{Entry}
use Rattle.case_fields.specs.Encoding.{tag, body, Written}
use Rattle.case_fields.specs.Tests.{known, follows, sized, in_range, refers, complete}

unfoldable pub case_format : Format Entry
case_format =
    record {
      tag = tag;
      body = body;
      Written = Written;
      known = known;
      follows = follows;
      sized = sized;
      in_range = in_range;
      refers = refers;
      in_order = λ e. true;
      complete = complete;
    }
