-- What the worked case means and how it is listed, by computation.
use Rattle.std.proofs.Common.{◌≡◌, true, length, refl, arith}
use Rattle.fields.specs.Bytes.{two, four, eight, signed_four, signed_eight}
use Rattle.fields.specs.Fields.{field}
use Rattle.listing_fields.specs.Listings.{listing_format}
use Rattle.books.specs.Conditions.{sound}
use Rattle.listings.specs.Listed.{listing_of}
use Rattle.clause_book.specs.CaseLists.{case_lists}
use Rattle.worked_case.specs.Case.{case_entries}
use Rattle.worked_case.specs.Lists.{worked_lists}
use Rattle.worked_case.specs.Worked.{WorkedLists}
use Rattle.worked_case.proofs.Buffers.{refused, filled}
use Rattle.worked_case.proofs.Entries.{worked_file}

given : case_lists case_entries ≡ worked_lists
unfolding case_lists
given = refl

listed : length (listing_of worked_lists) ≡ 1066
unfolding listing_of listing_format field two four eight signed_four signed_eight
listed = refl

pub kept : sound worked_lists ≡ true
unfolding sound
kept = refl

pub worked : WorkedLists
worked = record {
  file = worked_file;
  lists = given;
  column_count = refl;
  row_count = refl;
  sound = kept;
  listing_length = listed;
  short = λ old new answer long w. refused 1066 (listing_of worked_lists) old new answer listed (omega arith) w;
  room = λ old new answer long w. filled 1066 (listing_of worked_lists) old new answer listed long w;
}
