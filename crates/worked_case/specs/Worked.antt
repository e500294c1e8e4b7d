-- What the worked case means, and how it is listed, in one statement.
use Rattle.std.specs.Prelude.{◌≡◌, ℕ, true, List, length, Ok, Err, Result}
use Rattle.fields.specs.Files.{IsFile}
use Rattle.case_fields.specs.Cases.{case_format}
use Rattle.clause_book.specs.CaseLists.{case_lists}
use Rattle.books.specs.Conditions.{sound}
use Rattle.books.specs.declared.fault.BookFault.{BookFault}
use Rattle.books.specs.declared.fault.BookFault.TheVariants.{ShortBuffer}
use Rattle.listings.specs.Listed.{listing_of}
use Rattle.listings.specs.Writing.{ListedInto}
use Rattle.worked_case.specs.Case.{case_bytes, case_entries}
use Rattle.worked_case.specs.Lists.{worked_lists}

pub record WorkedLists : Type 0 where
  -- the bytes are those of the records, which are well formed
  pub file : IsFile case_format case_bytes case_entries
  -- the columns and rows that the clauses give are those written out
  pub lists : case_lists case_entries ≡ worked_lists
  pub column_count : length worked_lists.columns ≡ 25
  pub row_count : length worked_lists.rows ≡ 18
  -- they keep the conditions of a book
  pub sound : sound worked_lists ≡ true
  -- they are listed in 1,066 bytes, and whatever writes them into a buffer of 1,065 finds it short and leaves it
  pub listing_length : length (listing_of worked_lists) ≡ 1066
  pub short : (old new : List ℕ) (answer : Result ℕ BookFault) → length old ≡ 1065 → ListedInto (listing_of worked_lists) old new answer → (answer ≡ Err (ShortBuffer 1066)) × (new ≡ old)
  -- a buffer of 1,066 is then the listing
  pub room : (old new : List ℕ) (answer : Result ℕ BookFault) → length old ≡ 1066 → ListedInto (listing_of worked_lists) old new answer → (answer ≡ Ok 1066) × (new ≡ listing_of worked_lists)
