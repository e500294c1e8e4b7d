-- What opening the book over a case gives.
use Rattle.std.specs.Prelude.{◌≡◌, ℕ, false, List, length}
use Rattle.fields.specs.Files.{IsFile, FirstFault}
use Rattle.case_fields.specs.Entries.{Entry}
use Rattle.case_fields.specs.Cases.{case_format}
use Rattle.books.specs.declared.fault.BookFault.{BookFault}
use Rattle.books.specs.declared.fault.BookFault.TheVariants.{Field, TooLarge, NoRoom, UnfitRow, ShortBuffer}
use Rattle.books.specs.declared.fault.BookError.{BookError}
use Rattle.books.specs.declared.fault.BookError.TheVariants.{Memory, Fault}
use Rattle.clauses.specs.declared.error.ClauseError.{ClauseError}
use Rattle.clauses.specs.declared.error.ClauseError.TheVariants as clause_error
use Rattle.books.specs.Conditions.{few}
use Rattle.case_columns.specs.Columns.{columns}
use Rattle.clause_book.specs.declared.book.ClauseBook.{ClauseBook}
use Rattle.clause_book.specs.CaseLists.{case_lists}
use Rattle.clause_book.specs.Books.{clause_lists, named_in}
use Rattle.clause_book.specs.Numbered.{Numbered}

-- the book means the lists of these records, and names their columns
pub record BookOf (es : List Entry) (b : ClauseBook) : Type 0 where
  pub lists : clause_lists b ≡ case_lists es
  pub names : named_in b ≡ columns es

-- the bytes are a well formed case, and this is its book
pub record Opened (bs : List ℕ) (b : ClauseBook) : Type 0 where
  pub entries : List Entry
  pub file : IsFile case_format bs entries
  pub book : BookOf entries b
  pub numbered : Numbered entries

-- the bytes are a well formed case with too many columns, rows or terms
pub record IsTooLarge (bs : List ℕ) : Type 0 where
  pub entries : List Entry
  pub file : IsFile case_format bs entries
  pub many : few (case_lists entries) ≡ false

-- what a refusal tells of the bytes
abbrev pub ToldFault : List ℕ → BookFault → Type 0
ToldFault bs (Field f) = FirstFault case_format bs f
ToldFault bs (TooLarge n) = (n ≡ length bs) × IsTooLarge bs
ToldFault bs (NoRoom i) = ⊥
ToldFault bs (UnfitRow i) = ⊥
ToldFault bs (ShortBuffer n) = ⊥

abbrev pub Told : List ℕ → BookError → Type 0
Told bs Memory = Unit {0}
Told bs (Fault f) = ToldFault bs f

-- what is told where the rows of a case of so many bytes were not made
abbrev pub rows_told : ℕ → ClauseError → BookError
rows_told n clause_error.Memory = Memory
rows_told n clause_error.OutOfRange = Fault (TooLarge n)
