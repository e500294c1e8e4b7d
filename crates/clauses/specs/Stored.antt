-- What stored rows hold, and when a clause or several have no rows.
use Rattle.std.specs.Prelude.{◌≡◌, false, Bool, ◌&&◌, List, ◌++◌, map, pos, neg_ℤ, int_le, nat_lt, vec_items, Vec, Result, MatchResult}
use Rattle.std.specs.List.{list_all}
use Rattle.std.specs.declared.alloc.Global.{Global}
use Rattle.listing_fields.specs.declared.term.Term.{Term}
use Rattle.books.specs.Lists.{FullRow}
use Rattle.stored_book.specs.declared.row.StoredRow.{StoredRow}
use Rattle.stored_book.specs.Stored.{full_row}
use Rattle.case_columns.specs.declared.name.Named.{Named}
use Rattle.clauses.specs.declared.error.ClauseError.{ClauseError}
use Rattle.clauses.specs.declared.error.ClauseError.TheVariants.{OutOfRange}
use Rattle.clauses.specs.Rows.{Clause, row_of}

-- the rows, in order
abbrev pub rows_in : Vec StoredRow Global → List FullRow
rows_in v = map full_row (vec_items v)

-- a term holds 16 bits for the number of its column and 32 for its coefficient
abbrev pub holds : Term → Bool
holds t =
    nat_lt t.column 65536 && (int_le (neg_ℤ (pos 2147483648)) t.coefficient && int_le t.coefficient (pos 2147483647))

-- and so do all terms of a row
abbrev pub holds_row : FullRow → Bool
holds_row r = list_all holds r.terms

-- the row of a clause; where it is out of range, it has a term that is
abbrev pub Makes : List Named → Clause → Result StoredRow ClauseError → Type 0
Makes cs d r = MatchResult r (λ s. full_row s ≡ row_of cs d) (λ e. e ≡ OutOfRange → holds_row (row_of cs d) ≡ false)

-- the rows of clauses; where one is out of range, it has a term that is
abbrev pub MakesAll : List Named → List Clause → Result (Vec StoredRow Global) ClauseError → Type 0
MakesAll cs ds r =
    MatchResult r (λ v. rows_in v ≡ map (row_of cs) ds) (λ e. e ≡ OutOfRange → list_all holds_row (map (row_of cs) ds) ≡ false)

-- the second rows are the first with those of clauses behind; where one is out of range, it has a term that is
abbrev pub AddsAll : List Named → Vec StoredRow Global → Vec StoredRow Global → List Clause → Result (Unit {0}) ClauseError → Type 0
AddsAll cs v w ds r =
    MatchResult r (λ _. rows_in w ≡ rows_in v ++ map (row_of cs) ds) (λ e. e ≡ OutOfRange → list_all holds_row (map (row_of cs) ds) ≡ false)

-- rows are refused as out of range only where one has a term that does not fit
abbrev pub IsRefused : {X : Type 0} → List Named → List Clause → Result X ClauseError → Type 0
IsRefused cs ds r = MatchResult r (λ _. Unit {0}) (λ e. e ≡ OutOfRange → list_all holds_row (map (row_of cs) ds) ≡ false)
