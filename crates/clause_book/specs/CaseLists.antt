-- What the book of a case means: the columns of its records, and the rows of its clauses over them.
use Rattle.std.specs.Prelude.{List, map}
use Rattle.case_fields.specs.Entries.{Entry}
use Rattle.books.specs.Lists.{FullRow, Lists}
use Rattle.case_columns.specs.declared.name.Named.{Named}
use Rattle.case_columns.specs.Columns.{columns}
use Rattle.clauses.specs.Rows.{row_of}
use Rattle.clauses.specs.Clauses.{clauses}

-- named columns without their names, and rows
abbrev pub lists_of : List Named → List FullRow → Lists
lists_of cs rs = record { columns = map (λ (c : Named). c.column) cs; rows = rs }

-- the columns of a case, and the rows of its clauses over them
unfoldable pub case_lists : List Entry → Lists
case_lists es = lists_of (columns es) (map (row_of (columns es)) (clauses es))
