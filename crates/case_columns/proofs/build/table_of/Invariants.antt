use Rattle.std.proofs.Common.{◌≡◌, ◌++◌, map, drop, length, vec_items}
use Rattle.case_fields.specs.Meant.{meant}
use Rattle.case_columns.specs.Spread.{spread}
use Rattle.case_columns.specs.Placed.{Low, Placed}
use Rattle.case_columns.specs.Kinds.{kinds}
use Rattle.case_columns.specs.Columns.{columns, columns_of}
use Rattle.case_columns.proofs.build.table_of.Given as goal

-- the columns so far and those of the records left make the whole, and each record begins where it should
abbrev pub invariant-loop-place : goal.invariant-loop-place
invariant-loop-place l = record {
  whole : vec_items l.named ++ spread (columns_of (kinds (map meant l.records))) l.place (map meant (drop l.place l.records)) ≡ columns (map meant l.records);
  begun : length (vec_items l.starts) ≡ l.place;
  low : Low (vec_items l.named) (vec_items l.starts);
  placed : Placed (vec_items l.named) (vec_items l.starts);
}
