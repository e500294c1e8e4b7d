-- The fields of a listing as plain values, as they are written.
use Rattle.std.specs.Prelude.{ℕ, List, ℤ}
use Rattle.listing_fields.specs.declared.term.Term.{Term}

pub record Column : Type 0 where
  pub lower : ℤ
  pub upper : ℤ
  pub price : ℤ
  pub switch : ℕ

pub record Row : Type 0 where
  pub code : ℕ
  pub side : ℕ
  pub lower : ℤ
  pub upper : ℤ
  pub terms : List Term

-- one field of a listing
pub data Entry : Type 0 where
  column : Column → Entry
  row : Row → Entry
