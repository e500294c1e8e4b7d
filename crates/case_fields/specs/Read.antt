-- The next record of a case.
use Rattle.std.specs.Prelude.{ℕ, List}
use Rattle.fields.specs.Fields.{Begins}
use Rattle.fields.specs.Files.{Fits}
use Rattle.case_fields.specs.Entries.{Entry}
use Rattle.case_fields.specs.Encoding.{tag, body}
use Rattle.case_fields.specs.Cases.{case_format}

-- the bytes begin with the field of a record that fits after others
pub record Next (es : List Entry) (bs : List ℕ) (e : Entry) (rest : List ℕ) : Type 0 where
  pub begins : Begins bs (tag e) (body e) rest
  pub fits : Fits case_format es e
