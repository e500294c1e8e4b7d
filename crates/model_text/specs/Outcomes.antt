-- What becomes of an input that should be a case.
use Rattle.std.specs.Prelude.{ℕ, ◌<◌, ◌≤◌, List, map, length, vec_items}
use Rattle.fields.specs.Files.{IsFile}
use Rattle.case_fields.specs.Cases.{case_format}
use Rattle.case_fields.specs.Meant.{meant}
use Rattle.clause_book.specs.Opening.{BookOf, ToldFault}
use Rattle.model_text.specs.declared.outcome.Case.{Case as ACase}
use Rattle.model_text.specs.declared.outcome.Outcome.{Outcome}
use Rattle.model_text.specs.declared.outcome.Outcome.TheVariants.{InputRefused, CaseRefused, Case}

-- the bytes are those of the records, and the book is theirs
pub record IsCase (bs : List ℕ) (c : ACase) : Type 0 where
  pub file : IsFile case_format bs (map meant (vec_items c.records))
  pub book : BookOf (map meant (vec_items c.records)) c.book

abbrev pub Becomes : List ℕ → Outcome → Type 0
Becomes bs InputRefused = 65536 < length bs
Becomes bs (CaseRefused fault) = (length bs ≤ 65536) × ToldFault bs fault
Becomes bs (Case c) = (length bs ≤ 65536) × IsCase bs c
