-- What becomes of an input that should be a case.
use Rattle.std.specs.Prelude.{ℕ, ◌<◌, ◌≤◌, List, map, length, vec_items}
use Rattle.fields.specs.Files.{IsFile, FirstFault}
use Rattle.case_fields.specs.Cases.{case_format}
use Rattle.case_fields.specs.Meant.{meant}
use Rattle.case_text.specs.declared.outcome.Outcome.{Outcome}
use Rattle.case_text.specs.declared.outcome.Outcome.TheVariants.{InputRefused, CaseRefused, Case}

abbrev pub Becomes : List ℕ → Outcome → Type 0
Becomes bs InputRefused = 65536 < length bs
Becomes bs (CaseRefused fault) = (length bs ≤ 65536) × FirstFault case_format bs fault
Becomes bs (Case records) = (length bs ≤ 65536) × IsFile case_format bs (map meant (vec_items records))
