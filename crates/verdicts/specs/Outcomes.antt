-- What becomes of an input: a case, and then certificates.
use Rattle.std.specs.Prelude.{ℕ, ◌<◌, ◌≤◌, List, map, length, vec_items}
use Rattle.fields.specs.Files.{IsFile}
use Rattle.case_fields.specs.Entries.{Entry}
use Rattle.case_fields.specs.Cases.{case_format}
use Rattle.books.specs.Lists.{Lists}
use Rattle.books.specs.declared.fault.BookFault.{BookFault}
use Rattle.clause_book.specs.CaseLists.{case_lists}
use Rattle.clause_book.specs.Opening.{ToldFault}
use Rattle.docket.specs.declared.run.Call.{Call}
use Rattle.docket.specs.declared.run.Run.{Run}
use Rattle.docket.specs.Runs.{laid_by, RightRun}
use Rattle.inputs.specs.Parts.{CasePart}
use Rattle.verdicts.specs.declared.outcome.Outcome.{Outcome}
use Rattle.verdicts.specs.declared.outcome.Outcome.TheVariants.{InputRefused, CaseRefused, Judged}
use Rattle.verdicts.specs.Laying.{CallsOf}

-- the case of the input is unfit, and this is its first fault
pub record UnfitCase (bs : List ℕ) (fault : BookFault) : Type 0 where
  pub case : List ℕ
  pub rest : List ℕ
  pub part : CasePart bs case rest
  pub told : ToldFault case fault

-- the certificates, cut into calls, are judged on a book as a docket judges them
pub record JudgedOn (b : Lists) (certificates : List ℕ) (calls : List Call) (run : Run) : Type 0 where
  pub made : CallsOf certificates (map laid_by calls)
  pub right : RightRun b (map laid_by calls) (vec_items run.answers) run.standing

-- the certificates behind the case are judged on the book of its records
pub record JudgedCase (bs : List ℕ) (calls : List Call) (run : Run) : Type 0 where
  pub case : List ℕ
  pub rest : List ℕ
  pub part : CasePart bs case rest
  pub entries : List Entry
  pub file : IsFile case_format case entries
  pub judged : JudgedOn (case_lists entries) rest calls run

abbrev pub Becomes : List ℕ → Outcome → Type 0
Becomes bs InputRefused = 65536 < length bs
Becomes bs (CaseRefused fault) = (length bs ≤ 65536) × UnfitCase bs fault
Becomes bs (Judged j) = (length bs ≤ 65536) × JudgedCase bs (vec_items j.calls) j.run
