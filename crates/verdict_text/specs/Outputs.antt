-- The text of what becomes of an input.
use Rattle.std.specs.Prelude.{◌≡◌, ℕ, List, [], ◌∷◌, ◌++◌, vec_items, codes, decimal}
use Rattle.books.specs.Faults.{rule}
use Rattle.books.specs.declared.part.Place.{Place}
use Rattle.books.specs.declared.fault.BookFault.{BookFault}
use Rattle.docket.specs.declared.run.Call.{Call}
use Rattle.docket.specs.declared.run.Answer.{Answer}
use Rattle.docket.specs.Runs.{laid_by}
use Rattle.verdicts.specs.declared.outcome.Outcome.{Outcome}
use Rattle.verdicts.specs.declared.outcome.Outcome.TheVariants.{InputRefused, CaseRefused, Judged}
use Rattle.verdicts.specs.Outcomes.{Becomes}
use Rattle.books.specs.Places.{place_text}
use Rattle.verdict_text.specs.Texts.{line_text, standing_text}

-- a line for each call, in order
abbrev pub lines_text : List Call → List Answer → List ℕ
lines_text [] ans = []
lines_text (c ∷ cs) [] = []
lines_text (c ∷ cs) (a ∷ ans) = line_text (laid_by c) a.verdict ++ lines_text cs ans

-- the line of an unfit case
abbrev pub refused_case_text : ℕ → Place → List ℕ
refused_case_text n p = codes "case refused " ++ (decimal n ++ (codes " " ++ (place_text p ++ codes "\n")))

abbrev pub fault_text : BookFault → List ℕ
fault_text f = refused_case_text (rule f).number (rule f).place

abbrev pub outcome_text : Outcome → List ℕ
outcome_text InputRefused = codes "input refused\n"
outcome_text (CaseRefused f) = fault_text f
outcome_text (Judged j) = lines_text (vec_items j.calls) (vec_items j.run.answers) ++ standing_text j.run.standing

-- the bytes written for an input: the text of what becomes of it
pub record Output (input text : List ℕ) : Type 0 where
  pub outcome : Outcome
  pub becomes : Becomes input outcome
  pub written : text ≡ outcome_text outcome
