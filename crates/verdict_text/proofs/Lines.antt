-- The lines of calls, one after the other.
use Rattle.std.proofs.Common.{◌≡◌, ℕ, List, [], ◌∷◌, length, refl, arith, Bor}
use Rattle.docket.specs.declared.run.Call.{Call}
use Rattle.docket.specs.declared.run.Answer.{Answer}
use Rattle.docket.specs.Runs.{laid_by}
use Rattle.verdict_text.specs.Texts.{line_text}
use Rattle.verdict_text.specs.Outputs.{lines_text}

-- the line of a call and its answer
abbrev pub pair_text : Bor Call × Bor Answer → List ℕ
pair_text p = line_text (laid_by p.0.now) p.1.now.verdict

-- there are no lines once calls or answers are at their end
pub no_call : (cs : List Call) (ans : List Answer) → length cs ≡ 0 → lines_text cs ans ≡ []
no_call [] ans e = refl
no_call (c ∷ cs) ans e = absurd (omega arith)

pub no_answer : (cs : List Call) (ans : List Answer) → length ans ≡ 0 → lines_text cs ans ≡ []
no_answer [] ans e = refl
no_answer (c ∷ cs) [] e = refl
no_answer (c ∷ cs) (a ∷ ans) e = absurd (omega arith)
