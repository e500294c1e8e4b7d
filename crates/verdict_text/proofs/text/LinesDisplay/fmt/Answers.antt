use Rattle.std.proofs.Common.{◌++◌, sym, ap, ◌∙◌, ⊎_elim}
use Rattle.std.proofs.lemmas.List.{append-nil}
use Rattle.std.proofs.Output.{has_written_of_eq}
use Rattle.std.specs.List.{flat_map}
use Rattle.verdict_text.proofs.Lines.{pair_text, no_call, no_answer}
use Rattle.verdict_text.proofs.text.LinesDisplay.fmt.Goals as goal

pub returns-clause-writes : goal.returns-clause-writes
returns-clause-writes g c p t =
    let none = ⊎_elim (λ q. no_call _ _ q.1.0) (λ q. no_answer _ _ q.1.0) c.in-None.ensures.steps in
    let so_far = flat_map pair_text c.loop-call.yielded in
    let whole = sym (append-nil so_far) ∙ sym (ap (λ l. so_far ++ l) none) ∙ c.loop-call.invariant.1 in
    has_written_of_eq _ _ _ _ _ whole (c.loop-call.invariant.0 p)
