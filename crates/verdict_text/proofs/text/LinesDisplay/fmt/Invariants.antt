use Rattle.std.proofs.Common.{◌≡◌, ◌++◌}
use Rattle.std.specs.Fmt.{HasWritten, IsPlainFormatter}
use Rattle.std.specs.List.{flat_map}
use Rattle.std.specs.Iterator.Adapters.{zip_first, zip_second}
use Rattle.std.specs.Slice.Iter.{iter_rest}
use Rattle.verdict_text.specs.Outputs.{lines_text}
use Rattle.verdict_text.proofs.Lines.{pair_text}
use Rattle.verdict_text.proofs.text.LinesDisplay.fmt.Given as goal

-- the lines of the pairs so far are written, and with those of what is left they are all lines
abbrev pub invariant-loop-call : goal.invariant-loop-call
invariant-loop-call g l =
    (IsPlainFormatter l.initial.f → HasWritten g.W.Write.write_str_gives l.initial.f (flat_map pair_text l.yielded) l.f)
    × (flat_map pair_text l.yielded ++ lines_text (iter_rest (zip_first l.call-iterator)) (iter_rest (zip_second l.call-iterator)) ≡ lines_text l.self.calls.now l.self.answers.now)
