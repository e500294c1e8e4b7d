use Rattle.std.proofs.Common.{ap, ◌∙◌, rules}
use Rattle.certificates.specs.Values.{multipliers}
use Rattle.certificates.specs.Checks.{judged_set}
use Rattle.multipliers.proofs.Laws.{counted, miscounted, answer_passes, passes_accepted}
use Rattle.multipliers.proofs.judge.judge_set.Goals as goal

pub returns : goal.returns
returns g c =
    let b = g.B.Book.meaning c.args.book.now in
    let vs = c.args.values.now in
    let judged = c.judge_multipliers.ensures.answer ∙ ap (λ l. judged_set b (multipliers l)) c.new.ensures in
    let is = counted b vs c.row_count.result c.judge_multipliers.result c.row_count.ensures c.if-not-are_counted.ensures judged in
    record {
      answer = is;
      same = c.judge_multipliers.ensures.same;
      passes = answer_passes b vs _ is;
      accepts = λ v count passes. is ∙ passes_accepted b vs v count passes;
    }

pub returns-then-not-are_counted : goal.returns-then-not-are_counted
returns-then-not-are_counted g c =
    let b = g.B.Book.meaning c.args.book.now in
    let vs = c.args.values.now in
    let is = miscounted b vs c.row_count.result c.row_count.ensures c.if-not-are_counted.ensures in
    record { answer = is; same = search rules; passes = tt; accepts = λ v count passes. is ∙ passes_accepted b vs v count passes }
