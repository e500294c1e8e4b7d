use Rattle.docket.proofs.Running.{turn, ended}
use Rattle.docket.proofs.run.judge_calls.Goals as goal

pub loop-call-preserved : goal.loop-call-preserved
loop-call-preserved g c =
    let inv = c.loop-call.invariant in
    let more = turn g.B.Book.meaning c.args.book.now c.args.calls.now c.loop-call.call-index _ c.loop-call.docket inv.book inv.answered _ _ c.lay-verdict.result c.lay-verdict.new.self c.standing-standing.result
    c.loop-call-test.true c.lay-verdict.ensures c.standing-standing.ensures.value c.in_ok-push.ensures.items in
    record { answered = more.0; book = more.1 }

pub returns : goal.returns
returns g c =
    let inv = c.loop-call.invariant in
    ended g.B.Book.meaning c.args.book.now c.args.calls.now c.loop-call.call-index _ c.loop-call.docket inv.book inv.answered c.standing-standing-2.result c.loop-call-test.false c.standing-standing-2.ensures.value
