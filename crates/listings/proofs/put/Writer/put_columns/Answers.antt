use Rattle.std.proofs.Common.{drop, ap, ◌∙◌, arith}
use Rattle.listings.specs.Writing.{column_bytes}
use Rattle.listings.proofs.Parts.{length-column}
use Rattle.listings.proofs.Runs.{run_none, run_room, run_more, run_all}
use Rattle.listings.proofs.put.Writer.put_columns.Goals as goal

pub loop-column-init : goal.loop-column-init
loop-column-init g c =
    let of = c.of-column-items.ensures in
    run_none column_bytes _ c.args.self.now c.requires _
    (ap (λ s. drop s.next (g.B.Book.meaning s.book.now).columns) c.into_iter-column-iterator.ensures.into_iter_gives ∙ (λ i. drop (of.next i) (g.B.Book.meaning (of.book i)).columns))

pub put_column-requires : goal.put_column-requires
put_column-requires g c =
    let room = run_room column_bytes _ c.args.self.now c.requires c.loop-column.invariant c.in-Some.column _ c.in-Some.ensures.steps in
    omega (arith, room, length-column c.in-Some.column)

pub loop-column-preserved : goal.loop-column-preserved
loop-column-preserved g c =
    run_more column_bytes _ c.args.self.now c.requires c.loop-column.invariant c.in-Some.column _ c.in-Some.ensures.steps c.put_column.ensures

pub returns : goal.returns
returns g c = run_all column_bytes _ c.args.self.now c.requires c.loop-column.invariant c.in-None.ensures.steps.0
