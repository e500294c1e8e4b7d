use Rattle.std.proofs.Common.{◌≡◌, ◌≤◌, ◌++◌, length, replicate, drop, ap, ◌∙◌, arith, w64}
use Rattle.std.proofs.lemmas.Int.{to_z-of_z}
use Rattle.books.proofs.Sounds.{sound_parts}
use Rattle.certificates.specs.Values.{multipliers}
use Rattle.multipliers.specs.Costs.{Held, nought, rows_taken, table_total}
use Rattle.multipliers.proofs.Same.{held_same}
use Rattle.multipliers.proofs.Whole.{full, total_is, restored}
use Rattle.multipliers.proofs.judge.add_reduced_costs.Goals as goal

pub clear-requires : goal.clear-requires
clear-requires g c =
    let few = (sound_parts _ (g.met.B.Book.kept c.args.book.now)).few_columns in
    let count = c.column_count.ensures in
    omega arith

pub returns : goal.returns
returns g c =
    let b = g.B.Book.meaning c.args.book.now in
    let kept = g.met.B.Book.kept c.args.book.now in
    let ys = multipliers c.args.values.bytes.now in
    let tab = c.args.costs.now.entries in
    let few = (sound_parts b kept).few_columns in
    let many = c.start.ensures.long in
    let long : length b.columns ≤ length tab = omega arith in
    let entries = λ (h : Held). h.entries in
    let is : c.subtract_rows.new.self.entries ≡ full b kept ys tab long = ap entries c.subtract_rows.ensures ∙ ap (λ (h : Held). rows_taken b.rows ys h.entries) c.start.ensures.starts in
    record {
      sum =
          c.add_columns-sum.ensures
          ∙ ap (table_total 0 b.columns c.subtract_rows.new.self.entries) (to_z-of_z w64 _ c.ranges.total)
          ∙ ap (λ q. table_total 0 b.columns q c.args.total) is
          ∙ total_is b kept ys tab long c.args.total;
      same =
          held_same _ _ (restored b kept ys tab long c.requires c.column_count.result c.column_count.ensures c.clear.new.self.entries (ap entries c.clear.ensures ∙ ap (λ q. replicate c.column_count.result nought ++ drop c.column_count.result q) is))
          (ap (λ (h : Held). h.block) (c.clear.ensures) ∙ ap (λ (h : Held). h.block) c.subtract_rows.ensures ∙ ap (λ (h : Held). h.block) c.start.ensures.starts)
          (ap (λ (h : Held). h.room) (c.clear.ensures) ∙ ap (λ (h : Held). h.room) c.subtract_rows.ensures ∙ ap (λ (h : Held). h.room) c.start.ensures.starts);
    }
