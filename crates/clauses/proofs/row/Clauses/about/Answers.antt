use Rattle.std.proofs.Common.{◌≡◌, ◌+ℤ◌, ◌-ℤ◌, Some, subst, arith, w32, w64, to_z, of_z}
use Rattle.std.proofs.lemmas.Int.{ints}
use Rattle.case_columns.specs.Tables.{columns_in}
use Rattle.clauses.specs.Rows.{Clause}
use Rattle.clauses.specs.Stored.{Makes}
use Rattle.clauses.proofs.row.Clauses.about.Goals as goal

pub returns : goal.returns
returns c =
    let s = c.args.side in
    let a = c.args.self.setting.allowance in
    let v = to_z w64 (of_z w64 c.from-allowance.result) in
    let same : to_z w32 (of_z w32 a) ≡ a = omega (arith, ints) in
    let low : to_z w64 (of_z w64 (to_z w64 (of_z w64 s) -ℤ v)) ≡ s -ℤ a = omega (arith, ints) in
    let high : to_z w64 (of_z w64 (to_z w64 (of_z w64 s) +ℤ v)) ≡ s +ℤ a = omega (arith, ints) in
    let rows = columns_in c.args.self.table.now in
    subst (λ (d : Clause). Makes rows d c.row.result) (λ i. record { code = c.args.code; lower = Some (low i); upper = Some (high i); sum = c.args.items.now }) c.row.ensures
