use Rattle.std.proofs.Common.{◌≡◌, ◌++◌, map, sym, refl, ap, ◌∙◌, arith, w32, to_z, of_z}
use Rattle.std.proofs.lemmas.Int.{ints}
use Rattle.case_fields.specs.Meant.{meant}
use Rattle.stored_book.specs.Stored.{full_row}
use Rattle.case_columns.specs.Spread.{spread}
use Rattle.case_columns.specs.Tables.{columns_in}
use Rattle.clauses.proofs.Steps.{given, all_given, spread_map}
use Rattle.clauses.specs.Rows.{row_of}
use Rattle.clauses.specs.Clauses.{Common, common, clauses_of, clauses}
use Rattle.clauses.proofs.Single.{singly}
use Rattle.clauses.proofs.build.rows_of.Goals as goal

pub loop-place-init : goal.loop-place-init
loop-place-init c =
    let es = map meant c.args.records.now in
    let row = row_of (columns_in c.args.table.now) in
    ap (λ l. map full_row l ++ spread (λ r e. map row (clauses_of (common es) r e)) 0 es) c.new-rows.ensures.items ∙ sym (spread_map row (clauses_of (common es)) 0 es)

pub loop-place-preserved : goal.loop-place-preserved
loop-place-preserved c =
    let rs = c.args.records.now in
    let row = row_of (columns_in c.args.table.now) in
    let k = c.kinds_of-kinds.ensures.value in
    let a : to_z w32 (of_z w32 c.allowance_of-allowance.result) ≡ c.allowance_of-allowance.result = omega (arith, ints) in
    let added = c.in_ok-add_to.ensures in
    given (λ (m : Common) r e. map row (clauses_of m r e)) (common (map meant rs)) meant rs c.loop-place.place _ _ _ _ _ _ c.loop-place-test.true (λ i. record { kinds = k i; allowance = (a ∙ c.allowance_of-allowance.ensures) i }) refl added c.loop-place.invariant

pub returns : goal.returns
returns c =
    let row = row_of (columns_in c.args.table.now) in
    let es = map meant c.args.records.now in
    let all = all_given (λ (m : Common) r e. map row (clauses_of m r e)) (common es) meant c.args.records.now c.loop-place.place _ _ c.loop-place-test.false c.loop-place.invariant in
    record { rows = all; singly = singly (columns_in c.args.table.now) (clauses es) _ all }
