use Rattle.std.proofs.Common.{map, rules}
use Rattle.case_fields.specs.Meant.{meant}
use Rattle.clause_book.proofs.Answered.{rows_refused}
use Rattle.clause_book.proofs.open.build.Goals as goal

pub returns-in_err-rows : goal.returns-in_err-rows
returns-in_err-rows c =
    let told = rows_refused (map meant c.args.records.now) _ c.args.length _ c.in_ok-table.ensures c.in_err-rows.ensures in
    search rules
