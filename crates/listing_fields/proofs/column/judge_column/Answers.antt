use Rattle.std.proofs.Common.{◌≡◌, Some, None, refl, arith}
use Rattle.std.proofs.lemmas.Option.{MatchOption-at_some, MatchOption-at_none}
use Rattle.std.proofs.lemmas.Result.{err_from_is_err_and}
use Rattle.fields.specs.declared.fault.FaultKind.TheVariants.{BadLength}
use Rattle.listing_fields.specs.Reading.{column_written}
use Rattle.listing_fields.proofs.Judged.{mis_sized, turned}
use Rattle.listing_fields.proofs.column.judge_column.Goals as goal

pub returns-in_err-column : goal.returns-in_err-column
returns-in_err-column c es bs rest p o =
    let none : c.read.result ≡ None = grind arith in
    let long : c.in_err-column.field-0.0 ≡ BadLength = grind arith in
    let q = err_from_is_err_and c.from_residual.result c.from_residual.ensures.1 in
    rw (q.1, q.2, long) (mis_sized es p refl o (MatchOption-at_none _ _ none c.read.ensures))

pub returns : goal.returns
returns c es bs rest p o =
    let some : c.read.result ≡ Some c.in_ok-column.column = grind arith in
    turned es (column_written c.in_ok-column.column) (MatchOption-at_some _ _ _ some c.read.ensures) p o c.try_from.result refl refl c.try_from.ensures
