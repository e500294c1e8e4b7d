use Rattle.std.proofs.Common.{◌≡◌, true, length, Some, None, sym, refl, ap, ◌∙◌, arith}
use Rattle.std.proofs.lemmas.Option.{MatchOption-at_some, MatchOption-at_none}
use Rattle.std.proofs.lemmas.Result.{err_from_is_err_and}
use Rattle.fields.specs.declared.fault.FaultKind.TheVariants.{BadLength}
use Rattle.listing_fields.specs.Terms.{terms_in}
use Rattle.listing_fields.specs.Encoding.{body, Written}
use Rattle.listing_fields.specs.Tests.{sized, terms_refer}
use Rattle.listing_fields.specs.Reading.{row_written}
use Rattle.listing_fields.proofs.Judged.{mis_sized, misreferring, unordered, reads, refused, gives_terms}
use Rattle.listing_fields.proofs.row.judge_row.Goals as goal
use Rattle.listing_fields.proofs.row.judge_row.Goals.{After-try_from}

pub returns-in_err-row : goal.returns-in_err-row
returns-in_err-row c es bs rest p o k =
    let none : c.read.result ≡ None = grind arith in
    let long : c.in_err-row.field-0.0 ≡ BadLength = grind arith in
    let q = err_from_is_err_and c.from_residual.result c.from_residual.ensures.1 in
    rw (q.1, q.2, long) (mis_sized es p refl o (MatchOption-at_none _ _ none c.read.ensures))

-- what was read
read : (c : After-try_from) → let w = row_written c.in_ok-row.row in (sized 11 (length c.args.bytes.now) ≡ true) × (body w ≡ c.args.bytes.now) × Written w
read c =
    let some : c.read.result ≡ Some c.in_ok-row.row = grind arith in MatchOption-at_some _ _ _ some c.read.ensures

pub returns-in_err-record : goal.returns-in_err-record
returns-in_err-record c es bs rest p o k =
    let is = read (goal.at.returns-in_err-record c).After-try_from in
    let q = err_from_is_err_and c.from_residual-in_err-record.result c.from_residual-in_err-record.ensures.1 in
    rw (q.1, q.2) (refused es (row_written c.in_ok-row.row) is p o c.in_err-record.field-0.0 c.in_err-record.ensures)

pub returns-then-not-refer : goal.returns-then-not-refer
returns-then-not-refer c es bs rest p o k =
    let is = read (goal.at.returns-then-not-refer c).After-try_from in
    let ts = terms_in c.in_ok-row.row.terms.bytes.now in
    let refers = ap (λ n. terms_refer n ts) (sym k) ∙ sym (c.if-not-refer.ensures ts (gives_terms c.iter.result _ c.iter.ensures)) in
    misreferring es (row_written c.in_ok-row.row) is.1 p is.2 o is.0 c.in_ok-record.ensures.0 refers

pub returns-then-not-rise : goal.returns-then-not-rise
returns-then-not-rise c es bs rest p o k =
    let is = read (goal.at.returns-then-not-rise c).After-try_from in
    let ts = terms_in c.in_ok-row.row.terms.bytes.now in
    let refers = ap (λ n. terms_refer n ts) (sym k) ∙ sym (c.if-not-refer.ensures ts (gives_terms c.iter.result _ c.iter.ensures)) in
    unordered es (row_written c.in_ok-row.row) is.1 p is.2 o is.0 c.in_ok-record.ensures.0 refers (sym (c.if-not-rise.ensures ts (gives_terms c.iter-2.result _ c.iter-2.ensures)))

pub returns : goal.returns
returns c es bs rest p o k =
    let is = read (goal.at.returns c).After-try_from in
    let ts = terms_in c.in_ok-row.row.terms.bytes.now in
    let refers = ap (λ n. terms_refer n ts) (sym k) ∙ sym (c.if-not-refer.ensures ts (gives_terms c.iter.result _ c.iter.ensures)) in
    reads es (row_written c.in_ok-row.row) is.1 p is.2 o is.0 c.in_ok-record.ensures.0 refers _ c.in_ok-record.ensures.1 (sym (c.if-not-rise.ensures ts (gives_terms c.iter-2.result _ c.iter-2.ensures)))
