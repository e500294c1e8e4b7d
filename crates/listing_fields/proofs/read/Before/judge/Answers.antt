use Rattle.std.proofs.Common.{leb, sym, ap, ◌∙◌, subst}
use Rattle.std.proofs.lemmas.Result.{err_from_is_err_and}
use Rattle.fields.specs.Walks.{IsCut}
use Rattle.listing_fields.specs.Tests.{known}
use Rattle.listing_fields.proofs.Judged.{known_kind, cut, unknown, disordered}
use Rattle.listing_fields.proofs.read.Before.judge.Goals as goal

pub returns-in_err-field : goal.returns-in_err-field
returns-in_err-field c es bs rest t k =
    let past = subst (λ r. IsCut bs r rest) c.in_err-field.was k in
    let q = err_from_is_err_and c.from_residual.result c.from_residual.ensures.1 in
    rw (q.1, q.2, past.0) (cut es past.1)

pub returns-in_err-kind : goal.returns-in_err-kind
returns-in_err-kind c es bs rest t k =
    let p = subst (λ r. IsCut bs r rest) c.in_ok-field.was k in
    let q = err_from_is_err_and c.from_residual-in_err-kind.result c.from_residual-in_err-kind.ensures.1 in
    rw (q.1, q.2, c.in_err-kind.ensures.0) (unknown es p c.in_err-kind.ensures.1)

pub returns-then-not-allows : goal.returns-then-not-allows
returns-then-not-allows c es bs rest t k =
    let p = subst (λ r. IsCut bs r rest) c.in_ok-field.was k in
    let falls = (λ i. leb (sym t.last_is i) (sym c.in_ok-kind.ensures i)) ∙ sym c.if-not-allows.ensures in
    let known = ap known (sym c.in_ok-kind.ensures) ∙ known_kind c.in_ok-kind.kind in
    disordered es p known falls
