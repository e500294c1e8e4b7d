use Rattle.std.proofs.Common.{map, length, vec_items, sym, subst}
use Rattle.std.proofs.lemmas.Result.{err_from_is_err_and}
use Rattle.case_fields.specs.Meant.{meant}
use Rattle.clause_book.specs.Opening.{Told}
use Rattle.clause_book.proofs.Answered.{Built, Reads, built_reads, refused_reads, accepts_only, refuses_only, sound_is_few}
use Rattle.clause_book.proofs.book.ClauseBook.open.Goals as goal

pub returns : goal.returns
returns c =
    let bs = c.args.input.now in
    let r = c.build.result in
    let built = subst (λ rs. Built (map meant rs) (length bs) r) c.deref.ensures.value c.build.ensures in
    let reads : Reads bs r = built_reads bs (map meant (vec_items c.in_ok-records.records)) c.in_ok-records.ensures.reads r built in
    record { reads = reads; accepts = accepts_only bs r reads; refuses = refuses_only bs r reads; conditions = sound_is_few bs }

pub returns-in_err-records : goal.returns-in_err-records
returns-in_err-records c =
    let bs = c.args.input.now in
    let r = c.from_residual.result in
    let p = err_from_is_err_and r c.from_residual.ensures.1 in
    let told = refused_reads bs c.in_err-records.field-0.0 c.in_err-records.ensures.reads in
    let reads : Reads bs r = subst (Reads bs) (sym p.1) (subst (Told bs) (sym p.2) told) in
    record { reads = reads; accepts = accepts_only bs r reads; refuses = refuses_only bs r reads; conditions = sound_is_few bs }
