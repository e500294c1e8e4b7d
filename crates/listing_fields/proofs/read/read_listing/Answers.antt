use Rattle.std.proofs.Common.{◌≡◌, ◌-◌, ◌<◌, map, length, vec_items, ap, ◌∙◌, inr, arith, rules}
use Rattle.std.proofs.lemmas.List.{map_push}
use Rattle.std.proofs.lemmas.Result.{MatchResult-at_ok, MatchResult-at_err, err_from_is_err_and}
use Rattle.fields.specs.Files.{FirstFault}
use Rattle.fields.specs.declared.fault.FieldFault.{FieldFault}
use Rattle.fields.specs.declared.fault.ReadError.TheVariants.{Field}
use Rattle.fields.proofs.Laws.{one_reading, never_both, one_fault}
use Rattle.listing_fields.specs.Listings.{listing_format}
use Rattle.listing_fields.specs.Meant.{meant}
use Rattle.listing_fields.proofs.Single.{lawful}
use Rattle.listing_fields.proofs.Mapped.{was_ok, was_err}
use Rattle.listing_fields.proofs.Steps.{seen_more, columns_most, seen_all, seen_fault}
use Rattle.listing_fields.proofs.read.read_listing.Goals as goal

pub with-before-requires : goal.with-before-requires
with-before-requires c =
    let left = c.in-Some.ensures.steps.some in
    let whole : length c.args.input.now < 18446744073709551616 = search rules in
    omega (arith, columns_most c.loop-offset.invariant.seen)

pub loop-offset-preserved : goal.loop-offset-preserved
loop-offset-preserved c =
    let inv = c.loop-offset.invariant in
    let step = c.in-Some.ensures.steps in
    let es = map meant (vec_items c.loop-offset.records) in
    let was = was_ok _ c.map_err.result c.judge.result _ c.map_err.ensures.cases c.in_ok-next.was in
    let more = MatchResult-at_ok _ _ _ was (c.judge.ensures es _ _ inv.seen.tells step.cut) in
    let items = ap (map meant) c.in_ok-push.ensures.items ∙ map_push meant (vec_items c.loop-offset.records) c.in_ok-next.next in
    record { whole = step.input ∙ inv.whole; seen = seen_more _ (meant c.in_ok-next.next) _ _ inv.seen more items (c.with-before.ensures _ inv.seen.tells) }

pub returns-in_err-next : goal.returns-in_err-next
returns-in_err-next c =
    let inv = c.loop-offset.invariant in
    let step = c.in-Some.ensures.steps in
    let p = err_from_is_err_and c.from_residual.result c.from_residual.ensures.1 in
    let w = was_err _ c.map_err.result c.judge.result _ c.map_err.ensures.cases c.in_err-next.was in
    let wrong = MatchResult-at_err _ _ _ w.1 (c.judge.ensures _ _ _ inv.seen.tells step.cut) in
    let place = step.place ∙ ap (λ l. length l - length c.loop-offset.offset-iterator.rest.now) inv.whole in
    let made : ◌≡◌ {A = FieldFault} c.in_err-next.field-0.0 (record { kind = w.0; offset = c.in-Some.offset }) = search (rules, w.2) in
    let fault : FirstFault listing_format c.args.input.now c.in_err-next.field-0.0 = rw made (seen_fault _ _ inv.seen step.some wrong place) in
    rw (p.1, p.2) (record {
      reads = fault;
      accepts = λ ds file. absurd (never_both listing_format lawful _ ds _ file fault);
      refuses = λ other first. inr (ap Field (one_fault listing_format lawful _ _ other fault first));
    })

pub returns : goal.returns
returns c =
    let file = seen_all c.loop-offset.invariant.seen (ap length c.in-None.ensures.steps) in
    record {
      reads = file;
      accepts = λ ds other. one_reading listing_format lawful _ _ ds file other;
      refuses = λ fault first. never_both listing_format lawful _ _ fault file first;
    }
