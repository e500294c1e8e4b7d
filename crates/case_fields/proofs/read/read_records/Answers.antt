use Rattle.std.proofs.Common.{◌≡◌, ◌≤◌, List, [], ◌∷◌, ◌++◌, map, length, vec_items, sym, refl, ap, ◌∙◌, subst, inl, inr, arith}
use Rattle.std.proofs.lemmas.List.{map_push, append-nil, length-append}
use Rattle.fields.specs.Files.{encoding, Fit}
use Rattle.fields.proofs.Laws.{fit_push}
use Rattle.fields.proofs.Loops.{sizes, read_on, offset_on}
use Rattle.case_fields.specs.Cases.{case_format}
use Rattle.case_fields.specs.Entries.{Entry}
use Rattle.case_fields.specs.Meant.{meant}
use Rattle.case_fields.specs.Summaries.{SumsUp}
use Rattle.case_fields.proofs.read.read_records.Goals as goal

pub returns-in-Err : goal.returns-in-Err
unfolding case_format
returns-in-Err c =
    let es = map meant (vec_items c.loop-offset.records) in
    let inv = c.loop-offset.invariant in
    let rest = c.loop-offset.offset-iterator.rest.now in
    let step = c.in-Some.ensures.steps in
    record {
      before = es;
      rest = rest;
      bytes = inv.bytes;
      each = inv.each;
      place = omega (arith, step.place, ap length inv.whole, ap length inv.bytes, length-append (encoding case_format es) rest);
      wrong = inl (step.some, c.in-Err.ensures es _ _ inv.sums step.cut);
    }

pub loop-offset-preserved : goal.loop-offset-preserved
unfolding case_format
loop-offset-preserved c =
    let es = map meant (vec_items c.loop-offset.records) in
    let e = meant c.in-Ok.record in
    let inv = c.loop-offset.invariant in
    let step = c.in-Some.ensures.steps in
    let got = c.in-Ok.ensures es _ _ inv.sums step.cut in
    let items : map meant (vec_items c.push.new.self) ≡ es ++ e ∷ [] = ap (map meant) c.in_ok-push.ensures.items ∙ map_push meant _ _ in
    let Inv : List Entry → Type 0 = λ ds. record { whole : c.next.new.self.input.now ≡ c.args.input.now; bytes : c.args.input.now ≡ encoding case_format ds ++ c.next.new.self.rest.now; each : Fit case_format [] ds; sums : SumsUp c.note.new.self ds; nodes : c.note.new.self.nodes ≤ length (encoding case_format ds) } in
    subst Inv (sym items) (record {
      whole = step.input ∙ inv.whole;
      bytes = read_on case_format es e got.begins inv.bytes;
      each = fit_push case_format [] es e inv.each got.fits;
      sums = c.in_ok-note.ensures.sums es inv.sums got.fits.follows got.fits.refers;
      nodes = omega (arith, inv.nodes, c.note.ensures.grows, offset_on case_format es e got.begins refl, sizes got.begins);
    })

pub returns-then-not-is_complete : goal.returns-then-not-is_complete
unfolding case_format
returns-then-not-is_complete c =
    let es = map meant (vec_items c.loop-offset.records) in
    let inv = c.loop-offset.invariant in
    record {
      before = es;
      rest = c.loop-offset.offset-iterator.rest.now;
      bytes = inv.bytes;
      each = inv.each;
      place = omega (arith, ap length c.in-None.ensures.steps, ap length inv.bytes, length-append (encoding case_format es) c.loop-offset.offset-iterator.rest.now);
      wrong = inr (c.in-None.ensures.steps, sym (c.if-not-is_complete.ensures es inv.sums), refl);
    }

pub returns : goal.returns
unfolding case_format
returns c =
    let es = map meant (vec_items c.loop-offset.records) in
    let inv = c.loop-offset.invariant in
    record {
      bytes = inv.bytes ∙ ap (λ l. encoding case_format es ++ l) c.in-None.ensures.steps ∙ append-nil (encoding case_format es);
      each = inv.each;
      complete = sym (c.if-not-is_complete.ensures es inv.sums);
    }
