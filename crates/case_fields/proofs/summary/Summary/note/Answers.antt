use Rattle.std.proofs.Common.{false, get_or, vec_items, sym, refl, ap, ◌∙◌, arith}
use Rattle.case_fields.specs.Meant.{meant}
use Rattle.case_fields.specs.Tests.{either, one}
use Rattle.case_fields.proofs.Noted.{one_more, unset_push, marked, offer_there, plain}
use Rattle.case_fields.proofs.summary.Summary.note.Goals as goal

pub returns-in-Period-clause-sums : goal.returns-in-Period-clause-sums
returns-in-Period-clause-sums c es s o r =
    one_more _ _ es _ _ _ (ap meant c.in-Period.is) s o c.kind.ensures refl refl (omega arith) (omega arith) (λ k. refl)

pub returns-in-Node-clause-sums : goal.returns-in-Node-clause-sums
returns-in-Node-clause-sums c es s o r =
    one_more _ _ es _ _ _ (ap meant c.in-Node.is) s o c.kind.ensures refl refl refl (omega arith) (λ k. refl)

pub returns-in_ok-push-in-EnergyOffer-clause-sums : goal.returns-in_ok-push-in-EnergyOffer-clause-sums
returns-in_ok-push-in-EnergyOffer-clause-sums c es s o r =
    one_more _ _ es _ _ _ (ap meant c.in-EnergyOffer.is) s o c.kind.ensures refl refl (omega arith) c.in_ok-push-in-EnergyOffer.ensures.len (λ k. ap (λ l. get_or l k false) c.in_ok-push-in-EnergyOffer.ensures.items ∙ unset_push _ k)

pub returns-in-RegulationOffer-clause-sums : goal.returns-in-RegulationOffer-clause-sums
returns-in-RegulationOffer-clause-sums c es s o r =
    one_more _ _ es _ _ _ (ap meant c.in-RegulationOffer.is) s o c.kind.ensures refl refl (omega arith) (omega (arith, c.mark.ensures.len)) (λ k. ap (λ l. get_or l k false) c.mark.ensures.items ∙ marked _ c.in-RegulationOffer.regulation.offer k (omega (arith, offer_there es _ _ (ap meant c.in-RegulationOffer.is) r, s.offers, c.args.self.now.regulated.ok.0)))

pub returns-in-Line : goal.returns-in-Line
returns-in-Line c =
    let p = plain _ c.in-Line.is in
    record {
      sums = λ es s o r. one_more _ _ es _ _ _ refl s o c.kind.ensures refl (ap (λ b. either b c.args.self.now.has_period) (sym p.no_period)) (omega (arith, ap one p.no_node)) (omega (arith, ap one p.no_offer)) (λ k. sym (ap (λ b. either b (get_or (vec_items c.args.self.now.regulated) k false)) (p.regulates_none k)));
      grows = omega arith;
    }
