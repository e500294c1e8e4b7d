use Rattle.inputs.proofs.Walking.{place_within, ends_before, goes_on, ends_all}
use Rattle.inputs.proofs.part.case_length.Goals as goal

pub slice_bounds-begins_certificate-count : goal.slice_bounds-begins_certificate-count
slice_bounds-begins_certificate-count c =
    place_within c.args.input.now _ _ _ _ c.loop-offset.invariant c.in-Some.ensures.steps

pub returns-then-begins_certificate-clause-part : goal.returns-then-begins_certificate-clause-part
returns-then-begins_certificate-clause-part c =
    ends_before c.args.input.now _ _ _ _ c.loop-offset.invariant c.in-Some.ensures.steps c.if-begins_certificate.ensures

pub loop-offset-preserved : goal.loop-offset-preserved
loop-offset-preserved c =
    goes_on c.args.input.now _ _ _ _ c.loop-offset.invariant c.in-Some.ensures.steps c.if-begins_certificate.ensures

pub returns-clause-part : goal.returns-clause-part
returns-clause-part c = ends_all c.args.input.now _ c.loop-offset.invariant c.in-None.ensures.steps
