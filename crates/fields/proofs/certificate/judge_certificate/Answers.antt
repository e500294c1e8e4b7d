use Rattle.std.proofs.Common.{◌≡◌, ◌<◌, length, ◌∙◌, inl, inr, rules}
use Rattle.fields.proofs.Certified.{unfit, certified}
use Rattle.fields.proofs.certificate.judge_certificate.Goals as goal

pub returns-then-not-is_empty : goal.returns-then-not-is_empty
returns-then-not-is_empty c =
    let some : 0 < length c.in_ok-field.rest.now = search rules in
    unfit c.args.kind c.in_ok-field.ensures.0 (c.if-field-tag.false ∙ c.tag.ensures) (inr some)

pub returns-in_default : goal.returns-in_default
returns-in_default c =
    unfit c.args.kind c.in_ok-field.ensures.0 (c.if-field-tag.false ∙ c.tag.ensures) (inl c.in_default.ensures)

pub returns : goal.returns
returns c =
    let none : length c.in_ok-field.rest.now ≡ 0 = search rules in
    certified c.args.kind c.in_ok-field.ensures.0 _ _ (c.if-field-tag.false ∙ c.tag.ensures) none c.in-Some.ensures.0 (search rules)
