use Rattle.std.proofs.Common.{◌<◌, length, arith, rules}
use Rattle.std.proofs.lemmas.List.{nil_from_length}
use Rattle.fields.proofs.Loops.{sizes}
use Rattle.inputs.proofs.Walking.{whole_front, cut_front}
use Rattle.inputs.proofs.certificate.next_field.Goals as goal

pub returns-then-is_empty : goal.returns-then-is_empty
returns-then-is_empty c = nil_from_length c.args.bytes.now (search rules)

pub overflow_sub-bytes : goal.overflow_sub-bytes
overflow_sub-bytes c = let s = sizes c.in-Ok.ensures.0 in omega arith

pub returns-in-Ok : goal.returns-in-Ok
returns-in-Ok c = whole_front c.in-Ok.ensures.0 _ _ c.split_at.ensures.front c.split_at.ensures.back

pub returns-in-Err : goal.returns-in-Err
returns-in-Err c =
    let some : 0 < length c.args.bytes.now = search rules in
    cut_front c.args.bytes.now some c.in-Err.ensures.1 _ _ c.split_at-in-Err.ensures.front c.split_at-in-Err.ensures.back
