use Rattle.std.proofs.Common.{◌≡◌, ℕ, List, length, is_ok, vec_items, sym, ap, arith}
use Rattle.std.proofs.ResultArms.{chosen}
use Rattle.std.proofs.lemmas.Grind.{common_steps}
use Rattle.case_columns.proofs.Owned.{own_added}
use Rattle.case_columns.proofs.Places.{record_low, record_placed}
use Rattle.case_columns.proofs.build.table_of.Goals as goal

pub loop-place-preserved : goal.loop-place-preserved
loop-place-preserved c =
    let n : c.len.result ≡ length (vec_items c.loop-place.named) = omega arith in
    let begun = chosen {X = List ℕ} _ _ _ _ c.push.ensures.items (ap is_ok c.in_ok-push.was) in
    let own = own_added c.kinds_of-kinds.result c.loop-place.place _ _ (sym c.loop-place.invariant.begun) in
    let low = c.loop-place.invariant.low in
    let placed = c.loop-place.invariant.placed in
    record {
      whole = grind (arith, common_steps);
      begun = grind (arith, common_steps);
      low = record_low _ _ _ _ _ n begun own low placed _ c.in_ok-add_to.ensures;
      placed = record_placed _ _ _ _ _ n begun own low placed _ c.in_ok-add_to.ensures;
    }
