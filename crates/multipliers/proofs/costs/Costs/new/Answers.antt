use Rattle.std.proofs.Common.{rules}
use Rattle.multipliers.proofs.costs.Costs.new.Goals as goal

pub returns : goal.returns
returns c = c.in_ok-vec.ensures.items_if_clones_equal (λ y e. search rules)
