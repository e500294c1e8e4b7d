use Rattle.std.proofs.Common.{List}
use Rattle.std.specs.Iterator.{AlwaysYields}
use Rattle.listing_fields.specs.declared.term.Term.{Term}
use Rattle.listing_fields.proofs.Rises.{Left}
use Rattle.listing_fields.proofs.term.rise.Given as goal

-- the answer lies in what is left
abbrev pub invariant-loop-term : goal.invariant-loop-term
invariant-loop-term g l =
    (ts : List Term) → AlwaysYields g.I.Iterator.next_gives (λ t. t) l.fn.terms ts → Left g.I.Iterator.next_gives l.term-iterator l.least ts
