use Rattle.std.proofs.Common.{◌≡◌, ℕ, Bool, ◌&&◌, List, drop}
use Rattle.listing_fields.specs.declared.term.Term.{Term}
use Rattle.listing_fields.specs.Tests.{terms_in_range, terms_refer, terms_rise}
use Rattle.books.proofs.condition.are_sound_terms.Given as goal

abbrev all_sound : (n least : ℕ) → List Term → Bool
all_sound n least ts = terms_in_range ts && terms_refer n ts && terms_rise least ts

-- the answer lies in the terms that are left
abbrev pub invariant-loop-term : goal.invariant-loop-term
invariant-loop-term l = all_sound l.columns 0 l.terms ≡ all_sound l.columns l.least (drop l.term-index l.terms)
