-- The terms of a sum: over the columns in order, those whose coefficient is not nought.
use Rattle.std.specs.Prelude.{ℕ, suc, Bool, true, false, List, [], ◌∷◌, ℤ, pos, negsuc, ◌==◌}
use Rattle.listing_fields.specs.declared.term.Term.{Term}

-- a number is nought
abbrev pub nought : ℤ → Bool
nought (pos c) = c == 0
nought (negsuc c) = false

-- a nought term is left out
abbrev pub kept : Bool → Term → List Term → List Term
kept true t ts = ts
kept false t ts = t ∷ ts

-- over columns that are numbered from n
abbrev pub terms_from : {X : Type 0} → ℕ → (X → ℤ) → List X → List Term
terms_from n f [] = []
terms_from n f (x ∷ xs) = kept (nought (f x)) (record { column = n; coefficient = f x }) (terms_from (suc n) f xs)

-- the terms over all columns
abbrev pub terms : {X : Type 0} → (X → ℤ) → List X → List Term
terms f xs = terms_from 0 f xs
