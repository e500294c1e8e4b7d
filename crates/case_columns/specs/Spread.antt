-- What the records of a file give, one after the other.
use Rattle.std.specs.Prelude.{ℕ, ◌+◌, List, [], ◌∷◌, ◌++◌}

-- what each record gives, by its place, from a place on
abbrev pub spread : {X Y : Type 0} → (ℕ → X → List Y) → ℕ → List X → List Y
spread f r [] = []
spread f r (e ∷ es) = f r e ++ spread f (r + 1) es
