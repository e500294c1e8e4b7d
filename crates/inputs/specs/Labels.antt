-- The label of a certificate's field.
use Rattle.std.specs.Prelude.{ℕ, ◌+◌, ◌*◌, List, [], ◌∷◌, Some, None, Option}

-- the unsigned number in the four bytes in front
abbrev number_in_front : List ℕ → Option ℕ
number_in_front [] = None
number_in_front (a ∷ []) = None
number_in_front (a ∷ b ∷ []) = None
number_in_front (a ∷ b ∷ c ∷ []) = None
number_in_front (a ∷ b ∷ c ∷ d ∷ rest) = Some (a * 16777216 + b * 65536 + c * 256 + d)

-- the unsigned number in the bytes 3 to 6, behind the head, if they are there
abbrev pub label_in : List ℕ → Option ℕ
label_in [] = None
label_in (t ∷ []) = None
label_in (t ∷ h ∷ []) = None
label_in (t ∷ h ∷ l ∷ body) = number_in_front body
