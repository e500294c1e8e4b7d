-- Records are numbered from 0 among those of their kind, and stand where their number says.
use Rattle.std.specs.Prelude.{◌≡◌, ℕ, ◌<◌, Bool, true, false, List, [], ◌∷◌, ◌==◌}
use Rattle.std.specs.List.{slice_get}
use Rattle.case_fields.specs.Entries.{Entry}
use Rattle.case_fields.specs.Encoding.{tag}
use Rattle.case_fields.specs.Tests.{count}
use Rattle.case_columns.specs.Kinds.{at, span}

-- a record, or not
abbrev pub kept_if : Bool → Entry → List Entry → List Entry
kept_if true e es = e ∷ es
kept_if false e es = es

-- the records of a tag, in file order
abbrev pub of_tag : ℕ → List Entry → List Entry
of_tag t [] = []
of_tag t (e ∷ es) = kept_if (tag e == t) e (of_tag t es)

-- the record at the place of number n among those of a tag is the n-th record of that tag
abbrev pub Numbered : List Entry → Type 0
Numbered es = (t n : ℕ) → n < count t es → slice_get es (at (span t es) n) ≡ slice_get (of_tag t es) n
