-- A test that fails of one of a list.
use Rattle.std.proofs.Common.{◌≡◌, Bool, false, List, ◌++◌, ◌∙◌}
use Rattle.std.specs.List.{list_all}
use Rattle.std.proofs.lemmas.Bool.{and_left, and_right}
use Rattle.std.proofs.lemmas.List.Folds.{list_all-append}

-- of one in the middle
pub fails_within : {X : Type 0} (p : X → Bool) (xs ys zs : List X) → list_all p ys ≡ false → list_all p (xs ++ (ys ++ zs)) ≡ false
fails_within p xs ys zs h =
    list_all-append p xs (ys ++ zs)
    ∙ and_right (list_all p xs) _ (list_all-append p ys zs ∙ and_left (list_all p ys) (list_all p zs) h)
