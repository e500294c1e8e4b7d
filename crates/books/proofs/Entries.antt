-- The entry of a table at a place.
use Rattle.std.proofs.Common.{◌≡◌, ℕ, zero, suc, ◌<◌, ◌≤◌, List, [], ◌∷◌, map, length, get_or, Some, None, Option, ltb, Bor, sym, refl, ap, ◌∙◌, arith}
use Rattle.std.specs.Prelude.{IfSome, is_some}
use Rattle.std.specs.List.{slice_get}
use Rattle.std.proofs.lemmas.Bool.{ltb-true, ltb-false}
use Rattle.std.specs.Option.{option_map, option_copied}

entry_at : {X Y : Type 0} (f : X → Y) (xs : List X) (i : ℕ) (d : X) → i < length xs → Some (f (get_or xs i d)) ≡ slice_get (map f xs) i
entry_at f [] i d h = absurd (omega arith)
entry_at f (x ∷ xs) zero d h = refl
entry_at f (x ∷ xs) (suc i) d h = entry_at f xs i d (omega arith)

entry_past : {X Y : Type 0} (f : X → Y) (xs : List X) (i : ℕ) → length xs ≤ i → None ≡ slice_get (map f xs) i
entry_past f [] i h = refl
entry_past f (x ∷ xs) zero h = absurd (omega arith)
entry_past f (x ∷ xs) (suc i) h = entry_past f xs i (omega arith)

-- what the library's `get` gives, as an entry
pub entry_got : {X Y : Type 0} (f : X → Y) (xs : List X) (i : ℕ) (r : Option (Bor X)) → is_some r ≡ ltb i (length xs) → IfSome r (λ x. x.now ≡ get_or xs i x.now) → option_map f (option_copied r) ≡ slice_get (map f xs) i
entry_got f xs i None there is = entry_past f xs i (ltb-false i (length xs) (sym there))
entry_got f xs i (Some x) there is = ap (λ v. Some (f v)) is ∙ entry_at f xs i x.now (ltb-true i (length xs) (sym there))
