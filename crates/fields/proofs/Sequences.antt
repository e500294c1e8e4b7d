-- Elements by their places.
use Rattle.std.proofs.Common.{◌≡◌, ℕ, zero, suc, ◌+◌, ◌*◌, ◌-◌, List, [], ◌∷◌, length, take, drop, sym, refl, ap, ◌∙◌, arith}
use Rattle.std.specs.List.{slice_get}
use Rattle.std.proofs.lemmas.List.{drop-drop, take_rest}
use Rattle.fields.specs.Sequences.{Held}

get_past_one : {X : Type 0} (xs : List X) (i : ℕ) → slice_get xs (suc i) ≡ slice_get (drop 1 xs) i
get_past_one [] i = refl
get_past_one (x ∷ xs) i = refl

-- the element at a place stands in front of what is left there
pub held_get : {X : Type 0} {width : ℕ} {held : List ℕ → List X} → Held width held → (bs : List ℕ) (i : ℕ) → slice_get (held bs) i ≡ slice_get (held (drop (width * i) bs)) 0
held_get {width = w} {held = f} h bs zero =
    let none : 0 ≡ w * 0 = omega arith in ap (λ n. slice_get (f (drop n bs)) 0) none
held_get {width = w} {held = f} h bs (suc i) =
    let more : w + w * i ≡ w * suc i = omega arith in
    get_past_one (f bs) i
    ∙ ap (λ l. slice_get l i) (sym (h.skip bs))
    ∙ held_get {width = w} {held = f} h (drop w bs) i
    ∙ ap (λ l. slice_get (f l) 0) (drop-drop (w * i) w bs)
    ∙ ap (λ n. slice_get (f (drop n bs)) 0) more

-- the same, of what is left as a slice gives it
pub held_get_rest : {X : Type 0} {width : ℕ} {held : List ℕ → List X} → Held width held → (bs : List ℕ) (i : ℕ) → slice_get (held (take (length bs - width * i) (drop (width * i) bs))) 0 ≡ slice_get (held bs) i
held_get_rest {width = w} {held = f} h bs i =
    ap (λ l. slice_get (f l) 0) (take_rest bs (w * i)) ∙ sym (held_get {width = w} {held = f} h bs i)
