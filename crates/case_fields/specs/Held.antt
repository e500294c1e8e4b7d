-- The parts of two numbers that bytes hold: each takes eight bytes, and behind the first come the others.
use Rattle.std.proofs.Common.{◌≡◌, ℕ, ◌/◌, ◌<◌, List, [], ◌∷◌, map, length, drop, ℤ, refl, ap, ◌∙◌, arith, lit<}
use Rattle.std.proofs.lemmas.List.{length-map}
use Rattle.fields.specs.Sequences.{Held}
use Rattle.case_fields.specs.Parts.{pairs_in}

-- what holds of fewer than eight bytes, and of eight more, holds of all
pub by_eights : (P : List ℕ → Type 0) → ((bs : List ℕ) → length bs < 8 → P bs) → ((a b c d e f g h : ℕ) (bs : List ℕ) → P bs → P (a ∷ b ∷ c ∷ d ∷ e ∷ f ∷ g ∷ h ∷ bs)) → (bs : List ℕ) → P bs
by_eights P few more [] = few _ (lit< tt)
by_eights P few more (a ∷ []) = few _ (lit< tt)
by_eights P few more (a ∷ b ∷ []) = few _ (lit< tt)
by_eights P few more (a ∷ b ∷ c ∷ []) = few _ (lit< tt)
by_eights P few more (a ∷ b ∷ c ∷ d ∷ []) = few _ (lit< tt)
by_eights P few more (a ∷ b ∷ c ∷ d ∷ e ∷ []) = few _ (lit< tt)
by_eights P few more (a ∷ b ∷ c ∷ d ∷ e ∷ f ∷ []) = few _ (lit< tt)
by_eights P few more (a ∷ b ∷ c ∷ d ∷ e ∷ f ∷ g ∷ []) = few _ (lit< tt)
by_eights P few more (a ∷ b ∷ c ∷ d ∷ e ∷ f ∷ g ∷ h ∷ bs) = more a b c d e f g h bs (by_eights P few more bs)

-- fewer than eight bytes hold no pair
pub pairs_none : (bs : List ℕ) → length bs < 8 → pairs_in bs ≡ []
pairs_none [] h = refl
pairs_none (a ∷ []) h = refl
pairs_none (a ∷ b ∷ []) h = refl
pairs_none (a ∷ b ∷ c ∷ []) h = refl
pairs_none (a ∷ b ∷ c ∷ d ∷ []) h = refl
pairs_none (a ∷ b ∷ c ∷ d ∷ e ∷ []) h = refl
pairs_none (a ∷ b ∷ c ∷ d ∷ e ∷ f ∷ []) h = refl
pairs_none (a ∷ b ∷ c ∷ d ∷ e ∷ f ∷ g ∷ []) h = refl
pairs_none (a ∷ b ∷ c ∷ d ∷ e ∷ f ∷ g ∷ i ∷ bs) h = absurd (omega arith)

-- how many pairs there are
length-pairs : (bs : List ℕ) → length (pairs_in bs) ≡ length bs / 8
length-pairs =
    by_eights (λ bs. length (pairs_in bs) ≡ length bs / 8)
    (λ bs h. omega (arith, ap length (pairs_none bs h)))
    (λ a b c d e f g h bs on. omega arith)

-- behind the first eight bytes stand the pairs but the first
drop-pairs : (bs : List ℕ) → pairs_in (drop 8 bs) ≡ drop 1 (pairs_in bs)
drop-pairs [] = refl
drop-pairs (a ∷ []) = refl
drop-pairs (a ∷ b ∷ []) = refl
drop-pairs (a ∷ b ∷ c ∷ []) = refl
drop-pairs (a ∷ b ∷ c ∷ d ∷ []) = refl
drop-pairs (a ∷ b ∷ c ∷ d ∷ e ∷ []) = refl
drop-pairs (a ∷ b ∷ c ∷ d ∷ e ∷ f ∷ []) = refl
drop-pairs (a ∷ b ∷ c ∷ d ∷ e ∷ f ∷ g ∷ []) = refl
drop-pairs (a ∷ b ∷ c ∷ d ∷ e ∷ f ∷ g ∷ h ∷ bs) = refl

drop-map : {X Y : Type 0} (f : X → Y) (xs : List X) → map f (drop 1 xs) ≡ drop 1 (map f xs)
drop-map f [] = refl
drop-map f (x ∷ xs) = refl

pub held_parts : {X : Type 0} (of : ℤ × ℤ → X) → Held 8 (λ bs. map of (pairs_in bs))
held_parts of =
    record {
      some = lit< tt;
      count = λ bs. length-map (pairs_in bs) of ∙ length-pairs bs;
      skip = λ bs. ap (map of) (drop-pairs bs) ∙ drop-map of (pairs_in bs);
    }
