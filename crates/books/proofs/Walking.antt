-- What is left of a list from a place on.
use Rattle.std.proofs.Common.{◌≡◌, ℕ, zero, suc, ◌+◌, ◌<◌, ◌≤◌, List, [], ◌∷◌, length, drop, true, Some, None, Option, sym, refl, ap, ◌∙◌, arith}
use Rattle.std.specs.Prelude.{MatchOption}
use Rattle.std.specs.List.{slice_get}
use Rattle.std.proofs.lemmas.List.{length-map}
use Rattle.books.specs.Lists.{FullRow, Lists, head, row_at, term_in, term_at}
use Rattle.books.specs.Conditions.{sound}
use Rattle.books.specs.Walks.{heads_of, terms_in, terms_of}
use Rattle.books.proofs.Nths.{some_within, nth_map}
use Rattle.books.proofs.Sounds.{sound_parts, row_short}

-- an element that is there is the first of those left
pub left_some : {X : Type 0} (xs : List X) (n : ℕ) (x : X) → slice_get xs n ≡ Some x → drop n xs ≡ x ∷ drop (n + 1) xs
left_some [] n x e = let z : ◌≡◌ {A = ℕ} 0 1 = cc in absurd (omega arith)
left_some (y ∷ ys) zero x e = let same : y ≡ x = cc in ap (λ z. z ∷ ys) same
left_some (y ∷ ys) (suc n) x e =
    let more : n + 1 ≡ suc n = omega arith in
    let on : suc n + 1 ≡ suc (n + 1) = omega arith in
    left_some ys n x e ∙ ap (λ k. x ∷ drop k (y ∷ ys)) (sym on)

-- past the end nothing is left
pub left_none : {X : Type 0} (xs : List X) (n : ℕ) → slice_get xs n ≡ None → drop n xs ≡ []
left_none [] zero e = refl
left_none [] (suc n) e = refl
left_none (y ∷ ys) zero e = let z : ◌≡◌ {A = ℕ} 0 1 = cc in absurd (omega arith)
left_none (y ∷ ys) (suc n) e = left_none ys n e

-- nothing is left and nothing goes
pub stays : {X : Type 0} (xs : List X) (n : ℕ) (r : Option X) → r ≡ None → slice_get xs n ≡ None → MatchOption r ((drop n xs ≡ []) × (drop n xs ≡ [])) (λ x. drop n xs ≡ x ∷ drop n xs)
stays xs n None e f = (left_none xs n f, left_none xs n f)
stays xs n (Some x) e f = let z : ◌≡◌ {A = ℕ} 0 1 = cc in absurd (omega arith)

-- a place that is there lies below the length, which 64 bits hold with room
pub next_fits : {X : Type 0} (xs : List X) (n : ℕ) (x : X) (most : ℕ) → slice_get xs n ≡ Some x → length xs ≤ most → n + 1 ≤ most
next_fits xs n x most e h = let w = some_within xs n x e in omega (arith, w, h)

-- one element fewer is left
pub fewer : {X : Type 0} (xs : List X) (n : ℕ) (x : X) → slice_get xs n ≡ Some x → length (drop (n + 1) xs) < length (drop n xs)
fewer xs n x e = let more = ap length (left_some xs n x e) in omega (arith, more)

-- a row, and a term of a row, as the book answers it
pub head_at : (b : Lists) (i : ℕ) → slice_get (heads_of b) i ≡ row_at b i
head_at b i = nth_map head b.rows i

term_within : (r : Option FullRow) (k : ℕ) → slice_get (terms_in r) k ≡ term_in r k
term_within None k = refl
term_within (Some r) k = refl

pub term_there : (b : Lists) (i k : ℕ) → slice_get (terms_of b i) k ≡ term_at b i k
term_there b i k = term_within (slice_get b.rows i) k

-- there are few of each
pub few_heads : (b : Lists) → sound b ≡ true → length (heads_of b) ≤ 4000
few_heads b kept = let few = (sound_parts b kept).few_rows in omega (arith, few, length-map b.rows head)

few_within : (b : Lists) → sound b ≡ true → (i : ℕ) (r : Option FullRow) → slice_get b.rows i ≡ r → length (terms_in r) ≤ 4000
few_within b kept i None e = omega arith
few_within b kept i (Some r) e = let short = row_short b kept i r e in omega (arith, short)

pub few_terms : (b : Lists) → sound b ≡ true → (i : ℕ) → length (terms_of b i) ≤ 4000
few_terms b kept i = few_within b kept i (slice_get b.rows i) refl

-- what is left of a list from a place on begins with the element there, and goes on with what is left behind it
pub next_left : {X : Type 0} (xs : List X) (n : ℕ) (x : X) (rest : List X) → drop n xs ≡ x ∷ rest → (slice_get xs n ≡ Some x) × (rest ≡ drop (n + 1) xs)
next_left [] zero x rest e = let z : ◌≡◌ {A = ℕ} 0 1 = cc in absurd (omega arith)
next_left [] (suc n) x rest e = let z : ◌≡◌ {A = ℕ} 0 1 = cc in absurd (omega arith)
next_left (y ∷ ys) zero x rest e =
    let same : y ≡ x = cc in
    let others : ys ≡ rest = cc in
    (ap Some same, sym others)
next_left (y ∷ ys) (suc n) x rest e =
    let q = next_left ys n x rest e in
    let on : suc n + 1 ≡ suc (n + 1) = omega arith in
    (q.0, q.1 ∙ ap (λ k. drop k (y ∷ ys)) (sym on))

pub end_left : {X : Type 0} (xs : List X) (n : ℕ) → drop n xs ≡ [] → slice_get xs n ≡ None
end_left [] n e = refl
end_left (y ∷ ys) zero e = let z : ◌≡◌ {A = ℕ} 0 1 = cc in absurd (omega arith)
end_left (y ∷ ys) (suc n) e = end_left ys n e
