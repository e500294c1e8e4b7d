-- What the loops over a schedule go through: each column with its number, each row with its number, and the terms of a row.
use Rattle.std.proofs.Common.{◌≡◌, ℕ, zero, suc, ◌+◌, ◌<◌, ◌≤◌, Bool, true, false, cond, not, ◌&&◌, ltb, List, [], ◌∷◌, map, length, get_or, drop, ℤ, pos, ◌+ℤ◌, ◌*ℤ◌, ◌≤ℤ◌, Some, None, Ok, Err, Option, Result, MatchOption, sym, refl, ap, ◌∙◌, subst, add-zero, zero-add, add-one, arith}
use lib.Signed.{le_z}
use Rattle.std.specs.List.{AllByRecursion, slice_get, zip, enumerate_from, find, position_from, position_or_len}
use Rattle.std.specs.Option.{option_map}
use Rattle.std.proofs.lemmas.Iterator.Adapters.{position_from-zero}
use Rattle.std.proofs.lemmas.Int.{ints}
use Rattle.std.proofs.lemmas.Bool.{and_parts, ltb-true}
use Rattle.listing_fields.specs.declared.term.Term.{Term}
use Rattle.listing_fields.specs.Tests.{is_coefficient, terms_in_range, terms_refer}
use Rattle.books.specs.declared.part.Column.{Column}
use Rattle.books.specs.declared.part.Row.{Row}
use Rattle.books.specs.Lists.{FullRow, Lists, head}
use Rattle.books.specs.Walks.{heads_of, terms_in, terms_of}
use Rattle.books.specs.Conditions.{every, sound_column, sound}
use Rattle.books.specs.Schedules.{activity, benefit}
use Rattle.books.proofs.Sounds.{Within, within_parts, sound_column_parts, sound_parts, row_sound, row_short}
use Rattle.certificates.specs.declared.fault.DocketFault.{DocketFault}
use Rattle.certificates.specs.declared.fault.DocketFault.TheVariants.{ColumnBroken, RowBroken}
use Rattle.certificates.specs.Checks.{within_limits, first_broken_column, within_sides, first_broken_row, passed}
use Rattle.certificates.proofs.Passed.{cond_none}
use Rattle.schedules.proofs.Magnitudes.{within_times}

-- the first column beyond its limits is the first pair that fails
not_cond : (t : Bool) (a b : Option DocketFault) → cond t a b ≡ cond (not t) b a
not_cond true a b = refl
not_cond false a b = refl

abbrev pub beyond : Column × ℤ → Bool
beyond p = not (within_limits p.0 p.1)

map_cond : (t : Bool) (a b : Option ℕ) → option_map ColumnBroken (cond t a b) ≡ cond t (option_map ColumnBroken a) (option_map ColumnBroken b)
map_cond true a b = refl
map_cond false a b = refl

first_broken_at : (k : ℕ) (cs : List Column) (xs : List ℤ) → first_broken_column k cs xs ≡ option_map ColumnBroken (position_from beyond k (zip cs xs))
first_broken_at k [] xs = refl
first_broken_at k (c ∷ cs) [] = refl
first_broken_at k (c ∷ cs) (x ∷ xs) =
    not_cond (within_limits c x) (first_broken_column (suc k) cs xs) (Some (ColumnBroken k))
    ∙ ap (cond (beyond (c, x)) (Some (ColumnBroken k))) (first_broken_at (suc k) cs xs ∙ ap (λ n. option_map ColumnBroken (position_from beyond n (zip cs xs))) (sym (add-one k)))
    ∙ sym (map_cond (beyond (c, x)) (Some k) (position_from beyond (k + 1) (zip cs xs)))

module _ (cs : List Column) (xs : List ℤ) (o : Option ℕ) (at : o ≡ cond (ltb (position_or_len beyond (zip cs xs)) (length (zip cs xs))) (Some (position_or_len beyond (zip cs xs))) None) where
  found_at : first_broken_column 0 cs xs ≡ option_map ColumnBroken o
  found_at = first_broken_at 0 cs xs ∙ ap (λ p. option_map ColumnBroken p) (sym (at ∙ position_from-zero beyond (zip cs xs)))

  pub columns_pass : o ≡ None → first_broken_column 0 cs xs ≡ None
  columns_pass e = found_at ∙ ap (λ p. option_map ColumnBroken p) e

  pub column_broken : (j : ℕ) → o ≡ Some j → first_broken_column 0 cs xs ≡ Some (ColumnBroken j)
  column_broken j e = found_at ∙ ap (λ p. option_map ColumnBroken p) e

-- ---- rows, each with its number

-- the row's activity, by its number, lies beyond its sides
abbrev pub beyond_sides : (ℕ → ℤ) → ℕ × Row → Bool
beyond_sides act p = not (within_sides p.1.lower p.1.upper (act p.0))

abbrev broken_at : ℕ × Row → DocketFault
broken_at p = RowBroken p.0 p.1.code

numbered_from : (k : ℕ) (rs : List FullRow) (xs : List ℤ) (act : ℕ → ℤ) → ((j : ℕ) → act (k + j) ≡ activity (terms_in (slice_get rs j)) xs) → first_broken_row k rs xs ≡ option_map broken_at (find (beyond_sides act) (enumerate_from k (map head rs)))
numbered_from k [] xs act e = refl
numbered_from k (r ∷ rs) xs act e =
    let here : act k ≡ activity r.terms xs = ap act (sym (add-zero k)) ∙ e 0 in
    let later : (j : ℕ) → act (suc k + j) ≡ activity (terms_in (slice_get rs j)) xs = λ j. let n : suc k + j ≡ k + suc j = omega arith in ap act n ∙ e (suc j) in
    let test = within_sides r.lower r.upper (act k) in
    let rest = find (beyond_sides act) (enumerate_from (k + 1) (map head rs)) in
    ap (λ a. cond (within_sides r.lower r.upper a) (first_broken_row (suc k) rs xs) (Some (RowBroken k r.code))) (sym here)
    ∙ ap (λ o. cond test o (Some (RowBroken k r.code)))
    (numbered_from (suc k) rs xs act later ∙ ap (λ n. option_map broken_at (find (beyond_sides act) (enumerate_from n (map head rs)))) (sym (add-one k)))
    ∙ by test rest
  where
    by : (t : Bool) (o : Option (ℕ × Row)) → cond t (option_map broken_at o) (Some (RowBroken k r.code)) ≡ option_map broken_at (cond (not t) (Some (k, head r)) o)
    by true o = refl
    by false o = refl

-- what the closure that is asked for the fault tells
pub rows_checked : (b : Lists) (xs : List ℤ) (o : Option (ℕ × Row)) (r : Result (Unit {0}) DocketFault) (Tells : ℕ × Row → Type 0) → option_map (λ p. (p.0, p.1)) o ≡ find (beyond_sides (λ i. activity (terms_of b i) xs)) (enumerate_from 0 (heads_of b))
    → ((p : ℕ × Row) → Tells p → r ≡ Err (RowBroken p.0 p.1.code)) → MatchOption o (r ≡ Ok tt) Tells → r ≡ passed (first_broken_row 0 b.rows xs)
rows_checked b xs o r Tells found err is =
    by o is
    ∙ ap (λ p. passed (option_map broken_at p)) found
    ∙ ap passed (sym (numbered_from 0 b.rows xs (λ i. activity (terms_of b i) xs) (λ j. ap (λ i. activity (terms_of b i) xs) (zero-add j))))
  where
    by : (p : Option (ℕ × Row)) → MatchOption p (r ≡ Ok tt) Tells → r ≡ passed (option_map broken_at (option_map (λ q. (q.0, q.1)) p))
    by None e = e
    by (Some p) e = err p e

-- ---- columns, each with its number

-- what the pairs add to the net benefit
abbrev pub gains : List (Column × ℤ) → ℤ
gains [] = pos 0
gains (p ∷ ps) = p.0.price *ℤ p.1 +ℤ gains ps

pub benefit_pairs : (cs : List Column) (xs : List ℤ) → benefit cs xs ≡ gains (zip cs xs)
benefit_pairs [] xs = refl
benefit_pairs (c ∷ cs) [] = refl
benefit_pairs (c ∷ cs) (x ∷ xs) = ap (λ z. c.price *ℤ x +ℤ z) (benefit_pairs cs xs)

-- the number at a place, nought past the end, as a closure tells of the one that is there
pub number_at : (xs : List ℤ) (i : ℕ) (o : Option ℤ) (r : ℤ) (Tells : ℤ → Type 0) → o ≡ slice_get xs i → ((x : ℤ) → Tells x → r ≡ x) → MatchOption o (r ≡ pos 0) Tells → r ≡ get_or xs i (pos 0)
number_at xs i None r Tells at is e = e ∙ none xs i at
  where
    none : (xs : List ℤ) (i : ℕ) → None ≡ slice_get xs i → pos 0 ≡ get_or xs i (pos 0)
    none [] i e = refl
    none (y ∷ ys) zero e = cc
    none (y ∷ ys) (suc i) e = none ys i e
number_at xs i (Some x) r Tells at is e = is x e ∙ some xs i at
  where
    some : (xs : List ℤ) (i : ℕ) → Some x ≡ slice_get xs i → x ≡ get_or xs i (pos 0)
    some [] i e = cc
    some (y ∷ ys) zero e = cc
    some (y ∷ ys) (suc i) e = some ys i e

-- ---- how large the numbers are, once the columns pass

leZ_true : (x y : ℤ) → le_z x y ≡ true → x ≤ℤ y
leZ_true x y e = omega (arith, ints)

pub limits_parts : (c : Column) (x : ℤ) → within_limits c x ≡ true → (c.lower ≤ℤ x) × (x ≤ℤ c.upper)
limits_parts c x e =
    let p = and_parts (le_z c.lower x) (le_z x c.upper) e in (leZ_true _ _ p.0, leZ_true _ _ p.1)

number_within : (c : Column) (x : ℤ) → sound_column c ≡ true → within_limits c x ≡ true → Within 20000000 x
number_within c x s e =
    let sound = sound_column_parts c s in
    let p = limits_parts c x e in
    let low = p.0 in
    let high = p.1 in
    let least = sound.lower.above in
    let most = sound.upper.below in
    record { above = omega (arith, ints); below = omega (arith, ints) }

nought_within : (m : ℕ) → Within m (pos 0)
nought_within m = record { above = omega (arith, ints); below = omega (arith, ints) }

-- a number in its column's limits is at most 20,000,000 from nought
pub numbers_within : (k : ℕ) (cs : List Column) (xs : List ℤ) (j : ℕ) → every sound_column cs ≡ true → first_broken_column k cs xs ≡ None → j < length cs → Within 20000000 (get_or xs j (pos 0))
numbers_within k cs [] j s e h = nought_within 20000000
numbers_within k [] (x ∷ xs) j s e h = absurd (omega arith)
numbers_within k (c ∷ cs) (x ∷ xs) zero s e h =
    number_within c x (and_parts (sound_column c) (every sound_column cs) s).0 (cond_none (within_limits c x) (ColumnBroken k) _ e).0
numbers_within k (c ∷ cs) (x ∷ xs) (suc j) s e h =
    numbers_within (suc k) cs xs j (and_parts (sound_column c) (every sound_column cs) s).1 (cond_none (within_limits c x) (ColumnBroken k) _ e).1 (omega arith)

-- what each pair adds to the net benefit, and what each term adds to an activity
abbrev pub SmallGain : Column × ℤ → Type 0
SmallGain p = Within 200000000000000 (p.0.price *ℤ p.1)

pub gains_small : (k : ℕ) (cs : List Column) (xs : List ℤ) → every sound_column cs ≡ true → first_broken_column k cs xs ≡ None → AllByRecursion SmallGain (zip cs xs)
gains_small k [] xs s e = tt
gains_small k (c ∷ cs) [] s e = tt
gains_small k (c ∷ cs) (x ∷ xs) s e =
    let sound = and_parts (sound_column c) (every sound_column cs) s in
    let passes = cond_none (within_limits c x) (ColumnBroken k) _ e in (
      within_times 10000000 20000000 c.price x (sound_column_parts c sound.0).price (number_within c x sound.0 passes.0),
      gains_small (suc k) cs xs sound.1 passes.1,
    )

abbrev pub SmallTerm : List ℤ → Term → Type 0
SmallTerm xs t = Within 20000000000000 (t.coefficient *ℤ get_or xs t.column (pos 0))

few_terms_small : (n : ℕ) (ts : List Term) (xs : List ℤ) → terms_in_range ts ≡ true → terms_refer n ts ≡ true → ((j : ℕ) → j < n → Within 20000000 (get_or xs j (pos 0))) → AllByRecursion (SmallTerm xs) ts
few_terms_small n [] xs i r e = tt
few_terms_small n (t ∷ ts) xs i r e =
    let range = and_parts (ltb t.column 65536 && is_coefficient t.coefficient) (terms_in_range ts) i in
    let size = (and_parts (ltb t.column 65536) (is_coefficient t.coefficient) range.0).1 in
    let refers = and_parts (ltb t.column n) (terms_refer n ts) r in (
      within_times 1000000 20000000 t.coefficient (get_or xs t.column (pos 0)) (within_parts 1000000 t.coefficient size) (e t.column (ltb-true t.column n refers.0)),
      few_terms_small n ts xs range.1 refers.1 e,
    )

-- the terms of a row that a book has
pub record SmallTerms (xs : List ℤ) (ts : List Term) : Type 0 where
  pub few : length ts ≤ 500
  pub small : AllByRecursion (SmallTerm xs) ts

pub terms_small : (b : Lists) → sound b ≡ true → (xs : List ℤ) → first_broken_column 0 b.columns xs ≡ None → (i : ℕ) → SmallTerms xs (terms_of b i)
terms_small b kept xs limits i = by (slice_get b.rows i) refl
  where
    by : (o : Option FullRow) → slice_get b.rows i ≡ o → SmallTerms xs (terms_in o)
    by None e = record { few = omega arith; small = tt }
    by (Some r) e =
        let sound = row_sound b kept i r e in
        record {
          few = row_short b kept i r e;
          small = few_terms_small (length b.columns) r.terms xs sound.in_range sound.refer (λ j h. numbers_within 0 b.columns xs j (sound_parts b kept).columns limits h);
        }

-- what holds of each holds of the one in front of what is left
pub all_front : {X : Type 0} (P : X → Type 0) (xs ys : List X) (n : ℕ) (x : X) → AllByRecursion P xs → drop n xs ≡ x ∷ ys → P x
all_front P [] ys zero x h e = cc
all_front P [] ys (suc n) x h e = cc
all_front P (y ∷ xs) ys zero x h e = let same : y ≡ x = cc in subst P same h.0
all_front P (y ∷ xs) ys (suc n) x h e = all_front P xs ys n x h.1 e
