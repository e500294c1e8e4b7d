-- Weak duality. With the multipliers ys, let `mix j` be the sum over the rows of multiplier times coefficient on column j, so that
-- column j's reduced cost is K times its price, less `mix j`. Column by column, K times the net benefit is at most d times what the columns add, plus the sum of
-- `mix j` times the schedule. Row by row that sum is the sum of multiplier times activity, at most d times what the rows add.
use Rattle.std.proofs.Common.{◌≡◌, ℕ, zero, suc, ◌+◌, ◌<◌, ◌≤◌, Bool, true, false, cond, not, ◌&&◌, eqb, leb, List, [], ◌∷◌, length, get_or, ℤ, pos, negsuc, ◌+ℤ◌, ◌-ℤ◌, ◌*ℤ◌, ◌≤ℤ◌, unwrap_or, sym, refl, ap, ◌∙◌, arith, eq-eqb, ne_eqb, eqb-true}
use mathlib.Core.Path.{fun_ext}
use lib.IntN.{*ℤ-zero, zero-*ℤ, +ℤ_idr}
use Rattle.std.proofs.lemmas.Bool.{and_parts, leb-true}
use Rattle.std.specs.List.{AllByRecursion}
use Rattle.listing_fields.specs.declared.term.Term.{Term}
use Rattle.listing_fields.specs.Tests.{is_nought, terms_rise}
use Rattle.books.specs.declared.part.Column.{Column}
use Rattle.books.specs.Lists.{FullRow}
use Rattle.books.specs.Conditions.{every, sound_row}
use Rattle.books.specs.Schedules.{Paired, activity, MeetsColumn, MeetsRow, benefit}
use Rattle.books.proofs.Sounds.{sound_parts, sound_row_parts}
use Rattle.certificates.specs.Bounds.{SignFits, at_limit, row_adds, rows_add, coefficient_of, reduced_cost, K, columns_add}
use Rattle.certificates.specs.Duality.{WeakDuality}
use Rattle.books.proofs.Integers.{linear, add_times, times_add, times_assoc, times_swap, times_le, times_ge}

-- ---- the sum of f j times x, over the values of a schedule whose first has the number i

abbrev dot : (ℕ → ℤ) → ℕ → List ℤ → ℤ
dot f i [] = pos 0
dot f i (x ∷ xs) = f i *ℤ x +ℤ dot f (suc i) xs

dot_same : (f g : ℕ → ℤ) → ((j : ℕ) → f j ≡ g j) → (i : ℕ) (xs : List ℤ) → dot f i xs ≡ dot g i xs
dot_same f g h i xs = ap (λ (e : ℕ → ℤ). dot e i xs) (fun_ext h)

dot_zero : (i : ℕ) (xs : List ℤ) → dot (λ j. pos 0) i xs ≡ pos 0
dot_zero i [] = refl
dot_zero i (x ∷ xs) = (λ k. zero-*ℤ x k +ℤ dot_zero (suc i) xs k)

dot_add : (f g : ℕ → ℤ) (i : ℕ) (xs : List ℤ) → dot (λ j. f j +ℤ g j) i xs ≡ dot f i xs +ℤ dot g i xs
dot_add f g i [] = refl
dot_add f g i (x ∷ xs) =
    let e = add_times (f i) (g i) x in
    let h = dot_add f g (suc i) xs in
    omega (arith, linear)

dot_times : (y : ℤ) (f : ℕ → ℤ) (i : ℕ) (xs : List ℤ) → dot (λ j. y *ℤ f j) i xs ≡ y *ℤ dot f i xs
dot_times y f i [] = sym (*ℤ-zero y)
dot_times y f i (x ∷ xs) =
    let e = times_assoc y (f i) x in
    let g = times_add y (f i *ℤ x) (dot f (suc i) xs) in
    let h = dot_times y f (suc i) xs in
    omega (arith, linear)

-- ---- a row's activity is that sum over its coefficients

-- the coefficient a on column k alone
abbrev only : ℕ → ℤ → ℕ → ℤ
only k a j = cond (eqb k j) a (pos 0)

only_past : (k : ℕ) (a : ℤ) (i : ℕ) (xs : List ℤ) → k < i → dot (only k a) i xs ≡ pos 0
only_past k a i [] l = refl
only_past k a i (x ∷ xs) l =
    let n : eqb k i ≡ false = ne_eqb k i (λ e. omega arith) in
    rw n (let h = only_past k a (suc i) xs (omega arith) in let z = zero-*ℤ x in omega (arith, linear))

only_at : (k : ℕ) (a : ℤ) (i m : ℕ) (xs : List ℤ) → k ≡ i + m → dot (only k a) i xs ≡ a *ℤ get_or xs m (pos 0)
only_at k a i m [] e = sym (*ℤ-zero a)
only_at k a i zero (x ∷ xs) e =
    let n : eqb k i ≡ true = eq-eqb k i (omega arith) in
    rw n (let h = only_past k a (suc i) xs (omega arith) in omega (arith, linear))
only_at k a i (suc m) (x ∷ xs) e =
    let n : eqb k i ≡ false = ne_eqb k i (λ q. omega arith) in
    rw n (let h = only_at k a (suc i) m xs (omega arith) in let z = zero-*ℤ x in omega (arith, linear))

-- what rising terms say of the first
pub rise_first : (t : Term) (ts : List Term) (from : ℕ) → terms_rise from (t ∷ ts) ≡ true → (from ≤ t.column) × (terms_rise (t.column + 1) ts ≡ true)
rise_first t ts from r =
    let p = and_parts (leb from t.column && not (is_nought t.coefficient)) (terms_rise (t.column + 1) ts) r in
    (leb-true from t.column (and_parts (leb from t.column) (not (is_nought t.coefficient)) p.0).0, p.1)

-- no term is on a column before the first
pub before : (ts : List Term) (from j : ℕ) → terms_rise from ts ≡ true → j < from → coefficient_of ts j ≡ pos 0
before [] from j r l = refl
before (t ∷ ts) from j r l =
    let f = rise_first t ts from r in
    let e : eqb t.column j ≡ false = ne_eqb t.column j (λ q. omega arith) in
    rw e (before ts (t.column + 1) j f.1 (omega arith))

apart : (t : Term) (ts : List Term) → terms_rise (t.column + 1) ts ≡ true → (j : ℕ) → coefficient_of (t ∷ ts) j ≡ only t.column t.coefficient j +ℤ coefficient_of ts j
apart t ts r j = by (eqb t.column j) refl
  where
    by : (v : Bool) → eqb t.column j ≡ v → cond v t.coefficient (coefficient_of ts j) ≡ cond v t.coefficient (pos 0) +ℤ coefficient_of ts j
    by true e = let z = before ts (t.column + 1) j r (omega (arith, eqb-true t.column j e)) in omega (arith, linear)
    by false e = omega (arith, linear)

activity_is : (ts : List Term) (from : ℕ) (xs : List ℤ) → terms_rise from ts ≡ true → dot (coefficient_of ts) 0 xs ≡ activity ts xs
activity_is [] from xs r = dot_zero 0 xs
activity_is (t ∷ ts) from xs r =
    let f = rise_first t ts from r in
    dot_same (coefficient_of (t ∷ ts)) (λ j. only t.column t.coefficient j +ℤ coefficient_of ts j) (apart t ts f.1) 0 xs
    ∙ dot_add (only t.column t.coefficient) (coefficient_of ts) 0 xs
    ∙ (λ i. only_at t.column t.coefficient 0 t.column xs (omega arith) i +ℤ activity_is ts (t.column + 1) xs f.1 i)

-- ---- a factor times a value within limits

up_to : (n : ℕ) (high v : ℤ) (d : ℕ) → v ≤ℤ (pos d *ℤ high) → (pos n *ℤ v) ≤ℤ (pos d *ℤ (pos n *ℤ high))
up_to n high v d h = rw (times_swap (pos d) (pos n) high) (times_le n v (pos d *ℤ high) h)

down_to : (n : ℕ) (low v : ℤ) (d : ℕ) → (pos d *ℤ low) ≤ℤ v → (negsuc n *ℤ v) ≤ℤ (pos d *ℤ (negsuc n *ℤ low))
down_to n low v d l = rw (times_swap (pos d) (negsuc n) low) (times_ge n v (pos d *ℤ low) l)

within : (k low high v : ℤ) (d : ℕ) → (pos d *ℤ low) ≤ℤ v → v ≤ℤ (pos d *ℤ high) → (k *ℤ v) ≤ℤ (pos d *ℤ at_limit k low high)
within (pos n) low high v d l h = up_to n high v d h
within (negsuc n) low high v d l h = down_to n low v d l

-- a row's multiplier times its activity
row_within : (r : FullRow) (y : ℤ) (d : ℕ) (xs : List ℤ) → SignFits r y → MeetsRow d xs r → (y *ℤ activity r.terms xs) ≤ℤ (pos d *ℤ row_adds r y)
row_within r (pos zero) d xs f m = rw (zero-*ℤ (activity r.terms xs), zero-*ℤ (unwrap_or r.upper (pos 0)), *ℤ-zero) (omega (arith, linear))
row_within r (pos (suc n)) d xs f m =
    let s = f.above (omega (arith, linear)) in
    rw s.1 (up_to (suc n) s.0 _ d (m.to s.0 s.1))
row_within r (negsuc n) d xs f m =
    let s = f.below (omega (arith, linear)) in
    rw s.1 (down_to n s.0 _ d (m.from s.0 s.1))

-- ---- all columns, and all rows

-- multiplier times coefficient on column j, over the rows
abbrev pub mix : List FullRow → List ℤ → ℕ → ℤ
mix [] ys j = pos 0
mix (r ∷ rs) [] j = pos 0
mix (r ∷ rs) (y ∷ ys) j = y *ℤ coefficient_of r.terms j +ℤ mix rs ys j

pub reduced_is : (k : ℤ) (rs : List FullRow) (ys : List ℤ) (j : ℕ) → reduced_cost k rs ys j +ℤ mix rs ys j ≡ k
reduced_is k [] ys j = +ℤ_idr k
reduced_is k (r ∷ rs) [] j = +ℤ_idr k
reduced_is k (r ∷ rs) (y ∷ ys) j =
    let h = reduced_is (k -ℤ y *ℤ coefficient_of r.terms j) rs ys j in
    omega (arith, linear)

by_columns : (rs : List FullRow) (ys : List ℤ) (d i : ℕ) (cs : List Column) (xs : List ℤ) → Paired (MeetsColumn d) cs xs → (K *ℤ benefit cs xs) ≤ℤ (pos d *ℤ columns_add rs ys i cs +ℤ dot (mix rs ys) i xs)
by_columns rs ys d i [] [] p = omega (arith, linear)
by_columns rs ys d i [] (x ∷ xs) p = absurd p
by_columns rs ys d i (c ∷ cs) [] p = absurd p
by_columns rs ys d i (c ∷ cs) (x ∷ xs) p =
    let k = reduced_cost (K *ℤ c.price) rs ys i in
    let w = within k c.lower c.upper x d p.0.from p.0.to in
    let h = by_columns rs ys d (suc i) cs xs p.1 in
    let e₁ = times_add K (c.price *ℤ x) (benefit cs xs) in
    let e₂ = times_assoc K c.price x in
    let e₃ = ap (λ (z : ℤ). z *ℤ x) (reduced_is (K *ℤ c.price) rs ys i) in
    let e₄ = add_times k (mix rs ys i) x in
    let e₅ = times_add (pos d) (at_limit k c.lower c.upper) (columns_add rs ys (suc i) cs) in
    omega (arith, linear)

by_rows : (n : ℕ) (rs : List FullRow) (ys : List ℤ) (d : ℕ) (xs : List ℤ) → every (sound_row n) rs ≡ true → Paired SignFits rs ys → AllByRecursion (MeetsRow d xs) rs → dot (mix rs ys) 0 xs ≤ℤ (pos d *ℤ rows_add rs ys)
by_rows n [] ys d xs w f m = let z = dot_zero 0 xs in let e = *ℤ-zero (pos d) in omega (arith, linear)
by_rows n (r ∷ rs) [] d xs w f m = absurd f
by_rows n (r ∷ rs) (y ∷ ys) d xs w f m =
    let p = and_parts (sound_row n r) (every (sound_row n) rs) w in
    let h = by_rows n rs ys d xs p.1 f.1 m.1 in
    let a = row_within r y d xs f.0 m.0 in
    let e₁ = dot_add (λ j. y *ℤ coefficient_of r.terms j) (mix rs ys) 0 xs in
    let e₂ = dot_times y (coefficient_of r.terms) 0 xs in
    let e₃ = ap (λ (z : ℤ). y *ℤ z) (activity_is r.terms 0 xs (sound_row_parts n r p.0).rise) in
    let e₄ = times_add (pos d) (row_adds r y) (rows_add rs ys) in
    omega (arith, linear)

pub weak_duality : WeakDuality
weak_duality b ys kept f d xs one m =
    let c = by_columns b.rows ys d 0 b.columns xs m.each_column in
    let r = by_rows (length b.columns) b.rows ys d xs (sound_parts b kept).rows f m.each_row in
    let e = times_add (pos d) (rows_add b.rows ys) (columns_add b.rows ys 0 b.columns) in
    omega (arith, linear)
