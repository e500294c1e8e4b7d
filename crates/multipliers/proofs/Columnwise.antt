-- Subtracting the rows one by one from the table leaves in each column what the column leaves row by row.
use Rattle.std.proofs.Common.{◌≡◌, ℕ, zero, suc, ◌+◌, ◌<◌, ◌≤◌, Bool, true, false, cond, eqb, ltb, ◌≢◌, List, [], ◌∷◌, length, get_or, set, ℤ, pos, negsuc, ◌-ℤ◌, ◌*ℤ◌, Some, None, Ok, Err, Option, sym, refl, ap, ◌∙◌, subst, arith}
use lib.IntN.{*ℤ-zero, zero-*ℤ}
use Rattle.std.specs.List.{slice_get}
use Rattle.std.proofs.lemmas.List.{length-set, get_or-set_same, get_or-set_other, get_or_default}
use Rattle.std.proofs.lemmas.Int.{ints}
use Rattle.std.proofs.lemmas.Bool.{and_parts, ltb-true, eqb-true, eqb-false}
use Rattle.listing_fields.specs.declared.term.Term.{Term}
use Rattle.listing_fields.specs.Tests.{is_nought, terms_refer, terms_rise}
use Rattle.books.specs.declared.part.Column.{Column}
use Rattle.books.specs.Lists.{FullRow}
use Rattle.books.specs.Conditions.{every, sound_row}
use Rattle.books.proofs.Sounds.{sound_row_parts}
use Rattle.certificates.specs.Bounds.{coefficient_of}
use Rattle.certificates.specs.Steps.{in_reach}
use Rattle.certificates.proofs.Weak.{rise_first}
use Rattle.reach.specs.Ranged.{reach, after}
use Rattle.multipliers.specs.Sums.{then, column_total, columns_total}
use Rattle.multipliers.specs.Costs.{Table, nought, start, cost_less, started, terms_taken, row_taken, rows_taken, table_total}
use Rattle.multipliers.proofs.Totals.{Answer, left, columns_more, columns_none}

-- ---- running values that are within the reach, or absent

abbrev pub Kept : Option ℤ → Type 0
Kept None = Unit {0}
Kept (Some v) = in_reach v ≡ true

pub reach_kept : (z : ℤ) → Kept (reach z)
reach_kept z = go (in_reach z) refl
  where
    go : (t : Bool) → in_reach z ≡ t → Kept (cond t (Some z) None)
    go true e = e
    go false e = tt

pub after_kept : (o : Option ℤ) (g : ℤ → ℤ) → Kept (after o (λ q. reach (g q)))
after_kept None g = tt
after_kept (Some q) g = reach_kept (g q)

less_kept : (o : Option ℤ) (y a : ℤ) → Kept (cost_less o y a)
less_kept None y a = tt
less_kept (Some k) y a = after_kept (reach (y *ℤ a)) (λ q. k -ℤ q)

less_nought : (k p : ℤ) → p ≡ pos 0 → in_reach k ≡ true → after (reach p) (λ q. reach (k -ℤ q)) ≡ Some k
less_nought k p e h =
    let z : k -ℤ pos 0 ≡ k = omega (arith, ints) in
    ap (λ r. after (reach r) (λ q. reach (k -ℤ q))) e ∙ ap reach z ∙ ap (λ t. cond t (Some k) None) h

-- a coefficient of nought takes nothing, nor does a multiplier of nought
no_coefficient : (o : Option ℤ) (y : ℤ) → Kept o → cost_less o y (pos 0) ≡ o
no_coefficient None y h = refl
no_coefficient (Some k) y h = less_nought k (y *ℤ pos 0) (*ℤ-zero y) h

no_multiplier : (o : Option ℤ) (a : ℤ) → Kept o → cost_less o (pos 0) a ≡ o
no_multiplier None a h = refl
no_multiplier (Some k) a h = less_nought k (pos 0 *ℤ a) (zero-*ℤ a) h

-- ---- one row

terms_long : (ts : List Term) (y : ℤ) (tab : Table) → length (terms_taken ts y tab) ≡ length tab
terms_long [] y tab = refl
terms_long (t ∷ ts) y tab = terms_long ts y _ ∙ length-set tab t.column _

refer_first : (n : ℕ) (t : Term) (ts : List Term) → terms_refer n (t ∷ ts) ≡ true → (t.column < n) × (terms_refer n ts ≡ true)
refer_first n t ts e = let p = and_parts (ltb t.column n) (terms_refer n ts) e in (ltb-true t.column n p.0, p.1)

-- a column before the terms keeps its value
terms_before : (ts : List Term) (from : ℕ) (y : ℤ) (tab : Table) (j : ℕ) → terms_rise from ts ≡ true → j < from → get_or (terms_taken ts y tab) j nought ≡ get_or tab j nought
terms_before [] from y tab j e h = refl
terms_before (t ∷ ts) from y tab j e h =
    let f = rise_first t ts from e in
    let ne : j ≢ t.column = λ q. omega arith in
    terms_before ts (t.column + 1) y _ j f.1 (omega arith) ∙ get_or-set_other tab t.column j _ nought ne

-- so does one past the columns
terms_past : (ts : List Term) (n : ℕ) (y : ℤ) (tab : Table) (j : ℕ) → terms_refer n ts ≡ true → n ≤ j → get_or (terms_taken ts y tab) j nought ≡ get_or tab j nought
terms_past [] n y tab j e h = refl
terms_past (t ∷ ts) n y tab j e h =
    let f = refer_first n t ts e in
    let ne : j ≢ t.column = λ q. omega arith in
    terms_past ts n y _ j f.1 h ∙ get_or-set_other tab t.column j _ nought ne

-- what a term leaves in its column
abbrev new : Term → ℤ → Table → Option ℤ
new t y tab = cost_less (get_or tab t.column None) y t.coefficient

abbrev stepped : Term → ℤ → Table → Table
stepped t y tab = set tab t.column (new t y tab)

terms_at : (ts : List Term) (n from : ℕ) (y : ℤ) (tab : Table) (j : ℕ) → terms_refer n ts ≡ true → terms_rise from ts ≡ true → n ≤ length tab → Kept (get_or tab j nought) → get_or (terms_taken ts y tab) j nought ≡ cost_less (get_or tab j nought) y (coefficient_of ts j)
terms_at [] n from y tab j r e long h = sym (no_coefficient (get_or tab j nought) y h)
terms_at (t ∷ ts) n from y tab j r e long h =
    by (eqb t.column j) refl
    (terms_at ts n (t.column + 1) y (stepped t y tab) j (refer_first n t ts r).1 (rise_first t ts from e).1 (let l = length-set tab t.column (new t y tab) in omega arith))
  where
    below : t.column < length tab
    below = omega (arith, (refer_first n t ts r).0)

    by : (v : Bool) → eqb t.column j ≡ v
        → (Kept (get_or (stepped t y tab) j nought) → get_or (terms_taken ts y (stepped t y tab)) j nought ≡ cost_less (get_or (stepped t y tab) j nought) y (coefficient_of ts j))
        → get_or (terms_taken ts y (stepped t y tab)) j nought ≡ cost_less (get_or tab j nought) y (cond v t.coefficient (coefficient_of ts j))
    by true q ih =
        let p : t.column ≡ j = eqb-true _ _ q in
        terms_before ts (t.column + 1) y (stepped t y tab) j (rise_first t ts from e).1 (omega arith)
        ∙ ap (λ m. get_or (stepped t y tab) m nought) (sym p)
        ∙ get_or-set_same tab t.column (new t y tab) nought below
        ∙ ap (λ o. cost_less o y t.coefficient) (get_or_default tab t.column None nought below ∙ ap (λ m. get_or tab m nought) p)
    by false q ih =
        let ne : j ≢ t.column = λ p. eqb-false t.column j q (sym p) in
        let same = get_or-set_other tab t.column j (new t y tab) nought ne in
        ih (subst Kept (sym same) h) ∙ ap (λ o. cost_less o y (coefficient_of ts j)) same

-- ---- one row, or none if its multiplier is nought

pub nought_is : (y : ℤ) → is_nought y ≡ true → y ≡ pos 0
nought_is (pos n) e = ap pos (eqb-true n 0 e)
nought_is (negsuc n) e = cc

module _ (ts : List Term) (tab : Table) (y : ℤ) where
  row_long : length (row_taken ts y tab) ≡ length tab
  row_long = go (is_nought y)
    where
      go : (u : Bool) → length (cond u tab (terms_taken ts y tab)) ≡ length tab
      go true = refl
      go false = terms_long ts y tab

  module _ (n j : ℕ) (r : terms_refer n ts ≡ true) where
    row_past : n ≤ j → get_or (row_taken ts y tab) j nought ≡ get_or tab j nought
    row_past h = go (is_nought y)
      where
        go : (u : Bool) → get_or (cond u tab (terms_taken ts y tab)) j nought ≡ get_or tab j nought
        go true = refl
        go false = terms_past ts n y tab j r h

    row_at : terms_rise 0 ts ≡ true → n ≤ length tab → Kept (get_or tab j nought) → get_or (row_taken ts y tab) j nought ≡ cost_less (get_or tab j nought) y (coefficient_of ts j)
    row_at e long h = go (is_nought y) refl
      where
        go : (u : Bool) → is_nought y ≡ u → get_or (cond u tab (terms_taken ts y tab)) j nought ≡ cost_less (get_or tab j nought) y (coefficient_of ts j)
        go true q = sym (ap (λ z. cost_less (get_or tab j nought) z (coefficient_of ts j)) (nought_is y q) ∙ no_multiplier (get_or tab j nought) (coefficient_of ts j) h)
        go false q = terms_at ts n 0 y tab j r e long h

-- ---- all rows

pub rows_long : (rs : List FullRow) (ys : List ℤ) (tab : Table) → length (rows_taken rs ys tab) ≡ length tab
rows_long [] ys tab = refl
rows_long (r ∷ rs) [] tab = refl
rows_long (r ∷ rs) (y ∷ ys) tab = rows_long rs ys _ ∙ row_long r.terms tab y

pub rows_past : (n j : ℕ) (rs : List FullRow) (ys : List ℤ) (tab : Table) → every (sound_row n) rs ≡ true → n ≤ j → get_or (rows_taken rs ys tab) j nought ≡ get_or tab j nought
rows_past n j [] ys tab e h = refl
rows_past n j (r ∷ rs) [] tab e h = refl
rows_past n j (r ∷ rs) (y ∷ ys) tab e h =
    let p = and_parts (sound_row n r) (every (sound_row n) rs) e in
    rows_past n j rs ys _ p.1 h ∙ row_past r.terms tab y n j (sound_row_parts n r p.0).refer h

-- the table's entry is the column's running value
pub rows_at : (n j : ℕ) (rs : List FullRow) (ys : List ℤ) (tab : Table) → every (sound_row n) rs ≡ true → n ≤ length tab → Kept (get_or tab j nought) → get_or (rows_taken rs ys tab) j nought ≡ left j (get_or tab j nought) rs ys
rows_at n j [] ys tab e long h = refl
rows_at n j (r ∷ rs) [] tab e long h = refl
rows_at n j (r ∷ rs) (y ∷ ys) tab e long h =
    let p = and_parts (sound_row n r) (every (sound_row n) rs) e in
    let s = sound_row_parts n r p.0 in
    let at = row_at r.terms tab y n j s.refer s.rise long h in
    rows_at n j rs ys _ p.1 (let l = row_long r.terms tab y in omega arith) (subst Kept (sym at) (less_kept (get_or tab j nought) y (coefficient_of r.terms j)))
    ∙ ap (λ o. left j o rs ys) at

-- ---- the columns' starts

pub started_long : (i : ℕ) (cs : List Column) (tab : Table) → length (started i cs tab) ≡ length tab
started_long i [] tab = refl
started_long i (c ∷ cs) tab = started_long (suc i) cs _ ∙ length-set tab i _

started_before : (i j : ℕ) (cs : List Column) (tab : Table) → j < i → get_or (started i cs tab) j nought ≡ get_or tab j nought
started_before i j [] tab h = refl
started_before i j (c ∷ cs) tab h =
    let ne : j ≢ i = λ q. omega arith in
    started_before (suc i) j cs _ (omega arith) ∙ get_or-set_other tab i j _ nought ne

pub started_past : (i j : ℕ) (cs : List Column) (tab : Table) → i + length cs ≤ j → get_or (started i cs tab) j nought ≡ get_or tab j nought
started_past i j [] tab h = refl
started_past i j (c ∷ cs) tab h =
    let ne : j ≢ i = λ q. omega arith in
    started_past (suc i) j cs _ (omega arith) ∙ get_or-set_other tab i j _ nought ne

pub started_at : (i k : ℕ) (cs : List Column) (tab : Table) (c : Column) → slice_get cs k ≡ Some c → i + length cs ≤ length tab → get_or (started i cs tab) (i + k) nought ≡ start c
started_at i k [] tab c at h = cc
started_at i zero (d ∷ cs) tab c at h =
    let q : d ≡ c = cc in
    let z : i + 0 ≡ i = omega arith in
    ap (λ m. get_or (started (suc i) cs (set tab i (start d))) m nought) z ∙ started_before (suc i) i cs _ (omega arith) ∙ get_or-set_same tab i (start d) nought (omega arith) ∙ ap start q
started_at i (suc k) (d ∷ cs) tab c at h =
    let z : i + suc k ≡ suc i + k = omega arith in
    let l = length-set tab i (start d) in
    ap (λ m. get_or (started (suc i) cs (set tab i (start d))) m nought) z ∙ started_at (suc i) k cs _ c at (omega arith)

-- ---- the columns' total by the table

then_same : (r : Answer) (f g : ℤ → Answer) → ((s : ℤ) → f s ≡ g s) → then r f ≡ then r g
then_same (Err e) f g h = refl
then_same (Ok t) f g h = h t

pub table_is : (rs : List FullRow) (ys : List ℤ) (tab : Table) (j : ℕ) (cs : List Column) → ((k : ℕ) (c : Column) → slice_get cs k ≡ Some c → get_or tab (j + k) None ≡ left (j + k) (start c) rs ys) → (t : ℤ) → table_total j cs tab t ≡ columns_total rs ys j cs t
table_is rs ys tab j [] h t = sym (columns_none rs ys j t)
table_is rs ys tab j (c ∷ cs) h t =
    let z : j + 0 ≡ j = omega arith in
    let first : get_or tab j None ≡ left j (start c) rs ys = subst (λ m. get_or tab m None ≡ left m (start c) rs ys) z (h 0 c refl) in
    let next = λ (k : ℕ) (d : Column) (at : slice_get cs k ≡ Some d). let s : j + suc k ≡ suc j + k = omega arith in subst (λ m. get_or tab m None ≡ left m (start d) rs ys) s (h (suc k) d at) in
    ap (λ o. then (column_total j c o t) (λ s. table_total (suc j) cs tab s)) first
    ∙ then_same (column_total j c (left j (start c) rs ys) t) _ _ (table_is rs ys tab (suc j) cs next)
    ∙ sym (columns_more rs ys j c cs t)
