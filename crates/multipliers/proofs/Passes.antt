-- One turn of each pass over the rows, the columns and the terms: what is left begins with the entry of the turn.
use Rattle.std.proofs.Common.{◌≡◌, ℕ, zero, suc, ◌+◌, ◌<◌, ◌≤◌, Bool, true, false, cond, not, ltb, List, [], ◌∷◌, map, length, get_or, drop, set, ℤ, Some, None, Ok, Err, Option, Result, MatchOption, MatchResult, sym, refl, ap, ◌∙◌, add-one, arith}
use Rattle.std.specs.List.{slice_get, zip, enumerate_from, find}
use Rattle.std.specs.Option.{option_map}
use Rattle.std.specs.Result.{IsErrAnd}
use Rattle.std.proofs.lemmas.Bool.{and_parts, ltb-true}
use Rattle.listing_fields.specs.declared.term.Term.{Term}
use Rattle.listing_fields.specs.Tests.{is_nought, terms_refer}
use Rattle.books.specs.declared.part.Column.{Column}
use Rattle.books.specs.declared.part.Row.{Row}
use Rattle.books.specs.Lists.{FullRow, Lists, head}
use Rattle.books.specs.Walks.{heads_of, terms_in, terms_of}
use Rattle.books.specs.Conditions.{sound}
use Rattle.books.proofs.Sounds.{row_sound}
use Rattle.certificates.specs.declared.fault.DocketFault.{DocketFault}
use Rattle.certificates.specs.declared.fault.DocketFault.TheVariants.{MultiplierBeyond, SideAbsent}
use Rattle.certificates.specs.Checks.{multiplier_reaches, has_side, first_large, first_sideless, passed}
use Rattle.multipliers.specs.Sums.{first_refused, then, row_total, rows_total, column_total}
use Rattle.multipliers.specs.Costs.{Table, start, cost_less, started, terms_taken, row_taken, rows_taken, table_total}
use Rattle.multipliers.proofs.Totals.{Answer, done, refused, rows_more, rows_none, rows_end}

-- ---- the starts of the columns

module _ (k n : ℕ) (c : Column) (cs left : List Column) (tab all : Table) (inv : started k left tab ≡ all) (front : left ≡ c ∷ cs) (next : n ≡ k + 1) where
  pub start_turn : (j : ℕ) (new : Option ℤ) → j ≡ k → new ≡ start c → started n cs (set tab j new) ≡ all
  start_turn j new at is =
      ap (λ m. started m cs (set tab j new)) (next ∙ add-one k)
      ∙ ap (λ i. started (suc k) cs (set tab i new)) at
      ∙ ap (λ o. started (suc k) cs (set tab k o)) is
      ∙ sym (ap (λ q. started k q tab) front)
      ∙ inv

pub start_end : (k : ℕ) (left : List Column) (tab all : Table) → started k left tab ≡ all → left ≡ [] → tab ≡ all
start_end k left tab all inv e = sym (ap (λ q. started k q tab) e) ∙ inv

-- ---- the terms of a row

module _ (y : ℤ) (t : Term) (ts left : List Term) (tab all : Table) (inv : terms_taken left y tab ≡ all) (front : left ≡ t ∷ ts) where
  pub term_turn : (new : Table) → new ≡ set tab t.column (cost_less (get_or tab t.column None) y t.coefficient) → terms_taken ts y new ≡ all
  term_turn new is = ap (terms_taken ts y) is ∙ sym (ap (λ q. terms_taken q y tab) front) ∙ inv

pub term_end : (y : ℤ) (left : List Term) (tab all : Table) → terms_taken left y tab ≡ all → left ≡ [] → tab ≡ all
term_end y left tab all inv e = sym (ap (λ q. terms_taken q y tab) e) ∙ inv

-- the first of the terms that are left names a column
pub refer_turn : (n : ℕ) (t : Term) (ts left : List Term) → terms_refer n left ≡ true → left ≡ t ∷ ts → (t.column < n) × (terms_refer n ts ≡ true)
refer_turn n t ts left e front =
    let p = and_parts (ltb t.column n) (terms_refer n ts) (sym (ap (terms_refer n) front) ∙ e) in (ltb-true t.column n p.0, p.1)

pub terms_known : (b : Lists) → sound b ≡ true → (i : ℕ) → terms_refer (length b.columns) (terms_of b i) ≡ true
terms_known b kept i = by (slice_get b.rows i) refl
  where
    by : (o : Option FullRow) → slice_get b.rows i ≡ o → terms_refer (length b.columns) (terms_in o) ≡ true
    by None e = refl
    by (Some r) e = (row_sound b kept i r e).refer

-- ---- all rows, each times its multiplier

none_taken : (y : ℤ) (tab : Table) → row_taken [] y tab ≡ tab
none_taken y tab = go (is_nought y)
  where
    go : (u : Bool) → cond u tab tab ≡ tab
    go true = refl
    go false = refl

rows_turn : (i : ℕ) (rs : List FullRow) (y : ℤ) (ys : List ℤ) (tab : Table) → rows_taken (drop (suc i) rs) ys (row_taken (terms_in (slice_get rs i)) y tab) ≡ rows_taken (drop i rs) (y ∷ ys) tab
rows_turn zero [] y ys tab = none_taken y tab
rows_turn (suc i) [] y ys tab = none_taken y tab
rows_turn zero (r ∷ rs) y ys tab = refl
rows_turn (suc i) (r ∷ rs) y ys tab = rows_turn i rs y ys tab

module _ (b : Lists) (i n : ℕ) (y : ℤ) (ys left : List ℤ) (tab all : Table) (inv : rows_taken (drop i b.rows) left tab ≡ all) (front : left ≡ y ∷ ys) (next : n ≡ i + 1) where
  pub row_turn : (j : ℕ) (new : Table) → j ≡ i → new ≡ row_taken (terms_of b j) y tab → rows_taken (drop n b.rows) ys new ≡ all
  row_turn j new at is =
      ap (λ m. rows_taken (drop m b.rows) ys new) (next ∙ add-one i)
      ∙ ap (rows_taken (drop (suc i) b.rows) ys) (is ∙ ap (λ m. row_taken (terms_of b m) y tab) at)
      ∙ rows_turn i b.rows y ys tab
      ∙ sym (ap (λ q. rows_taken (drop i b.rows) q tab) front)
      ∙ inv

pub row_end : (b : Lists) (i : ℕ) (left : List ℤ) (tab all : Table) → rows_taken (drop i b.rows) left tab ≡ all → left ≡ [] → tab ≡ all
row_end b i left tab all inv e = go (drop i b.rows) ∙ sym (ap (λ q. rows_taken (drop i b.rows) q tab) e) ∙ inv
  where
    go : (rs : List FullRow) → tab ≡ rows_taken rs [] tab
    go [] = refl
    go (r ∷ rs) = refl

-- ---- a check of each row and its multiplier

-- the test refuses a row and its multiplier, behind their number
abbrev pub refuses : (Row → ℤ → Bool) → ℕ × (Row × ℤ) → Bool
refuses test p = not (test p.1.0 p.1.1)

abbrev as_refusal : Option (ℕ × (Row × ℤ)) → Result (Unit {0}) (ℕ × ℕ)
as_refusal None = Ok tt
as_refusal (Some p) = Err (p.0, p.1.0.code)

refused_from : (test : Row → ℤ → Bool) (k : ℕ) (rs : List Row) (ys : List ℤ) → first_refused test k rs ys ≡ as_refusal (find (refuses test) (enumerate_from k (zip rs ys)))
refused_from test k [] ys = refl
refused_from test k (r ∷ rs) [] = refl
refused_from test k (r ∷ rs) (y ∷ ys) =
    ap (λ o. cond (test r y) o (Err (k, r.code)))
    (refused_from test (suc k) rs ys ∙ ap (λ n. as_refusal (find (refuses test) (enumerate_from n (zip rs ys)))) (sym (add-one k)))
    ∙ by (test r y) (find (refuses test) (enumerate_from (k + 1) (zip rs ys)))
  where
    by : (t : Bool) (o : Option (ℕ × (Row × ℤ))) → cond t (as_refusal o) (Err (k, r.code)) ≡ as_refusal (cond (not t) (Some (k, (r, y))) o)
    by true o = refl
    by false o = refl

-- what the closure that is asked for the row tells
pub first_found : (test : Row → ℤ → Bool) (rs : List Row) (ys : List ℤ) (o : Option (ℕ × (Row × ℤ))) (r : Result (Unit {0}) (ℕ × ℕ)) (Tells : ℕ × (Row × ℤ) → Type 0) → option_map (λ p. (p.0, (p.1.0, p.1.1))) o ≡ find (refuses test) (enumerate_from 0 (zip rs ys))
    → ((p : ℕ × (Row × ℤ)) → Tells p → r ≡ Err (p.0, p.1.0.code)) → MatchOption o (r ≡ Ok tt) Tells → r ≡ first_refused test 0 rs ys
first_found test rs ys o r Tells found err is = by o is ∙ ap as_refusal found ∙ sym (refused_from test 0 rs ys)
  where
    by : (p : Option (ℕ × (Row × ℤ))) → MatchOption p (r ≡ Ok tt) Tells → r ≡ as_refusal (option_map (λ q. (q.0, (q.1.0, q.1.1))) p)
    by None e = e
    by (Some p) e = err p e

-- the fault of the row that is refused
abbrev as_fault : (ℕ → ℕ → DocketFault) → Result (Unit {0}) (ℕ × ℕ) → Result (Unit {0}) DocketFault
as_fault f (Ok u) = Ok u
as_fault f (Err p) = Err (f p.0 p.1)

-- F looks for the first row that the test refuses
module _
    (test : Row → ℤ → Bool)
    (fault : ℕ → ℕ → DocketFault)
    (F : ℕ → List FullRow → List ℤ → Option DocketFault)
    (none : (i : ℕ) (ys : List ℤ) → F i [] ys ≡ None)
    (over : (i : ℕ) (r : FullRow) (rs : List FullRow) → F i (r ∷ rs) [] ≡ None)
    (one : (i : ℕ) (r : FullRow) (rs : List FullRow) (y : ℤ) (ys : List ℤ) → F i (r ∷ rs) (y ∷ ys) ≡ cond (test (head r) y) (F (suc i) rs ys) (Some (fault i r.code)))
  where
    looked : (i : ℕ) (rs : List FullRow) (ys : List ℤ) → as_fault fault (first_refused test i (map head rs) ys) ≡ passed (F i rs ys)
    looked i [] ys = sym (ap passed (none i ys))
    looked i (r ∷ rs) [] = sym (ap passed (over i r rs))
    looked i (r ∷ rs) (y ∷ ys) = by (test (head r) y) (looked (suc i) rs ys) ∙ sym (ap passed (one i r rs y ys))
      where
        by : (t : Bool) → as_fault fault (first_refused test (suc i) (map head rs) ys) ≡ passed (F (suc i) rs ys) → as_fault fault (cond t (first_refused test (suc i) (map head rs) ys) (Err (i, r.code))) ≡ passed (cond t (F (suc i) rs ys) (Some (fault i r.code)))
        by true e = e
        by false e = refl

    -- what the closure that is asked for the fault tells
    pub rows_checked : (b : Lists) (ys : List ℤ) (p : Result (Unit {0}) (ℕ × ℕ)) (r : Result (Unit {0}) DocketFault) (Tells : ℕ × ℕ → DocketFault → Type 0) → p ≡ first_refused test 0 (heads_of b) ys
        → ((e : ℕ × ℕ) (f : DocketFault) → Tells e f → f ≡ fault e.0 e.1) → MatchResult p (λ u. r ≡ Ok u) (λ e. IsErrAnd r (Tells e)) → r ≡ passed (F 0 b.rows ys)
    rows_checked b ys p r Tells is tells cases = by p r cases ∙ ap (as_fault fault) is ∙ looked 0 b.rows ys
      where
        by : (p : Result (Unit {0}) (ℕ × ℕ)) (r : Result (Unit {0}) DocketFault) → MatchResult p (λ u. r ≡ Ok u) (λ e. IsErrAnd r (Tells e)) → r ≡ as_fault fault p
        by (Ok u) r e = e
        by (Err e) (Ok u) n = absurd n
        by (Err e) (Err f) n = ap Err (tells e f n)

pub sizes_checked : (b : Lists) (ys : List ℤ) (p : Result (Unit {0}) (ℕ × ℕ)) (r : Result (Unit {0}) DocketFault) (Tells : ℕ × ℕ → DocketFault → Type 0) → p ≡ first_refused (λ _ y. multiplier_reaches y) 0 (heads_of b) ys
    → ((e : ℕ × ℕ) (f : DocketFault) → Tells e f → f ≡ MultiplierBeyond e.0 e.1) → MatchResult p (λ u. r ≡ Ok u) (λ e. IsErrAnd r (Tells e)) → r ≡ passed (first_large 0 b.rows ys)
sizes_checked = rows_checked (λ _ y. multiplier_reaches y) MultiplierBeyond first_large (λ i ys. refl) (λ i r rs. refl) (λ i r rs y ys. refl)

pub sides_checked : (b : Lists) (ys : List ℤ) (p : Result (Unit {0}) (ℕ × ℕ)) (r : Result (Unit {0}) DocketFault) (Tells : ℕ × ℕ → DocketFault → Type 0) → p ≡ first_refused (λ r y. has_side y r.lower r.upper) 0 (heads_of b) ys
    → ((e : ℕ × ℕ) (f : DocketFault) → Tells e f → f ≡ SideAbsent e.0 e.1) → MatchResult p (λ u. r ≡ Ok u) (λ e. IsErrAnd r (Tells e)) → r ≡ passed (first_sideless 0 b.rows ys)
sides_checked = rows_checked (λ r y. has_side y r.lower r.upper) SideAbsent first_sideless (λ i ys. refl) (λ i r rs. refl) (λ i r rs y ys. refl)

-- ---- the rows' total

-- the same from the rows without their terms
abbrev pub heads_total : ℕ → List Row → List ℤ → ℤ → Answer
heads_total i [] ys t = done t
heads_total i (r ∷ rs) [] t = done t
heads_total i (r ∷ rs) (y ∷ ys) t = then (row_total i r y t) (λ s. heads_total (suc i) rs ys s)

then_same : (r : Answer) (f g : ℤ → Answer) → ((s : ℤ) → f s ≡ g s) → then r f ≡ then r g
then_same (Err e) f g h = refl
then_same (Ok t) f g h = h t

pub heads_are : (i : ℕ) (rs : List FullRow) (ys : List ℤ) (t : ℤ) → heads_total i (map head rs) ys t ≡ rows_total i rs ys t
heads_are i [] ys t = sym (rows_none i ys t)
heads_are i (r ∷ rs) [] t = sym (rows_end i (r ∷ rs) t)
heads_are i (r ∷ rs) (y ∷ ys) t =
    then_same (row_total i (head r) y t) _ _ (λ s. heads_are (suc i) rs ys s) ∙ sym (rows_more i r rs y ys t)

module _ (i : ℕ) (r : Row) (y t : ℤ) (rs rows : List Row) (ys left : List ℤ) (all : Answer) (inv : heads_total i rows left t ≡ all) (here : rows ≡ r ∷ rs) (front : left ≡ y ∷ ys) where
  total_here : all ≡ then (row_total i r y t) (λ s. heads_total (suc i) rs ys s)
  total_here = sym (sym (ap (λ q. heads_total i q (y ∷ ys) t) here) ∙ sym (ap (λ q. heads_total i rows q t) front) ∙ inv)

  pub total_goes : (n : ℕ) → n ≡ i + 1 → (j : ℕ) (s : ℤ) → j ≡ i → done s ≡ row_total j r y t → heads_total n rs ys s ≡ all
  total_goes n next j s at ok =
      ap (λ m. heads_total m rs ys s) (next ∙ add-one i)
      ∙ sym (total_here ∙ ap (λ q. then q (λ s. heads_total (suc i) rs ys s)) (sym (ok ∙ ap (λ m. row_total m r y t) at)))

  pub total_stops : (j : ℕ) (f : DocketFault) → j ≡ i → refused f ≡ row_total j r y t → refused f ≡ all
  total_stops j f at err =
      sym (total_here ∙ ap (λ q. then q (λ s. heads_total (suc i) rs ys s)) (sym (err ∙ ap (λ m. row_total m r y t) at)))

pub total_end : (i : ℕ) (t : ℤ) (rows : List Row) (left : List ℤ) (all : Answer) → heads_total i rows left t ≡ all → rows ≡ [] → done t ≡ all
total_end i t rows left all inv e = sym (ap (λ q. heads_total i q left t) e) ∙ inv

pub total_over : (i : ℕ) (t : ℤ) (rows : List Row) (left : List ℤ) (all : Answer) → heads_total i rows left t ≡ all → left ≡ [] → done t ≡ all
total_over i t rows left all inv e = go rows ∙ sym (ap (λ q. heads_total i rows q t) e) ∙ inv
  where
    go : (rs : List Row) → done t ≡ heads_total i rs [] t
    go [] = refl
    go (r ∷ rs) = refl

-- ---- the columns' total

-- the same from the columns and their reduced costs, one beside the other
abbrev pub costs_total : ℕ → List Column → Table → ℤ → Answer
costs_total j [] ks t = done t
costs_total j (c ∷ cs) [] t = done t
costs_total j (c ∷ cs) (k ∷ ks) t = then (column_total j c k t) (λ s. costs_total (suc j) cs ks s)

module _ (tab : Table) where
  costs_from : (j : ℕ) (cs : List Column) (ks : Table) (t : ℤ) → ks ≡ drop j tab → length cs ≤ length ks → costs_total j cs ks t ≡ table_total j cs tab t
  costs_from j [] ks t at few = refl
  costs_from j (c ∷ cs) [] t at few = absurd (omega arith)
  costs_from j (c ∷ cs) (k ∷ ks) t at few =
      let front = drop_parts tab j k ks (sym at) in
      ap (λ o. then (column_total j c o t) (λ s. costs_total (suc j) cs ks s)) front.0
      ∙ then_same (column_total j c (get_or tab j None) t) _ _ (λ s. costs_from (suc j) cs ks s (sym front.1) (omega (arith, few)))
    where
      drop_parts : (xs : Table) (n : ℕ) (x : Option ℤ) (ys : Table) → drop n xs ≡ x ∷ ys → (x ≡ get_or xs n None) × (drop (suc n) xs ≡ ys)
      drop_parts [] zero x ys e = cc
      drop_parts [] (suc n) x ys e = cc
      drop_parts (z ∷ xs) zero x ys e = (cc, cc)
      drop_parts (z ∷ xs) (suc n) x ys e = drop_parts xs n x ys e

  pub costs_are : (cs : List Column) (t : ℤ) → length cs ≤ length tab → costs_total 0 cs tab t ≡ table_total 0 cs tab t
  costs_are cs t few = costs_from 0 cs tab t refl few

module _ (j : ℕ) (c : Column) (k : Option ℤ) (t : ℤ) (cs columns : List Column) (ks left : Table) (all : Answer) (inv : costs_total j columns left t ≡ all) (here : columns ≡ c ∷ cs) (front : left ≡ k ∷ ks) where
  cost_here : all ≡ then (column_total j c k t) (λ s. costs_total (suc j) cs ks s)
  cost_here = sym (sym (ap (λ q. costs_total j q (k ∷ ks) t) here) ∙ sym (ap (λ q. costs_total j columns q t) front) ∙ inv)

  pub column_goes : (n : ℕ) → n ≡ j + 1 → (i : ℕ) (s : ℤ) → i ≡ j → done s ≡ column_total i c k t → costs_total n cs ks s ≡ all
  column_goes n next i s at ok =
      ap (λ m. costs_total m cs ks s) (next ∙ add-one j)
      ∙ sym (cost_here ∙ ap (λ q. then q (λ s. costs_total (suc j) cs ks s)) (sym (ok ∙ ap (λ m. column_total m c k t) at)))

  pub column_stops : (i : ℕ) (f : DocketFault) → i ≡ j → refused f ≡ column_total i c k t → refused f ≡ all
  column_stops i f at err =
      sym (cost_here ∙ ap (λ q. then q (λ s. costs_total (suc j) cs ks s)) (sym (err ∙ ap (λ m. column_total m c k t) at)))

pub column_end : (j : ℕ) (t : ℤ) (columns : List Column) (left : Table) (all : Answer) → costs_total j columns left t ≡ all → columns ≡ [] → done t ≡ all
column_end j t columns left all inv e = sym (ap (λ q. costs_total j q left t) e) ∙ inv

pub column_over : (j : ℕ) (t : ℤ) (columns : List Column) (left : Table) (all : Answer) → costs_total j columns left t ≡ all → length left ≡ 0 → done t ≡ all
column_over j t columns [] all inv e = go columns ∙ inv
  where
    go : (cs : List Column) → done t ≡ costs_total j cs [] t
    go [] = refl
    go (c ∷ cs) = refl
column_over j t columns (k ∷ ks) all inv e = absurd (omega arith)
