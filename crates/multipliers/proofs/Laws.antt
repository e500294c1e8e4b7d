-- A set is accepted exactly when it has one multiplier a row and passes, and its figure then lies within ±2^60.
use Rattle.std.proofs.Common.{◌≡◌, ℕ, zero, suc, ◌/◌, ◌%◌, Bool, true, false, cond, eqb, ltb, List, [], ◌∷◌, length, ℤ, pos, negsuc, ◌+ℤ◌, is_some, IfOk, Some, None, Ok, Err, Option, unwrap_or, sym, refl, ap, ◌∙◌, subst, arith}
use Rattle.std.specs.List.{AllByRecursion}
use Rattle.std.proofs.lemmas.Int.{ints}
use Rattle.std.proofs.lemmas.Bool.{and_parts, eqb-true, lt-ltb}
use Rattle.books.specs.declared.part.Column.{Column}
use Rattle.books.specs.Lists.{FullRow, Lists, head}
use Rattle.books.specs.Schedules.{Paired}
use Rattle.certificates.specs.declared.fault.DocketFault.{DocketFault}
use Rattle.certificates.specs.declared.fault.DocketFault.TheVariants.{ValueCount, MultiplierBeyond, SideAbsent, RowBeyond, ColumnBeyond}
use Rattle.certificates.specs.Values.{multipliers}
use Rattle.certificates.specs.Bounds.{at_limit, row_adds, bound, SignFits}
use Rattle.certificates.specs.Steps.{steps, in_reach, first_beyond}
use Rattle.certificates.specs.Checks.{unless, right_count, multiplier_reaches, has_side, first_large, first_sideless, judged_set, set_answer, SetPasses}
use Rattle.certificates.specs.Held.{multipliers_held}
use Rattle.certificates.proofs.Passed.{cond_none}
use Rattle.reach.specs.Ranged.{reach, after}
use Rattle.multipliers.specs.Sums.{with_limit, or_fault, then, row_total, rows_total, column_total, columns_total}
use Rattle.multipliers.specs.Costs.{start}
use Rattle.multipliers.proofs.Totals.{Answer, done, refused, rows_more, rows_none, rows_end, left, columns_more, columns_none, bound_is}
use Rattle.multipliers.proofs.Columnwise.{Kept, after_kept}

-- ---- the checks on the rows

small_of : (i : ℕ) (rs : List FullRow) (ys : List ℤ) → length ys ≡ length rs → first_large i rs ys ≡ None → AllByRecursion (λ (y : ℤ). multiplier_reaches y ≡ true) ys
small_of i [] [] h e = tt
small_of i [] (y ∷ ys) h e = absurd (omega arith)
small_of i (r ∷ rs) [] h e = tt
small_of i (r ∷ rs) (y ∷ ys) h e =
    let p = cond_none (multiplier_reaches y) (MultiplierBeyond i r.code) (first_large (suc i) rs ys) e in
    (p.0, small_of (suc i) rs ys (omega arith) p.1)

of_small : (i : ℕ) (rs : List FullRow) (ys : List ℤ) → AllByRecursion (λ (y : ℤ). multiplier_reaches y ≡ true) ys → first_large i rs ys ≡ None
of_small i [] ys a = refl
of_small i (r ∷ rs) [] a = refl
of_small i (r ∷ rs) (y ∷ ys) a =
    ap (λ t. cond t (first_large (suc i) rs ys) (Some (MultiplierBeyond i r.code))) a.0 ∙ of_small (suc i) rs ys a.1

some_of : (o : Option ℤ) → is_some o ≡ true → (s : ℤ) × (o ≡ Some s)
some_of None e = cc
some_of (Some s) e = (s, refl)

side_fits : (r : FullRow) (y : ℤ) → has_side y r.lower r.upper ≡ true → SignFits r y
side_fits r (pos n) e =
    record {
      above = λ h. let l : ltb 0 n ≡ true = lt-ltb 0 n (omega (arith, ints)) in some_of r.upper (sym (ap (λ t. cond t (is_some r.upper) true) l) ∙ e);
      below = λ h. absurd (omega (arith, ints));
    }
side_fits r (negsuc n) e = record { above = λ h. absurd (omega (arith, ints)); below = λ h. some_of r.lower e }

either_true : (t u : Bool) → u ≡ true → cond t u true ≡ true
either_true true u e = e
either_true false u e = refl

fits_side : (r : FullRow) (y : ℤ) → SignFits r y → has_side y r.lower r.upper ≡ true
fits_side r (pos zero) f = refl
fits_side r (pos (suc n)) f = either_true (ltb 0 (suc n)) (is_some r.upper) (ap is_some (f.above (omega (arith, ints))).1)
fits_side r (negsuc n) f = ap is_some (f.below (omega (arith, ints))).1

sided_of : (i : ℕ) (rs : List FullRow) (ys : List ℤ) → length ys ≡ length rs → first_sideless i rs ys ≡ None → Paired SignFits rs ys
sided_of i [] [] h e = tt
sided_of i [] (y ∷ ys) h e = absurd (omega arith)
sided_of i (r ∷ rs) [] h e = absurd (omega arith)
sided_of i (r ∷ rs) (y ∷ ys) h e =
    let p = cond_none (has_side y r.lower r.upper) (SideAbsent i r.code) (first_sideless (suc i) rs ys) e in
    (side_fits r y p.0, sided_of (suc i) rs ys (omega arith) p.1)

of_sided : (i : ℕ) (rs : List FullRow) (ys : List ℤ) → Paired SignFits rs ys → first_sideless i rs ys ≡ None
of_sided i [] ys p = refl
of_sided i (r ∷ rs) [] p = refl
of_sided i (r ∷ rs) (y ∷ ys) p =
    ap (λ t. cond t (first_sideless (suc i) rs ys) (Some (SideAbsent i r.code))) (fits_side r y p.0) ∙ of_sided (suc i) rs ys p.1

-- ---- the law

unless_ok : (o : Option DocketFault) (r : Answer) (v : ℤ) → unless o r ≡ Ok v → (o ≡ None) × (r ≡ Ok v)
unless_ok None r v e = (refl, e)
unless_ok (Some f) r v e = cc

pub judged_passes : (b : Lists) (ys : List ℤ) (v : ℤ) → length ys ≡ length b.rows → judged_set b ys ≡ Ok v → SetPasses b ys v
unfolding judged_set
judged_passes b ys v one e =
    let p = unless_ok (first_large 0 b.rows ys) (unless (first_sideless 0 b.rows ys) (unless (first_beyond (steps b ys)) (Ok (bound b ys)))) v e in
    let q = unless_ok (first_sideless 0 b.rows ys) (unless (first_beyond (steps b ys)) (Ok (bound b ys))) v p.1 in
    let r = unless_ok (first_beyond (steps b ys)) (Ok (bound b ys)) v q.1 in
    record { sizes = small_of 0 b.rows ys one p.0; signs = sided_of 0 b.rows ys one q.0; reach = r.0; figure = cc }

pub passes_judged : (b : Lists) (ys : List ℤ) (v : ℤ) → SetPasses b ys v → judged_set b ys ≡ Ok v
unfolding judged_set
passes_judged b ys v p =
    ap (λ o. unless o (unless (first_sideless 0 b.rows ys) (unless (first_beyond (steps b ys)) (Ok (bound b ys))))) (of_small 0 b.rows ys p.sizes)
    ∙ ap (λ o. unless o (unless (first_beyond (steps b ys)) (Ok (bound b ys)))) (of_sided 0 b.rows ys p.signs)
    ∙ ap (λ o. unless o (Ok (bound b ys))) p.reach
    ∙ ap Ok (sym p.figure)

-- bytes of the right count are one multiplier a row
pub one_a_row : (n : ℕ) (values : List ℕ) → right_count 8 n values ≡ true → length (multipliers values) ≡ n
one_a_row n values e =
    let p = and_parts (eqb (length values % 8) 0) (eqb (length values / 8) n) e in multipliers_held.count values ∙ eqb-true (length values / 8) n p.1

module _ (b : Lists) (values : List ℕ) (v : ℤ) where
  pub accepted_passes : set_answer b values ≡ Ok v → (right_count 8 (length b.rows) values ≡ true) × SetPasses b (multipliers values) v
  accepted_passes e = go (right_count 8 (length b.rows) values) refl e
    where
      go : (t : Bool) → right_count 8 (length b.rows) values ≡ t → cond t (judged_set b (multipliers values)) (Err ValueCount) ≡ Ok v → (t ≡ true) × SetPasses b (multipliers values) v
      go true c q = (refl, judged_passes b (multipliers values) v (one_a_row (length b.rows) values c) q)
      go false c q = cc

  pub passes_accepted : right_count 8 (length b.rows) values ≡ true → SetPasses b (multipliers values) v → set_answer b values ≡ Ok v
  passes_accepted c p = ap (λ t. cond t (judged_set b (multipliers values)) (Err ValueCount)) c ∙ passes_judged b (multipliers values) v p

-- the answer to bytes of the right count, and of another
pub counted : (b : Lists) (values : List ℕ) (n : ℕ) (r : Answer) → n ≡ length b.rows → true ≡ right_count 8 n values → r ≡ judged_set b (multipliers values) → r ≡ set_answer b values
counted b values n r e c is =
    is ∙ ap (λ t. cond t (judged_set b (multipliers values)) (Err ValueCount)) (c ∙ ap (λ m. right_count 8 m values) e)

pub miscounted : (b : Lists) (values : List ℕ) (n : ℕ) → n ≡ length b.rows → false ≡ right_count 8 n values → refused ValueCount ≡ set_answer b values
miscounted b values n e c = ap (λ t. cond t (judged_set b (multipliers values)) (Err ValueCount)) (c ∙ ap (λ m. right_count 8 m values) e)

-- the same of an answer that is given
pub answer_passes : (b : Lists) (values : List ℕ) (r : Answer) → r ≡ set_answer b values → IfOk r (λ v. (right_count 8 (length b.rows) values ≡ true) × SetPasses b (multipliers values) v)
answer_passes b values (Ok v) e = accepted_passes b values v (sym e)
answer_passes b values (Err f) e = tt

-- ---- the figure lies within the reach

then_ok : (r : Answer) (k : ℤ → Answer) (v : ℤ) → then r k ≡ Ok v → (t : ℤ) × (r ≡ Ok t) × (k t ≡ Ok v)
then_ok (Err f) k v e = cc
then_ok (Ok t) k v e = (t, refl, e)

fault_ok : (o : Option ℤ) (f : DocketFault) (t : ℤ) → or_fault o f ≡ Ok t → o ≡ Some t
fault_ok None f t e = cc
fault_ok (Some v) f t e = cc

rows_reach : (i : ℕ) (rs : List FullRow) (ys : List ℤ) (t v : ℤ) → in_reach t ≡ true → rows_total i rs ys t ≡ Ok v → in_reach v ≡ true
rows_reach i [] ys t v h e = let n = rows_none i ys t in let q : t ≡ v = cc in subst (λ z. in_reach z ≡ true) q h
rows_reach i (r ∷ rs) [] t v h e = let n = rows_end i (r ∷ rs) t in let q : t ≡ v = cc in subst (λ z. in_reach z ≡ true) q h
rows_reach i (r ∷ rs) (y ∷ ys) t v h e =
    let o = with_limit t y (unwrap_or r.lower (pos 0)) (unwrap_or r.upper (pos 0)) in
    let u = then_ok (row_total i (head r) y t) (λ s. rows_total (suc i) rs ys s) v (sym (rows_more i r rs y ys t) ∙ e) in
    rows_reach (suc i) rs ys u.0 v (subst Kept (fault_ok o (RowBeyond i r.code) u.0 u.1) (after_kept (reach (row_adds r y)) (λ p. t +ℤ p))) u.2

limit_kept : (o : Option ℤ) (c : Column) (t : ℤ) → Kept (after o (λ k. with_limit t k c.lower c.upper))
limit_kept None c t = tt
limit_kept (Some k) c t = after_kept (reach (at_limit k c.lower c.upper)) (λ p. t +ℤ p)

columns_reach : (rs : List FullRow) (ys : List ℤ) (j : ℕ) (cs : List Column) (t v : ℤ) → in_reach t ≡ true → columns_total rs ys j cs t ≡ Ok v → in_reach v ≡ true
columns_reach rs ys j [] t v h e = let n = columns_none rs ys j t in let q : t ≡ v = cc in subst (λ z. in_reach z ≡ true) q h
columns_reach rs ys j (c ∷ cs) t v h e =
    let o = left j (start c) rs ys in
    let u = then_ok (column_total j c o t) (λ s. columns_total rs ys (suc j) cs s) v (sym (columns_more rs ys j c cs t) ∙ e) in
    columns_reach rs ys (suc j) cs u.0 v (subst Kept (fault_ok (after o (λ k. with_limit t k c.lower c.upper)) (ColumnBeyond j) u.0 u.1) (limit_kept o c t)) u.2

-- the figure of a set that passes
pub figure_reaches : (b : Lists) (ys : List ℤ) (v : ℤ) → SetPasses b ys v → in_reach v ≡ true
figure_reaches b ys v p =
    let e : unless (first_beyond (steps b ys)) (done (bound b ys)) ≡ Ok v = ap (λ o. unless o (done (bound b ys))) p.reach ∙ ap done (sym p.figure) in
    let u = then_ok (rows_total 0 b.rows ys (pos 0)) (λ t. columns_total b.rows ys 0 b.columns t) v (sym (bound_is b ys) ∙ e) in
    columns_reach b.rows ys 0 b.columns u.0 v (rows_reach 0 b.rows ys (pos 0) u.0 refl u.1) u.2

pub accepted_reaches : (b : Lists) (values : List ℕ) (v : ℤ) → set_answer b values ≡ Ok v → in_reach v ≡ true
accepted_reaches b values v e = figure_reaches b (multipliers values) v (accepted_passes b values v e).1
