-- A total with its fault, one row or column at a time, is what the list of all steps says of it.
use Rattle.std.proofs.Common.{◌≡◌, ℕ, suc, Bool, true, false, cond, List, [], ◌∷◌, ◌++◌, ℤ, pos, ◌+ℤ◌, ◌-ℤ◌, ◌*ℤ◌, Some, None, Ok, Err, Option, Result, sym, refl, ap, ◌∙◌, arith}
use lib.IntN.{+ℤ_idr}
use Rattle.books.specs.declared.part.Column.{Column}
use Rattle.books.specs.Lists.{FullRow, Lists, head}
use Rattle.books.proofs.Integers.{linear}
use Rattle.certificates.specs.declared.fault.DocketFault.{DocketFault}
use Rattle.certificates.specs.declared.fault.DocketFault.TheVariants.{RowBeyond, ColumnBeyond}
use Rattle.certificates.specs.Bounds.{K, row_adds, rows_add, coefficient_of, reduced_cost, column_adds, columns_add, bound}
use Rattle.certificates.specs.Steps.{Step, row_steps, cost_steps, column_steps, steps, in_reach, first_beyond}
use Rattle.certificates.specs.Checks.{unless, first_large, first_sideless, judged_set, passed}
use Rattle.certificates.proofs.Passed.{fault_is, none_is}
use Rattle.reach.specs.Ranged.{reach, after, less}
use Rattle.multipliers.specs.Sums.{with_limit, or_fault, then, row_total, rows_total, column_total, columns_total}
use Rattle.multipliers.specs.Costs.{start, cost_less}

abbrev pub Answer : Type 0
Answer = Result ℤ DocketFault

abbrev pub done : ℤ → Answer
done t = Ok t

abbrev pub refused : DocketFault → Answer
refused f = Err f

assoc : (a b c : ℤ) → a +ℤ (b +ℤ c) ≡ (a +ℤ b) +ℤ c
assoc a b c = omega (arith, linear)

-- ---- one step, and a product with the running value that follows it

one_step : (f : DocketFault) (z : ℤ) (ss : List Step) (r : Answer) (k : ℤ → Answer) → unless (first_beyond ss) r ≡ k z → unless (first_beyond (record { fault = f; value = z } ∷ ss)) r ≡ then (or_fault (reach z) f) k
one_step f z ss r k h = by (in_reach z)
  where
    by : (u : Bool) → unless (cond u (first_beyond ss) (Some f)) r ≡ then (or_fault (cond u (Some z) None) f) k
    by true = h
    by false = refl

two_steps : (f : DocketFault) (p : ℤ) (g : ℤ → ℤ) (ss : List Step) (r : Answer) (k : ℤ → Answer) → unless (first_beyond ss) r ≡ k (g p) → unless (first_beyond (record { fault = f; value = p } ∷ record { fault = f; value = g p } ∷ ss)) r ≡ then (or_fault (after (reach p) (λ q. reach (g q))) f) k
two_steps f p g ss r k h = by (in_reach p)
  where
    by : (u : Bool) → unless (cond u (first_beyond (record { fault = f; value = g p } ∷ ss)) (Some f)) r ≡ then (or_fault (after (cond u (Some p) None) (λ q. reach (g q))) f) k
    by true = one_step f (g p) ss r k h
    by false = refl

-- ---- rows

pub rows_more : (i : ℕ) (r : FullRow) (rs : List FullRow) (y : ℤ) (ys : List ℤ) (t : ℤ) → rows_total i (r ∷ rs) (y ∷ ys) t ≡ then (row_total i (head r) y t) (λ s. rows_total (suc i) rs ys s)
rows_more i r rs y ys t =
    let p = row_adds r y in
    let left = row_steps (suc i) rs ys (t +ℤ p) in
    two_steps (RowBeyond i r.code) p (λ q. t +ℤ q) left (done (t +ℤ (p +ℤ rows_add rs ys))) (λ s. rows_total (suc i) rs ys s) (ap (λ z. unless (first_beyond left) (done z)) (assoc t p (rows_add rs ys)))

pub rows_none : (i : ℕ) (ys : List ℤ) (t : ℤ) → rows_total i [] ys t ≡ done t
rows_none i ys t = ap done (+ℤ_idr t)

pub rows_end : (i : ℕ) (rs : List FullRow) (t : ℤ) → rows_total i rs [] t ≡ done t
rows_end i [] t = ap done (+ℤ_idr t)
rows_end i (r ∷ rs) t = ap done (+ℤ_idr t)

-- ---- the reduced cost of one column

-- what is left of column j's running value when each row has taken its part, absent if it left the reach
abbrev pub left : ℕ → Option ℤ → List FullRow → List ℤ → Option ℤ
left j o [] ys = o
left j o (r ∷ rs) [] = o
left j o (r ∷ rs) (y ∷ ys) = left j (cost_less o y (coefficient_of r.terms j)) rs ys

left_none : (j : ℕ) (rs : List FullRow) (ys : List ℤ) → left j None rs ys ≡ None
left_none j [] ys = refl
left_none j (r ∷ rs) [] = refl
left_none j (r ∷ rs) (y ∷ ys) = left_none j rs ys

left_then : (j : ℕ) (rs : List FullRow) (ys : List ℤ) (o : Option ℤ) (f : DocketFault) (k : ℤ → Answer) → then (or_fault (left j o rs ys) f) k ≡ then (or_fault o f) (λ v. then (or_fault (left j (Some v) rs ys) f) k)
left_then j rs ys None f k = ap (λ o. then (or_fault o f) k) (left_none j rs ys)
left_then j rs ys (Some v) f k = refl

cost_is : (j : ℕ) (v : ℤ) (rs : List FullRow) (ys : List ℤ) (ss : List Step) (r : Answer) (k : ℤ → Answer) → unless (first_beyond ss) r ≡ k (reduced_cost v rs ys j) → unless (first_beyond (cost_steps j v rs ys ++ ss)) r ≡ then (or_fault (left j (Some v) rs ys) (ColumnBeyond j)) k
cost_is j v [] ys ss r k h = h
cost_is j v (x ∷ rs) [] ss r k h = h
cost_is j v (x ∷ rs) (y ∷ ys) ss r k h =
    let a = coefficient_of x.terms j in
    let w = v -ℤ y *ℤ a in
    two_steps (ColumnBeyond j) (y *ℤ a) (λ p. v -ℤ p) (cost_steps j w rs ys ++ ss) r (λ z. then (or_fault (left j (Some z) rs ys) (ColumnBeyond j)) k) (cost_is j w rs ys ss r k h)
    ∙ sym (left_then j rs ys (less v y a) (ColumnBeyond j) k)

-- ---- columns

after_then : (o : Option ℤ) (h : ℤ → Option ℤ) (f : DocketFault) (k : ℤ → Answer) → then (or_fault (after o h) f) k ≡ then (or_fault o f) (λ v. then (or_fault (h v) f) k)
after_then None h f k = refl
after_then (Some v) h f k = refl

pub columns_more : (rs : List FullRow) (ys : List ℤ) (j : ℕ) (c : Column) (cs : List Column) (t : ℤ) → columns_total rs ys j (c ∷ cs) t ≡ then (column_total j c (left j (start c) rs ys) t) (λ s. columns_total rs ys (suc j) cs s)
columns_more rs ys j c cs t =
    let f = ColumnBeyond j in
    let v = K *ℤ c.price in
    let p = column_adds rs ys j c in
    let rest = column_steps rs ys (suc j) cs (t +ℤ p) in
    let r = done (t +ℤ (p +ℤ columns_add rs ys (suc j) cs)) in
    let next = λ (s : ℤ). columns_total rs ys (suc j) cs s in
    let limit = λ (k : ℤ). with_limit t k c.lower c.upper in
    let added = λ (k : ℤ). then (or_fault (limit k) f) next in
    let adds = two_steps f p (λ q. t +ℤ q) rest r next (ap (λ z. unless (first_beyond rest) (done z)) (assoc t p (columns_add rs ys (suc j) cs))) in
    let both = record { fault = f; value = p } ∷ record { fault = f; value = t +ℤ p } ∷ rest in
    let costs = cost_is j v rs ys both r added adds in
    one_step f v (cost_steps j v rs ys ++ both) r (λ z. then (or_fault (left j (Some z) rs ys) f) added) costs
    ∙ sym (left_then j rs ys (start c) f added)
    ∙ sym (after_then (left j (start c) rs ys) limit f next)

pub columns_none : (rs : List FullRow) (ys : List ℤ) (j : ℕ) (t : ℤ) → columns_total rs ys j [] t ≡ done t
columns_none rs ys j t = ap done (+ℤ_idr t)

-- ---- all steps

unless_both : (ss us : List Step) (r : Answer) → unless (first_beyond (ss ++ us)) r ≡ unless (first_beyond ss) (unless (first_beyond us) r)
unless_both [] us r = refl
unless_both (s ∷ ss) us r = by (in_reach s.value) (unless_both ss us r)
  where
    by : (u : Bool) → unless (first_beyond (ss ++ us)) r ≡ unless (first_beyond ss) (unless (first_beyond us) r) → unless (cond u (first_beyond (ss ++ us)) (Some s.fault)) r ≡ unless (cond u (first_beyond ss) (Some s.fault)) (unless (first_beyond us) r)
    by true ih = ih
    by false ih = refl

unless_then : (o : Option DocketFault) (t : ℤ) (k : ℤ → Answer) → then (unless o (done t)) k ≡ unless o (k t)
unless_then None t k = refl
unless_then (Some f) t k = refl

-- rows first, then columns from the rows' total
pub bound_is : (b : Lists) (ys : List ℤ) → unless (first_beyond (steps b ys)) (done (bound b ys)) ≡ then (rows_total 0 b.rows ys (pos 0)) (λ t. columns_total b.rows ys 0 b.columns t)
bound_is b ys =
    let rs = b.rows in
    let cs = b.columns in
    let all = rows_add rs ys in
    let o = first_beyond (row_steps 0 rs ys (pos 0)) in
    let z : all ≡ pos 0 +ℤ all = omega (arith, linear) in
    unless_both (row_steps 0 rs ys (pos 0)) (column_steps rs ys 0 cs all) (done (bound b ys))
    ∙ ap (λ (t : ℤ). unless o (columns_total rs ys 0 cs t)) z
    ∙ sym (unless_then o (pos 0 +ℤ all) (λ t. columns_total rs ys 0 cs t))

-- the answer to a set, by the first check that fails
module _ (b : Lists) (ys : List ℤ) where
  judged_first : judged_set b ys ≡ unless (first_large 0 b.rows ys) (unless (first_sideless 0 b.rows ys) (then (rows_total 0 b.rows ys (pos 0)) (λ t. columns_total b.rows ys 0 b.columns t)))
  unfolding judged_set
  judged_first = ap (λ r. unless (first_large 0 b.rows ys) (unless (first_sideless 0 b.rows ys) r)) (bound_is b ys)

  abbrev totals : Answer
  totals = then (rows_total 0 b.rows ys (pos 0)) (λ t. columns_total b.rows ys 0 b.columns t)

  pub sizes_refuse : (f : DocketFault) → Err f ≡ passed (first_large 0 b.rows ys) → refused f ≡ judged_set b ys
  sizes_refuse f e =
      sym (judged_first ∙ ap (λ o. unless o (unless (first_sideless 0 b.rows ys) totals)) (fault_is _ f e))

  module _ (u : Unit {0}) (sizes : Ok u ≡ passed (first_large 0 b.rows ys)) where
    sized : judged_set b ys ≡ unless (first_sideless 0 b.rows ys) totals
    sized = judged_first ∙ ap (λ o. unless o (unless (first_sideless 0 b.rows ys) totals)) (none_is _ u sizes)

    pub sides_refuse : (f : DocketFault) → Err f ≡ passed (first_sideless 0 b.rows ys) → refused f ≡ judged_set b ys
    sides_refuse f e = sym (sized ∙ ap (λ o. unless o totals) (fault_is _ f e))

    module _ (w : Unit {0}) (sides : Ok w ≡ passed (first_sideless 0 b.rows ys)) where
      sided : judged_set b ys ≡ totals
      sided = sized ∙ ap (λ o. unless o totals) (none_is _ w sides)

      -- of one whose rows add up beyond the reach
      pub judged_beyond : (f : DocketFault) → refused f ≡ rows_total 0 b.rows ys (pos 0) → refused f ≡ judged_set b ys
      judged_beyond f is = ap (λ q. then q (λ t. columns_total b.rows ys 0 b.columns t)) is ∙ sym sided

      -- of one whose rows add up to t
      pub judged_is : (t : ℤ) (r : Answer) → done t ≡ rows_total 0 b.rows ys (pos 0) → r ≡ columns_total b.rows ys 0 b.columns t → r ≡ judged_set b ys
      judged_is t r rows is =
          is ∙ ap (λ q. then q (λ s. columns_total b.rows ys 0 b.columns s)) rows ∙ sym sided
