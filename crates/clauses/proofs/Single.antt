-- A row and what its clause says of the named quantities.
use Rattle.std.proofs.Common.{◌≡◌, ℕ, suc, Bool, true, false, List, [], ◌∷◌, map, get_or, ℤ, pos, negsuc, ◌+ℤ◌, ◌*ℤ◌, neg_ℤ, sym, refl, ap, ◌∙◌, arith, true-eqb}
use borrow.Author.Differences.{same_in, product_is}
use Rattle.case_columns.specs.declared.name.Named.{Named}
use Rattle.listing_fields.specs.declared.term.Term.{Term}
use Rattle.clauses.specs.declared.sum.Pick.{Pick}
use Rattle.clauses.specs.declared.sum.Item.{Item}
use Rattle.clauses.specs.Sums.{picks, when, amount, sum}
use Rattle.books.specs.Lists.{FullRow}
use Rattle.clauses.specs.Rows.{Clause, row_of}
use Rattle.clauses.specs.Terms.{nought, kept, terms_from}
use Rattle.books.specs.Schedules.{activity, MeetsRow}
use Rattle.clauses.specs.Singly.{weighed, worth, worths, Holds, Singly}
use Rattle.books.proofs.Integers.{linear, add_times, times_add, times_assoc}

zero_times : (z : ℤ) → pos 0 *ℤ z ≡ pos 0
zero_times z = omega (arith, same_in, product_is)

times_zero : (z : ℤ) → z *ℤ pos 0 ≡ pos 0
times_zero z = omega (arith, same_in, product_is)

times_one : (z : ℤ) → z *ℤ pos 1 ≡ z
times_one z = omega (arith, same_in, product_is)

is_nought : (z : ℤ) → true ≡ nought z → z ≡ pos 0
is_nought (pos n) e = ap pos (true-eqb n 0 e)
is_nought (negsuc n) e = absurd (grind arith)

-- a nought term counts for nothing
counted : (b : Bool) (z : ℤ) (n : ℕ) (ts : List Term) (xs : List ℤ) → b ≡ nought z → activity (kept b (record { column = n; coefficient = z }) ts) xs ≡ z *ℤ get_or xs n (pos 0) +ℤ activity ts xs
counted false z n ts xs e = refl
counted true z n ts xs e =
    let zero = ap (λ v. v *ℤ get_or xs n (pos 0)) (is_nought z e) ∙ zero_times (get_or xs n (pos 0)) in
    omega (arith, linear)

pub all_counted : {X : Type 0} (n : ℕ) (f : X → ℤ) (cs : List X) (xs : List ℤ) → activity (terms_from n f cs) xs ≡ weighed n f cs xs
all_counted n f [] xs = refl
all_counted n f (c ∷ cs) xs = counted (nought (f c)) (f c) n (terms_from (suc n) f cs) xs refl ∙ ap (◌+ℤ◌ (f c *ℤ get_or xs n (pos 0))) (all_counted (suc n) f cs xs)

-- sums of coefficients
added : {X : Type 0} (n : ℕ) (f g : X → ℤ) (cs : List X) (xs : List ℤ) → weighed n (λ c. f c +ℤ g c) cs xs ≡ weighed n f cs xs +ℤ weighed n g cs xs
added n f g [] xs = refl
added n f g (c ∷ cs) xs =
    let here = add_times (f c) (g c) (get_or xs n (pos 0)) in
    let there = added (suc n) f g cs xs in
    omega (arith, linear)

none : {X : Type 0} (n : ℕ) (cs : List X) (xs : List ℤ) → weighed n (λ c. pos 0) cs xs ≡ pos 0
none n [] xs = refl
none n (c ∷ cs) xs = let here = zero_times (get_or xs n (pos 0)) in let there = none (suc n) cs xs in omega (arith, linear)

by_items : (cs : List Named) (xs : List ℤ) (is : List Item) → weighed 0 (sum is) cs xs ≡ worths cs xs is
by_items cs xs [] = none 0 cs xs
by_items cs xs (i ∷ is) = added 0 (λ (c : Named). amount i c.name) (sum is) cs xs ∙ ap (◌+ℤ◌ (worth cs xs i)) (by_items cs xs is)

scaled_one : (b : Bool) (z v : ℤ) → when b z *ℤ v ≡ z *ℤ (when b (pos 1) *ℤ v)
scaled_one true z v = sym (ap (λ w. w *ℤ v) (times_one z)) ∙ times_assoc z (pos 1) v
scaled_one false z v = zero_times v ∙ sym (ap (λ w. z *ℤ w) (zero_times v) ∙ times_zero z)

scaled : (n : ℕ) (c : ℤ) (k : Pick) (cs : List Named) (xs : List ℤ) → weighed n (λ (d : Named). when (picks k d.name) c) cs xs ≡ c *ℤ weighed n (λ (d : Named). when (picks k d.name) (pos 1)) cs xs
scaled n c k [] xs = sym (times_zero c)
scaled n c k (d ∷ cs) xs =
    let here = scaled_one (picks k d.name) c (get_or xs n (pos 0)) in
    let there = scaled (suc n) c k cs xs in
    let both = times_add c (when (picks k d.name) (pos 1) *ℤ get_or xs n (pos 0)) (weighed (suc n) (λ (d : Named). when (picks k d.name) (pos 1)) cs xs) in
    omega (arith, linear)

-- the activity of a clause's row
activity_is : (cs : List Named) (xs : List ℤ) (d : Clause) → activity (row_of cs d).terms xs ≡ worths cs xs d.sum
activity_is cs xs d = all_counted 0 (sum d.sum) cs xs ∙ by_items cs xs d.sum

one_times : (z : ℤ) → pos 1 *ℤ z ≡ z
one_times z = omega (arith, same_in, product_is)

met_holds : (cs : List Named) (xs : List ℤ) (d : Clause) → MeetsRow 1 xs (row_of cs d) → Holds cs xs d
met_holds cs xs d m =
    let a = activity_is cs xs d in
    record {
      from = λ s e. let h = m.from s e in let o = one_times s in omega (arith, linear);
      to = λ s e. let h = m.to s e in let o = one_times s in omega (arith, linear);
    }

holds_met : (cs : List Named) (xs : List ℤ) (d : Clause) → Holds cs xs d → MeetsRow 1 xs (row_of cs d)
holds_met cs xs d m =
    let a = activity_is cs xs d in
    record {
      from = λ s e. let h = m.from s e in let o = one_times s in omega (arith, linear);
      to = λ s e. let h = m.to s e in let o = one_times s in omega (arith, linear);
    }

one_by_one : (cs : List Named) (xs : List ℤ) (ds : List Clause) → map (λ (r : FullRow). activity r.terms xs) (map (row_of cs) ds) ≡ map (λ (d : Clause). worths cs xs d.sum) ds
one_by_one cs xs [] = refl
one_by_one cs xs (d ∷ ds) = λ i. activity_is cs xs d i ∷ one_by_one cs xs ds i

pub singly : (cs : List Named) (ds : List Clause) (rs : List FullRow) → rs ≡ map (row_of cs) ds → Singly cs ds rs
singly cs ds rs e = record {
  each = λ xs. ap (map (λ (r : FullRow). activity r.terms xs)) e ∙ one_by_one cs xs ds;
  number = λ xs c k. scaled 0 c k cs xs;
  minus = λ xs c k. scaled 0 (neg_ℤ c) k cs xs;
  met = met_holds cs;
  holds = holds_met cs;
}
