-- A schedule is accepted exactly when it meets the book and its net benefit is within reach.
use Rattle.std.proofs.Common.{◌≡◌, ℕ, zero, suc, ◌/◌, ◌%◌, Bool, true, false, cond, not, ◌||◌, eqb, ◌⊎◌, List, [], ◌∷◌, length, ℤ, pos, negsuc, ◌*ℤ◌, ◌≤ℤ◌, MatchResult, Some, None, Ok, Err, Option, Result, sym, refl, ap, ◌∙◌, inl, inr, arith}
use lib.Signed.{le_z}
use Rattle.std.specs.List.{AllByRecursion}
use Rattle.std.proofs.lemmas.Int.{ints}
use Rattle.std.proofs.lemmas.Bool.{and_parts, and_from, eqb-true, cond-true}
use Rattle.books.specs.declared.part.Column.{Column}
use Rattle.books.specs.Lists.{FullRow, Lists}
use Rattle.books.specs.Conditions.{every, sound_column, sound}
use Rattle.books.specs.Schedules.{activity, benefit, MeetsColumn, MeetsRow, Paired}
use Rattle.books.proofs.Sounds.{sound_parts, sound_column_parts}
use Rattle.certificates.specs.declared.fault.DocketFault.{DocketFault}
use Rattle.certificates.specs.declared.fault.DocketFault.TheVariants.{ValueCount, ColumnBroken, RowBroken, BenefitBeyond}
use Rattle.certificates.specs.Values.{quantities}
use Rattle.certificates.specs.Checks.{unless, right_count, within_limits, first_broken_column, above_lower, below_upper, within_sides, first_broken_row, benefit_reaches, beyond_benefit, judged_schedule, schedule_answer, SchedulePasses, passed}
use Rattle.certificates.specs.Held.{quantities_held}
use Rattle.certificates.proofs.Passed.{cond_none, fault_is, none_is}
use Rattle.schedules.proofs.Scans.{limits_parts}

one_times : (z : ℤ) → pos 1 *ℤ z ≡ z
one_times z = omega (arith, ints)

le_leZ : (x y : ℤ) → x ≤ℤ y → le_z x y ≡ true
le_leZ x y h = grind (arith, ints)

-- ---- columns

-- a number from 0 to 1 is one of the two
either_end : (x : ℤ) → pos 0 ≤ℤ x → x ≤ℤ pos 1 → (x ≡ pos 0) ⊎ (x ≡ pos 1)
either_end (pos zero) p q = inl refl
either_end (pos (suc zero)) p q = inr refl
either_end (pos (suc (suc n))) p q = absurd (omega (arith, ints))
either_end (negsuc n) p q = absurd (omega (arith, ints))

switch_limits : (s y : Bool) → s ≡ true → (not s || y) ≡ true → y ≡ true
switch_limits true y e h = h
switch_limits false y e h = cc

column_met : (c : Column) (x : ℤ) → sound_column c ≡ true → within_limits c x ≡ true → MeetsColumn 1 c x
column_met c x s e =
    let p = limits_parts c x e in
    let low = p.0 in
    let high = p.1 in
    record {
      from = rw (one_times c.lower) low;
      to = rw (one_times c.upper) high;
      off_or_on = λ on.
          let ends = and_parts (le_z (pos 0) c.lower) (le_z c.upper (pos 1)) (switch_limits c.switch _ on (sound_column_parts c s).switch) in
          let least = ends.0 in
          let most = ends.1 in
          either_end x (omega (arith, ints)) (omega (arith, ints));
    }

column_passes : (c : Column) (x : ℤ) → MeetsColumn 1 c x → within_limits c x ≡ true
column_passes c x m =
    and_from _ _ (le_leZ c.lower x (rw (one_times c.lower) at m.from)) (le_leZ x c.upper (rw (one_times c.upper) at m.to))

columns_met : (k : ℕ) (cs : List Column) (xs : List ℤ) → length cs ≡ length xs → every sound_column cs ≡ true → first_broken_column k cs xs ≡ None → Paired (MeetsColumn 1) cs xs
columns_met k [] [] l s e = tt
columns_met k [] (x ∷ xs) l s e = absurd (omega arith)
columns_met k (c ∷ cs) [] l s e = absurd (omega arith)
columns_met k (c ∷ cs) (x ∷ xs) l s e =
    let sound = and_parts (sound_column c) (every sound_column cs) s in
    let passes = cond_none (within_limits c x) (ColumnBroken k) (first_broken_column (suc k) cs xs) e in
    (column_met c x sound.0 passes.0, columns_met (suc k) cs xs (omega arith) sound.1 passes.1)

columns_pass : (k : ℕ) (cs : List Column) (xs : List ℤ) → Paired (MeetsColumn 1) cs xs → first_broken_column k cs xs ≡ None
columns_pass k [] xs m = refl
columns_pass k (c ∷ cs) [] m = refl
columns_pass k (c ∷ cs) (x ∷ xs) m =
    cond-true (within_limits c x) _ (Some (ColumnBroken k)) (column_passes c x m.0) ∙ columns_pass (suc k) cs xs m.1

-- ---- rows

above_met : (o : Option ℤ) (a : ℤ) → above_lower o a ≡ true → (s : ℤ) → o ≡ Some s → (pos 1 *ℤ s) ≤ℤ a
above_met None a e s at = cc
above_met (Some q) a e s at = let same : q ≡ s = cc in rw (one_times s) (omega (arith, ints))

below_met : (o : Option ℤ) (a : ℤ) → below_upper o a ≡ true → (s : ℤ) → o ≡ Some s → a ≤ℤ (pos 1 *ℤ s)
below_met None a e s at = cc
below_met (Some q) a e s at = let same : q ≡ s = cc in rw (one_times s) (omega (arith, ints))

above_passes : (o : Option ℤ) (a : ℤ) → ((s : ℤ) → o ≡ Some s → (pos 1 *ℤ s) ≤ℤ a) → above_lower o a ≡ true
above_passes None a m = refl
above_passes (Some s) a m = le_leZ s a (rw (one_times s) at (m s refl))

below_passes : (o : Option ℤ) (a : ℤ) → ((s : ℤ) → o ≡ Some s → a ≤ℤ (pos 1 *ℤ s)) → below_upper o a ≡ true
below_passes None a m = refl
below_passes (Some s) a m = le_leZ a s (rw (one_times s) at (m s refl))

rows_met : (k : ℕ) (rs : List FullRow) (xs : List ℤ) → first_broken_row k rs xs ≡ None → AllByRecursion (MeetsRow 1 xs) rs
rows_met k [] xs e = tt
rows_met k (r ∷ rs) xs e =
    let a = activity r.terms xs in
    let passes = cond_none (within_sides r.lower r.upper a) (RowBroken k r.code) (first_broken_row (suc k) rs xs) e in
    let sides = and_parts (above_lower r.lower a) (below_upper r.upper a) passes.0 in
    (record { from = above_met r.lower a sides.0; to = below_met r.upper a sides.1 }, rows_met (suc k) rs xs passes.1)

rows_pass : (k : ℕ) (rs : List FullRow) (xs : List ℤ) → AllByRecursion (MeetsRow 1 xs) rs → first_broken_row k rs xs ≡ None
rows_pass k [] xs m = refl
rows_pass k (r ∷ rs) xs m =
    let a = activity r.terms xs in
    let sides = and_from _ _ (above_passes r.lower a m.0.from) (below_passes r.upper a m.0.to) in
    cond-true (within_sides r.lower r.upper a) _ (Some (RowBroken k r.code)) sides ∙ rows_pass (suc k) rs xs m.1

-- ---- the checks in their order

unless_ok : (o : Option DocketFault) (r : Result ℤ DocketFault) (v : ℤ) → unless o r ≡ Ok v → (o ≡ None) × (r ≡ Ok v)
unless_ok None r v e = (refl, e)
unless_ok (Some f) r v e = cc

abbrev last_check : ℤ → Result ℤ DocketFault
last_check v = unless (beyond_benefit v) (Ok v)

abbrev row_checks : Lists → List ℤ → Result ℤ DocketFault
row_checks b xs = unless (first_broken_row 0 b.rows xs) (last_check (benefit b.columns xs))

abbrev all_checks : Lists → List ℤ → Result ℤ DocketFault
all_checks b xs = unless (first_broken_column 0 b.columns xs) (row_checks b xs)

judged_is : (b : Lists) (xs : List ℤ) → judged_schedule b xs ≡ all_checks b xs
unfolding judged_schedule
judged_is b xs = refl

beyond_none : (v : ℤ) → beyond_benefit v ≡ None → benefit_reaches v ≡ true
beyond_none v e = (cond_none (benefit_reaches v) BenefitBeyond None e).0

-- every check passes exactly when the schedule passes
judged_passes : (b : Lists) → sound b ≡ true → (xs : List ℤ) → length b.columns ≡ length xs → (v : ℤ) → judged_schedule b xs ≡ Ok v → SchedulePasses b xs v
judged_passes b kept xs l v e =
    let figure = benefit b.columns xs in
    let first = unless_ok (first_broken_column 0 b.columns xs) (row_checks b xs) v (sym (judged_is b xs) ∙ e) in
    let second = unless_ok (first_broken_row 0 b.rows xs) (last_check figure) v first.1 in
    let third = unless_ok (beyond_benefit figure) (Ok figure) v second.1 in
    let is : v ≡ figure = let w = third.1 in cc in
    record {
      meets = record {
        each_column = columns_met 0 b.columns xs l (sound_parts b kept).columns first.0;
        each_row = rows_met 0 b.rows xs second.0;
      };
      figure = is;
      reach = ap benefit_reaches is ∙ beyond_none figure third.0;
    }

judged_accepts : (b : Lists) (xs : List ℤ) (v : ℤ) → SchedulePasses b xs v → judged_schedule b xs ≡ Ok v
judged_accepts b xs v p =
    let figure = benefit b.columns xs in
    let columns = columns_pass 0 b.columns xs p.meets.each_column in
    let rows = rows_pass 0 b.rows xs p.meets.each_row in
    let reach : benefit_reaches figure ≡ true = ap benefit_reaches (sym p.figure) ∙ p.reach in
    judged_is b xs
    ∙ ap (λ o. unless o (row_checks b xs)) columns
    ∙ ap (λ o. unless o (last_check figure)) rows
    ∙ ap (λ t. unless (cond t None (Some BenefitBeyond)) (Ok figure)) reach
    ∙ ap Ok (sym p.figure)

-- ---- the value bytes

pub count_is : (n : ℕ) (vs : List ℕ) → right_count 4 n vs ≡ true → length vs / 4 ≡ n
count_is n vs e = eqb-true _ _ (and_parts (eqb (length vs % 4) 0) (eqb (length vs / 4) n) e).1

count_cases : (t : Bool) (r : Result ℤ DocketFault) (v : ℤ) → cond t r (Err ValueCount) ≡ Ok v → (t ≡ true) × (r ≡ Ok v)
count_cases true r v e = (refl, e)
count_cases false r v e = cc

-- an accepted schedule has one number a column and passes
pub accepted_passes : (b : Lists) → sound b ≡ true → (vs : List ℕ) (v : ℤ) → schedule_answer b vs ≡ Ok v → (right_count 4 (length b.columns) vs ≡ true) × SchedulePasses b (quantities vs) v
accepted_passes b kept vs v e =
    let p = count_cases (right_count 4 (length b.columns) vs) (judged_schedule b (quantities vs)) v e in
    let long = sym (quantities_held.count vs ∙ count_is (length b.columns) vs p.0) in
    (p.0, judged_passes b kept (quantities vs) long v p.1)

-- a schedule of one number a column that passes is accepted
pub passes_accepted : (b : Lists) (vs : List ℕ) (v : ℤ) → right_count 4 (length b.columns) vs ≡ true → SchedulePasses b (quantities vs) v → schedule_answer b vs ≡ Ok v
passes_accepted b vs v count p =
    cond-true (right_count 4 (length b.columns) vs) (judged_schedule b (quantities vs)) (Err ValueCount) count ∙ judged_accepts b (quantities vs) v p

-- an accepted net benefit is within reach
pub accepted_reaches : (b : Lists) → sound b ≡ true → (vs : List ℕ) (v : ℤ) → schedule_answer b vs ≡ Ok v → benefit_reaches v ≡ true
accepted_reaches b kept vs v e = (accepted_passes b kept vs v e).1.reach

-- ---- what the answer says

-- so is what it says of acceptance
module _ (b : Lists) (vs : List ℕ) (r : Result ℤ DocketFault) (e : r ≡ schedule_answer b vs) where
  pub answer_passes : sound b ≡ true → MatchResult r (λ v. (right_count 4 (length b.columns) vs ≡ true) × SchedulePasses b (quantities vs) v) (λ _. Unit {0})
  answer_passes kept = by r e
    where
      by : (s : Result ℤ DocketFault) → s ≡ schedule_answer b vs → MatchResult s (λ v. (right_count 4 (length b.columns) vs ≡ true) × SchedulePasses b (quantities vs) v) (λ _. Unit {0})
      by (Ok v) e = accepted_passes b kept vs v (sym e)
      by (Err f) e = tt

  pub answer_accepts : (v : ℤ) → right_count 4 (length b.columns) vs ≡ true → SchedulePasses b (quantities vs) v → r ≡ Ok v
  answer_accepts v count p = e ∙ passes_accepted b vs v count p

  pub answered : sound b ≡ true → record { answer : r ≡ schedule_answer b vs; passes : MatchResult r (λ v. (right_count 4 (length b.columns) vs ≡ true) × SchedulePasses b (quantities vs) v) (λ _. Unit {0}); accepts : (v : ℤ) → right_count 4 (length b.columns) vs ≡ true → SchedulePasses b (quantities vs) v → r ≡ Ok v }
  answered kept = record { answer = e; passes = answer_passes kept; accepts = answer_accepts }

-- the answer where the count is right, by the first check that fails
module _ (b : Lists) (vs : List ℕ) (count : right_count 4 (length b.columns) vs ≡ true) where
  checks : schedule_answer b vs ≡ all_checks b (quantities vs)
  checks =
      cond-true (right_count 4 (length b.columns) vs) (judged_schedule b (quantities vs)) (Err ValueCount) count
      ∙ judged_is b (quantities vs)

  pub columns_refuse : (f : DocketFault) → first_broken_column 0 b.columns (quantities vs) ≡ Some f → Err f ≡ schedule_answer b vs
  columns_refuse f e = sym (checks ∙ ap (λ o. unless o (row_checks b (quantities vs))) e)

  module _ (limits : first_broken_column 0 b.columns (quantities vs) ≡ None) where
    from_rows : schedule_answer b vs ≡ row_checks b (quantities vs)
    from_rows = checks ∙ ap (λ o. unless o (row_checks b (quantities vs))) limits

    pub rows_refuse : (f : DocketFault) → Err f ≡ passed (first_broken_row 0 b.rows (quantities vs)) → Err f ≡ schedule_answer b vs
    rows_refuse f e = sym (from_rows ∙ ap (λ o. unless o (last_check (benefit b.columns (quantities vs)))) (fault_is _ f e))

    pub benefit_answers : (w : Unit {0}) → Ok w ≡ passed (first_broken_row 0 b.rows (quantities vs)) → (v : ℤ) → v ≡ benefit b.columns (quantities vs) → unless (beyond_benefit v) (Ok v) ≡ schedule_answer b vs
    benefit_answers w sides v is =
        sym (from_rows ∙ ap (λ o. unless o (last_check (benefit b.columns (quantities vs)))) (none_is _ w sides) ∙ ap last_check (sym is))
