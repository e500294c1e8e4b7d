-- What stands after a history: bounds cap every schedule, and the gap is not negative and never grows.
use Rattle.std.proofs.Common.{◌≡◌, ℕ, Bool, true, false, cond, List, [], ◌∷◌, ◌++◌, ℤ, pos, ◌-ℤ◌, ◌*ℤ◌, ◌≤ℤ◌, ◌<ℤ◌, Some, None, Option, sym, refl, ap, ◌∙◌, subst, arith, lit≤}
use lib.Signed.{lt_z}
use Rattle.std.proofs.lemmas.Int.{ints}
use Rattle.fields.proofs.Certified.{one}
use Rattle.fields.specs.declared.certificate.CertificateKind.TheVariants.{Schedule, Multipliers}
use Rattle.books.specs.Lists.{Lists}
use Rattle.books.specs.Conditions.{sound}
use Rattle.books.specs.Schedules.{benefit}
use Rattle.books.proofs.Integers.{linear, times_le}
use Rattle.certificates.specs.Values.{quantities, multipliers}
use Rattle.certificates.specs.Bounds.{K, bound}
use Rattle.certificates.specs.Duality.{Caps}
use Rattle.certificates.proofs.Weak.{weak_duality}
use Rattle.docket.specs.declared.standing.Labelled.{Labelled}
use Rattle.docket.specs.Calls.{Laid, AcceptedSchedule, AcceptedSet}
use Rattle.docket.specs.Standings.{Best, Lowest, gap_of, StandingOf, Shrinks, GapNeverGrows}
use Rattle.docket.specs.Labels.{label_in, figure_in, standing_by, greater, lower}
use Rattle.docket.proofs.Leading.{Orders, keeps, begins, leads, follows, later, stays}

-- ---- the two orders

schedule_one : (b : Lists) (c : Laid) (l m : ℕ) (v w : ℤ) → AcceptedSchedule b c l v → AcceptedSchedule b c m w → (l ≡ m) × (v ≡ w)
schedule_one b c l m v w p q =
    let e = one Schedule l m p.values q.values p.field q.field in
    (e.0, p.passes.figure ∙ ap (λ vs. benefit b.columns (quantities vs)) e.1 ∙ sym q.passes.figure)

set_one : (b : Lists) (c : Laid) (l m : ℕ) (v w : ℤ) → AcceptedSet b c l v → AcceptedSet b c m w → (l ≡ m) × (v ≡ w)
set_one b c l m v w p q =
    let e = one Multipliers l m p.values q.values p.field q.field in
    (e.0, p.passes.figure ∙ ap (λ vs. bound b (multipliers vs)) e.1 ∙ sym q.passes.figure)

upward : (b : Lists) → Orders (AcceptedSchedule b) (λ v w. v ≤ℤ w) (λ v w. v <ℤ w)
upward b = record {
  one = schedule_one b;
  same = λ v. omega (arith, ints);
  soft = λ v w h. omega (arith, ints);
  over = λ u v w p q. omega (arith, ints);
}

downward : (b : Lists) → Orders (AcceptedSet b) (λ v w. w ≤ℤ v) (λ v w. w <ℤ v)
downward b = record {
  one = set_one b;
  same = λ v. omega (arith, ints);
  soft = λ v w h. omega (arith, ints);
  over = λ u v w p q. omega (arith, ints);
}

-- ---- one call more

module _ (b : Lists) (h : List Laid) (c : Laid) where
  -- a schedule is accepted
  pub schedule_more : (o : Option Labelled) (new : Labelled) → AcceptedSchedule b c new.label new.figure → Best b h (label_in o) (figure_in o) → Best b (h ++ c ∷ []) (label_in (greater o new)) (figure_in (greater o new))
  schedule_more None new a none = begins (AcceptedSchedule b) _ _ (upward b) h c new.label new.figure a none
  schedule_more (Some old) new a f = by (lt_z old.figure new.figure) refl
    where
      by : (t : Bool) → lt_z old.figure new.figure ≡ t → Best b (h ++ c ∷ []) (label_in (Some (cond t new old))) (figure_in (Some (cond t new old)))
      by true e = leads (AcceptedSchedule b) _ _ (upward b) h c new.label new.figure a old.label old.figure (omega (arith, ints)) f
      by false e = follows (AcceptedSchedule b) _ _ (upward b) h c new.label new.figure a old.label old.figure (omega (arith, ints)) f

  -- a set is accepted
  pub set_more : (o : Option Labelled) (new : Labelled) → AcceptedSet b c new.label new.figure → Lowest b h (label_in o) (figure_in o) → Lowest b (h ++ c ∷ []) (label_in (lower o new)) (figure_in (lower o new))
  set_more None new a none = begins (AcceptedSet b) _ _ (downward b) h c new.label new.figure a none
  set_more (Some old) new a f = by (lt_z new.figure old.figure) refl
    where
      by : (t : Bool) → lt_z new.figure old.figure ≡ t → Lowest b (h ++ c ∷ []) (label_in (Some (cond t new old))) (figure_in (Some (cond t new old)))
      by true e = leads (AcceptedSet b) _ _ (downward b) h c new.label new.figure a old.label old.figure (omega (arith, ints)) f
      by false e = follows (AcceptedSet b) _ _ (downward b) h c new.label new.figure a old.label old.figure (omega (arith, ints)) f

  -- no schedule, and no set, is accepted
  pub no_schedule_more : (lo : Option ℕ) (vo : Option ℤ) → ((l : ℕ) (v : ℤ) → AcceptedSchedule b c l v → ⊥) → Best b h lo vo → Best b (h ++ c ∷ []) lo vo
  no_schedule_more lo vo never = keeps (AcceptedSchedule b) _ _ h c lo vo never

  pub no_set_more : (lo : Option ℕ) (vo : Option ℤ) → ((l : ℕ) (v : ℤ) → AcceptedSet b c l v → ⊥) → Lowest b h lo vo → Lowest b (h ++ c ∷ []) lo vo
  no_set_more lo vo never = keeps (AcceptedSet b) _ _ h c lo vo never

-- ---- what the figures establish

-- the bound of an accepted set caps every schedule
set_caps : (b : Lists) → sound b ≡ true → (c : Laid) (l : ℕ) (v : ℤ) → AcceptedSet b c l v → Caps b v
set_caps b kept c l v a =
    subst (Caps b) (sym a.passes.figure) (weak_duality b (multipliers a.values) kept a.passes.signs)

module _ (b : Lists) (kept : sound b ≡ true) (h : List Laid) where
  lowest_caps : (lo : Option ℕ) (vo : Option ℤ) → Lowest b h lo vo → (v : ℤ) → vo ≡ Some v → Caps b v
  lowest_caps None None n v e = cc
  lowest_caps None (Some w) n v e = absurd n
  lowest_caps (Some l) None n v e = absurd n
  lowest_caps (Some l) (Some w) f v e =
      let q : w ≡ v = cc in subst (Caps b) q (set_caps b kept f.call l w f.accepted)

  gap_holds : (lo mo : Option ℕ) (vo wo : Option ℤ) → Best b h lo vo → Lowest b h mo wo → (g : ℤ) → gap_of vo wo ≡ Some g → pos 0 ≤ℤ g
  gap_holds lo mo None None p q g e = cc
  gap_holds lo mo None (Some w) p q g e = cc
  gap_holds lo mo (Some v) None p q g e = cc
  gap_holds None mo (Some v) (Some w) p q g e = absurd p
  gap_holds (Some l) mo (Some v) (Some w) p q g e =
      let is : w -ℤ K *ℤ v ≡ g = cc in
      let a = p.accepted.passes in
      let cap = lowest_caps mo (Some w) q w refl 1 (quantities p.accepted.values) (lit≤ tt) a.meets in
      let f = ap (λ (z : ℤ). K *ℤ z) a.figure in
      let one_times : pos 1 *ℤ w ≡ w = omega (arith, ints) in
      omega (arith, linear)

  pub stands : (best lowest : Option Labelled) → Best b h (label_in best) (figure_in best) → Lowest b h (label_in lowest) (figure_in lowest) → StandingOf b h (standing_by best lowest)
  stands best lowest p q = record {
    best = p;
    lowest = q;
    caps = lowest_caps (label_in lowest) (figure_in lowest) q;
    gap = refl;
    not_negative = gap_holds (label_in best) (label_in lowest) (figure_in best) (figure_in lowest) p q;
  }

-- ---- the gap along a longer history

shrinks : (b : Lists) (h more : List Laid) (lo mo lo' mo' : Option ℕ) (vo wo vo' wo' : Option ℤ) → Best b h lo vo → Lowest b h mo wo → Best b (h ++ more) lo' vo' → Lowest b (h ++ more) mo' wo' → Shrinks (gap_of vo wo) (gap_of vo' wo')
shrinks b h more lo mo lo' mo' None None vo' wo' p q p' q' f e = cc
shrinks b h more lo mo lo' mo' None (Some w) vo' wo' p q p' q' f e = cc
shrinks b h more lo mo lo' mo' (Some v) None vo' wo' p q p' q' f e = cc
shrinks b h more None mo lo' mo' (Some v) (Some w) vo' wo' p q p' q' f e = absurd p
shrinks b h more (Some l) None lo' mo' (Some v) (Some w) vo' wo' p q p' q' f e = absurd q
shrinks b h more (Some l) (Some m) None mo' (Some v) (Some w) None wo' p q p' q' f e = absurd (stays (AcceptedSchedule b) _ _ h more l v p p')
shrinks b h more (Some l) (Some m) None mo' (Some v) (Some w) (Some v') wo' p q p' q' f e = absurd p'
shrinks b h more (Some l) (Some m) (Some l') mo' (Some v) (Some w) None wo' p q p' q' f e = absurd p'
shrinks b h more (Some l) (Some m) (Some l') None (Some v) (Some w) (Some v') None p q p' q' f e = absurd (stays (AcceptedSet b) _ _ h more m w q q')
shrinks b h more (Some l) (Some m) (Some l') None (Some v) (Some w) (Some v') (Some w') p q p' q' f e = absurd q'
shrinks b h more (Some l) (Some m) (Some l') (Some m') (Some v) (Some w) (Some v') None p q p' q' f e = absurd q'
shrinks b h more (Some l) (Some m) (Some l') (Some m') (Some v) (Some w) (Some v') (Some w') p q p' q' f e =
    let is : w -ℤ K *ℤ v ≡ f = cc in
    let up = times_le 100000 v v' (later (AcceptedSchedule b) _ _ h more l l' v v' p p') in
    let down : w' ≤ℤ w = later (AcceptedSet b) _ _ h more m m' w w' q q' in
    (w' -ℤ K *ℤ v', refl, omega (arith, linear))

pub gap_never_grows : GapNeverGrows
gap_never_grows b h more s t p q =
    let step = shrinks b h more _ _ _ _ s.best s.bound t.best t.bound p.best p.lowest q.best q.lowest in
    subst (λ (o : Option ℤ). Shrinks o t.gap) (sym p.gap) (subst (Shrinks (gap_of s.best s.bound)) (sym q.gap) step)
