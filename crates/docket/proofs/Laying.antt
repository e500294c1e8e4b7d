-- What a call does to what stands.
use Rattle.std.proofs.Common.{◌≡◌, ℕ, ◌⊎◌, Bool, true, false, cond, List, [], ◌∷◌, ◌++◌, ℤ, Some, None, Ok, Err, Option, MatchOption, refl, sym, ap, ◌∙◌, subst, inl, inr}
use lib.Signed.{lt_z}
use Rattle.fields.specs.declared.certificate.CertificateKind.{CertificateKind}
use Rattle.fields.specs.declared.certificate.CertificateKind.TheVariants.{Schedule, Multipliers}
use Rattle.books.specs.Lists.{Lists}
use Rattle.books.specs.Conditions.{sound}
use Rattle.certificates.specs.Checks.{benefit_reaches}
use Rattle.certificates.specs.Steps.{in_reach}
use Rattle.certificates.specs.Values.{multipliers}
use Rattle.certificates.specs.declared.fault.DocketFault.{DocketFault}
use Rattle.docket.specs.declared.standing.Labelled.{Labelled}
use Rattle.docket.specs.Calls.{Laid, laid, Judged, Answered, AcceptedSchedule, AcceptedSet, AcceptedCall, RightVerdict}
use Rattle.docket.specs.Standings.{StandingOf}
use Rattle.docket.specs.Labels.{label_in, figure_in, standing_by, leader, greater, lower, best_fits, bound_fits}
use Rattle.docket.specs.declared.standing.Standing.{Standing}
use Rattle.docket.specs.declared.verdict.Verdict.{Verdict}
use Rattle.docket.specs.declared.verdict.Verdict.TheVariants.{Accepted}
use Rattle.multipliers.specs.Costs.{Held}
use Rattle.docket.specs.Docketed.{Docketed, docketed, IsStanding, Lays}
use Rattle.docket.specs.Verdicts.{refusal}
use Rattle.docket.proofs.Same.{docket_same}
use Rattle.docket.proofs.Established.{schedule_more, set_more, no_schedule_more, no_set_more, stands}
use Rattle.docket.proofs.Answering.{schedule_accepted, set_accepted, never_accepted, never_other, right}
use Rattle.multipliers.proofs.Laws.{figure_reaches}
use Rattle.docket.proofs.Lawful.{laws}

-- a figure within its reach stays so when another takes its place
greater_fits : (o : Option Labelled) (new : Labelled) → best_fits o ≡ true → benefit_reaches new.figure ≡ true → best_fits (greater o new) ≡ true
greater_fits None new p q = q
greater_fits (Some old) new p q = by (lt_z old.figure new.figure)
  where
    by : (t : Bool) → best_fits (Some (cond t new old)) ≡ true
    by true = q
    by false = p

lower_fits : (o : Option Labelled) (new : Labelled) → bound_fits o ≡ true → in_reach new.figure ≡ true → bound_fits (lower o new) ≡ true
lower_fits None new p q = q
lower_fits (Some old) new p q = by (lt_z new.figure old.figure)
  where
    by : (t : Bool) → bound_fits (Some (cond t new old)) ≡ true
    by true = q
    by false = p

-- what stands by a closure that tells which figure is better is what stands by the test that it makes
pub leader_is : (better : ℤ → ℤ → Bool) (Tells : Labelled → Bool → Type 0) (o : Option Labelled) (new : Labelled) (r : Labelled) → ((old : Labelled) (t : Bool) → Tells old t → o ≡ Some old → t ≡ better new.figure old.figure)
    → MatchOption o (r ≡ new) (λ old. (t : Bool) × Tells old t × (r ≡ cond t new old)) → r ≡ leader better o new
leader_is better Tells None new r same e = e
leader_is better Tells (Some old) new r same e = e.2 ∙ ap (λ t. cond t new old) (same old e.0 e.1 refl)

-- what stands once a certificate is accepted: p is the best and q the bound
abbrev pub Next : CertificateKind → Option Labelled → Option Labelled → Labelled → Option Labelled → Option Labelled → Type 0
Next k best bound new p q =
    ((k ≡ Schedule) × (p ≡ greater best new) × (q ≡ bound)) ⊎ ((k ≡ Multipliers) × (p ≡ best) × (q ≡ lower bound new))

module _ {X : Type 0} (m : X → Lists) (x : X) (kept : sound (m x) ≡ true) (bs : List ℕ) (k : CertificateKind) where
  -- a call that is refused
  module _ (f : DocketFault) (told : Answered (m x) (laid k bs) (Err f)) where
    never : (l : ℕ) (v : ℤ) → AcceptedCall (m x) (laid k bs) l v → ⊥
    never = never_accepted (m x) (laws (m x) kept) (laid k bs) f told

    still : (s : Standing) (h : List Laid) → StandingOf (m x) h s → StandingOf (m x) (h ++ laid k bs ∷ []) s
    still s h e = record {
      best = no_schedule_more (m x) h (laid k bs) s.best_label s.best (λ l v p. never l v (inl p)) e.best;
      lowest = no_set_more (m x) h (laid k bs) s.bound_label s.bound (λ l v p. never l v (inr p)) e.lowest;
      caps = e.caps;
      gap = e.gap;
      not_negative = e.not_negative;
    }

    pub refused_lays : (w : Verdict) (best bound : Option Labelled) (t u : Held) (before : Docketed X) → (best_fits best ≡ true) × (bound_fits bound ≡ true)
        → w ≡ refusal f → u ≡ t → docketed x t (standing_by best bound) ≡ before → Lays m (laid k bs) w before (docketed x u (standing_by best bound))
    refused_lays w best bound t u before fits e same is =
        subst (λ (d : Docketed X). Lays m (laid k bs) w d (docketed x u (standing_by best bound))) is
        (record {
          verdict = subst (RightVerdict (m x) (laid k bs)) (sym e) (right (m x) (laws (m x) kept) (laid k bs) (Err f) told);
          history = still (standing_by best bound);
          book = refl;
          table = same;
          figures = record { best = best; bound = bound; same = refl; best_within = fits.0; bound_within = fits.1 };
          refused = λ _. docket_same _ _ refl same refl;
        })

  -- a call that is accepted
  module _ (new : Labelled) (told : Judged (m x) (laid k bs) new.label (Ok new.figure)) where
    schedule_told : k ≡ Schedule → AcceptedSchedule (m x) (laid k bs) new.label new.figure
    schedule_told e =
        subst (λ (c : CertificateKind). AcceptedSchedule (m x) (laid c bs) new.label new.figure) (sym e)
        (schedule_accepted (m x) (laws (m x) kept) bs new.label new.figure (subst (λ (c : CertificateKind). Judged (m x) (laid c bs) new.label (Ok new.figure)) e told))

    set_told : k ≡ Multipliers → AcceptedSet (m x) (laid k bs) new.label new.figure
    set_told e =
        subst (λ (c : CertificateKind). AcceptedSet (m x) (laid c bs) new.label new.figure) (sym e)
        (set_accepted (m x) (laws (m x) kept) bs new.label new.figure (subst (λ (c : CertificateKind). Judged (m x) (laid c bs) new.label (Ok new.figure)) e told))

    module _ (best bound p q : Option Labelled) where
      pub next_fits : (best_fits best ≡ true) × (bound_fits bound ≡ true) → Next k best bound new p q → (best_fits p ≡ true) × (bound_fits q ≡ true)
      next_fits fits (inl (e, s, t)) =
          (ap best_fits s ∙ greater_fits best new fits.0 (schedule_told e).passes.reach, ap bound_fits t ∙ fits.1)
      next_fits fits (inr (e, s, t)) =
          let a = set_told e in
          (ap best_fits s ∙ fits.0, ap bound_fits t ∙ lower_fits bound new fits.1 (figure_reaches (m x) (multipliers a.values) new.figure a.passes))

      next_stands : Next k best bound new p q → (h : List Laid) → StandingOf (m x) h (standing_by best bound) → StandingOf (m x) (h ++ laid k bs ∷ []) (standing_by p q)
      next_stands (inl (e, s, t)) h stood =
          let a = schedule_told e in
          rw (s, t) (stands (m x) kept (h ++ laid k bs ∷ []) (greater best new) bound
          (schedule_more (m x) h (laid k bs) best new a stood.best)
          (no_set_more (m x) h (laid k bs) (label_in bound) (figure_in bound) (λ l v b. never_other (m x) (laws (m x) kept) k bs new.label l new.figure v a b) stood.lowest))
      next_stands (inr (e, s, t)) h stood =
          let a = set_told e in
          rw (s, t) (stands (m x) kept (h ++ laid k bs ∷ []) best (lower bound new)
          (no_schedule_more (m x) h (laid k bs) (label_in best) (figure_in best) (λ l v b. never_other (m x) (laws (m x) kept) k bs l new.label v new.figure b a) stood.best)
          (set_more (m x) h (laid k bs) bound new a stood.lowest))

      pub next_lays : (z : ℤ) (t u : Held) (before after : Docketed X) → (best_fits best ≡ true) × (bound_fits bound ≡ true)
          → z ≡ new.figure → u ≡ t → docketed x t (standing_by best bound) ≡ before → after ≡ docketed x u (standing_by p q) → Next k best bound new p q → Lays m (laid k bs) (Accepted z) before after
      next_lays z t u before after fits same stays is gives next =
          let within = next_fits fits next in
          rw (← is, gives, same) (record {
            verdict = right (m x) (laws (m x) kept) (laid k bs) (Ok new.figure) (inr (new.label, told));
            history = next_stands next;
            book = refl;
            table = stays;
            figures = record { best = p; bound = q; same = refl; best_within = within.0; bound_within = within.1 };
            refused = λ e. cc;
          })
