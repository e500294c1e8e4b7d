-- Certificates that are one whole field are judged by their value bytes; and runs of two and three calls.
use denote.RawPtr.{null_ptr}
use Rattle.std.proofs.Common.{◌≡◌, ℕ, ◌<◌, true, List, [], ◌∷◌, ◌++◌, length, ℤ, Some, None, Ok, Err, Option, Result, inl, inr, sym, refl, append-nil}
use Rattle.fields.specs.Bytes.{four}
use Rattle.fields.specs.declared.certificate.CertificateKind.{CertificateKind}
use Rattle.fields.specs.declared.certificate.CertificateKind.TheVariants.{Schedule, Multipliers}
use Rattle.books.specs.Lists.{Lists}
use Rattle.books.specs.Conditions.{sound}
use Rattle.certificates.specs.declared.fault.DocketFault.{DocketFault}
use Rattle.docket.specs.declared.standing.Labelled.{Labelled}
use Rattle.docket.specs.declared.verdict.Verdict.TheVariants.{Accepted}
use Rattle.docket.specs.Calls.{laid, value_answer, Judged, Answered}
use Rattle.multipliers.specs.Costs.{Held}
use Rattle.docket.specs.Labels.{standing_by, greater, lower, best_fits, bound_fits}
use Rattle.docket.specs.Runs.{RightRun}
use Rattle.docket.specs.Standings.{StandingOf}
use Rattle.docket.specs.Verdicts.{refusal}
use Rattle.docket.proofs.Established.{stands}
use Rattle.docket.specs.Docketed.{docketed, Lays}
use Rattle.docket.proofs.Laying.{refused_lays, next_fits, next_lays}
use Rattle.docket.proofs.Running.{SoFar, none_so_far, one_more, whole}
use Rattle.worked_case.specs.Certificates.{certificate}

-- the field is whole, so its value bytes give the answer
pub judged : (b : Lists) (k : CertificateKind) (label : ℕ) (values : List ℕ) (r : Result ℤ DocketFault) → label < 4294967296 → length (four label ++ values) < 65536 → value_answer k b values ≡ r → Judged b (certificate k label values) label r
judged b k label values r small short e = record {
  values = values;
  field = record { bytes = record { bytes = sym (append-nil _); short = short }; four_bytes = small };
  answer = sym e;
}

-- a working table of no entries stands for the docket's own
none : Held
none = record { entries = []; block = null_ptr; room = 0 }

module _ (b : Lists) (kept : sound b ≡ true) where
  nothing_stands : StandingOf b [] (standing_by None None)
  nothing_stands =
      stands b kept [] None None
      (λ k c l v e a. cc)
      (λ k c l v e a. cc)

  -- a schedule or a set that is accepted, and a certificate that is refused
  schedule_lays : (bs : List ℕ) (x : Labelled) (best bound o : Option Labelled) → (best_fits best ≡ true) × (bound_fits bound ≡ true) → o ≡ greater best x → Judged b (laid Schedule bs) x.label (Ok x.figure) → Lays (λ (l : Lists). l) (laid Schedule bs) (Accepted x.figure) (docketed b none (standing_by best bound)) (docketed b none (standing_by o bound))
  schedule_lays bs x best bound o fits e j =
      next_lays (λ l. l) b kept bs Schedule x j best bound o bound x.figure none none _ _ fits refl refl refl refl (inl (refl, e, refl))

  set_lays : (bs : List ℕ) (y : Labelled) (best bound o : Option Labelled) → (best_fits best ≡ true) × (bound_fits bound ≡ true) → o ≡ lower bound y → Judged b (laid Multipliers bs) y.label (Ok y.figure) → Lays (λ (l : Lists). l) (laid Multipliers bs) (Accepted y.figure) (docketed b none (standing_by best bound)) (docketed b none (standing_by best o))
  set_lays bs y best bound o fits e j =
      next_lays (λ l. l) b kept bs Multipliers y j best bound best o y.figure none none _ _ fits refl refl refl refl (inr (refl, refl, e))

  -- a schedule is accepted first
  module _ (p : List ℕ) (x : Labelled) (j : Judged b (laid Schedule p) x.label (Ok x.figure)) where
    fits : (best_fits (Some x) ≡ true) × (bound_fits None ≡ true)
    fits = next_fits (λ l. l) b kept p Schedule x j None None (Some x) None (refl, refl) (inl (refl, refl, refl))

    after_one : SoFar b (laid Schedule p ∷ []) (record { verdict = Accepted x.figure; standing = standing_by (Some x) None } ∷ []) (standing_by (Some x) None)
    after_one =
        one_more b [] [] (standing_by None None) (none_so_far b (standing_by None None) nothing_stands) (laid Schedule p) (record { verdict = Accepted x.figure; standing = standing_by (Some x) None })
        (schedule_lays p x None None (Some x) (refl, refl) refl j).verdict
        ((schedule_lays p x None None (Some x) (refl, refl) refl j).history [] nothing_stands)

    -- then a set
    pub run_of_two : (r : List ℕ) (y : Labelled) → Judged b (laid Multipliers r) y.label (Ok y.figure) → RightRun b
        (laid Schedule p ∷ laid Multipliers r ∷ [])
        (record { verdict = Accepted x.figure; standing = standing_by (Some x) None } ∷ record { verdict = Accepted y.figure; standing = standing_by (Some x) (Some y) } ∷ [])
        (standing_by (Some x) (Some y))
    run_of_two r y i =
        whole b _ _ _
        (one_more b _ _ _ after_one (laid Multipliers r) (record { verdict = Accepted y.figure; standing = standing_by (Some x) (Some y) })
        (set_lays r y (Some x) None (Some y) fits refl i).verdict
        ((set_lays r y (Some x) None (Some y) fits refl i).history _ after_one.final))

    -- then a schedule that is refused, and a set that is accepted
    module _ (q : List ℕ) (f : DocketFault) (a : Answered b (laid Schedule q) (Err f)) where
      refused : (bs : List ℕ) (g : DocketFault) → Answered b (laid Schedule bs) (Err g) → Lays (λ (l : Lists). l) (laid Schedule bs) (refusal g) (docketed b none (standing_by (Some x) None)) (docketed b none (standing_by (Some x) None))
      refused bs g e =
          refused_lays (λ l. l) b kept bs Schedule g e (refusal g) (Some x) None none none _ fits refl refl refl

      after_two : SoFar b
          (laid Schedule p ∷ laid Schedule q ∷ [])
          (record { verdict = Accepted x.figure; standing = standing_by (Some x) None } ∷ record { verdict = refusal f; standing = standing_by (Some x) None } ∷ [])
          (standing_by (Some x) None)
      after_two =
          one_more b _ _ _ after_one (laid Schedule q) (record { verdict = refusal f; standing = standing_by (Some x) None })
          (refused q f a).verdict
          ((refused q f a).history _ after_one.final)

      pub run_of_three : (r : List ℕ) (y : Labelled) → Judged b (laid Multipliers r) y.label (Ok y.figure) → RightRun b
          (laid Schedule p ∷ laid Schedule q ∷ laid Multipliers r ∷ [])
          (record { verdict = Accepted x.figure; standing = standing_by (Some x) None } ∷ record { verdict = refusal f; standing = standing_by (Some x) None } ∷ record { verdict = Accepted y.figure; standing = standing_by (Some x) (Some y) } ∷ [])
          (standing_by (Some x) (Some y))
      run_of_three r y i =
          whole b _ _ _
          (one_more b _ _ _ after_two (laid Multipliers r) (record { verdict = Accepted y.figure; standing = standing_by (Some x) (Some y) })
          (set_lays r y (Some x) None (Some y) fits refl i).verdict
          ((set_lays r y (Some x) None (Some y) fits refl i).history _ after_two.final))
