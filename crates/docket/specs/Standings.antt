-- What stands after a history of calls.
use Rattle.std.specs.Prelude.{◌≡◌, ℕ, ◌<◌, List, ◌++◌, ℤ, pos, ◌-ℤ◌, ◌*ℤ◌, ◌≤ℤ◌, ◌<ℤ◌, Some, None, Option}
use Rattle.std.specs.List.{slice_get}
use Rattle.books.specs.Lists.{Lists}
use Rattle.certificates.specs.Bounds.{K}
use Rattle.certificates.specs.Duality.{Caps}
use Rattle.docket.specs.declared.standing.Standing.{Standing}
use Rattle.docket.specs.Calls.{Laid, AcceptedSchedule, AcceptedSet}

-- Of the calls that are accepted in some sense, the first of the best: Worse says that a figure is no better than another, and Under that it is worse.
module _ (Accepted : Laid → ℕ → ℤ → Type 0) (Worse Under : ℤ → ℤ → Type 0) where
  -- some call of the history is accepted with this label and figure, none accepted is better, and those before it are worse
  pub record FirstBest (h : List Laid) (label : ℕ) (figure : ℤ) : Type 0 where
    pub place : ℕ
    pub call : Laid
    pub there : slice_get h place ≡ Some call
    pub accepted : Accepted call label figure
    pub best : (k : ℕ) (c : Laid) (l : ℕ) (v : ℤ) → slice_get h k ≡ Some c → Accepted c l v → Worse v figure
    pub first : (k : ℕ) (c : Laid) (l : ℕ) (v : ℤ) → k < place → slice_get h k ≡ Some c → Accepted c l v → Under v figure

  -- no call of the history is accepted
  abbrev pub NoneAccepted : List Laid → Type 0
  NoneAccepted h = (k : ℕ) (c : Laid) (l : ℕ) (v : ℤ) → slice_get h k ≡ Some c → Accepted c l v → ⊥

  -- the label and the figure that stand, both or neither
  abbrev pub Leads : List Laid → Option ℕ → Option ℤ → Type 0
  Leads h None None = NoneAccepted h
  Leads h None (Some v) = ⊥
  Leads h (Some l) None = ⊥
  Leads h (Some l) (Some v) = FirstBest h l v

-- the best net benefit is the greatest accepted, under the label that first reached it
abbrev pub Best : Lists → List Laid → Option ℕ → Option ℤ → Type 0
Best b = Leads (AcceptedSchedule b) (λ v w. v ≤ℤ w) (λ v w. v <ℤ w)

-- the bound is the lowest accepted, under the label that first reached it
abbrev pub Lowest : Lists → List Laid → Option ℕ → Option ℤ → Type 0
Lowest b = Leads (AcceptedSet b) (λ v w. w ≤ℤ v) (λ v w. w <ℤ v)

-- the gap, in fine units, once both figures are there
abbrev pub gap_of : Option ℤ → Option ℤ → Option ℤ
gap_of None None = None
gap_of None (Some w) = None
gap_of (Some v) None = None
gap_of (Some v) (Some w) = Some (w -ℤ K *ℤ v)

-- what stands after a history of calls on a book
pub record StandingOf (b : Lists) (h : List Laid) (s : Standing) : Type 0 where
  pub best : Best b h s.best_label s.best
  pub lowest : Lowest b h s.bound_label s.bound
  pub caps : (v : ℤ) → s.bound ≡ Some v → Caps b v
  pub gap : s.gap ≡ gap_of s.best s.bound
  pub not_negative : (g : ℤ) → s.gap ≡ Some g → pos 0 ≤ℤ g

-- along a longer history a gap that is there stays, and does not grow
abbrev pub Shrinks : Option ℤ → Option ℤ → Type 0
Shrinks old new = (f : ℤ) → old ≡ Some f → (g : ℤ) × (new ≡ Some g) × (g ≤ℤ f)

abbrev pub GapNeverGrows : Type 0
GapNeverGrows =
    (b : Lists) (h more : List Laid) (s t : Standing)
    → StandingOf b h s → StandingOf b (h ++ more) t → Shrinks s.gap t.gap
