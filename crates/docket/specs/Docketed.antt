-- A docket, as its callers see it, and what laying a certificate on it does.
use Rattle.std.specs.Prelude.{◌≡◌, true, Option, List, [], ◌∷◌, ◌++◌}
use Rattle.books.specs.Lists.{Lists}
use Rattle.multipliers.specs.Costs.{Held}
use Rattle.docket.specs.declared.standing.Labelled.{Labelled}
use Rattle.docket.specs.declared.standing.Standing.{Standing}
use Rattle.docket.specs.declared.verdict.Verdict.{Verdict}
use Rattle.docket.specs.Calls.{Laid, RightVerdict}
use Rattle.docket.specs.Standings.{StandingOf}
use Rattle.docket.specs.Labels.{standing_by, best_fits, bound_fits}
use Rattle.docket.specs.Verdicts.{is_refused}

-- the book that a docket stands on, its working table, and what stands
pub record Docketed (X : Type 0) : Type 0 where
  pub book : X
  pub table : Held
  pub standing : Standing

abbrev pub docketed : {X : Type 0} → X → Held → Standing → Docketed X
docketed x t s = record { book = x; table = t; standing = s }

-- what stands is a best net benefit and a lowest bound within their reaches, each with its label, or none, and the gap between them
pub record IsStanding (s : Standing) : Type 0 where
  pub best : Option Labelled
  pub bound : Option Labelled
  pub same : s ≡ standing_by best bound
  pub best_within : best_fits best ≡ true
  pub bound_within : bound_fits bound ≡ true

-- a call is laid on a docket whose book means these lists
pub record Lays {X : Type 0} (meaning : X → Lists) (c : Laid) (w : Verdict) (before after : Docketed X) : Type 0 where
  -- the verdict is that of the first check that fails, or of none
  pub verdict : RightVerdict (meaning before.book) c w
  -- whatever calls came before, what stands after this one is what they and it establish
  pub history : (h : List Laid) → StandingOf (meaning before.book) h before.standing → StandingOf (meaning before.book) (h ++ c ∷ []) after.standing
  -- the book is the same
  pub book : after.book ≡ before.book
  -- the working table is the same, in the same block of memory: no call takes another
  pub table : after.table ≡ before.table
  -- what stands is made of figures within their reaches
  pub figures : IsStanding after.standing
  -- a refusal leaves the docket as it was
  pub refused : is_refused w ≡ true → after ≡ before
