-- The figures that a docket holds, and what stands by them.
use Rattle.std.specs.Prelude.{ℕ, Bool, true, cond, ℤ, Some, None, Option, int_lt}
use Rattle.std.specs.Option.{option_map}
use Rattle.certificates.specs.Checks.{benefit_reaches}
use Rattle.certificates.specs.Steps.{in_reach}
use Rattle.docket.specs.declared.standing.Labelled.{Labelled}
use Rattle.docket.specs.declared.standing.Standing.{Standing}
use Rattle.docket.specs.Standings.{gap_of}

abbrev pub label_in : Option Labelled → Option ℕ
label_in o = option_map (λ (x : Labelled). x.label) o

abbrev pub figure_in : Option Labelled → Option ℤ
figure_in o = option_map (λ (x : Labelled). x.figure) o

-- what stands by the best and the lowest figure
abbrev pub standing_by : Option Labelled → Option Labelled → Standing
standing_by best bound =
    record {
      best_label = label_in best;
      best = figure_in best;
      bound_label = label_in bound;
      bound = figure_in bound;
      gap = gap_of (figure_in best) (figure_in bound);
    }

-- what stands after a new figure: the new one if it is the first, or passes the test against what stood
abbrev pub leader : (ℤ → ℤ → Bool) → Option Labelled → Labelled → Labelled
leader better None new = new
leader better (Some old) new = cond (better new.figure old.figure) new old

-- the greater of what stood and a new figure; what stood stays if they are equal
abbrev pub greater : Option Labelled → Labelled → Option Labelled
greater stood new = Some (leader (λ v w. int_lt w v) stood new)

-- the lower of what stood and a new figure; what stood stays if they are equal
abbrev pub lower : Option Labelled → Labelled → Option Labelled
lower stood new = Some (leader int_lt stood new)

-- a best figure, if there is one, is within ±10^13, and a bound within ±2^60
abbrev pub best_fits : Option Labelled → Bool
best_fits None = true
best_fits (Some x) = benefit_reaches x.figure

abbrev pub bound_fits : Option Labelled → Bool
bound_fits None = true
bound_fits (Some x) = in_reach x.figure
