-- The checks on the numbers of a certificate, in their order, and the figure of one that passes them all.
use Rattle.std.specs.Prelude.{◌≡◌, ℕ, suc, ◌/◌, ◌%◌, Bool, true, cond, ◌&&◌, List, [], ◌∷◌, length, ℤ, pos, negsuc, is_some, Some, None, Ok, Err, Option, Result, ◌==◌, int_le, nat_le, nat_lt, unsigned_abs}
use Rattle.std.specs.List.{AllByRecursion}
use Rattle.books.specs.declared.part.Column.{Column}
use Rattle.books.specs.Lists.{FullRow, Lists}
use Rattle.books.specs.Schedules.{activity, benefit, Paired, Meets}
use Rattle.certificates.specs.declared.fault.DocketFault.{DocketFault}
use Rattle.certificates.specs.declared.fault.DocketFault.TheVariants.{ValueCount, ColumnBroken, RowBroken, BenefitBeyond, MultiplierBeyond, SideAbsent}
use Rattle.certificates.specs.Values.{quantities, multipliers}
use Rattle.certificates.specs.Bounds.{bound, SignFits}
use Rattle.certificates.specs.Steps.{steps, first_beyond}

-- a fault, if there is one, else the answer that follows
abbrev pub unless : Option DocketFault → Result ℤ DocketFault → Result ℤ DocketFault
unless (Some f) r = Err f
unless None r = r

-- a check that finds a fault, or passes
abbrev pub passed : Option DocketFault → Result (Unit {0}) DocketFault
passed None = Ok tt
passed (Some f) = Err f

-- the value bytes divide by the width, and are so many numbers
abbrev pub right_count : ℕ → ℕ → List ℕ → Bool
right_count width n values = length values % width == 0 && length values / width == n

-- ---- a schedule

-- a number lies within the column's limits
abbrev pub within_limits : Column → ℤ → Bool
within_limits c x = int_le c.lower x && int_le x c.upper

-- the first column, of which the first has the number j, whose number lies beyond its limits
abbrev pub first_broken_column : ℕ → List Column → List ℤ → Option DocketFault
first_broken_column j [] xs = None
first_broken_column j (c ∷ cs) [] = None
first_broken_column j (c ∷ cs) (x ∷ xs) = cond (within_limits c x) (first_broken_column (suc j) cs xs) (Some (ColumnBroken j))

abbrev pub above_lower : Option ℤ → ℤ → Bool
above_lower None a = true
above_lower (Some s) a = int_le s a

abbrev pub below_upper : Option ℤ → ℤ → Bool
below_upper None a = true
below_upper (Some s) a = int_le a s

-- an activity lies on or between the sides that are present
abbrev pub within_sides : Option ℤ → Option ℤ → ℤ → Bool
within_sides low high a = above_lower low a && below_upper high a

-- the first row, of which the first has the number i, whose activity lies beyond its sides
abbrev pub first_broken_row : ℕ → List FullRow → List ℤ → Option DocketFault
first_broken_row i [] xs = None
first_broken_row i (r ∷ rs) xs =
    cond (within_sides r.lower r.upper (activity r.terms xs)) (first_broken_row (suc i) rs xs) (Some (RowBroken i r.code))

-- a net benefit lies within ±10^13
abbrev pub benefit_reaches : ℤ → Bool
benefit_reaches v = nat_le (unsigned_abs v) 10000000000000

abbrev pub beyond_benefit : ℤ → Option DocketFault
beyond_benefit v = cond (benefit_reaches v) None (Some BenefitBeyond)

-- the net benefit of a schedule that passes every check, or the fault of the first check that fails
unfoldable pub judged_schedule : Lists → List ℤ → Result ℤ DocketFault
judged_schedule b xs =
    unless (first_broken_column 0 b.columns xs)
    (unless (first_broken_row 0 b.rows xs)
    (unless (beyond_benefit (benefit b.columns xs)) (Ok (benefit b.columns xs))))

-- the answer to the value bytes of a schedule: their count is checked first
abbrev pub schedule_answer : Lists → List ℕ → Result ℤ DocketFault
schedule_answer b values = cond (right_count 4 (length b.columns) values) (judged_schedule b (quantities values)) (Err ValueCount)

-- a schedule is accepted with this net benefit: it meets the book, and the net benefit is within reach
pub record SchedulePasses (b : Lists) (xs : List ℤ) (v : ℤ) : Type 0 where
  pub meets : Meets 1 b xs
  pub figure : v ≡ benefit b.columns xs
  pub reach : benefit_reaches v ≡ true

-- ---- a set of multipliers

-- a multiplier lies within ±10^12
abbrev pub multiplier_reaches : ℤ → Bool
multiplier_reaches y = nat_le (unsigned_abs y) 1000000000000

-- the first row, of which the first has the number i, whose multiplier lies beyond
abbrev pub first_large : ℕ → List FullRow → List ℤ → Option DocketFault
first_large i [] ys = None
first_large i (r ∷ rs) [] = None
first_large i (r ∷ rs) (y ∷ ys) = cond (multiplier_reaches y) (first_large (suc i) rs ys) (Some (MultiplierBeyond i r.code))

-- the side that the sign of a multiplier takes is present; nought takes none
abbrev pub has_side : ℤ → Option ℤ → Option ℤ → Bool
has_side (pos n) low high = cond (nat_lt 0 n) (is_some high) true
has_side (negsuc n) low high = is_some low

-- the first row without the side that its multiplier takes
abbrev pub first_sideless : ℕ → List FullRow → List ℤ → Option DocketFault
first_sideless i [] ys = None
first_sideless i (r ∷ rs) [] = None
first_sideless i (r ∷ rs) (y ∷ ys) = cond (has_side y r.lower r.upper) (first_sideless (suc i) rs ys) (Some (SideAbsent i r.code))

-- the bound of a set that passes every check, or the fault of the first check that fails
unfoldable pub judged_set : Lists → List ℤ → Result ℤ DocketFault
judged_set b ys =
    unless (first_large 0 b.rows ys)
    (unless (first_sideless 0 b.rows ys)
    (unless (first_beyond (steps b ys)) (Ok (bound b ys))))

-- the answer to the value bytes of a set: their count is checked first
abbrev pub set_answer : Lists → List ℕ → Result ℤ DocketFault
set_answer b values = cond (right_count 8 (length b.rows) values) (judged_set b (multipliers values)) (Err ValueCount)

-- a set is accepted with this bound: signs and sizes fit, and every product and running value is within reach
pub record SetPasses (b : Lists) (ys : List ℤ) (v : ℤ) : Type 0 where
  pub sizes : AllByRecursion (λ (y : ℤ). multiplier_reaches y ≡ true) ys
  pub signs : Paired SignFits b.rows ys
  pub reach : first_beyond (steps b ys) ≡ None
  pub figure : v ≡ bound b ys
