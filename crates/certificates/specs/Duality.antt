-- Weak duality: the bound of every set of multipliers whose signs fit caps every schedule that meets the book, in whole kilowatts or in equal parts.
use Rattle.std.specs.Prelude.{◌≡◌, ℕ, ◌≤◌, true, List, ℤ, pos, ◌*ℤ◌, ◌≤ℤ◌}
use Rattle.books.specs.Lists.{Lists}
use Rattle.books.specs.Conditions.{sound}
use Rattle.books.specs.Schedules.{benefit, Paired, Meets}
use Rattle.certificates.specs.Bounds.{K, SignFits, bound}

-- no schedule passes v: in d parts to the kilowatt, K times its net benefit is at most d times v
abbrev pub Caps : Lists → ℤ → Type 0
Caps b v = (d : ℕ) (xs : List ℤ) → 1 ≤ d → Meets d b xs → (K *ℤ benefit b.columns xs) ≤ℤ (pos d *ℤ v)

abbrev pub WeakDuality : Type 0
WeakDuality = (b : Lists) (ys : List ℤ) → sound b ≡ true → Paired SignFits b.rows ys → Caps b (bound b ys)
