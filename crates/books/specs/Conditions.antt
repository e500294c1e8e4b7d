-- The conditions that every book keeps.
use Rattle.std.specs.Prelude.{ℕ, Bool, true, false, not, ◌&&◌, ◌||◌, leb, List, length, ℤ, pos, Some, None, Option, int_le, nat_le}
use Rattle.std.specs.List.{list_all}
use Rattle.listing_fields.specs.Tests.{within, are_limits, is_price, terms_in_range, terms_refer, terms_rise}
use Rattle.books.specs.declared.part.Column.{Column}
use Rattle.books.specs.Lists.{FullRow, Lists}

abbrev pub every : {X : Type 0} → (X → Bool) → List X → Bool
every p xs = list_all p xs

-- limits and price in range, limits in order, and those of a switch within 0 and 1
abbrev pub sound_column : Column → Bool
sound_column c = are_limits c.lower c.upper && is_price c.price && (not c.switch || (int_le (pos 0) c.lower && int_le c.upper (pos 1)))

-- a side that is present is in range
abbrev pub sound_side : Option ℤ → Bool
sound_side None = true
sound_side (Some z) = within 10000000000000000 z

-- at least one side is present, and the lower is not above the upper
abbrev pub sides_in_order : Option ℤ → Option ℤ → Bool
sides_in_order None None = false
sides_in_order None (Some u) = true
sides_in_order (Some l) None = true
sides_in_order (Some l) (Some u) = int_le l u

-- terms over n columns: coefficients in range and not nought, columns that exist and rise strictly
abbrev pub sound_terms : ℕ → FullRow → Bool
sound_terms n r = terms_in_range r.terms && terms_refer n r.terms && terms_rise 0 r.terms

abbrev pub sound_sides : FullRow → Bool
sound_sides r = sound_side r.lower && sound_side r.upper && sides_in_order r.lower r.upper

-- a row over n columns
abbrev pub sound_row : ℕ → FullRow → Bool
sound_row n r = nat_le r.code 19 && sound_sides r && sound_terms n r

-- at most 4,000 columns, 4,000 rows and 500 terms a row
abbrev pub few : Lists → Bool
few b = nat_le (length b.columns) 4000 && nat_le (length b.rows) 4000 && every (λ (r : FullRow). leb (length r.terms) 500) b.rows

unfoldable pub sound : Lists → Bool
sound b = few b && every sound_column b.columns && every (sound_row (length b.columns)) b.rows
