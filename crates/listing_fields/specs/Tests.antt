-- The tests that a field of a listing has to pass.
use Rattle.std.specs.Prelude.{ℕ, ◌+◌, ◌-◌, ◌*◌, ◌/◌, Bool, true, false, not, ◌&&◌, ◌||◌, List, [], ◌∷◌, ℤ, pos, negsuc, neg_ℤ, ◌==◌, int_le, nat_le, nat_lt}
use Rattle.std.specs.List.{list_all}
use Rattle.listing_fields.specs.declared.term.Term.{Term}
use Rattle.listing_fields.specs.Entries.{Entry}
use Rattle.listing_fields.specs.Entries.Entry.{column, row}
use Rattle.listing_fields.specs.Encoding.{tag}

-- a listing has a field of this tag
abbrev pub known : ℕ → Bool
known t = t == 10 || t == 11

-- the tag of the last field, nought before the first
abbrev pub tag_of_last : List Entry → ℕ
tag_of_last [] = 0
tag_of_last (e ∷ []) = tag e
tag_of_last (e ∷ f ∷ es) = tag_of_last (f ∷ es)

-- tags never fall: no column follows a row
abbrev pub follows : List Entry → ℕ → Bool
follows es t = nat_le (tag_of_last es) t

-- a column has 13 bytes, a row 18 and then six a term
abbrev pub sized : ℕ → ℕ → Bool
sized t n = (t == 10 && n == 13) || (t == 11 && 18 + 6 * ((n - 18) / 6) == n)

-- at most so far from nought
abbrev pub within : ℕ → ℤ → Bool
within most z = int_le (neg_ℤ (pos most)) z && int_le z (pos most)

abbrev pub is_limit : ℤ → Bool
is_limit z = within 20000000 z

-- limits in range and in order
abbrev pub are_limits : ℤ → ℤ → Bool
are_limits l u = is_limit l && is_limit u && int_le l u

abbrev pub is_price : ℤ → Bool
is_price z = within 10000000 z

-- the switch byte is nought, or 1 and the limits are within 0 and 1
abbrev pub is_switch : ℕ → ℤ → ℤ → Bool
is_switch s l u = s == 0 || (s == 1 && int_le (pos 0) l && int_le u (pos 1))

-- the side byte says that there is a lower side, and an upper side
abbrev pub has_lower : ℕ → Bool
has_lower s = s == 1 || s == 3

abbrev pub has_upper : ℕ → Bool
has_upper s = s == 2 || s == 3

abbrev pub is_nought : ℤ → Bool
is_nought (pos n) = n == 0
is_nought (negsuc n) = false

-- a side that is present is in range, and one that is absent is nought
abbrev pub is_side : Bool → ℤ → Bool
is_side true z = within 10000000000000000 z
is_side false z = is_nought z

-- a side byte with its two sides
abbrev pub are_sides : ℕ → ℤ → ℤ → Bool
are_sides s l u =
    nat_le 1 s && nat_le s 3 && is_side (has_lower s) l && is_side (has_upper s) u && (not (s == 3) || int_le l u)

abbrev pub is_coefficient : ℤ → Bool
is_coefficient z = within 1000000 z

-- a column number in two bytes, and a coefficient
abbrev pub terms_in_range : List Term → Bool
terms_in_range ts = list_all (λ (t : Term). nat_lt t.column 65536 && is_coefficient t.coefficient) ts

abbrev pub in_range : Entry → Bool
in_range (column c) =
    are_limits c.lower c.upper && is_price c.price && is_switch c.switch c.lower c.upper
in_range (row r) = nat_le r.code 19 && are_sides r.side r.lower r.upper && terms_in_range r.terms

-- how many columns stand among the fields
abbrev pub column_count : List Entry → ℕ
column_count [] = 0
column_count (column c ∷ es) = 1 + column_count es
column_count (row r ∷ es) = column_count es

abbrev pub terms_refer : ℕ → List Term → Bool
terms_refer n ts = list_all (λ (t : Term). nat_lt t.column n) ts

-- each term names one of the columns before the row
abbrev pub refers : List Entry → Entry → Bool
refers es (column c) = true
refers es (row r) = terms_refer (column_count es) r.terms

-- the columns rise strictly from the least on, and no coefficient is nought
abbrev pub terms_rise : ℕ → List Term → Bool
terms_rise least [] = true
terms_rise least (t ∷ ts) = (nat_le least t.column && not (is_nought t.coefficient)) && terms_rise (t.column + 1) ts

abbrev pub in_order : Entry → Bool
in_order (column c) = true
in_order (row r) = terms_rise 0 r.terms
