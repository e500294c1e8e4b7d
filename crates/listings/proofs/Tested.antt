-- The tests of a field are the conditions of the column or the row that it is.
use Rattle.std.proofs.Common.{◌≡◌, ℕ, zero, suc, Bool, true, false, cond, not, ◌&&◌, ◌||◌, eqb, leb, ℤ, pos, Some, None, Option, sym, refl, ap, ◌∙◌, ⊎_elim, arith}
use lib.Signed.{le_z}
use Rattle.std.proofs.lemmas.Bool.{and_parts, and_from, or_cases, eqb-true}
use Rattle.listing_fields.specs.Entries.{Column as ColumnEntry, Row as RowEntry}
use Rattle.listing_fields.specs.Entries.Entry.{column, row}
use Rattle.listing_fields.specs.Tests.{are_limits, is_price, is_switch, are_sides, has_lower, has_upper, terms_in_range, terms_refer, terms_rise, in_range}
use Rattle.listing_fields.specs.Meant.{switch_byte, side_byte, side_number}
use Rattle.listing_fields.proofs.Ranges.{row_sides}
use Rattle.listing_fields.proofs.Parsed.{sides_meant}
use Rattle.books.specs.declared.part.Column.{Column}
use Rattle.books.specs.Lists.{FullRow}
use Rattle.books.specs.Conditions.{sound_column, sound_side, sides_in_order, sound_sides, sound_terms, sound_row}
use Rattle.listings.specs.Listed.{column_entry, row_entry, column_of, row_of}

switch_ranged : (s : Bool) (l u : ℤ) → is_switch (switch_byte s) l u ≡ (not s || (le_z (pos 0) l && le_z u (pos 1)))
switch_ranged true l u = refl
switch_ranged false l u = refl

sides_ranged : (l u : Option ℤ) → are_sides (side_byte l u) (side_number l) (side_number u) ≡ (sound_side l && sound_side u && sides_in_order l u)
sides_ranged None None = refl
sides_ranged None (Some u) = refl
sides_ranged (Some l) None = refl
sides_ranged (Some l) (Some u) = refl

pub column_ranged : (c : Column) → in_range (column_entry c) ≡ sound_column c
column_ranged c =
    ap (λ s. are_limits c.lower c.upper && is_price c.price && s) (switch_ranged c.switch c.lower c.upper)

row_ranged : (r : FullRow) → in_range (row_entry r) ≡ (leb r.code 19 && sound_sides r && terms_in_range r.terms)
row_ranged r = ap (λ s. leb r.code 19 && s && terms_in_range r.terms) (sides_ranged r.lower r.upper)

-- what a row over n columns has to pass as a field
pub record Passes (n : ℕ) (r : FullRow) : Type 0 where
  pub ranged : in_range (row_entry r) ≡ true
  pub refer : terms_refer n r.terms ≡ true
  pub rise : terms_rise 0 r.terms ≡ true

module _ (n : ℕ) (r : FullRow) where
  pub row_passes : sound_row n r ≡ true → Passes n r
  row_passes h =
      let head = leb r.code 19 && sound_sides r in
      let p = and_parts head (sound_terms n r) h in
      let q = and_parts (terms_in_range r.terms && terms_refer n r.terms) (terms_rise 0 r.terms) p.1 in
      let t = and_parts (terms_in_range r.terms) (terms_refer n r.terms) q.0 in
      record { ranged = row_ranged r ∙ and_from head (terms_in_range r.terms) p.0 t.0; refer = t.1; rise = q.1 }

  pub row_sound : Passes n r → sound_row n r ≡ true
  row_sound p =
      let head = leb r.code 19 && sound_sides r in
      let q = and_parts head (terms_in_range r.terms) (sym (row_ranged r) ∙ p.ranged) in
      and_from head (sound_terms n r) q.0
      (and_from (terms_in_range r.terms && terms_refer n r.terms) (terms_rise 0 r.terms) (and_from (terms_in_range r.terms) (terms_refer n r.terms) q.1 p.refer) p.rise)

-- a field that is in range is that of the column or the row that it gives
switch_back : (s : ℕ) (l u : ℤ) → is_switch s l u ≡ true → switch_byte (eqb s 1) ≡ s
switch_back zero l u h = refl
switch_back (suc zero) l u h = refl
switch_back (suc (suc s)) l u h =
    absurd (⊎_elim (λ e. omega (arith, eqb-true (suc (suc s)) 0 e))
    (λ e. omega (arith, eqb-true (suc (suc s)) 1 (and_parts (eqb (suc (suc s)) 1) (le_z (pos 0) l) (and_parts (eqb (suc (suc s)) 1 && le_z (pos 0) l) (le_z u (pos 1)) e).0).0))
    (or_cases (eqb (suc (suc s)) 0) (eqb (suc (suc s)) 1 && le_z (pos 0) l && le_z u (pos 1)) h))

pub column_back : (c : ColumnEntry) → in_range (column c) ≡ true → column_entry (column_of c) ≡ column c
column_back c h =
    let p = and_parts (are_limits c.lower c.upper && is_price c.price) (is_switch c.switch c.lower c.upper) h in
    let s = switch_back c.switch c.lower c.upper p.1 in
    λ i. column (record { lower = c.lower; upper = c.upper; price = c.price; switch = s i })

pub row_back : (r : RowEntry) → in_range (row r) ≡ true → row_entry (row_of r) ≡ row r
row_back r h =
    let q = sides_meant r.side r.lower r.upper _ _ (row_sides r h) refl refl in
    λ i. row (record { code = r.code; side = q.0 i; lower = q.1 i; upper = q.2 i; terms = r.terms })

-- a column or a row is given back by its field
switch_forth : (s : Bool) → eqb (switch_byte s) 1 ≡ s
switch_forth true = refl
switch_forth false = refl

pub column_forth : (c : Column) → column_of (record { lower = c.lower; upper = c.upper; price = c.price; switch = switch_byte c.switch }) ≡ c
column_forth c = λ i. record { lower = c.lower; upper = c.upper; price = c.price; switch = switch_forth c.switch i }

lower_forth : (l u : Option ℤ) → cond (has_lower (side_byte l u)) (Some (side_number l)) None ≡ l
lower_forth None None = refl
lower_forth None (Some u) = refl
lower_forth (Some l) None = refl
lower_forth (Some l) (Some u) = refl

upper_forth : (l u : Option ℤ) → cond (has_upper (side_byte l u)) (Some (side_number u)) None ≡ u
upper_forth None None = refl
upper_forth None (Some u) = refl
upper_forth (Some l) None = refl
upper_forth (Some l) (Some u) = refl

pub row_forth : (r : FullRow) → row_of (record { code = r.code; side = side_byte r.lower r.upper; lower = side_number r.lower; upper = side_number r.upper; terms = r.terms }) ≡ r
row_forth r =
    λ i. record { code = r.code; lower = lower_forth r.lower r.upper i; upper = upper_forth r.lower r.upper i; terms = r.terms }
