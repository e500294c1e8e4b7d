-- Numbers in range fit the bytes that hold them.
use Rattle.std.proofs.Common.{◌≡◌, ℕ, zero, suc, ◌<◌, ◌≤◌, Bool, true, false, not, ◌&&◌, ◌||◌, eqb, ltb, leb, List, [], ◌∷◌, ℤ, pos, negsuc, neg_ℤ, ⊎_elim, arith, w64, SFits}
use lib.Signed.{mag, le_z}
use Rattle.std.proofs.lemmas.Bool.{false≢true, and_parts, or_cases, leb-true, ltb-true, eqb-true}
use Rattle.listing_fields.specs.declared.term.Term.{Term}
use Rattle.listing_fields.specs.Entries.{Column, Row, Entry}
use Rattle.listing_fields.specs.Entries.Entry.{column, row}
use Rattle.listing_fields.specs.Encoding.{TermsWritten, Written}
use Rattle.listing_fields.specs.Tests.{within, is_limit, is_price, is_switch, is_side, is_coefficient, are_sides, has_lower, has_upper, terms_in_range, in_range}

-- the magnitude of a number within a limit
within_mag : (most : ℕ) (z : ℤ) → within most z ≡ true → mag z ≤ most
within_mag most (pos n) h = leb-true n most (and_parts (le_z (neg_ℤ (pos most)) (pos n)) (leb n most) h).1
within_mag zero (negsuc n) h = absurd (false≢true h)
within_mag (suc m) (negsuc n) h = let l = leb-true n m (and_parts (leb n m) true h).0 in omega arith

side_fits : (b : Bool) (z : ℤ) → is_side b z ≡ true → SFits w64 z
side_fits true z h = record { sfits = omega (arith, within_mag 10000000000000000 z h) }
side_fits false (pos n) h = record { sfits = omega (arith, eqb-true n 0 h) }
side_fits false (negsuc n) h = absurd (false≢true h)

switch_fits : (s : ℕ) (l u : ℤ) → is_switch s l u ≡ true → s < 256
switch_fits s l u h =
    ⊎_elim (λ e. omega (arith, eqb-true s 0 e))
    (λ e. omega (arith, eqb-true s 1 (and_parts (eqb s 1) (le_z (pos 0) l) (and_parts (eqb s 1 && le_z (pos 0) l) (le_z u (pos 1)) e).0).0))
    (or_cases (eqb s 0) (eqb s 1 && le_z (pos 0) l && le_z u (pos 1)) h)

terms_fit : (ts : List Term) → terms_in_range ts ≡ true → TermsWritten ts
terms_fit [] h = tt
terms_fit (t ∷ ts) h =
    let p = and_parts (ltb t.column 65536 && is_coefficient t.coefficient) (terms_in_range ts) h in
    let q = and_parts (ltb t.column 65536) (is_coefficient t.coefficient) p.0 in (
      ltb-true t.column 65536 q.0,
      record { sfits = omega (arith, within_mag 1000000 t.coefficient q.1) },
      terms_fit ts p.1,
    )

-- the parts of a side byte and its sides that are in range
pub record Sides (s : ℕ) (l u : ℤ) : Type 0 where
  pub least : 1 ≤ s
  pub most : s ≤ 3
  pub lower : is_side (has_lower s) l ≡ true
  pub upper : is_side (has_upper s) u ≡ true

pub sides : (s : ℕ) (l u : ℤ) → are_sides s l u ≡ true → Sides s l u
sides s l u h =
    let p = (and_parts (leb 1 s && leb s 3 && is_side (has_lower s) l && is_side (has_upper s) u) (not (eqb s 3) || le_z l u) h).0 in
    let q = and_parts (leb 1 s && leb s 3 && is_side (has_lower s) l) (is_side (has_upper s) u) p in
    let r = and_parts (leb 1 s && leb s 3) (is_side (has_lower s) l) q.0 in
    let b = and_parts (leb 1 s) (leb s 3) r.0 in
    record { least = leb-true 1 s b.0; most = leb-true s 3 b.1; lower = r.1; upper = q.1 }

pub row_sides : (r : Row) → in_range (row r) ≡ true → Sides r.side r.lower r.upper
row_sides r h =
    let p = (and_parts (leb r.code 19 && are_sides r.side r.lower r.upper) (terms_in_range r.terms) h).0 in
    sides r.side r.lower r.upper (and_parts (leb r.code 19) (are_sides r.side r.lower r.upper) p).1

column_fits : (c : Column) → in_range (column c) ≡ true → Written (column c)
column_fits c h =
    let l = is_limit c.lower in
    let u = is_limit c.upper in
    let o = le_z c.lower c.upper in
    let k = is_price c.price in
    let p = and_parts (l && u && o && k) (is_switch c.switch c.lower c.upper) h in
    let q = and_parts (l && u && o) k p.0 in
    let b = and_parts l u (and_parts (l && u) o q.0).0 in (
      record { sfits = omega (arith, within_mag 20000000 c.lower b.0) },
      record { sfits = omega (arith, within_mag 20000000 c.upper b.1) },
      record { sfits = omega (arith, within_mag 10000000 c.price q.1) },
      switch_fits c.switch c.lower c.upper p.1,
    )

row_fits : (r : Row) → in_range (row r) ≡ true → Written (row r)
row_fits r h =
    let s = row_sides r h in
    let p = and_parts (leb r.code 19 && are_sides r.side r.lower r.upper) (terms_in_range r.terms) h in
    let code = leb-true r.code 19 (and_parts (leb r.code 19) (are_sides r.side r.lower r.upper) p.0).0 in
    (omega arith, omega (arith, s.most), side_fits (has_lower r.side) r.lower s.lower, side_fits (has_upper r.side) r.upper s.upper, terms_fit r.terms p.1)

pub range_written : (e : Entry) → in_range e ≡ true → Written e
range_written (column c) h = column_fits c h
range_written (row r) h = row_fits r h
