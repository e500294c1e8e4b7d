-- What `sound` says of a book's lists, and what shows it.
use Rattle.std.proofs.Common.{◌≡◌, ℕ, zero, suc, ◌<◌, ◌≤◌, Bool, true, not, ◌&&◌, ◌||◌, leb, List, [], ◌∷◌, ◌++◌, length, get_or, ℤ, pos, neg_ℤ, ◌≤ℤ◌, Some, sym, refl, ap, ◌∙◌, arith}
use lib.Signed.{le_z}
use Rattle.std.specs.List.{slice_get}
use Rattle.std.proofs.lemmas.Bool.{and_parts, and_from, leb-true, le-leb}
use Rattle.std.proofs.lemmas.Int.{ints}
use Rattle.listing_fields.specs.Tests.{within, is_limit, are_limits, is_price, terms_in_range, terms_refer, terms_rise}
use Rattle.books.specs.declared.part.Column.{Column}
use Rattle.books.specs.Lists.{FullRow, Lists}
use Rattle.books.specs.Conditions.{every, sound_column, sound_sides, sound_terms, sound_row, few, sound}

-- a test that every element passes, at one element
pub every_nth : {X : Type 0} (p : X → Bool) (xs : List X) (i : ℕ) (x : X) → every p xs ≡ true → slice_get xs i ≡ Some x → p x ≡ true
every_nth p [] i x e h = cc
every_nth p (y ∷ ys) zero x e h = let q : y ≡ x = cc in ap p (sym q) ∙ (and_parts (p y) (every p ys) e).0
every_nth p (y ∷ ys) (suc i) x e h = every_nth p ys i x (and_parts (p y) (every p ys) e).1 h

pub every_get_or : {X : Type 0} (p : X → Bool) (xs : List X) (i : ℕ) (d : X) → every p xs ≡ true → i < length xs → p (get_or xs i d) ≡ true
every_get_or p [] i d e h = absurd (omega arith)
every_get_or p (y ∷ ys) zero d e h = (and_parts (p y) (every p ys) e).0
every_get_or p (y ∷ ys) (suc i) d e h = every_get_or p ys i d (and_parts (p y) (every p ys) e).1 (omega arith)

-- of two lists, and of one with an element more
pub every_append : {X : Type 0} (p : X → Bool) (xs ys : List X) → every p xs ≡ true → every p ys ≡ true → every p (xs ++ ys) ≡ true
every_append p [] ys e f = f
every_append p (x ∷ xs) ys e f =
    let q = and_parts (p x) (every p xs) e in and_from (p x) (every p (xs ++ ys)) q.0 (every_append p xs ys q.1 f)

pub every_push : {X : Type 0} (p : X → Bool) (xs : List X) (x : X) → every p xs ≡ true → p x ≡ true → every p (xs ++ x ∷ []) ≡ true
every_push p xs x e f = every_append p xs (x ∷ []) e (and_from (p x) true f refl)

-- a row of at most 500 terms
abbrev pub short : FullRow → Bool
short r = leb (length r.terms) 500

-- the parts of `sound`
pub record Sound (b : Lists) : Type 0 where
  pub few_columns : length b.columns ≤ 4000
  pub few_rows : length b.rows ≤ 4000
  pub few_terms : every short b.rows ≡ true
  pub columns : every sound_column b.columns ≡ true
  pub rows : every (sound_row (length b.columns)) b.rows ≡ true

pub sound_parts : (b : Lists) → sound b ≡ true → Sound b
unfolding sound
sound_parts b e =
    let n = leb (length b.columns) 4000 in
    let m = leb (length b.rows) 4000 in
    let p = and_parts (few b && every sound_column b.columns) (every (sound_row (length b.columns)) b.rows) e in
    let q = and_parts (few b) (every sound_column b.columns) p.0 in
    let r = and_parts (n && m) (every short b.rows) q.0 in
    let s = and_parts n m r.0 in
    record {
      few_columns = leb-true (length b.columns) 4000 s.0;
      few_rows = leb-true (length b.rows) 4000 s.1;
      few_terms = r.1;
      columns = q.1;
      rows = p.1;
    }

pub sound_from : (b : Lists) → Sound b → sound b ≡ true
unfolding sound
sound_from b s =
    let counts = and_from _ _ (le-leb (length b.columns) 4000 s.few_columns) (le-leb (length b.rows) 4000 s.few_rows) in
    and_from _ _ (and_from _ _ (and_from _ _ counts s.few_terms) s.columns) s.rows

-- the parts of a row over n columns that keeps the conditions
pub record SoundRow (n : ℕ) (r : FullRow) : Type 0 where
  pub code : r.code ≤ 19
  pub sides : sound_sides r ≡ true
  pub in_range : terms_in_range r.terms ≡ true
  pub refer : terms_refer n r.terms ≡ true
  pub rise : terms_rise 0 r.terms ≡ true

pub sound_row_parts : (n : ℕ) (r : FullRow) → sound_row n r ≡ true → SoundRow n r
sound_row_parts n r e =
    let p = and_parts (leb r.code 19 && sound_sides r) (sound_terms n r) e in
    let q = and_parts (leb r.code 19) (sound_sides r) p.0 in
    let s = and_parts (terms_in_range r.terms && terms_refer n r.terms) (terms_rise 0 r.terms) p.1 in
    let t = and_parts (terms_in_range r.terms) (terms_refer n r.terms) s.0 in
    record { code = leb-true r.code 19 q.0; sides = q.1; in_range = t.0; refer = t.1; rise = s.1 }

pub sound_row_from : (n : ℕ) (r : FullRow) → SoundRow n r → sound_row n r ≡ true
sound_row_from n r s =
    let terms = and_from _ _ (and_from _ _ s.in_range s.refer) s.rise in
    and_from _ _ (and_from _ _ (le-leb r.code 19 s.code) s.sides) terms

-- a number that is at most so far from nought
pub record Within (most : ℕ) (z : ℤ) : Type 0 where
  pub above : neg_ℤ (pos most) ≤ℤ z
  pub below : z ≤ℤ pos most

leZ_true : (x y : ℤ) → le_z x y ≡ true → x ≤ℤ y
leZ_true x y e = omega (arith, ints)

pub within_parts : (most : ℕ) (z : ℤ) → within most z ≡ true → Within most z
within_parts most z e =
    let p = and_parts (le_z (neg_ℤ (pos most)) z) (le_z z (pos most)) e in
    record { above = leZ_true _ _ p.0; below = leZ_true _ _ p.1 }

-- the parts of a column that keeps the conditions
pub record SoundColumn (c : Column) : Type 0 where
  pub lower : Within 20000000 c.lower
  pub upper : Within 20000000 c.upper
  pub ordered : c.lower ≤ℤ c.upper
  pub price : Within 10000000 c.price
  pub switch : (not c.switch || (le_z (pos 0) c.lower && le_z c.upper (pos 1))) ≡ true

pub sound_column_parts : (c : Column) → sound_column c ≡ true → SoundColumn c
sound_column_parts c e =
    let limits = are_limits c.lower c.upper in
    let p = and_parts (limits && is_price c.price) _ e in
    let q = and_parts limits (is_price c.price) p.0 in
    let r = and_parts (is_limit c.lower && is_limit c.upper) (le_z c.lower c.upper) q.0 in
    let s = and_parts (is_limit c.lower) (is_limit c.upper) r.0 in
    record {
      lower = within_parts 20000000 c.lower s.0;
      upper = within_parts 20000000 c.upper s.1;
      ordered = leZ_true _ _ r.1;
      price = within_parts 10000000 c.price q.1;
      switch = p.1;
    }

-- what is known of a column and of a row that a book answers with
module _ (b : Lists) (kept : sound b ≡ true) (i : ℕ) where
  pub column_sound : (c : Column) → slice_get b.columns i ≡ Some c → SoundColumn c
  column_sound c at = sound_column_parts c (every_nth sound_column b.columns i c (sound_parts b kept).columns at)

  pub row_sound : (r : FullRow) → slice_get b.rows i ≡ Some r → SoundRow (length b.columns) r
  row_sound r at =
      sound_row_parts (length b.columns) r (every_nth (sound_row (length b.columns)) b.rows i r (sound_parts b kept).rows at)

  pub row_short : (r : FullRow) → slice_get b.rows i ≡ Some r → length r.terms ≤ 500
  row_short r at =
      leb-true (length r.terms) 500 (every_nth short b.rows i r (sound_parts b kept).few_terms at)
