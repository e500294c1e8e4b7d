-- A book with rows of its own keeps the conditions, as the law of a book asks; the source gives this proof.
use Rattle.std.specs.Prelude.{◌≡◌, ℕ, ◌+◌, ◌≤◌, Bool, true, false, cond, ◌&&◌, List, [], ◌∷◌, length, map, take, ◌==◌, nat_le, refl}
use Rattle.std.proofs.Common.{arith}
use Rattle.std.proofs.Math.Path.{subst}
use Rattle.std.proofs.lemmas.Bool.{and_parts, and_from, leb-true, le-leb, eqb-true}
use Rattle.std.proofs.lemmas.List.{length-take, length-append, length-map}
use Rattle.books.specs.Lists.{FullRow, Lists}
use Rattle.books.specs.declared.book.Book.{Ghosts}
use Rattle.books.specs.Conditions.{every, sound_row, sound}
use Rattle.books.proofs.Sounds.{sound_parts, sound_from, every_append, short}
use Rattle.added_rows.specs.declared.table.AddedRow.{AddedRow}
use Rattle.added_rows.specs.declared.added.AddedRows.{AddedRows}
use Rattle.added_rows.specs.Adding.{is_fit, all_fit}
use Rattle.added_rows.specs.OwnRows.{full_row}
use Rattle.added_rows.specs.Meaning.{counted, own_rows, own_count, means}

-- what is known of the rows that count, of those of a table that were judged for n columns
pub record Counts (b : Lists) (n : ℕ) (rows own : List FullRow) : Type 0 where
  pub most : length own ≤ length rows
  pub room : length b.rows ≤ 4000 → length b.rows + length own ≤ 4000
  pub judged : all_fit n rows ≡ true → all_fit (length b.columns) own ≡ true

counts_by : (b : Lists) (n : ℕ) (rows : List FullRow) (t : Bool) → (n == length b.columns && nat_le (length b.rows + length rows) 4000) ≡ t → Counts b n rows (cond t rows [])
counts_by b n rows true e =
    let p = and_parts (n == length b.columns) (nat_le (length b.rows + length rows) 4000) e in
    let same = eqb-true n (length b.columns) p.0 in
    record {
      most = omega arith;
      room = λ h. leb-true (length b.rows + length rows) 4000 p.1;
      judged = λ fit. subst (λ m. every (is_fit m) rows ≡ true) same fit;
    }
counts_by b n rows false e = record { most = omega arith; room = λ h. omega arith; judged = λ fit. refl }

pub counts : (b : Lists) (n : ℕ) (rows : List FullRow) → Counts b n rows (counted b n rows)
counts b n rows = counts_by b n rows (n == length b.columns && nat_le (length b.rows + length rows) 4000) refl

-- a row has as many terms as it counts
pub terms_long : (r : AddedRow) → length (full_row r).terms ≡ r.count
terms_long r = let a = r.fits in let b = r.long in simp length-take (omega arith)

-- the first k rows of a table are k
pub own_long : (rs : List AddedRow) (k : ℕ) → k ≤ length rs → length (map full_row (take k rs)) ≡ k
own_long rs k held = simp (length-map, length-take) (omega arith)

-- rows that are fit are short, and keep the conditions
record Fit (n : ℕ) (rows : List FullRow) : Type 0 where
  few : every short rows ≡ true
  sound : every (sound_row n) rows ≡ true

fit_parts : (n : ℕ) (rows : List FullRow) → all_fit n rows ≡ true → Fit n rows
fit_parts n [] e = record { few = refl; sound = refl }
fit_parts n (r ∷ rows) e =
    let p = and_parts (is_fit n r) (every (is_fit n) rows) e in
    let q = and_parts (nat_le (length r.terms) 16) (sound_row n r) p.0 in
    let more = fit_parts n rows p.1 in
    let few = leb-true (length r.terms) 16 q.0 in
    record { few = and_from _ _ (le-leb _ 500 (omega arith)) more.few; sound = and_from _ _ q.1 more.sound }

module _ {B : Type 0} {G : Ghosts B} (meaning : B → Lists) (a : AddedRows B G) where
  -- at most 32 rows are its own
  pub own_held : own_count meaning a ≤ 32
  own_held =
      let most = (counts (meaning a.below) a.columns a.table).most in
      let held = a.held in
      omega arith

  pub rows_long : length (means meaning a).rows ≡ length (meaning a.below).rows + own_count meaning a
  rows_long = length-append (meaning a.below).rows (own_rows meaning a)

  -- it keeps the conditions, as the book below does
  pub means_sound : sound (meaning a.below) ≡ true → sound (means meaning a) ≡ true
  means_sound kept =
      let b = meaning a.below in
      let own = own_rows meaning a in
      let p = sound_parts b kept in
      let q = counts b a.columns a.table in
      let f = fit_parts (length b.columns) own (q.judged a.judged) in
      sound_from (means meaning a) (record {
        few_columns = p.few_columns;
        few_rows = (let long = rows_long in let room = q.room p.few_rows in omega arith);
        few_terms = every_append short b.rows _ p.few_terms f.few;
        columns = p.columns;
        rows = every_append (sound_row (length b.columns)) b.rows _ p.rows f.sound;
      })
