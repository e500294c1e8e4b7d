-- The laws of listings: each sound book has a listing that is a file, its fields give it back, and the fields of a file are those of the lists that they give, which are sound where they are few.
use Rattle.std.proofs.Common.{◌≡◌, ℕ, suc, ◌+◌, ◌*◌, ◌≤◌, true, List, [], ◌∷◌, ◌++◌, map, length, sym, refl, ap, ◌∙◌, add-zero, add_assoc, zero-add, arith}
use Rattle.std.proofs.lemmas.Bool.{and_parts, and_from, leb-true, le-leb, eq-eqb}
use Rattle.fields.specs.Bytes.{four, eight, signed_four, signed_eight}
use Rattle.fields.specs.Files.{Fits, Fit, IsFile}
use Rattle.listing_fields.specs.Entries.{Entry, Column as ColumnEntry, Row as RowEntry}
use Rattle.listing_fields.specs.Entries.Entry.{column, row}
use Rattle.listing_fields.specs.Encoding.{tag, body}
use Rattle.listing_fields.specs.Tests.{tag_of_last, column_count, terms_refer, in_range}
use Rattle.listing_fields.specs.Listings.{listing_format}
use Rattle.books.specs.declared.part.Column.{Column}
use Rattle.books.specs.Lists.{FullRow, Lists}
use Rattle.books.specs.Conditions.{every, few, sound, sound_column, sound_row}
use Rattle.listings.specs.Listed.{column_entry, row_entry, entries, listing_of, column_of, row_of, columns_given, rows_given, given}
use Rattle.books.proofs.Sounds.{short, sound_parts}
use Rattle.listings.proofs.Parts.{length-terms}
use Rattle.listings.proofs.Tested.{column_ranged, row_passes, row_sound, column_back, row_back, column_forth, row_forth}

-- one field more
count_push : (es : List Entry) (e : Entry) → column_count (es ++ e ∷ []) ≡ column_count es + column_count (e ∷ [])
count_push [] e = sym (zero-add (column_count (e ∷ [])))
count_push (column c ∷ es) e = ap (λ n. 1 + n) (count_push es e) ∙ sym (add_assoc 1 (column_count es) (column_count (e ∷ [])))
count_push (row r ∷ es) e = count_push es e

count_row : (es : List Entry) (r : RowEntry) → column_count (es ++ row r ∷ []) ≡ column_count es
count_row es r = count_push es (row r) ∙ add-zero (column_count es)

last_push : (es : List Entry) (e : Entry) → tag_of_last (es ++ e ∷ []) ≡ tag e
last_push [] e = refl
last_push (d ∷ []) e = refl
last_push (d ∷ f ∷ es) e = last_push (f ∷ es) e

-- a sound column and a sound row fit after others
column_fits : (before : List Entry) (c : Column) → tag_of_last before ≤ 10 → sound_column c ≡ true → Fits listing_format before (column_entry c)
unfolding listing_format four signed_four
column_fits before c l h =
    record {
      short = omega arith;
      known = refl;
      follows = le-leb _ _ l;
      sized = refl;
      in_range = column_ranged c ∙ h;
      refers = refl;
      in_order = refl;
    }

row_long : (r : FullRow) → length (body (row_entry r)) ≡ 18 + 6 * length r.terms
unfolding eight signed_eight
row_long r = omega (arith, length-terms r.terms)

row_fits : (before : List Entry) (r : FullRow) → tag_of_last before ≤ 11 → length r.terms ≤ 500 → sound_row (column_count before) r ≡ true → Fits listing_format before (row_entry r)
unfolding listing_format
row_fits before r l s h =
    let p = row_passes (column_count before) r h in
    record {
      short = omega (arith, row_long r);
      known = refl;
      follows = le-leb _ _ l;
      sized = eq-eqb _ _ (omega (arith, row_long r));
      in_range = p.ranged;
      refers = p.refer;
      in_order = p.rise;
    }

rows_fit : (before : List Entry) (rs : List FullRow) (n : ℕ) → tag_of_last before ≤ 11 → column_count before ≡ n → every short rs ≡ true → every (sound_row n) rs ≡ true → Fit listing_format before (map row_entry rs)
rows_fit before [] n l k s h = tt
rows_fit before (r ∷ rs) n l k s h =
    let p = and_parts (sound_row n r) (every (sound_row n) rs) h in
    let q = and_parts (short r) (every short rs) s in
    let next = before ++ row_entry r ∷ [] in (
      row_fits before r l (leb-true _ _ q.0) (ap (λ m. sound_row m r) k ∙ p.0),
      rows_fit next rs n (omega (arith, last_push before (row_entry r))) (count_row before _ ∙ k) q.1 p.1,
    )

columns_fit : (before : List Entry) (cs : List Column) (rs : List FullRow) (n : ℕ) → tag_of_last before ≤ 10 → column_count before + length cs ≡ n → every short rs ≡ true → every sound_column cs ≡ true → every (sound_row n) rs ≡ true → Fit listing_format before (map column_entry cs ++ map row_entry rs)
columns_fit before [] rs n l k s h g = rows_fit before rs n (omega (arith, l)) (omega (arith, k)) s g
columns_fit before (c ∷ cs) rs n l k s h g =
    let p = and_parts (sound_column c) (every sound_column cs) h in
    let next = before ++ column_entry c ∷ [] in (
      column_fits before c l p.0,
      columns_fit next cs rs n (omega (arith, last_push before (column_entry c))) (omega (arith, count_push before (column_entry c), k)) s p.1 g,
    )

-- the listing of a sound book is a file of its fields
pub listing_file : (b : Lists) → sound b ≡ true → IsFile listing_format (listing_of b) (entries b)
unfolding listing_of listing_format
listing_file b h =
    let s = sound_parts b h in
    record {
      bytes = refl;
      each = columns_fit [] b.columns b.rows (length b.columns) (omega arith) (omega arith) s.few_terms s.columns s.rows;
      complete = refl;
    }

-- the fields of lists give the lists back
no_columns : (rs : List FullRow) → columns_given (map row_entry rs) ≡ []
no_columns [] = refl
no_columns (r ∷ rs) = no_columns rs

columns_back : (cs : List Column) (rs : List FullRow) → columns_given (map column_entry cs ++ map row_entry rs) ≡ cs
columns_back [] rs = no_columns rs
columns_back (c ∷ cs) rs = λ i. column_forth c i ∷ columns_back cs rs i

rows_alone : (rs : List FullRow) → rows_given (map row_entry rs) ≡ rs
rows_alone [] = refl
rows_alone (r ∷ rs) = λ i. row_forth r i ∷ rows_alone rs i

rows_back : (cs : List Column) (rs : List FullRow) → rows_given (map column_entry cs ++ map row_entry rs) ≡ rs
rows_back [] rs = rows_alone rs
rows_back (c ∷ cs) rs = rows_back cs rs

pub given_back : (b : Lists) → given (entries b) ≡ b
given_back b = λ i. record { columns = columns_back b.columns b.rows i; rows = rows_back b.columns b.rows i }

-- so lists with the same fields are the same
pub entries_one : (a b : Lists) → entries a ≡ entries b → a ≡ b
entries_one a b e = sym (given_back a) ∙ ap given e ∙ given_back b

-- after a row, fields that fit are rows
record Rows (n : ℕ) (es : List Entry) : Type 0 where
  none : columns_given es ≡ []
  same : map row_entry (rows_given es) ≡ es
  each : every (sound_row n) (rows_given es) ≡ true

no_column : {n : ℕ} {es : List Entry} (before : List Entry) (c : ColumnEntry) → tag_of_last before ≡ 11 → Fits listing_format before (column c) → Rows n es
unfolding listing_format
no_column before c l p = absurd (omega (arith, l, leb-true (tag_of_last before) 10 p.follows))

row_more : (before : List Entry) (r : RowEntry) (es : List Entry) (n : ℕ) → column_count before ≡ n → Fits listing_format before (row r) → Rows n es → Rows n (row r ∷ es)
unfolding listing_format
row_more before r es n k p rest =
    let back = row_back r p.in_range in
    record {
      none = rest.none;
      same = λ i. back i ∷ rest.same i;
      each =
          and_from _ _
          (row_sound n (row_of r) (record { ranged = ap in_range back ∙ p.in_range; refer = ap (λ m. terms_refer m r.terms) (sym k) ∙ p.refers; rise = p.in_order }))
          rest.each;
    }

only_rows : (before es : List Entry) (n : ℕ) → tag_of_last before ≡ 11 → column_count before ≡ n → Fit listing_format before es → Rows n es
only_rows before [] n l k p = record { none = refl; same = refl; each = refl }
only_rows before (column c ∷ es) n l k p = no_column before c l p.0
only_rows before (row r ∷ es) n l k p =
    row_more before r es n k p.0 (only_rows (before ++ row r ∷ []) es n (last_push before (row r)) (count_row before r ∙ k) p.1)

row_first : (before : List Entry) (r : RowEntry) (es : List Entry) → Fit listing_format before (row r ∷ es) → Rows (column_count before) (row r ∷ es)
row_first before r es p =
    row_more before r es (column_count before) refl p.0 (only_rows (before ++ row r ∷ []) es (column_count before) (last_push before (row r)) (count_row before r) p.1)

-- fields that fit are those of the lists that they give, which keep the conditions but for their lengths
record Gives (before es : List Entry) : Type 0 where
  same : entries (given es) ≡ es
  columns : every sound_column (columns_given es) ≡ true
  rows : every (sound_row (column_count before + length (columns_given es))) (rows_given es) ≡ true

gives : (before es : List Entry) → Fit listing_format before es → Gives before es
unfolding listing_format
gives before [] p = record { same = refl; columns = refl; rows = refl }
gives before (column c ∷ es) p =
    let rest = gives (before ++ column c ∷ []) es p.1 in
    let back = column_back c p.0.in_range in
    let count : column_count (before ++ column c ∷ []) + length (columns_given es) ≡ column_count before + suc (length (columns_given es)) = omega (arith, count_push before (column c)) in
    record {
      same = λ i. back i ∷ rest.same i;
      columns = and_from _ _ (sym (column_ranged (column_of c)) ∙ ap in_range back ∙ p.0.in_range) rest.columns;
      rows = ap (λ n. every (sound_row n) (rows_given es)) (sym count) ∙ rest.rows;
    }
gives before (row r ∷ es) p =
    let all = row_first before r es p in
    let count : column_count before ≡ column_count before + length (columns_given es) = omega (arith, ap length all.none) in
    record {
      same = (λ i. map column_entry (all.none i) ++ map row_entry (rows_given (row r ∷ es))) ∙ all.same;
      columns = ap (every sound_column) all.none;
      rows = ap (λ m. every (sound_row m) (rows_given (row r ∷ es))) (sym count) ∙ all.each;
    }

pub file_given : (bs : List ℕ) (es : List Entry) → IsFile listing_format bs es → entries (given es) ≡ es
file_given bs es i = (gives [] es i.each).same

-- lists of few columns, rows and terms that keep the other conditions
sound_few : (b : Lists) → few b ≡ true → every sound_column b.columns ≡ true → every (sound_row (length b.columns)) b.rows ≡ true → sound b ≡ true
unfolding sound
sound_few b f c r = and_from _ _ (and_from _ _ f c) r

pub file_sound : (bs : List ℕ) (es : List Entry) → IsFile listing_format bs es → few (given es) ≡ true → sound (given es) ≡ true
file_sound bs es i f =
    let g = gives [] es i.each in
    sound_few (given es) f g.columns (ap (λ n. every (sound_row n) (rows_given es)) (sym (zero-add (length (columns_given es)))) ∙ g.rows)
