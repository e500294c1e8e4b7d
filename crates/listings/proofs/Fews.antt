-- How long a listing is, and what a row takes of it.
use Rattle.std.proofs.Common.{◌≡◌, ℕ, zero, suc, ◌+◌, ◌*◌, ◌≤◌, true, ◌&&◌, List, [], ◌∷◌, ◌++◌, map, length, drop, sum_by, Some, None, Option, sym, refl, ap, ◌∙◌, arith}
use Rattle.std.specs.List.{slice_get, flat_map}
use Rattle.std.specs.Option.{option_map}
use Rattle.std.proofs.lemmas.List.{length-append, length-drop, length-map, nil_from_length}
use Rattle.std.proofs.lemmas.List.Sums.{sum_by-cons}
use Rattle.std.proofs.lemmas.Grind.{flat_map-append}
use Rattle.std.proofs.lemmas.Bool.{and_parts, leb-true}
use Rattle.fields.specs.Files.{encode}
use Rattle.listing_fields.specs.Terms.{terms_bytes}
use Rattle.listing_fields.specs.Listings.{listing_format}
use Rattle.books.specs.declared.part.Column.{Column}
use Rattle.books.specs.declared.part.Row.{Row}
use Rattle.books.specs.Lists.{FullRow, Lists, head}
use Rattle.books.specs.Conditions.{every, few, sound, sound_column}
use Rattle.books.specs.Walks.{heads_of, terms_in, terms_of}
use Rattle.books.proofs.Nths.{nth_map}
use Rattle.books.proofs.Sounds.{short, sound_parts, row_short}
use Rattle.books.proofs.Walking.{left_some}
use Rattle.listings.specs.declared.put.Writer.{Writer}
use Rattle.listings.specs.Puts.{Puts}
use Rattle.listings.specs.Listed.{column_entry, row_entry, listing_of}
use Rattle.listings.specs.Writing.{column_bytes, row_bytes, head_bytes}
use Rattle.listings.proofs.Chains.{puts_same, puts_more}
use Rattle.listings.proofs.Parts.{length-column, row_is, length-row}

pub sound_few : (b : Lists) → sound b ≡ true → few b ≡ true
unfolding sound
sound_few b h = (and_parts (few b) (every sound_column b.columns) (and_parts (few b && every sound_column b.columns) _ h).0).0

-- the listing is the bytes of the columns, then those of the rows
flat_map-map : {X Y : Type 0} (f : Y → List ℕ) (g : X → Y) (xs : List X) → flat_map f (map g xs) ≡ flat_map (λ x. f (g x)) xs
flat_map-map f g [] = refl
flat_map-map f g (x ∷ xs) = ap (λ l. f (g x) ++ l) (flat_map-map f g xs)

pub listing_is : (b : Lists) → listing_of b ≡ flat_map column_bytes b.columns ++ flat_map row_bytes b.rows
unfolding listing_of
listing_is b =
    flat_map-append (encode listing_format) (map column_entry b.columns) (map row_entry b.rows)
    ∙ (λ i. flat_map-map (encode listing_format) column_entry b.columns i ++ flat_map-map (encode listing_format) row_entry b.rows i)

length-columns : (cs : List Column) → length (flat_map column_bytes cs) ≡ 16 * length cs
length-columns [] = refl
length-columns (c ∷ cs) = omega (arith, length-append (column_bytes c) (flat_map column_bytes cs), length-column c, length-columns cs)

pub length-listing : (b : Lists) → length (listing_of b) ≡ 16 * length b.columns + length (flat_map row_bytes b.rows)
length-listing b =
    ap length (listing_is b)
    ∙ length-append (flat_map column_bytes b.columns) (flat_map row_bytes b.rows)
    ∙ ap (λ n. n + length (flat_map row_bytes b.rows)) (length-columns b.columns)

-- rows that are short take at most 3,021 bytes each
rows_most : (rs : List FullRow) → every short rs ≡ true → length (flat_map row_bytes rs) ≤ 3021 * length rs
rows_most [] h = omega arith
rows_most (r ∷ rs) h =
    let p = and_parts (short r) (every short rs) h in
    let most = leb-true (length r.terms) 500 p.0 in
    omega (arith, most, length-append (row_bytes r) (flat_map row_bytes rs), length-row r, rows_most rs p.1)

-- how many bytes rows take, by their numbers of terms
abbrev pub taken : List Row → ℕ
taken rs = sum_by (λ (r : Row). 21 + 6 * r.terms) rs

taken_heads : (rs : List FullRow) → taken (map head rs) ≡ length (flat_map row_bytes rs)
taken_heads [] = refl
taken_heads (r ∷ rs) = omega (arith, taken_heads rs, sum_by-cons (λ (r : Row). 21 + 6 * r.terms) (head r) (map head rs), length-append (row_bytes r) (flat_map row_bytes rs), length-row r)

pub length-taken : (b : Lists) → length (listing_of b) ≡ 16 * length b.columns + taken (heads_of b)
length-taken b = length-listing b ∙ ap (λ n. 16 * length b.columns + n) (sym (taken_heads b.rows))

pub taken_most : (b : Lists) → sound b ≡ true → taken (heads_of b) ≤ 12084000
taken_most b h =
    let p = sound_parts b h in omega (arith, taken_heads b.rows, rows_most b.rows p.few_terms, p.few_rows)

-- what is left of a list begins with the element at the place
front_at : {X : Type 0} (xs : List X) (n : ℕ) (x : X) (more : List X) → drop n xs ≡ x ∷ more → slice_get xs n ≡ Some x
front_at [] zero x more e = let z : ◌≡◌ {A = ℕ} 0 1 = cc in absurd (omega arith)
front_at [] (suc n) x more e = let z : ◌≡◌ {A = ℕ} 0 1 = cc in absurd (omega arith)
front_at (y ∷ ys) zero x more e = let same : y ≡ x = cc in ap (λ z. Some z) same
front_at (y ∷ ys) (suc n) x more e = front_at ys n x more e

-- where no head is left, no row is
pub none_left : (b : Lists) (n : ℕ) → drop n (heads_of b) ≡ [] → drop n b.rows ≡ []
none_left b n e =
    nil_from_length (drop n b.rows) (omega (arith, ap length e, length-drop n (heads_of b), length-drop n b.rows, length-map b.rows head))

-- the row whose head is the next of those left
pub record Next (b : Lists) (i : ℕ) (row : Row) (more : List Row) : Type 0 where
  pub full : FullRow
  pub here : slice_get b.rows i ≡ Some full
  pub is : row ≡ head full
  pub left : drop i b.rows ≡ full ∷ drop (i + 1) b.rows
  pub others : drop (i + 1) (heads_of b) ≡ more

next_in : (b : Lists) (i : ℕ) (row : Row) (more : List Row) (o : Option FullRow) → slice_get b.rows i ≡ o → option_map head o ≡ Some row → drop (i + 1) (heads_of b) ≡ more → Next b i row more
next_in b i row more None e h m = let z : ◌≡◌ {A = ℕ} 0 1 = cc in absurd (omega arith)
next_in b i row more (Some r) e h m =
    record { full = r; here = e; is = cc; left = left_some b.rows i r e; others = m }

pub next : (b : Lists) (i : ℕ) (row : Row) (more : List Row) → drop i (heads_of b) ≡ row ∷ more → Next b i row more
next b i row more e =
    let at = front_at (heads_of b) i row more e in
    let others : drop (i + 1) (heads_of b) ≡ more = let d = left_some (heads_of b) i row at in cc in
    next_in b i row more (slice_get b.rows i) refl (sym (nth_map head b.rows i) ∙ at) others

module _ {b : Lists} {i : ℕ} {row : Row} {more : List Row} (n : Next b i row more) where
  pub next_terms : length (terms_of b i) ≡ row.terms
  next_terms = ap (λ o. length (terms_in o)) n.here ∙ sym (ap (λ (r : Row). r.terms) n.is)

  pub next_short : sound b ≡ true → row.terms ≤ 500
  next_short kept = let few = row_short b kept i n.full n.here in omega (arith, few, ap (λ (r : Row). r.terms) n.is)

  pub next_length : length (row_bytes n.full) ≡ 21 + 6 * row.terms
  next_length = length-row n.full ∙ sym (ap (λ (r : Row). 21 + 6 * r.terms) n.is)

  -- its bytes are those of the head, then those of its terms
  pub row_put : {w v u : Writer} → Puts w (head_bytes row) v → Puts v (terms_bytes (terms_of b i)) u → Puts w (row_bytes n.full) u
  row_put h t =
      puts_same _ (row_bytes n.full)
      ((λ j. head_bytes (n.is j) ++ terms_bytes (terms_in (n.here j))) ∙ row_is n.full)
      (puts_more (head_bytes row) (terms_bytes (terms_of b i)) h t)
