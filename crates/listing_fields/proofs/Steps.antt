-- The loop that reads a listing: what is seen, what is left, and what follows at the end.
use Rattle.std.proofs.Common.{◌≡◌, ℕ, ◌+◌, ◌-◌, ◌<◌, ◌≤◌, List, [], ◌∷◌, ◌++◌, length, Some, Option, sym, refl, ap, ◌∙◌, inl, add-zero, add_assoc, zero-add, arith}
use Rattle.std.proofs.lemmas.List.{append-nil, append_assoc, length-append, nil_from_length}
use Rattle.fields.specs.Faults.{First}
use Rattle.fields.specs.Fields.{field}
use Rattle.fields.specs.Files.{checks, encode, encoding, Fit, IsFile, FirstFault}
use Rattle.fields.specs.declared.fault.FaultKind.{FaultKind}
use Rattle.fields.proofs.Heads.{length-field}
use Rattle.fields.proofs.Laws.{fit_push, encoding_push}
use Rattle.listing_fields.specs.declared.record.EntryKind.{EntryKind}
use Rattle.listing_fields.specs.declared.record.EntryKind.TheVariants.{Column as ColumnKind, Row as RowKind}
use Rattle.listing_fields.specs.declared.read.Before.{Before}
use Rattle.listing_fields.specs.Entries.{Column, Row, Entry}
use Rattle.listing_fields.specs.Entries.Entry.{column, row}
use Rattle.listing_fields.specs.Encoding.{tag, body}
use Rattle.listing_fields.specs.Tests.{tag_of_last, column_count}
use Rattle.listing_fields.specs.Listings.{listing_format}
use Rattle.listing_fields.specs.Reading.{Tells, Reads}

-- the bytes are those of the fields seen and what is left, with what is known of these fields
pub record Seen (bs : List ℕ) (es : List Entry) (rest : List ℕ) (b : Before) : Type 0 where
  pub bytes : bs ≡ encoding listing_format es ++ rest
  pub each : Fit listing_format [] es
  pub tells : Tells b es

-- one field more
count_push : (es : List Entry) (e : Entry) → column_count (es ++ e ∷ []) ≡ column_count es + column_count (e ∷ [])
count_push [] e = sym (zero-add (column_count (e ∷ [])))
count_push (column c ∷ es) e = ap (λ n. 1 + n) (count_push es e) ∙ sym (add_assoc 1 (column_count es) (column_count (e ∷ [])))
count_push (row r ∷ es) e = count_push es e

last_push : (es : List Entry) (e : Entry) → tag_of_last (es ++ e ∷ []) ≡ tag e
last_push [] e = refl
last_push (d ∷ []) e = refl
last_push (d ∷ f ∷ es) e = last_push (f ∷ es) e

-- what is known of a column more, and of a row more
pub tells_column : {k : ℕ} {l : Option EntryKind} (es : List Entry) (c : Column) → Tells (record { columns = k; last = l }) es → Tells (record { columns = k + 1; last = Some (ColumnKind) }) (es ++ column c ∷ [])
tells_column es c t =
    record { columns_are = ap (λ n. n + 1) t.columns_are ∙ sym (count_push es (column c)); last_is = sym (last_push es (column c)) }

pub tells_row : {k : ℕ} {l : Option EntryKind} (es : List Entry) (r : Row) → Tells (record { columns = k; last = l }) es → Tells (record { columns = k; last = Some (RowKind) }) (es ++ row r ∷ [])
tells_row es r t =
    record { columns_are = t.columns_are ∙ sym (add-zero (column_count es)) ∙ sym (count_push es (row r)); last_is = sym (last_push es (row r)) }

pub seen_more : {bs : List ℕ} {es : List Entry} {rest : List ℕ} {b : Before} (after : List ℕ) (e : Entry) (es' : List Entry) (b' : Before) → Seen bs es rest b → Reads es rest after e → es' ≡ es ++ e ∷ [] → Tells b' (es ++ e ∷ []) → Seen bs es' after b'
unfolding listing_format
seen_more {es = es} after e es' b' s r pushed told =
    rw pushed (record {
      bytes =
          s.bytes
          ∙ ap (λ l. encoding listing_format es ++ l) r.begins.bytes
          ∙ sym (append_assoc (encoding listing_format es) (encode listing_format e) after)
          ∙ sym (ap (λ l. l ++ after) (encoding_push listing_format es e));
      each = fit_push listing_format [] es e s.each r.fits;
      tells = told;
    })

-- there are no more columns than bytes
count_most : (es : List Entry) → column_count es ≤ length (encoding listing_format es)
unfolding listing_format
count_most [] = omega arith
count_most (column c ∷ es) =
    let b = body (column c) in
    omega (arith, count_most es, length-append (field 10 b) (encoding listing_format es), length-field 10 b)
count_most (row r ∷ es) =
    let b = body (row r) in
    omega (arith, count_most es, length-append (field 11 b) (encoding listing_format es))

pub columns_most : {bs : List ℕ} {es : List Entry} {rest : List ℕ} {b : Before} → Seen bs es rest b → b.columns + length rest ≤ length bs
columns_most {es = es} {rest} s =
    omega (arith, s.tells.columns_are, count_most es, ap length s.bytes, length-append (encoding listing_format es) rest)

-- at the end the bytes are those of the fields
pub seen_all : {bs : List ℕ} {es : List Entry} {rest : List ℕ} {b : Before} → Seen bs es rest b → length rest ≡ 0 → IsFile listing_format bs es
unfolding listing_format
seen_all {es = es} {rest} s h =
    record {
      bytes = s.bytes ∙ ap (λ l. encoding listing_format es ++ l) (nil_from_length rest h) ∙ append-nil (encoding listing_format es);
      each = s.each;
      complete = refl;
    }

-- a fault of what is left is the first
pub seen_fault : {bs : List ℕ} {es : List Entry} {rest : List ℕ} {b : Before} (k : FaultKind) (at : ℕ) → Seen bs es rest b → 0 < length rest → First (checks listing_format es rest) k → at ≡ length bs - length rest → FirstFault listing_format bs (record { kind = k; offset = at })
seen_fault {es = es} {rest} k at s some first e =
    record {
      before = es;
      rest = rest;
      bytes = s.bytes;
      each = s.each;
      place = omega (arith, e, ap length s.bytes, length-append (encoding listing_format es) rest);
      wrong = inl (some, first);
    }
