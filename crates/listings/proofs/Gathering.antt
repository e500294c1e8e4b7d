-- What one record adds to the columns and the rows.
use Rattle.std.proofs.Common.{◌≡◌, ◌+◌, ◌<◌, false, List, [], ◌∷◌, ◌++◌, map, length, sym, refl, ap, ◌∙◌, ⊎_elim, arith}
use Rattle.std.proofs.lemmas.Bool.{cases_Bool}
use Rattle.std.proofs.lemmas.List.{append-nil, length-map, map_push}
use Rattle.listing_fields.specs.Entries.{Entry}
use Rattle.listing_fields.specs.Entries.Entry.{column, row}
use Rattle.books.specs.declared.part.Column.{Column}
use Rattle.books.specs.Lists.{FullRow}
use Rattle.books.specs.Conditions.{sound}
use Rattle.books.proofs.Sounds.{sound_parts}
use Rattle.stored_book.specs.declared.row.StoredRow.{StoredRow}
use Rattle.stored_book.specs.Stored.{full_row, stored_lists}
use Rattle.listings.specs.Listed.{column_entry, row_entry, column_of, row_of, columns_given, rows_given, given}
use Rattle.listings.proofs.Tested.{column_forth, row_forth}

columns_push : (es : List Entry) (e : Entry) → columns_given (es ++ e ∷ []) ≡ columns_given es ++ columns_given (e ∷ [])
columns_push [] e = refl
columns_push (column c ∷ es) e = ap (λ l. column_of c ∷ l) (columns_push es e)
columns_push (row r ∷ es) e = columns_push es e

rows_push : (es : List Entry) (e : Entry) → rows_given (es ++ e ∷ []) ≡ rows_given es ++ rows_given (e ∷ [])
rows_push [] e = refl
rows_push (column c ∷ es) e = rows_push es e
rows_push (row r ∷ es) e = ap (λ l. row_of r ∷ l) (rows_push es e)

module _ (cs cs' : List Column) (rs rs' : List StoredRow) (es es' : List Entry) (e : Entry) (gathered : stored_lists cs rs ≡ given es) (more : es' ≡ es ++ e ∷ []) where
  -- a column more, which a call took for c
  pub column_more : (b c : Column) → b ≡ c → e ≡ column_entry c → cs' ≡ cs ++ b ∷ [] → rs' ≡ rs → stored_lists cs' rs' ≡ given es'
  column_more b c same is pushed rows =
      let columns = pushed ∙ (λ i. (gathered i).columns ++ same i ∷ []) ∙ ap (λ d. columns_given es ++ d ∷ []) (sym (column_forth c)) ∙ sym (columns_push es (column_entry c)) in
      let others = ap (map full_row) rows ∙ (λ i. (gathered i).rows) ∙ sym (append-nil (rows_given es)) ∙ sym (rows_push es (column_entry c)) in
      (λ i. record { columns = columns i; rows = others i }) ∙ ap given (ap (λ d. es ++ d ∷ []) (sym is) ∙ sym more)

  -- a row more
  pub row_more : (r : StoredRow) (f : FullRow) → full_row r ≡ f → e ≡ row_entry f → cs' ≡ cs → rs' ≡ rs ++ r ∷ [] → stored_lists cs' rs' ≡ given es'
  row_more r f same is columns pushed =
      let others = columns ∙ (λ i. (gathered i).columns) ∙ sym (append-nil (columns_given es)) ∙ sym (columns_push es (row_entry f)) in
      let rows =
      ap (map full_row) pushed
      ∙ map_push full_row rs r
      ∙ (λ i. (gathered i).rows ++ same i ∷ [])
      ∙ ap (λ d. rows_given es ++ d ∷ []) (sym (row_forth f))
      ∙ sym (rows_push es (row_entry f)) in
      (λ i. record { columns = others i; rows = rows i }) ∙ ap given (ap (λ d. es ++ d ∷ []) (sym is) ∙ sym more)

-- each record is a column or a row, so more than 8,000 are too many of the one or of the other
given_all : (es : List Entry) → length (columns_given es) + length (rows_given es) ≡ length es
given_all [] = refl
given_all (column c ∷ es) = omega (arith, given_all es)
given_all (row r ∷ es) = omega (arith, given_all es)

pub many_records : {X : Type 0} (f : X → Entry) (xs : List X) → 8000 < length xs → sound (given (map f xs)) ≡ false
many_records f xs h =
    ⊎_elim (λ t. let p = sound_parts (given (map f xs)) t in absurd (omega (arith, h, p.few_columns, p.few_rows, given_all (map f xs), length-map xs f)))
    (λ e. e) (cases_Bool (sound (given (map f xs))))
