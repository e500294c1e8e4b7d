-- What opening answers is the book of the case that the bytes are or the fault that they have, and they have no other.
use Rattle.std.proofs.Common.{◌≡◌, ℕ, ◌<◌, true, false, ◌&&◌, ◌⊎◌, List, map, length, Ok, Err, Result, sym, refl, ap, ◌∙◌, subst, inl, inr, ⊎_elim, arith, MatchResult}
use Rattle.std.specs.List.{list_all}
use Rattle.std.proofs.lemmas.List.{length-map}
use Rattle.std.proofs.lemmas.Bool.{cases_Bool, both_ways, lt-leb, and_left, and_parts}
use Rattle.fields.specs.Files.{IsFile, Told as Field-told}
use Rattle.fields.specs.declared.fault.ReadError.{ReadError}
use Rattle.fields.specs.declared.fault.ReadError.TheVariants.{Memory as NoMemory, Field as BadField}
use Rattle.fields.proofs.Laws.{one_reading, never_both, one_fault}
use Rattle.case_fields.specs.Entries.{Entry}
use Rattle.case_fields.specs.Cases.{case_format}
use Rattle.case_fields.proofs.Lawful.{lawful}
use Rattle.books.specs.declared.fault.BookFault.{BookFault}
use Rattle.books.specs.declared.fault.BookFault.TheVariants.{Field, TooLarge, NoRoom, UnfitRow, ShortBuffer}
use Rattle.books.specs.declared.fault.BookError.{BookError}
use Rattle.books.specs.declared.fault.BookError.TheVariants.{Memory, Fault}
use Rattle.books.specs.Faults.{book_error}
use Rattle.books.specs.Lists.{FullRow}
use Rattle.books.specs.Conditions.{every, few, sound, sound_column, sound_row}
use Rattle.case_columns.specs.declared.name.Named.{Named}
use Rattle.case_columns.specs.Columns.{columns}
use Rattle.clauses.specs.Rows.{row_of}
use Rattle.clauses.specs.Stored.{holds_row}
use Rattle.clauses.specs.Clauses.{clauses}
use Rattle.clause_book.specs.declared.book.ClauseBook.{ClauseBook}
use Rattle.clause_book.specs.CaseLists.{lists_of, case_lists}
use Rattle.clause_book.specs.Books.{clause_lists, named_in}
use Rattle.clause_book.specs.Opening.{BookOf, Opened, IsTooLarge, ToldFault, Told}
use Rattle.clause_book.proofs.Held.{out_of_range}
use Rattle.clause_book.proofs.Sounded.{case_sound}
use Rattle.clause_book.proofs.Numbering.{numbered}

-- lists that keep the conditions are few
sound_few : (es : List Entry) → sound (case_lists es) ≡ true → few (case_lists es) ≡ true
unfolding sound
sound_few es h =
    let b = case_lists es in
    let columns = every sound_column b.columns in
    (and_parts (few b) columns (and_parts (few b && columns) (every (sound_row (length b.columns)) b.rows) h).0).0

-- the lists of a well formed case keep the conditions exactly when they are few
pub sound_is_few : (bs : List ℕ) (es : List Entry) → IsFile case_format bs es → sound (case_lists es) ≡ few (case_lists es)
sound_is_few bs es i =
    ⊎_elim (λ t. case_sound bs es i t ∙ sym t)
    (λ f. ⊎_elim (λ s. absurd (both_ways (few (case_lists es)) f (sound_few es s))) (λ n. n ∙ sym f) (cases_Bool (sound (case_lists es))))
    (cases_Bool (few (case_lists es)))

module _ (bs : List ℕ) where
  -- bytes are at most one case
  one_case : (d e : List Entry) → IsFile case_format bs d → IsFile case_format bs e → d ≡ e
  one_case d e = one_reading case_format lawful bs d e

  -- the case of a book has no fault
  no_fault : (es : List Entry) → IsFile case_format bs es → few (case_lists es) ≡ true → (f : BookFault) → ToldFault bs f → ⊥
  no_fault es i w (Field f) t = never_both case_format lawful bs es f i t
  no_fault es i w (TooLarge n) t =
      let many = t.1 in
      both_ways (few (case_lists es)) (ap (λ (l : List Entry). few (case_lists l)) (one_case es many.entries i many.file) ∙ many.many) w
  no_fault es i w (NoRoom n) t = t
  no_fault es i w (UnfitRow n) t = t
  no_fault es i w (ShortBuffer n) t = t

  -- bytes have at most one fault
  fault_one : (f g : BookFault) → ToldFault bs f → ToldFault bs g → f ≡ g
  fault_one (Field f) (Field g) s t = ap Field (one_fault case_format lawful bs f g s t)
  fault_one (Field f) (TooLarge n) s t = absurd (never_both case_format lawful bs _ f t.1.file s)
  fault_one (Field f) (NoRoom n) s t = absurd t
  fault_one (Field f) (UnfitRow n) s t = absurd t
  fault_one (Field f) (ShortBuffer n) s t = absurd t
  fault_one (TooLarge m) (Field g) s t = absurd (never_both case_format lawful bs _ g s.1.file t)
  fault_one (TooLarge m) (TooLarge n) s t = ap TooLarge (s.0 ∙ sym t.0)
  fault_one (TooLarge m) (NoRoom n) s t = absurd t
  fault_one (TooLarge m) (UnfitRow n) s t = absurd t
  fault_one (TooLarge m) (ShortBuffer n) s t = absurd t
  fault_one (NoRoom m) g s t = absurd s
  fault_one (UnfitRow m) g s t = absurd s
  fault_one (ShortBuffer m) g s t = absurd s

  -- so an answer that tells the book or the fault tells the only one
  abbrev pub Reads : Result ClauseBook BookError → Type 0
  Reads r = MatchResult r (Opened bs) (Told bs)

  -- the lists of a book are few
  book_few : (b : ClauseBook) (es : List Entry) → BookOf es b → few (case_lists es) ≡ true
  book_few b es o = sound_few es (ap sound (sym o.lists) ∙ b.book.checked)

  pub accepts_only : (r : Result ClauseBook BookError) → Reads r → (es : List Entry) → IsFile case_format bs es → few (case_lists es) ≡ true → MatchResult r (BookOf es) (λ e. e ≡ Memory)
  accepts_only (Ok b) h es i w =
      subst (λ (l : List Entry). BookOf l b) (one_case h.entries es h.file i) h.book
  accepts_only (Err Memory) h es i w = refl
  accepts_only (Err (Fault f)) h es i w = absurd (no_fault es i w f h)

  pub refuses_only : (r : Result ClauseBook BookError) → Reads r → (f : BookFault) → ToldFault bs f → MatchResult r (λ _. ⊥) (λ e. (e ≡ Memory) ⊎ (e ≡ Fault f))
  refuses_only (Ok b) h f t = no_fault h.entries h.file (book_few b h.entries h.book) f t
  refuses_only (Err Memory) h f t = inl refl
  refuses_only (Err (Fault g)) h f t = inr (ap Fault (fault_one g f h t))

  -- a refusal of the field layer
  pub refused_reads : (e : ReadError) → Field-told case_format bs e → Told bs (book_error e)
  refused_reads NoMemory h = tt
  refused_reads (BadField f) h = h

-- records that are a case are too many where their lists do not keep the conditions
too_large : (bs : List ℕ) (es : List Entry) → IsFile case_format bs es → sound (case_lists es) ≡ false → IsTooLarge bs
too_large bs es i h =
    record {
      entries = es;
      file = i;
      many = sym (sound_is_few bs es i) ∙ h;
    }

-- the answer of `build`
abbrev pub Built : List Entry → ℕ → Result ClauseBook BookError → Type 0
Built es n r =
    MatchResult r (BookOf es) (λ e. (e ≡ Memory) ⊎ ((e ≡ Fault (TooLarge n)) × (sound (case_lists es) ≡ false)))

pub built_reads : (bs : List ℕ) (es : List Entry) → IsFile case_format bs es → (r : Result ClauseBook BookError) → Built es (length bs) r → Reads bs r
built_reads bs es i (Ok b) h = record { entries = es; file = i; book = h; numbered = numbered bs es i }
built_reads bs es i (Err e) (inl h) = subst (Told bs) (sym h) tt
built_reads bs es i (Err e) (inr h) = subst (Told bs) (sym h.0) (refl, too_large bs es i h.1)

-- lists with too many columns do not keep the conditions
pub many_columns : (es : List Entry) → 4000 < length (columns es) → sound (case_lists es) ≡ false
unfolding sound case_lists
many_columns es h =
    let column = λ (c : Named). c.column in
    let long = length-map (columns es) column in
    let n = lt-leb (length (map column (columns es))) 4000 (omega (arith, long, h)) in
    and_left _ _ (and_left _ _ (and_left _ _ (and_left _ _ n)))

-- columns and rows that were built are the lists of the case
pub lists_built : (es : List Entry) (cs : List Named) (rs : List FullRow) → cs ≡ columns es → rs ≡ map (row_of cs) (clauses es) → lists_of cs rs ≡ case_lists es
unfolding case_lists
lists_built es cs rs p q =
    let rows = q ∙ ap (λ (l : List Named). map (row_of l) (clauses es)) p in
    λ i. lists_of (p i) (rows i)

-- the answer of `assemble`
abbrev Assembled : List Named → List FullRow → ℕ → Result ClauseBook BookError → Type 0
Assembled cs rs n r =
    MatchResult r (λ b. (clause_lists b ≡ lists_of cs rs) × (named_in b ≡ cs)) (λ e. (e ≡ Memory) ⊎ ((e ≡ Fault (TooLarge n)) × (sound (lists_of cs rs) ≡ false)))

pub assembled_built : (es : List Entry) (cs : List Named) (rs : List FullRow) (n : ℕ) → cs ≡ columns es → rs ≡ map (row_of cs) (clauses es) → (r : Result ClauseBook BookError) → Assembled cs rs n r → Built es n r
assembled_built es cs rs n p q (Ok b) h = record { lists = h.0 ∙ lists_built es cs rs p q; names = h.1 ∙ p }
assembled_built es cs rs n p q (Err e) (inl h) = inl h
assembled_built es cs rs n p q (Err e) (inr h) = inr (h.0, ap sound (sym (lists_built es cs rs p q)) ∙ h.1)

-- rows that are out of range are those of lists that do not keep the conditions
pub rows_refused : (es : List Entry) (cs : List Named) (n : ℕ) (e : BookError) → cs ≡ columns es → (e ≡ Memory) ⊎ ((e ≡ Fault (TooLarge n)) × (list_all holds_row (map (row_of cs) (clauses es)) ≡ false)) → (e ≡ Memory) ⊎ ((e ≡ Fault (TooLarge n)) × (sound (case_lists es) ≡ false))
rows_refused es cs n e p (inl h) = inl h
rows_refused es cs n e p (inr h) =
    inr (h.0, ap sound (sym (lists_built es cs (map (row_of cs) (clauses es)) p refl)) ∙ out_of_range cs (map (row_of cs) (clauses es)) h.1)
