-- What reading answers is the listing that the bytes are or the fault that they have, and they have no other.
use Rattle.std.proofs.Common.{◌≡◌, ℕ, true, false, ◌⊎◌, List, length, Ok, Err, Result, sym, refl, ap, ◌∙◌, subst, inl, inr, ⊎_elim, MatchResult}
use Rattle.std.proofs.lemmas.Bool.{cases_Bool, both_ways}
use Rattle.fields.specs.Files.{encoding, IsFile, Told as Field-told}
use Rattle.fields.specs.declared.fault.ReadError.{ReadError}
use Rattle.fields.specs.declared.fault.ReadError.TheVariants.{Memory as NoMemory, Field as BadField}
use Rattle.fields.proofs.Laws.{one_reading, never_both, one_fault}
use Rattle.listing_fields.specs.Entries.{Entry}
use Rattle.listing_fields.specs.Listings.{listing_format}
use Rattle.listing_fields.proofs.Single.{lawful}
use Rattle.books.specs.declared.fault.BookFault.{BookFault}
use Rattle.books.specs.declared.fault.BookFault.TheVariants.{Field, TooLarge, NoRoom, UnfitRow, ShortBuffer}
use Rattle.books.specs.declared.fault.BookError.{BookError}
use Rattle.books.specs.declared.fault.BookError.TheVariants.{Memory, Fault}
use Rattle.books.specs.Faults.{book_error}
use Rattle.books.specs.Lists.{Lists}
use Rattle.books.specs.Conditions.{few, sound}
use Rattle.listings.specs.declared.book.ListedBook.{ListedBook}
use Rattle.listings.specs.Books.{listed_lists}
use Rattle.listings.specs.Listed.{entries, listing_of, given}
use Rattle.listings.specs.Reading.{IsTooLarge, ToldFault, Told}
use Rattle.listings.proofs.Fews.{sound_few}
use Rattle.listings.proofs.Laws.{listing_file, entries_one, file_given, file_sound}

module _ (bs : List ℕ) where
  file_of : (b : Lists) → sound b ≡ true → bs ≡ listing_of b → IsFile listing_format bs (entries b)
  file_of b s e = subst (λ l. IsFile listing_format l (entries b)) (sym e) (listing_file b s)

  -- bytes are the listing of at most one sound book
  listing_one : (a b : Lists) → sound a ≡ true → sound b ≡ true → bs ≡ listing_of a → bs ≡ listing_of b → a ≡ b
  listing_one a b s t d e =
      entries_one a b (one_reading listing_format lawful bs (entries a) (entries b) (file_of a s d) (file_of b t e))

  -- and then they have no fault
  no_fault : (b : Lists) → sound b ≡ true → bs ≡ listing_of b → (f : BookFault) → ToldFault bs f → ⊥
  no_fault b s e (Field f) t = never_both listing_format lawful bs (entries b) f (file_of b s e) t
  no_fault b s e (TooLarge n) t =
      let many = t.1 in
      let same = entries_one many.lists b (one_reading listing_format lawful bs (entries many.lists) (entries b) many.file (file_of b s e)) in
      both_ways (few many.lists) many.many (ap few same ∙ sound_few b s)
  no_fault b s e (NoRoom n) t = t
  no_fault b s e (UnfitRow n) t = t
  no_fault b s e (ShortBuffer n) t = t

  -- bytes have at most one fault
  fault_one : (f g : BookFault) → ToldFault bs f → ToldFault bs g → f ≡ g
  fault_one (Field f) (Field g) s t = ap Field (one_fault listing_format lawful bs f g s t)
  fault_one (Field f) (TooLarge n) s t = absurd (never_both listing_format lawful bs _ f t.1.file s)
  fault_one (Field f) (NoRoom n) s t = absurd t
  fault_one (Field f) (UnfitRow n) s t = absurd t
  fault_one (Field f) (ShortBuffer n) s t = absurd t
  fault_one (TooLarge m) (Field g) s t = absurd (never_both listing_format lawful bs _ g s.1.file t)
  fault_one (TooLarge m) (TooLarge n) s t = ap TooLarge (s.0 ∙ sym t.0)
  fault_one (TooLarge m) (NoRoom n) s t = absurd t
  fault_one (TooLarge m) (UnfitRow n) s t = absurd t
  fault_one (TooLarge m) (ShortBuffer n) s t = absurd t
  fault_one (NoRoom m) g s t = absurd s
  fault_one (UnfitRow m) g s t = absurd s
  fault_one (ShortBuffer m) g s t = absurd s

  -- so an answer that tells the listing or the fault tells the only one
  abbrev pub Reads : Result ListedBook BookError → Type 0
  Reads r = MatchResult r (λ b. bs ≡ listing_of (listed_lists b)) (Told bs)

  pub accepts_only : (r : Result ListedBook BookError) → Reads r → (b : Lists) → sound b ≡ true → bs ≡ listing_of b → MatchResult r (λ v. listed_lists v ≡ b) (λ e. e ≡ Memory)
  accepts_only (Ok v) h b s e = listing_one (listed_lists v) b v.book.checked s h e
  accepts_only (Err Memory) h b s e = refl
  accepts_only (Err (Fault f)) h b s e = absurd (no_fault b s e f h)

  pub refuses_only : (r : Result ListedBook BookError) → Reads r → (f : BookFault) → ToldFault bs f → MatchResult r (λ _. ⊥) (λ e. (e ≡ Memory) ⊎ (e ≡ Fault f))
  refuses_only (Ok v) h f t = no_fault (listed_lists v) v.book.checked h f t
  refuses_only (Err Memory) h f t = inl refl
  refuses_only (Err (Fault g)) h f t = inr (ap Fault (fault_one g f h t))

  -- a refusal of the field layer
  pub refused_reads : (e : ReadError) → Field-told listing_format bs e → Told bs (book_error e)
  refused_reads NoMemory h = tt
  refused_reads (BadField f) h = h

-- fields that are a file are too many where the lists that they give are not sound
too_large : (bs : List ℕ) (es : List Entry) → IsFile listing_format bs es → sound (given es) ≡ false → IsTooLarge bs
too_large bs es i h =
    record {
      lists = given es;
      file = subst (IsFile listing_format bs) (sym (file_given bs es i)) i;
      many = ⊎_elim (λ t. absurd (both_ways (sound (given es)) h (file_sound bs es i t))) (λ f. f) (cases_Bool (few (given es)));
    }

-- the answer of `build`
abbrev pub Built : List Entry → ℕ → Result ListedBook BookError → Type 0
Built es n r =
    MatchResult r (λ b. listed_lists b ≡ given es) (λ e. (e ≡ Memory) ⊎ ((e ≡ Fault (TooLarge n)) × (sound (given es) ≡ false)))

pub built_reads : (bs : List ℕ) (es : List Entry) → IsFile listing_format bs es → (r : Result ListedBook BookError) → Built es (length bs) r → Reads bs r
unfolding listing_of
built_reads bs es i (Ok b) h =
    i.bytes ∙ ap (encoding listing_format) (sym (file_given bs es i)) ∙ ap listing_of (sym h)
built_reads bs es i (Err e) (inl h) = subst (Told bs) (sym h) tt
built_reads bs es i (Err e) (inr h) = subst (Told bs) (sym h.0) (refl, too_large bs es i h.1)
