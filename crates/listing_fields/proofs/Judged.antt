-- What is wrong with the field that bytes begin with, test by test.
use Rattle.std.proofs.Common.{◌≡◌, ℕ, true, false, List, length, Ok, Err, Result, refl, ap}
use Rattle.std.specs.Prelude.{MatchResult}
use Rattle.std.specs.Iterator.{AlwaysYields, YieldsFirst}
use Rattle.std.proofs.lemmas.Iterator.Consumers.{YieldsList-from_first}
use Rattle.fields.specs.Faults.{First}
use Rattle.fields.specs.Fields.{Begins, Cut}
use Rattle.fields.specs.Files.{checks}
use Rattle.fields.specs.declared.fault.FaultKind.{FaultKind}
use Rattle.fields.specs.declared.sequence.Elements.{Elements}
use Rattle.fields.specs.declared.fault.FaultKind.TheVariants.{PastEnd, UnknownTag, TagOrder, BadLength, OutOfRange, BadReference, TermOrder}
use Rattle.fields.proofs.Laws.{first_past, first_unknown, first_order, first_length, first_range, first_reference, first_terms}
use Rattle.listing_fields.specs.Entries.{Entry}
use Rattle.listing_fields.specs.Entries.Entry.{column, row}
use Rattle.listing_fields.specs.Encoding.{tag, body, Written}
use Rattle.listing_fields.specs.Tests.{known, follows, sized, in_range, refers, in_order}
use Rattle.listing_fields.specs.Listings.{listing_format}
use Rattle.listing_fields.specs.declared.record.ListingRecord.{ListingRecord}
use Rattle.listing_fields.specs.declared.term.Term.{Term}
use Rattle.listing_fields.specs.declared.record.EntryKind.{EntryKind}
use Rattle.listing_fields.specs.declared.record.EntryKind.TheVariants.{Column, Row}
use Rattle.listing_fields.specs.Kinds.{kind_tag}
use Rattle.listing_fields.specs.Terms.{terms_in}
use Rattle.listing_fields.specs.Meant.{meant}
use Rattle.listing_fields.specs.Reading.{Turned, Reads}
use Rattle.listing_fields.proofs.Single.{lawful}

pub known_kind : (k : EntryKind) → known (kind_tag k) ≡ true
known_kind Column = refl
known_kind Row = refl

known_tag : (e : Entry) → known (tag e) ≡ true
known_tag (column c) = refl
known_tag (row r) = refl

module _ (es : List Entry) {bs : List ℕ} where
  pub cut : Cut bs → First (checks listing_format es bs) PastEnd
  cut n = first_past listing_format es n

  module _ {t : ℕ} {b rest : List ℕ} (p : Begins bs t b rest) where
    pub unknown : known t ≡ false → First (checks listing_format es bs) UnknownTag
    unfolding listing_format
    unknown n = first_unknown listing_format es p n

    pub disordered : known t ≡ true → follows es t ≡ false → First (checks listing_format es bs) TagOrder
    unfolding listing_format
    disordered k n = first_order listing_format es p k n

    pub mis_sized : known t ≡ true → follows es t ≡ true → sized t (length b) ≡ false → First (checks listing_format es bs) BadLength
    unfolding listing_format
    mis_sized k o n = first_length listing_format es p k o n

  -- the body was read as that of the field e
  module _ {b rest : List ℕ} (e : Entry) (same : body e ≡ b) (p : Begins bs (tag e) b rest) (w : Written e) (o : follows es (tag e) ≡ true) (l : sized (tag e) (length b) ≡ true) where
    begins : Begins bs (tag e) (body e) rest
    begins = rw same p

    fits_size : sized (tag e) (length (body e)) ≡ true
    fits_size = rw same l

    pub out_of_range : in_range e ≡ false → First (checks listing_format es bs) OutOfRange
    unfolding listing_format
    out_of_range n = first_range listing_format es e begins w (known_tag e) o fits_size n

    module _ (g : in_range e ≡ true) where
      pub misreferring : refers es e ≡ false → First (checks listing_format es bs) BadReference
      unfolding listing_format
      misreferring n = first_reference listing_format es lawful e begins w (known_tag e) o fits_size g n

      module _ (m : refers es e ≡ true) where
        pub unordered : in_order e ≡ false → First (checks listing_format es bs) TermOrder
        unfolding listing_format
        unordered n = first_terms listing_format es lawful e begins w (known_tag e) o fits_size g m n

        pub reads : (d : Entry) → d ≡ e → in_order e ≡ true → Reads es bs rest d
        unfolding listing_format
        reads d e-is h =
            rw e-is (record {
              begins = begins;
              fits =
                  record {
                    short = begins.short;
                    known = known_tag e;
                    follows = o;
                    sized = fits_size;
                    in_range = g;
                    refers = m;
                    in_order = h;
                  };
            })

-- what a field that was read and turned into a record comes to
module _ (es : List Entry) {bs b rest : List ℕ} (e : Entry) (is : (sized (tag e) (length b) ≡ true) × (body e ≡ b) × Written e) (p : Begins bs (tag e) b rest) (o : follows es (tag e) ≡ true) where
  pub refused : (k : FaultKind) → Turned e (Err k) → First (checks listing_format es bs) k
  refused k t = rw t.1 (out_of_range es e is.1 p is.2 o is.0 t.0)

  pub turned : (r : Result ListingRecord FaultKind) → refers es e ≡ true → in_order e ≡ true → Turned e r → MatchResult r (λ v. Reads es bs rest (meant v)) (First (checks listing_format es bs))
  turned (Ok v) m h t = reads es e is.1 p is.2 o is.0 t.0 m (meant v) t.1 h
  turned (Err k) m h t = refused k t

-- the terms that a sequence gives
pub gives_terms : (s : Elements Term) (bs : List ℕ) → s.rest.now ≡ bs → AlwaysYields (YieldsFirst (λ (z : Elements Term). terms_in z.rest.now)) (λ t. t) s (terms_in bs)
gives_terms s bs e = (YieldsList-from_first (λ (t : Term). t) (λ (z : Elements Term). terms_in z.rest.now) (terms_in bs) (ap terms_in e)).runs
