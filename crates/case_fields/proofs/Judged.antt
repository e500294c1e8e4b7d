-- The tests of the field that bytes begin with, as the code makes them.
use Rattle.std.proofs.Common.{◌≡◌, ℕ, Bool, true, false, eqb, List, length, Some, None, Option, sym, refl, ap, ◌∙◌, subst, eqb-true}
use Rattle.fields.specs.Faults.{First}
use Rattle.fields.specs.Fields.{Begins}
use Rattle.fields.specs.Files.{checks}
use Rattle.fields.specs.declared.fault.FaultKind.{FaultKind}
use Rattle.fields.specs.declared.fault.FaultKind.TheVariants.{UnknownTag, TagOrder, BadLength, OutOfRange, BadReference}
use Rattle.fields.proofs.Laws.{first_unknown, first_order, first_length, first_range, first_reference}
use Rattle.case_fields.specs.declared.kind.RecordKind.{RecordKind}
use Rattle.case_fields.specs.declared.kind.RecordKind.TheVariants.{Period, Node, Line, EnergyOffer, Bid, RegulationOffer, Requirement}
use Rattle.case_fields.specs.declared.summary.Summary.{Summary}
use Rattle.case_fields.specs.Cases.{case_format}
use Rattle.case_fields.specs.Encoding.{tag, body}
use Rattle.case_fields.specs.Entries.{Entry}
use Rattle.case_fields.specs.Kinds.{choose, tag_of, kind, takes}
use Rattle.case_fields.specs.Parsed.{Holds}
use Rattle.case_fields.specs.Read.{Next}
use Rattle.case_fields.specs.Summaries.{SumsUp, last_tag}
use Rattle.case_fields.specs.Tests.{tag_of_last, in_turn, known, follows, sized, in_range, refers}
use Rattle.case_fields.proofs.Lawful.{lawful}

-- the kind of a tag has that tag
chosen : (t n : ℕ) (k j : RecordKind) (o : Option RecordKind) (b : Bool) → eqb t n ≡ b → tag_of j ≡ n → Some k ≡ choose b j o → (Some k ≡ o → tag_of k ≡ t) → tag_of k ≡ t
chosen t n k j o true e named s rest =
    let same : k ≡ j = cc in
    ap tag_of same ∙ named ∙ sym (eqb-true t n e)
chosen t n k j o false e named s rest = rest s

kind_tag : (t : ℕ) (k : RecordKind) → Some k ≡ kind t → tag_of k ≡ t
kind_tag t k s =
    chosen t 1 k Period _ (eqb t 1) refl refl s (λ s. chosen t 2 k Node _ (eqb t 2) refl refl s (λ s. chosen t 3 k Line _ (eqb t 3) refl refl s (λ s. chosen t 4 k EnergyOffer _ (eqb t 4) refl refl s (λ s. chosen t 5 k Bid _ (eqb t 5) refl refl s (λ s. chosen t 6 k RegulationOffer _ (eqb t 6) refl refl s (λ s. chosen t 15 k Requirement None (eqb t 15) refl refl s (λ s. cc)))))))

module _ {s : Summary} {es : List Entry} (u : SumsUp s es) {bs : List ℕ} {t : ℕ} {b r : List ℕ} (p : Begins bs t b r) where
  pub unknown : (k : FaultKind) → k ≡ UnknownTag → None ≡ kind t → First (checks case_format es bs) k
  unfolding case_format
  unknown k is none =
      subst (First (checks case_format es bs)) (sym is) (first_unknown case_format es p (sym (ap (λ (o : Option RecordKind). elim o [ Some j ↦ true | None ↦ false ]) none)))

  module _ {k : RecordKind} (some : Some k ≡ kind t) where
    is_known : known t ≡ true
    is_known = sym (ap (λ (o : Option RecordKind). elim o [ Some j ↦ true | None ↦ false ]) some)

    follows_is : follows es t ≡ in_turn (last_tag s.last) k (tag_of k)
    follows_is =
        sym (ap (λ (o : Option RecordKind). elim o [ Some j ↦ in_turn (tag_of_last es) j t | None ↦ false ]) some)
        ∙ sym (ap (λ l. in_turn l k t) u.last)
        ∙ ap (in_turn (last_tag s.last) k) (sym (kind_tag t k some))

    sized_is : (n : ℕ) → sized t n ≡ takes k n
    sized_is n = sym (ap (λ (o : Option RecordKind). elim o [ Some j ↦ takes j n | None ↦ false ]) some)

    pub out_of_turn : false ≡ in_turn (last_tag s.last) k (tag_of k) → First (checks case_format es bs) TagOrder
    unfolding case_format
    out_of_turn n = first_order case_format es p is_known (follows_is ∙ sym n)

    module _ (turn : true ≡ in_turn (last_tag s.last) k (tag_of k)) where
      pub unfit_length : (f : FaultKind) → f ≡ BadLength → takes k (length b) ≡ false → First (checks case_format es bs) f
      unfolding case_format
      unfit_length f is n =
          subst (First (checks case_format es bs)) (sym is) (first_length case_format es p is_known (follows_is ∙ sym turn) (sized_is (length b) ∙ n))

      module _ (long : takes k (length b) ≡ true) {e : Entry} (h : Holds b (tag_of k) e) where
        tag_is : tag e ≡ t
        tag_is = h.tagged ∙ kind_tag t k some

        begins : Begins bs (tag e) (body e) r
        begins = rw (tag_is, ← h.bytes) p

        known_v : known (tag e) ≡ true
        known_v = ap known tag_is ∙ is_known

        follows_v : follows es (tag e) ≡ true
        follows_v = ap (follows es) tag_is ∙ follows_is ∙ sym turn

        sized_v : sized (tag e) (length (body e)) ≡ true
        sized_v = (λ i. sized (tag_is i) (length (sym h.bytes i))) ∙ sized_is (length b) ∙ long

        pub out_of_range : false ≡ in_range e → First (checks case_format es bs) OutOfRange
        unfolding case_format
        out_of_range n = first_range case_format es e begins h.written known_v follows_v sized_v (sym n)

        module _ (range : true ≡ in_range e) where
          pub no_reference : false ≡ refers es e → First (checks case_format es bs) BadReference
          unfolding case_format
          no_reference n =
              first_reference case_format es lawful e begins h.written known_v follows_v sized_v (sym range) (sym n)

          pub next : true ≡ refers es e → Next es bs e r
          unfolding case_format
          next n =
              record {
                begins = begins;
                fits = record { short = begins.short; known = known_v; follows = follows_v; sized = sized_v; in_range = sym range; refers = sym n; in_order = refl };
              }
