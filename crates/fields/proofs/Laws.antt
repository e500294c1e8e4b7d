-- The laws of files, in any format: bytes have at most one reading, at most one first fault, and never both.
use Rattle.std.proofs.Common.{◌≡◌, ℕ, ◌+◌, ◌<◌, true, false, cond, eqb, ◌⊎◌, List, [], ◌∷◌, ◌++◌, length, Ok, Err, Result, sym, refl, ap, ◌∙◌, subst, inl, inr, ⊎_elim, arith, MatchResult}
use Rattle.std.proofs.lemmas.List.{append-nil, append_assoc, flat_map_more}
use Rattle.std.proofs.lemmas.Bool.{both_ways, cases_order}
use Rattle.fields.specs.declared.fault.FaultKind.{FaultKind}
use Rattle.fields.specs.declared.fault.FaultKind.TheVariants.{PastEnd, UnknownTag, TagOrder, BadLength, OutOfRange, BadReference, TermOrder}
use Rattle.fields.specs.declared.fault.FieldFault.{FieldFault}
use Rattle.fields.specs.declared.fault.ReadError.{ReadError}
use Rattle.fields.specs.declared.fault.ReadError.TheVariants.{Memory, Field}
use Rattle.fields.specs.Faults.{Checks, rule, First}
use Rattle.fields.specs.Fields.{Begins, Cut, InField}
use Rattle.fields.specs.Files.{Format, encode, encoding, Fits, Fit, IsFile, InRecord, checks, Wrong, FirstFault, Told}
use Rattle.fields.specs.Lawful.{Lawful}
use Rattle.fields.proofs.Heads.{field_one, field_some, begins_one}

-- the fault of a number
abbrev numbered : ℕ → FaultKind
numbered n =
    cond (eqb n 1) PastEnd
    (cond (eqb n 2) UnknownTag
    (cond (eqb n 3) TagOrder
    (cond (eqb n 4) BadLength
    (cond (eqb n 5) OutOfRange
    (cond (eqb n 6) BadReference TermOrder)))))

numbered_number : (k : FaultKind) → numbered (rule k).number ≡ k
numbered_number PastEnd = refl
numbered_number UnknownTag = refl
numbered_number TagOrder = refl
numbered_number BadLength = refl
numbered_number OutOfRange = refl
numbered_number BadReference = refl
numbered_number TermOrder = refl

-- faults of one number are one
number_one : (j k : FaultKind) → (rule j).number ≡ (rule k).number → j ≡ k
number_one j k e = sym (numbered_number j) ∙ ap numbered e ∙ numbered_number k

-- the numbers are 1 to 6, and 8
numbers : (k : FaultKind) → (0 < (rule k).number) × (((rule k).number < 7) ⊎ ((rule k).number ≡ 8))
numbers PastEnd = (omega arith, inl (omega arith))
numbers UnknownTag = (omega arith, inl (omega arith))
numbers TagOrder = (omega arith, inl (omega arith))
numbers BadLength = (omega arith, inl (omega arith))
numbers OutOfRange = (omega arith, inl (omega arith))
numbers BadReference = (omega arith, inl (omega arith))
numbers TermOrder = (omega arith, inr refl)

-- a field is refused for at most one fault
pub first_one : (c : Checks) (j k : FaultKind) → First c j → First c k → j ≡ k
first_one c j k p q =
    ⊎_elim (number_one j k)
    (λ s. absurd (⊎_elim (λ l. q.none_lower j l p.applies) (λ l. p.none_lower k l q.applies) s))
    (cases_order (rule j).number (rule k).number)

-- no fault of a number below n applies
abbrev pub NoneBelow : Checks → ℕ → Type 0
NoneBelow c n = (j : FaultKind) → (rule j).number < n → (rule j).applies c → ⊥

-- from one number to the next; from the start; over 7, which no fault has; and to the end
pub none_more : (c : Checks) (k : FaultKind) → NoneBelow c (rule k).number → ((rule k).applies c → ⊥) → NoneBelow c ((rule k).number + 1)
none_more c k none not j l a =
    ⊎_elim (λ e. not (subst (λ (i : FaultKind). (rule i).applies c) (number_one j k e) a))
    (λ s. none j (⊎_elim (λ h. h) (λ h. absurd (omega arith)) s) a)
    (cases_order (rule j).number (rule k).number)

pub none_first : (c : Checks) → NoneBelow c 1
none_first c j l a = let n = numbers j in omega arith

none_seventh : (c : Checks) → NoneBelow c 7 → NoneBelow c 8
none_seventh c none j l a = ⊎_elim (λ h. none j h a) (λ h. omega arith) (numbers j).1

none_at_all : (c : Checks) → NoneBelow c 9 → (k : FaultKind) → (rule k).applies c → ⊥
none_at_all c none k a = none k (⊎_elim (λ h. omega arith) (λ h. omega arith) (numbers k).1) a

-- bytes begin with one field: what holds in it holds of the tag and body that are known
pub in_field : {bs : List ℕ} {t : ℕ} {b r : List ℕ} (P : ℕ → List ℕ → List ℕ → Type 0) → Begins bs t b r → InField bs P → P t b r
in_field P p i = let s = begins_one p i.begins in rw (s.0, s.1, s.2) i.holds

-- the same of the record whose field it is
in_record : {E : Type 0} (f : Format E) → Lawful f → {bs r : List ℕ} (P : E → Type 0) (e : E) → Begins bs (f.tag e) (f.body e) r → f.Written e → InRecord f bs P → P e
in_record f lawful P e p w i =
    let s = begins_one i.begins p in
    subst P (lawful.one i.entry e s.0 s.1 i.written w) i.holds

-- The tests of a field, in order. A test that the field passes rules out one fault more, and the first that it fails gives the field's fault.
module _ {E : Type 0} (f : Format E) (before : List E) where
  pub first_past : {bs : List ℕ} → Cut bs → First (checks f before bs) PastEnd
  first_past {bs} cut = record { applies = cut; none_lower = none_first (checks f before bs) }

  module _ {bs : List ℕ} {t : ℕ} {b r : List ℕ} (p : Begins bs t b r) where
    none_whole : NoneBelow (checks f before bs) 2
    none_whole = none_more (checks f before bs) PastEnd (none_first (checks f before bs)) (λ cut. cut t b r p)

    pub first_unknown : f.known t ≡ false → First (checks f before bs) UnknownTag
    first_unknown n = record { applies = record { tag = t; body = b; rest = r; begins = p; holds = n }; none_lower = none_whole }

    module _ (k : f.known t ≡ true) where
      none_known : NoneBelow (checks f before bs) 3
      none_known =
          none_more (checks f before bs) UnknownTag none_whole
          (λ i. both_ways (f.known t) (in_field (λ u d s. f.known u ≡ false) p i) k)

      pub first_order : f.follows before t ≡ false → First (checks f before bs) TagOrder
      first_order n = record { applies = record { tag = t; body = b; rest = r; begins = p; holds = n }; none_lower = none_known }

      module _ (o : f.follows before t ≡ true) where
        none_follows : NoneBelow (checks f before bs) 4
        none_follows =
            none_more (checks f before bs) TagOrder none_known
            (λ i. both_ways (f.follows before t) (in_field (λ u d s. f.follows before u ≡ false) p i) o)

        pub first_length : f.sized t (length b) ≡ false → First (checks f before bs) BadLength
        first_length n = record { applies = record { tag = t; body = b; rest = r; begins = p; holds = n }; none_lower = none_follows }

        none_sized : f.sized t (length b) ≡ true → NoneBelow (checks f before bs) 5
        none_sized l =
            none_more (checks f before bs) BadLength none_follows
            (λ i. both_ways (f.sized t (length b)) (in_field (λ u d s. f.sized u (length d) ≡ false) p i) l)

  pub first_range : {bs r : List ℕ} (e : E) → Begins bs (f.tag e) (f.body e) r → f.Written e → f.known (f.tag e) ≡ true → f.follows before (f.tag e) ≡ true → f.sized (f.tag e) (length (f.body e)) ≡ true → f.in_range e ≡ false → First (checks f before bs) OutOfRange
  first_range {r = r} e p w k o l n =
      record { applies = record { entry = e; rest = r; begins = p; written = w; holds = n }; none_lower = none_sized p k o l }

  -- from here on the field must be that of no other record
  module _ (lawful : Lawful f) {bs r : List ℕ} (e : E) (p : Begins bs (f.tag e) (f.body e) r) (w : f.Written e) (k : f.known (f.tag e) ≡ true) (o : f.follows before (f.tag e) ≡ true) (l : f.sized (f.tag e) (length (f.body e)) ≡ true) (g : f.in_range e ≡ true) where
    none_range : NoneBelow (checks f before bs) 6
    none_range =
        none_more (checks f before bs) OutOfRange (none_sized p k o l)
        (λ i. both_ways (f.in_range e) (in_record f lawful (λ d. f.in_range d ≡ false) e p w i) g)

    pub first_reference : f.refers before e ≡ false → First (checks f before bs) BadReference
    first_reference n =
        record { applies = record { entry = e; rest = r; begins = p; written = w; holds = n }; none_lower = none_range }

    module _ (m : f.refers before e ≡ true) where
      none_reference : NoneBelow (checks f before bs) 8
      none_reference =
          none_seventh (checks f before bs)
          (none_more (checks f before bs) BadReference none_range
          (λ i. both_ways (f.refers before e) (in_record f lawful (λ d. f.refers before d ≡ false) e p w i) m))

      pub first_terms : f.in_order e ≡ false → First (checks f before bs) TermOrder
      first_terms n =
          record { applies = record { entry = e; rest = r; begins = p; written = w; holds = n }; none_lower = none_reference }

      none_terms : f.in_order e ≡ true → NoneBelow (checks f before bs) 9
      none_terms h =
          none_more (checks f before bs) TermOrder none_reference
          (λ i. both_ways (f.in_order e) (in_record f lawful (λ d. f.in_order d ≡ false) e p w i) h)

-- one record more behind those that fit, and its bytes behind theirs
pub fit_push : {E : Type 0} (f : Format E) (before es : List E) (e : E) → Fit f before es → Fits f (before ++ es) e → Fit f before (es ++ e ∷ [])
fit_push f before [] e p q = (rw append-nil at q, tt)
fit_push f before (d ∷ es) e p q = (p.0, fit_push f (before ++ d ∷ []) es e p.1 (rw append_assoc q))

pub encoding_push : {E : Type 0} (f : Format E) (es : List E) (e : E) → encoding f (es ++ e ∷ []) ≡ encoding f es ++ encode f e
encoding_push f es e = sym (flat_map_more (encode f) [] es e)

module _ {E : Type 0} (f : Format E) (lawful : Lawful f) where
  -- nothing is wrong where a record follows that fits
  sound : (before : List E) (e : E) (x : List ℕ) (k : FaultKind) → Fits f before e → Wrong f before (encode f e ++ x) k → ⊥
  sound before e x k p (inl w) =
      none_at_all (checks f before (encode f e ++ x))
      (none_terms f before lawful e (record { bytes = refl; short = p.short }) (lawful.written e p.in_range) p.known p.follows p.sized p.in_range p.refers p.in_order)
      k w.1.applies
  sound before e x k p (inr w) = field_some (f.tag e) (f.body e) x w.0

  -- after the records ds, the bytes x begin with a record that fits
  record Goes_on (before ds : List E) (x : List ℕ) : Type 0 where
    next : E
    rest : List ℕ
    fits : Fits f (before ++ ds) next
    bytes : x ≡ encode f next ++ rest

  goes_further : (before ds : List E) (x : List ℕ) (d : E) → Goes_on (before ++ d ∷ []) ds x → Goes_on before (d ∷ ds) x
  goes_further before ds x d g = record { next = g.next; rest = g.rest; fits = rw append_assoc at g.fits; bytes = g.bytes }

  -- two runs of records at the front of the same bytes are one, or after one of them a record follows that fits
  compare : (before ds es : List E) (x y : List ℕ) → Fit f before ds → Fit f before es → encoding f ds ++ x ≡ encoding f es ++ y → ((ds ≡ es) × (x ≡ y)) ⊎ (Goes_on before ds x ⊎ Goes_on before es y)
  compare before [] [] x y p q e = inl (refl, e)
  compare before [] (c ∷ es) x y p q e =
      inr (inl (record { next = c; rest = encoding f es ++ y; fits = rw append-nil q.0; bytes = e ∙ append_assoc (encode f c) (encoding f es) y }))
  compare before (d ∷ ds) [] x y p q e =
      inr (inr (record { next = d; rest = encoding f ds ++ x; fits = rw append-nil p.0; bytes = sym e ∙ append_assoc (encode f d) (encoding f ds) x }))
  compare before (d ∷ ds) (c ∷ es) x y p q e =
      let s = field_one (f.tag d) (f.tag c) (f.body d) (f.body c) (encoding f ds ++ x) (encoding f es ++ y) p.0.short q.0.short (simp append_assoc at e) in
      let same : c ≡ d = lawful.one c d (sym s.0) (sym s.1) (lawful.written c q.0.in_range) (lawful.written d p.0.in_range) in
      let fit : Fit f (before ++ d ∷ []) es = subst (λ (b : E). Fit f (before ++ b ∷ []) es) same q.1 in
      rw same
      (⊎_elim (λ h. inl (ap (λ (l : List E). d ∷ l) h.0, h.1))
      (λ h. inr (⊎_elim (λ g. inl (goes_further before ds x d g)) (λ g. inr (goes_further before es y d g)) h))
      (compare (before ++ d ∷ []) ds es x y p.1 fit s.2))

  -- no record follows at the end, nor where something is wrong
  ends : (ds : List E) → Goes_on [] ds [] → ⊥
  ends ds g = field_some (f.tag g.next) (f.body g.next) g.rest (sym g.bytes)

  stops : (ds : List E) (x : List ℕ) (k : FaultKind) → Wrong f ds x k → Goes_on [] ds x → ⊥
  stops ds x k w g = sound ds g.next g.rest k g.fits (rw g.bytes at w)

  -- bytes have at most one reading
  pub one_reading : (bs : List ℕ) (ds es : List E) → IsFile f bs ds → IsFile f bs es → ds ≡ es
  one_reading bs ds es p q =
      ⊎_elim (λ s. s.0)
      (λ s. absurd (⊎_elim (ends ds) (ends es) s))
      (compare [] ds es [] [] p.each q.each (ap (λ (z : List ℕ). z ++ []) (sym p.bytes ∙ q.bytes)))

  -- where nothing is missing, nothing is wrong at the end
  wrong_at_end : (es : List E) (k : FaultKind) → f.complete es ≡ true → Wrong f es [] k → ⊥
  wrong_at_end es k c (inl w) = let h = w.0 in omega arith
  wrong_at_end es k c (inr w) = both_ways (f.complete es) w.1 c

  -- bytes that have a reading have no fault
  pub never_both : (bs : List ℕ) (es : List E) (fault : FieldFault) → IsFile f bs es → FirstFault f bs fault → ⊥
  never_both bs es fault p q =
      ⊎_elim
      (λ s. wrong_at_end es fault.kind p.complete (rw (← s.0, ← s.1) at q.wrong))
      (⊎_elim (ends es) (stops q.before q.rest fault.kind q.wrong))
      (compare [] es q.before [] q.rest p.each q.each (append-nil (encoding f es) ∙ sym p.bytes ∙ q.bytes))

  -- after the same records at most one fault is the one to report
  wrong_one : (before : List E) (x : List ℕ) (j k : FaultKind) → Wrong f before x j → Wrong f before x k → j ≡ k
  wrong_one before x j k (inl p) (inl q) = first_one (checks f before x) j k p.1 q.1
  wrong_one before x j k (inl p) (inr q) = absurd (omega (arith, p.0, ap length q.0))
  wrong_one before x j k (inr p) (inl q) = absurd (omega (arith, q.0, ap length p.0))
  wrong_one before x j k (inr p) (inr q) = p.2 ∙ sym q.2

  same_fault : {bs : List ℕ} (g h : FieldFault) (p : FirstFault f bs g) (q : FirstFault f bs h) → p.before ≡ q.before → p.rest ≡ q.rest → g ≡ h
  same_fault g h p q d x =
      let kind : g.kind ≡ h.kind = wrong_one q.before q.rest g.kind h.kind (rw (d, x) at p.wrong) q.wrong in
      let offset : g.offset ≡ h.offset = p.place ∙ ap (λ (ds : List E). length (encoding f ds)) d ∙ sym q.place in
      (λ i. record { kind = kind i; offset = offset i })

  -- bytes have at most one first fault
  pub one_fault : (bs : List ℕ) (g h : FieldFault) → FirstFault f bs g → FirstFault f bs h → g ≡ h
  one_fault bs g h p q =
      ⊎_elim (λ s. same_fault g h p q s.0 s.1)
      (λ s. absurd (⊎_elim (stops p.before p.rest g.kind p.wrong) (stops q.before q.rest h.kind q.wrong) s))
      (compare [] p.before q.before p.rest q.rest p.each q.each (sym p.bytes ∙ q.bytes))

-- An answer that tells the reading or the first fault tells the only one.
module _ {E V : Type 0} (f : Format E) (lawful : Lawful f) (bs : List ℕ) (records : V → List E) where
  pub accepts_only : (r : Result V ReadError) → MatchResult r (λ v. IsFile f bs (records v)) (Told f bs) → (es : List E) → IsFile f bs es → MatchResult r (λ v. records v ≡ es) (λ e. e ≡ Memory)
  accepts_only (Ok v) h es i = one_reading f lawful bs (records v) es h i
  accepts_only (Err Memory) h es i = refl
  accepts_only (Err (Field fault)) h es i = absurd (never_both f lawful bs es fault i h)

  pub refuses_only : (r : Result V ReadError) → MatchResult r (λ v. IsFile f bs (records v)) (Told f bs) → (fault : FieldFault) → FirstFault f bs fault → MatchResult r (λ v. ⊥) (λ e. (e ≡ Memory) ⊎ (e ≡ Field fault))
  refuses_only (Ok v) h fault i = never_both f lawful bs (records v) fault h i
  refuses_only (Err Memory) h fault i = inl refl
  refuses_only (Err (Field g)) h fault i = inr (ap Field (one_fault f lawful bs g fault h i))
