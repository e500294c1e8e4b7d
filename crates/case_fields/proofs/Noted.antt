-- A summary with one record more.
use Rattle.std.proofs.Common.{◌≡◌, ℕ, zero, suc, ◌+◌, ◌<◌, ◌≤◌, Bool, Some, None, Option, true, false, eqb, ltb, List, [], ◌∷◌, ◌++◌, length, get_or, set, vec_items, vec_len, sym, refl, ap, ◌∙◌, subst, inl, inr, ◌⊎◌, arith, ltb-true, ne_eqb, lit≤}
use Rattle.case_fields.specs.declared.summary.Summary.{Summary}
use Rattle.case_fields.specs.declared.kind.RecordKind.{RecordKind}
use Rattle.case_fields.specs.declared.kind.RecordKind.TheVariants.{Period, Node, Line, EnergyOffer, Bid, RegulationOffer, Requirement}
use Rattle.case_fields.specs.declared.record.CaseRecord.{CaseRecord}
use Rattle.case_fields.specs.declared.record.CaseRecord.TheVariants as variant
use Rattle.case_fields.specs.declared.record.Line as declared_line
use Rattle.case_fields.specs.declared.record.Bid as declared_bid
use Rattle.case_fields.specs.declared.record.Requirement as declared_requirement
use Rattle.case_fields.specs.Meant.{meant}
use Rattle.case_fields.specs.Kinds.{both, tag_of}
use Rattle.case_fields.specs.Entries as Entries
use Rattle.case_fields.specs.Entries.{Entry}
use Rattle.case_fields.specs.Entries.Entry.{period, node, line, energy_offer, bid, regulation_offer, requirement}
use Rattle.case_fields.specs.Encoding.{tag}
use Rattle.case_fields.specs.Summaries.{SumsUp, last_tag, ends}
use Rattle.case_fields.specs.Tests.{either, one, tag_of_last, count, regulates, regulated, follows, refers}

last_push : (es : List Entry) (e : Entry) → tag_of_last (es ++ e ∷ []) ≡ tag e
last_push [] e = refl
last_push (d ∷ []) e = refl
last_push (d ∷ c ∷ es) e = last_push (c ∷ es) e

pub count_push : (t : ℕ) (es : List Entry) (e : Entry) → count t (es ++ e ∷ []) ≡ count t es + one (eqb (tag e) t)
count_push t [] e = omega arith
count_push t (d ∷ es) e = omega (arith, count_push t es e)

either_swap : (a b c : Bool) → either a (either b c) ≡ either b (either a c)
either_swap true true c = refl
either_swap true false c = refl
either_swap false true c = refl
either_swap false false c = refl

regulated_push : (k : ℕ) (es : List Entry) (e : Entry) → regulated k (es ++ e ∷ []) ≡ either (regulates k e) (regulated k es)
regulated_push k [] e = refl
regulated_push k (d ∷ es) e =
    ap (either (regulates k d)) (regulated_push k es e) ∙ either_swap (regulates k d) (regulates k e) (regulated k es)

-- tags never fall
rises : (es : List Entry) (e : Entry) → follows es (tag e) ≡ true → tag_of_last es ≤ tag e
rises es (period p) h = grind arith
rises es (node n) h = grind arith
rises es (line l) h = grind arith
rises es (energy_offer o) h = grind arith
rises es (bid b) h = grind arith
rises es (regulation_offer r) h = grind arith
rises es (requirement q) h = grind arith

-- no kind has a tag above 15
tag_most : (k : RecordKind) → tag_of k ≤ 15
tag_most Period = lit≤ tt
tag_most Node = lit≤ tt
tag_most Line = lit≤ tt
tag_most EnergyOffer = lit≤ tt
tag_most Bid = lit≤ tt
tag_most RegulationOffer = lit≤ tt
tag_most Requirement = lit≤ tt

some_push : (n : ℕ) (b : Bool) → either b (ltb 0 n) ≡ ltb 0 (n + one b)
some_push zero true = refl
some_push (suc n) true = grind arith
some_push n false = ap (ltb 0) (omega arith)

one_added : (c : ℕ) (b : Bool) → false ≡ ltb 0 c → b ≡ ltb 0 (c + one b)
one_added c true h = grind arith
one_added c false h = h ∙ ap (ltb 0) (omega arith)

ends_more : (o : Option RecordKind) (k : RecordKind) (c : ℕ) → last_tag o ≤ tag_of k → ends o ≡ ltb 0 c → ends (Some k) ≡ ltb 0 (c + one (eqb (tag_of k) 15))
ends_more None k c above h = one_added c (eqb (tag_of k) 15) h
ends_more (Some l) k c above h = go (eqb (tag_of k) 15) refl
  where
    go : (b : Bool) → eqb (tag_of k) 15 ≡ b → b ≡ ltb 0 (c + one b)
    go true w = grind arith
    go false w =
        let most = tag_most k in
        let other : eqb (tag_of l) 15 ≡ false = grind arith in
        one_added c false (sym other ∙ h)

-- each part of the summary follows from the record's kind, and the marks from the offer that it regulates
pub one_more : (s t : Summary) (es : List Entry) (d e : Entry) (k : RecordKind) → d ≡ e → SumsUp s es → follows es (tag d) ≡ true → tag_of k ≡ tag d → t.last ≡ Some k → t.has_period ≡ either (eqb (tag e) 1) s.has_period → t.nodes ≡ s.nodes + one (eqb (tag e) 2) → vec_len t.regulated ≡ vec_len s.regulated + one (eqb (tag e) 4) → ((k : ℕ) → get_or (vec_items t.regulated) k false ≡ either (regulates k e) (get_or (vec_items s.regulated) k false)) → SumsUp t (es ++ d ∷ [])
one_more s t es d e k is u order tagged last begun nodes offers marks =
    let above : last_tag s.last ≤ tag_of k = omega (arith, u.last, tagged, rises es d order) in
    record {
      last = ap last_tag last ∙ tagged ∙ sym (last_push es d);
      period = begun ∙ (λ i. either (eqb (tag (sym is i)) 1) (u.period i)) ∙ some_push (count 1 es) (eqb (tag d) 1) ∙ ap (ltb 0) (sym (count_push 1 es d));
      requirement = ap ends last ∙ ends_more s.last k (count 15 es) above u.requirement ∙ (λ i. ltb 0 (count 15 es + one (eqb (tagged i) 15))) ∙ ap (ltb 0) (sym (count_push 15 es d));
      nodes = nodes ∙ (λ i. u.nodes i + one (eqb (tag (sym is i)) 2)) ∙ sym (count_push 2 es d);
      offers = offers ∙ (λ i. u.offers i + one (eqb (tag (sym is i)) 4)) ∙ sym (count_push 4 es d);
      marks = λ k. marks k ∙ (λ i. either (regulates k (sym is i)) (u.marks k i)) ∙ sym (regulated_push k es d);
    }

-- a record of another kind changes neither period nor nodes nor offers
pub record Plain (e : Entry) : Type 0 where
  pub no_period : eqb (tag e) 1 ≡ false
  pub no_node : eqb (tag e) 2 ≡ false
  pub no_offer : eqb (tag e) 4 ≡ false
  pub regulates_none : (k : ℕ) → regulates k e ≡ false

pub plain : (r : CaseRecord) → ((x : declared_line.Line) × (r ≡ variant.Line x)) ⊎ (((x : declared_bid.Bid) × (r ≡ variant.Bid x)) ⊎ ((x : declared_requirement.Requirement) × (r ≡ variant.Requirement x))) → Plain (meant r)
plain r (inl (x, is)) = subst Plain (sym (ap meant is)) (record { no_period = refl; no_node = refl; no_offer = refl; regulates_none = λ k. refl })
plain r (inr (inl (x, is))) = subst Plain (sym (ap meant is)) (record { no_period = refl; no_node = refl; no_offer = refl; regulates_none = λ k. refl })
plain r (inr (inr (x, is))) = subst Plain (sym (ap meant is)) (record { no_period = refl; no_node = refl; no_offer = refl; regulates_none = λ k. refl })

-- a mark that is not set, at the end
pub unset_push : (bs : List Bool) (k : ℕ) → get_or (bs ++ false ∷ []) k false ≡ get_or bs k false
unset_push [] zero = refl
unset_push [] (suc k) = refl
unset_push (b ∷ bs) zero = refl
unset_push (b ∷ bs) (suc k) = unset_push bs k

-- a mark that is set
pub marked : (bs : List Bool) (o k : ℕ) → o < length bs → get_or (set bs o true) k false ≡ either (eqb o k) (get_or bs k false)
marked [] o k h = absurd (omega arith)
marked (b ∷ bs) zero zero h = refl
marked (b ∷ bs) zero (suc k) h = sym (ap (λ v. either v (get_or bs k false)) (ne_eqb 0 (suc k) (λ e. omega arith)))
marked (b ∷ bs) (suc o) zero h = sym (ap (λ v. either v b) (ne_eqb (suc o) 0 (λ e. omega arith)))
marked (b ∷ bs) (suc o) (suc k) h = marked bs o k (omega arith) ∙ ap (λ v. either v (get_or bs k false)) (grind arith)

first_of : (a b : Bool) → both a b ≡ true → a ≡ true
first_of true b h = refl
first_of false b h = h

-- the energy offer that a regulation offer names is there
pub offer_there : (es : List Entry) (d : Entry) (r : Entries.RegulationOffer) → d ≡ regulation_offer r → refers es d ≡ true → r.offer < count 4 es
offer_there es d r is h =
    ltb-true r.offer (count 4 es) (first_of (ltb r.offer (count 4 es)) _ (sym (ap (refers es) is) ∙ h))
