-- From field to field of an input.
use Rattle.std.proofs.Common.{◌≡◌, ℕ, ◌-◌, ◌<◌, true, false, List, [], ◌∷◌, ◌++◌, length, take, drop, sym, refl, ap, ◌∙◌, subst, ⊎_elim, append_assoc, ◌≤◌, ◌⊎◌, inl, inr, Result, Ok, Err, arith}
use Rattle.std.proofs.lemmas.List.{length-append, append-nil, take_all, drop_all, take_rest}
use Rattle.fields.specs.Fields.{field, Begins, Cut}
use Rattle.fields.specs.Walks.{IsCut, Step}
use Rattle.fields.specs.declared.fault.FaultKind.{FaultKind}
use Rattle.fields.specs.declared.head.Field.{Field}
use Rattle.fields.specs.declared.walk.Fields.{Fields}
use Rattle.fields.proofs.Loops.{sizes}
use Rattle.inputs.specs.Parts.{CasePart, at_end, at_certificate, at_cut, past_field, FieldsOf, one_whole, one_cut, none_left, CutsOff}
use Rattle.inputs.specs.Walks.{certificate_in_front, Passes}

-- ---- a front and what follows it

take_front : {X : Type 0} (xs ys : List X) → take (length xs) (xs ++ ys) ≡ xs
take_front [] ys = refl
take_front (x ∷ xs) ys = ap (λ l. x ∷ l) (take_front xs ys)

drop_front : {X : Type 0} (xs ys : List X) → drop (length xs) (xs ++ ys) ≡ ys
drop_front [] ys = refl
drop_front (x ∷ xs) ys = drop_front xs ys

-- bytes cut where what follows the front begins
pub record Apart (bs front after : List ℕ) : Type 0 where
  pub taken : take (length bs - length after) bs ≡ front
  pub dropped : drop (length bs - length after) bs ≡ after

pub apart : (bs front after : List ℕ) → bs ≡ front ++ after → Apart bs front after
apart bs front after e =
    let n : length bs - length after ≡ length front = omega (arith, ap length e, length-append front after) in
    record {
      taken = ap (λ m. take m bs) n ∙ ap (take (length front)) e ∙ take_front front after;
      dropped = ap (λ m. drop m bs) n ∙ ap (drop (length front)) e ∙ drop_front front after;
    }

-- ---- the field in front

pub whole_front : {bs : List ℕ} {tag : ℕ} {body after : List ℕ} → Begins bs tag body after → (xs ys : List ℕ) → xs ≡ take (length bs - length after) bs → ys ≡ drop (length bs - length after) bs → CutsOff bs xs ys
whole_front {bs} {tag} {body} {after} b xs ys p q =
    let a = apart bs (field tag body) after b.bytes in
    let s = sizes b in
    let rest : ys ≡ after = q ∙ a.dropped in
    record {
      less = omega (arith, ap length rest);
      on = λ fs f. subst (λ (x : List ℕ). FieldsOf bs (x ∷ fs)) (sym (p ∙ a.taken)) (one_whole b (subst (λ (y : List ℕ). FieldsOf y fs) rest f));
    }

nothing_left : (ys : List ℕ) (fs : List (List ℕ)) → ys ≡ [] → FieldsOf ys fs → fs ≡ []
nothing_left ys fs e none_left = refl
nothing_left ys fs e (one_cut c) = absurd (let z : ◌≡◌ {A = ℕ} 0 1 = cc in omega arith)
nothing_left ys fs e (one_whole b f) = absurd (let s = sizes b in let l = ap length e in omega arith)

cut_all : (bs : List ℕ) → 0 < length bs → Cut bs → FieldsOf bs (bs ∷ [])
cut_all [] h c = absurd (omega arith)
cut_all (tag ∷ bs) h c = one_cut c

pub cut_front : (bs : List ℕ) → 0 < length bs → Cut bs → (xs ys : List ℕ) → xs ≡ take (length bs) bs → ys ≡ drop (length bs) bs → CutsOff bs xs ys
cut_front bs h c xs ys p q =
    let all : xs ≡ bs = p ∙ take_all (length bs) bs (omega arith) in
    let none : ys ≡ [] = q ∙ drop_all (length bs) bs (omega arith) in
    record {
      less = omega (arith, ap length none);
      on = λ fs f. subst (λ (l : List (List ℕ)). FieldsOf bs (xs ∷ l)) (sym (nothing_left ys fs none f)) (subst (λ (x : List ℕ). FieldsOf bs (x ∷ [])) (sym all) (cut_all bs h c));
    }

-- ---- the case

-- a field that was not taken for a certificate is none
pub passes : (bs : List ℕ) (tag : ℕ) (body after : List ℕ) → certificate_in_front bs ≡ false → Begins bs tag body after → Passes bs after
unfolding field
passes bs tag body after e b =
    record { tag = tag; body = body; begins = b; other = sym (ap certificate_in_front b.bytes) ∙ e }

-- the walk has come from the input to what is left
pub record Walked (input left : List ℕ) : Type 0 where
  pub front : List ℕ
  pub bytes : input ≡ front ++ left
  pub on : (case rest : List ℕ) → CasePart left case rest → CasePart input (front ++ case) rest

pub starts : (input : List ℕ) → Walked input input
starts input = record { front = []; bytes = refl; on = λ case rest p. p }

pub moves : (input left after : List ℕ) → Walked input left → Passes left after → Walked input after
moves input left after w p =
    let f = field p.tag p.body in
    record {
      front = w.front ++ f;
      bytes = w.bytes ∙ ap (λ l. w.front ++ l) p.begins.bytes ∙ sym (append_assoc w.front f after);
      on = λ case rest c. subst (λ (l : List ℕ). CasePart input l rest) (sym (append_assoc w.front f case)) (w.on (f ++ case) rest (past_field p.other p.begins c));
    }

pub less : (left after : List ℕ) → Passes left after → length after < length left
less left after p = let s = sizes p.begins in omega arith

begins_certificate : (left : List ℕ) → certificate_in_front left ≡ true → CasePart left [] left
begins_certificate [] e = absurd (let z : ◌≡◌ {A = ℕ} 0 1 = cc in omega arith)
begins_certificate (tag ∷ bs) e = at_certificate e

cut_there : (left : List ℕ) → certificate_in_front left ≡ false → Cut left → CasePart left left []
cut_there [] e c = at_end
cut_there (tag ∷ bs) e c = at_cut e c

-- a certificate stands there: the case ends before it
pub ends_there : (input left : List ℕ) → Walked input left → certificate_in_front left ≡ true → CasePart input (take (length input - length left) input) (drop (length input - length left) input)
ends_there input left w e =
    let a = apart input w.front left w.bytes in
    subst (λ (x : List ℕ). CasePart input x (drop (length input - length left) input)) (sym a.taken)
    (subst (CasePart input w.front) (sym a.dropped) (subst (λ (x : List ℕ). CasePart input x left) (append-nil w.front) (w.on [] left (begins_certificate left e))))

-- the walk over fields has come to what is left, or past a last field that passes the end
pub record Going (input : List ℕ) (s : Fields) : Type 0 where
  pub same : s.input.now ≡ input
  pub either : Walked input s.rest.now ⊎ ((CasePart input input []) × (s.rest.now ≡ []))

pub goes_from : (input : List ℕ) (s : Fields) → s.input.now ≡ input → s.rest.now ≡ input → Going input s
goes_from input s e f = record { same = e; either = inl (subst (Walked input) (sym f) (starts input)) }

-- a step takes the walk on from its place, where what is left stands
module _ (input : List ℕ) (s t : Fields) (at : ℕ) (found : Result Field FaultKind) (g : Going input s) (p : Step s at found t) where
  walked : Walked input s.rest.now
  walked = ⊎_elim (λ w. w) (λ q. absurd (let some = p.some in omega (arith, some, ap length q.1))) g.either

  there : at ≡ length input - length s.rest.now
  there = p.place ∙ ap (λ l. length l - length s.rest.now) g.same

  pub place_within : at ≤ length input
  place_within = let e = there in omega arith

  left_there : take (length input - at) (drop at input) ≡ s.rest.now
  left_there =
      take_rest input at ∙ ap (λ n. drop n input) there ∙ (apart input walked.front s.rest.now walked.bytes).dropped

  pub ends_before : true ≡ certificate_in_front (take (length input - at) (drop at input)) → CasePart input (take at input) (drop at input)
  ends_before e =
      subst (λ n. CasePart input (take n input) (drop n input)) (sym there)
      (ends_there input s.rest.now walked (sym (e ∙ ap certificate_in_front left_there)))

  whole : (r : Result Field FaultKind) → false ≡ certificate_in_front s.rest.now → IsCut s.rest.now r t.rest.now → Walked input t.rest.now ⊎ ((CasePart input input []) × (t.rest.now ≡ []))
  whole (Ok f) e c = inl (moves input s.rest.now t.rest.now walked (passes s.rest.now f.tag f.body.now t.rest.now (sym e) c))
  whole (Err k) e c =
      inr (subst (λ (x : List ℕ). CasePart input x []) (sym walked.bytes) (walked.on s.rest.now [] (cut_there s.rest.now (sym e) c.1)), c.2)

  pub goes_on : false ≡ certificate_in_front (take (length input - at) (drop at input)) → Going input t
  goes_on e =
      record { same = p.input ∙ g.same; either = whole found (e ∙ ap certificate_in_front left_there) p.cut }

-- the walk is over: all is the case
pub ends_all : (input : List ℕ) (s : Fields) → Going input s → s.rest.now ≡ [] → CasePart input (take (length input) input) (drop (length input) input)
ends_all input s g e =
    let all : CasePart input input [] = ⊎_elim (λ w. at_last w) (λ q. q.0) g.either in
    subst (λ (x : List ℕ). CasePart input x (drop (length input) input)) (sym (take_all (length input) input (omega arith)))
    (subst (CasePart input input) (sym (drop_all (length input) input (omega arith))) all)
  where
    at_last : Walked input s.rest.now → CasePart input input []
    at_last w =
        let front : input ≡ w.front ++ [] = w.bytes ∙ ap (λ l. w.front ++ l) e in
        subst (λ (x : List ℕ). CasePart input x []) (sym front) (w.on [] [] (subst (λ (x : List ℕ). CasePart x [] []) (sym e) at_end))
