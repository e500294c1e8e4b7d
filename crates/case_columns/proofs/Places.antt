-- The places of columns as a table grows, and what they say of the columns of some records.
use Rattle.std.proofs.Common.{◌≡◌, ℕ, zero, suc, ◌+◌, ◌<◌, ◌≤◌, Bool, true, false, ◌&&◌, leb, ◌⊎◌, List, [], ◌∷◌, ◌++◌, map, length, get_or, sym, refl, ap, ◌∙◌, subst, inl, inr, arith, le-ltb, le-leb, leb-true}
use borrow.Author.Tests.{lt-leb}
use Rattle.std.proofs.lemmas.List.{append-nil, append_assoc, map_push, get_or_append_left, get_or_push, length_push, length-map, get_or-map}
use Rattle.std.proofs.lemmas.Bool.{cases_lt}
use Rattle.case_columns.specs.declared.name.Named.{Named}
use Rattle.case_columns.specs.Placed.{among, start, Low, Placed, place_at}
use Rattle.case_columns.specs.Tables.{Own}

same_start : (ss : List ℕ) (n r : ℕ) → get_or (ss ++ n ∷ []) r n ≡ get_or ss r n
same_start [] n zero = refl
same_start [] n (suc r) = refl
same_start (s ∷ ss) n zero = refl
same_start (s ∷ ss) n (suc r) = same_start ss n r

-- a record begins where the columns end
module _ (cs : List Named) (ss : List ℕ) (n : ℕ) (e : n ≡ length cs) where
  begun_start : (r : ℕ) → start cs (ss ++ n ∷ []) r ≡ start cs ss r
  begun_start r = ap (λ k. get_or (ss ++ k ∷ []) r (length cs)) e ∙ same_start ss (length cs) r

  pub begun_low : Low cs ss → Low cs (ss ++ n ∷ [])
  begun_low low r = omega (arith, low r, begun_start r)

  pub begun_placed : Placed cs ss → Placed cs (ss ++ n ∷ [])
  begun_placed placed i r h = ap (λ s. leb s i) (begun_start r) ∙ placed i r h

-- the end of the columns as one is added
Grown : List ℕ → ℕ → ℕ → Type 0
Grown ss r n = ((r < length ss) × (get_or ss r (n + 1) ≡ get_or ss r n)) ⊎ ((length ss ≤ r) × (get_or ss r n ≡ n) × (get_or ss r (n + 1) ≡ n + 1))

grown : (ss : List ℕ) (r n : ℕ) → Grown ss r n
unfolding Grown
grown [] r n = inr (omega arith, refl, refl)
grown (s ∷ ss) zero n = inl (omega arith, refl)
grown (s ∷ ss) (suc r) n = elim (grown ss r n) [ inl w ↦ inl (omega (arith, w.0), w.1) | inr w ↦ inr (omega (arith, w.0), w.1, w.2) ]

-- one more column of the last record
module _ (cs : List Named) (ss : List ℕ) (x : Named) (own : x.name.place + 1 ≡ length ss) (low : Low cs ss) (placed : Placed cs ss) where
  after : List Named
  after = cs ++ x ∷ []

  start_after : (r : ℕ) → start (cs ++ x ∷ []) ss r ≡ get_or ss r (length cs + 1)
  start_after r = ap (get_or ss r) (length_push cs x)

  low_after : Low (cs ++ x ∷ []) ss
  unfolding Grown
  low_after r =
      elim (grown ss r (length cs)) [
        | inl w ↦ omega (arith, w.1, low r, start_after r, length_push cs x)
        | inr w ↦ omega (arith, w.2, start_after r, length_push cs x)
      ]

  old_place : (i : ℕ) → i < length cs → place_at (cs ++ x ∷ []) i ≡ place_at cs i
  old_place i h =
      let f : Named → ℕ = λ c. c.name.place in
      let k : i < length (map f cs) = omega (arith, length-map cs f) in
      ap (λ l. get_or l i 0) (map_push f cs x) ∙ get_or_append_left (map f cs) (x.name.place ∷ []) 0 i k

  new_place : place_at (cs ++ x ∷ []) (length cs) ≡ x.name.place
  new_place =
      let f : Named → ℕ = λ c. c.name.place in
      ap (λ l. get_or l (length cs) 0) (map_push f cs x) ∙ get_or_push (map f cs) x.name.place 0 (length cs) (length-map cs f)

  old_start : (i r : ℕ) → i < length cs → leb (start (cs ++ x ∷ []) ss r) i ≡ leb (start cs ss r) i
  unfolding Grown
  old_start i r h =
      elim (grown ss r (length cs)) [
        | inl w ↦ ap (λ s. leb s i) (start_after r ∙ w.1)
        | inr w ↦ lt-leb _ _ (omega (arith, w.2, start_after r)) ∙ sym (lt-leb _ _ (omega (arith, w.1)))
      ]

  new_start : (r : ℕ) → leb (start (cs ++ x ∷ []) ss r) (length cs) ≡ leb r x.name.place
  unfolding Grown
  new_start r =
      elim (grown ss r (length cs)) [
        | inl w ↦ le-leb _ _ (omega (arith, w.1, start_after r, low r)) ∙ sym (le-leb _ _ (omega (arith, w.0, own)))
        | inr w ↦ lt-leb _ _ (omega (arith, w.2, start_after r)) ∙ sym (lt-leb _ _ (omega (arith, w.0, own)))
      ]

  placed_after : Placed (cs ++ x ∷ []) ss
  placed_after i r h =
      elim (cases_lt i (length cs)) [
        | inl k ↦ old_start i r k ∙ placed i r k ∙ ap (leb r) (sym (old_place i k))
        | inr k ↦
            let e : i ≡ length cs = omega (arith, k, h, length_push cs x) in
            ap (leb (start (cs ++ x ∷ []) ss r)) e ∙ new_start r ∙ ap (leb r) (sym new_place) ∙ ap (λ j. leb r (place_at (cs ++ x ∷ []) j)) (sym e)
      ]

-- all columns of the last record
pub all_low : (cs : List Named) (ss : List ℕ) (xs : List Named) → Own (length ss) xs → Low cs ss → Placed cs ss → Low (cs ++ xs) ss
all_low cs ss [] own low placed = subst (λ (l : List Named). Low l ss) (sym (append-nil cs)) low
all_low cs ss (x ∷ xs) own low placed =
    subst (λ (l : List Named). Low l ss) (append_assoc cs (x ∷ []) xs)
    (all_low (cs ++ x ∷ []) ss xs own.1 (low_after cs ss x own.0 low placed) (placed_after cs ss x own.0 low placed))

pub all_placed : (cs : List Named) (ss : List ℕ) (xs : List Named) → Own (length ss) xs → Low cs ss → Placed cs ss → Placed (cs ++ xs) ss
all_placed cs ss [] own low placed = subst (λ (l : List Named). Placed l ss) (sym (append-nil cs)) placed
all_placed cs ss (x ∷ xs) own low placed =
    subst (λ (l : List Named). Placed l ss) (append_assoc cs (x ∷ []) xs)
    (all_placed (cs ++ x ∷ []) ss xs own.1 (low_after cs ss x own.0 low placed) (placed_after cs ss x own.0 low placed))

-- a record is begun, and its columns are added
module _ (cs : List Named) (ss : List ℕ) (n : ℕ) (ts : List ℕ) (xs : List Named) (e : n ≡ length cs) (f : ts ≡ ss ++ n ∷ []) (own : Own (length ss + 1) xs) (low : Low cs ss) (placed : Placed cs ss) where
  begun_own : Own (length (ss ++ n ∷ [])) xs
  begun_own = subst (λ (k : ℕ). Own k xs) (sym (length_push ss n)) own

  pub record_low : (ds : List Named) → ds ≡ cs ++ xs → Low ds ts
  record_low ds g =
      let l = begun_low cs ss n e low in
      let p = begun_placed cs ss n e placed in
      rw (g, f) (all_low cs (ss ++ n ∷ []) xs begun_own l p)

  pub record_placed : (ds : List Named) → ds ≡ cs ++ xs → Placed ds ts
  record_placed ds g =
      let l = begun_low cs ss n e low in
      let p = begun_placed cs ss n e placed in
      rw (g, f) (all_placed cs (ss ++ n ∷ []) xs begun_own l p)

-- outside the columns from one record to before another
and_left : (a b : Bool) → a ≡ false → (a && b) ≡ false
and_left true b e = absurd (grind arith)
and_left false b e = refl

and_right : (a b : Bool) → b ≡ false → (a && b) ≡ false
and_right true b e = e
and_right false b e = refl

module _ (cs : List Named) (ss : List ℕ) (first past : ℕ) (placed : Placed cs ss) (i : ℕ) (d : Named) (h : i < length cs) where
  placed_here : (r : ℕ) → leb (start cs ss r) i ≡ leb r (get_or cs i d).name.place
  placed_here r = placed i r h ∙ ap (leb r) (get_or-map (λ (c : Named). c.name.place) cs i d 0 h)

  pub not_before : i < start cs ss first → among first past (get_or cs i d).name ≡ false
  not_before b = and_left _ _ (sym (placed_here first) ∙ lt-leb _ _ b)

  pub not_after : start cs ss past ≤ i → among first past (get_or cs i d).name ≡ false
  not_after b =
      and_right (leb first (get_or cs i d).name.place) _ (le-ltb _ _ (leb-true _ _ (sym (placed_here past) ∙ le-leb _ _ b)))
