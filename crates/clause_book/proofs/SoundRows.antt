-- Every row of a record that is in range keeps the conditions, over columns that do.
use Rattle.std.proofs.Common.{◌≡◌, ℕ, ◌+◌, ◌*◌, ◌≤◌, Bool, true, false, not, ◌&&◌, eqb, ltb, leb, List, [], ◌∷◌, length, ℤ, pos, negsuc, ◌+ℤ◌, ◌-ℤ◌, ◌*ℤ◌, neg_ℤ, Some, None, Option, refl, arith}
use Rattle.std.proofs.lemmas.Int.{ints}
use Rattle.std.proofs.lemmas.Bool.{and_from, and_parts, leb-true, ltb-true, eqb-true, eqb-false, not-true}
use Rattle.case_fields.specs.Entries.{Line, Entry}
use Rattle.case_fields.specs.Entries.Entry.{period, node, line, energy_offer, bid, regulation_offer, requirement}
use Rattle.case_fields.specs.Tests.{is_quantity, is_penalty, is_admittance, is_signed_quantity, in_range}
use Rattle.case_fields.proofs.Ranges.{parts}
use Rattle.listing_fields.specs.Tests.{within, is_coefficient}
use Rattle.books.specs.Conditions.{every, sound_side, sides_in_order, sound_row}
use Rattle.books.proofs.Integers.{linear, times_le}
use Rattle.case_columns.specs.declared.name.Name.{Name}
use Rattle.case_columns.specs.declared.name.Named.{Named}
use Rattle.case_columns.specs.Kinds.{at}
use Rattle.case_columns.specs.Placed.{among}
use Rattle.clauses.specs.declared.sum.Item.{Item}
use Rattle.clauses.specs.declared.setting.Setting.{Setting}
use Rattle.clauses.specs.Sums.{number_of, picks, when, coefficient, sum as summed}
use Rattle.clauses.specs.Rows.{Clause, row_of}
use Rattle.clauses.specs.Clauses.{the, M, d_16_1_1, d_16_1_2, d_16_2_1, d_16_2_2, d_16_2_3, d_16_3_1, d_16_3_2, d_16_3_3, d_15_1_2, d_19_1_1, d_19_1_2, d_15_2_2, d_18_1_2, d_18_1_3, d_18_1_4, d_18_1_5, d_18_2_1, clauses_in}
use Rattle.case_columns.specs.declared.name.Quantity.{Quantity}
use Rattle.case_columns.specs.declared.name.Quantity.TheVariants.{Angle, Flow}
use Rattle.clause_book.proofs.Withins.{Between, between_parts, within_from, ordered}
use Rattle.clause_book.proofs.Fitted.{joins_two, proper}
use Rattle.clause_book.proofs.Ranged.{RangedLine, ranged_line, ranged_offer, ranged_regulation}
use Rattle.clause_book.proofs.SoundColumns.{tame}
use Rattle.clause_book.proofs.TermLaws.{terms_below, terms_rising, terms_ranged}
use Rattle.clause_book.proofs.Loads.{light, light_coefficient}

-- ---- sides

-- the sides of a row keep the conditions
abbrev Sided : Option ℤ → Option ℤ → Type 0
Sided l u = (sound_side l && sound_side u && sides_in_order l u) ≡ true

side : (z : ℤ) → Between (neg_ℤ (pos 1000000000000000)) (pos 1000000000000000) z → within 10000000000000000 z ≡ true
side z b =
    within_from 10000000000000000 z (record { above = omega (arith, ints, b.above); below = omega (arith, ints, b.below) })

-- a number, widened by an allowance
widened : (a z : ℤ) → is_quantity a ≡ true → Between (neg_ℤ (pos 1000000000000)) (pos 1000000000000) z → Sided (Some (z -ℤ a)) (Some (z +ℤ a))
widened a z h b =
    let q = between_parts (pos 0) (pos 1000000) a h in
    and_from _ _ (and_from _ _ (side (z -ℤ a) (record { above = omega (arith, ints); below = omega (arith, ints) })) (side (z +ℤ a) (record { above = omega (arith, ints); below = omega (arith, ints) })))
    (ordered (z -ℤ a) (z +ℤ a) (omega (arith, ints)))

above_side : (z : ℤ) → Between (neg_ℤ (pos 2000000)) (pos 2000000) z → Sided (Some z) None
above_side z b =
    and_from _ true (and_from _ true (side z (record { above = omega (arith, ints, b.above); below = omega (arith, ints, b.below) })) refl) refl

below_side : (z : ℤ) → Between (neg_ℤ (pos 2000000)) (pos 2000000) z → Sided None (Some z)
below_side z b =
    and_from _ true (side z (record { above = omega (arith, ints, b.above); below = omega (arith, ints, b.below) })) refl

quantity_near : (z : ℤ) → is_quantity z ≡ true → Between (neg_ℤ (pos 2000000)) (pos 2000000) z
quantity_near z h =
    let q = between_parts (pos 0) (pos 1000000) z h in
    record { above = omega (arith, ints, q.above); below = omega (arith, ints, q.below) }

-- the product of an admittance and a shift
product_near : (a s : ℤ) → is_admittance a ≡ true → is_signed_quantity s ≡ true → Between (neg_ℤ (pos 1000000000000)) (pos 1000000000000) (a *ℤ s)
product_near (pos n) s h g =
    let a = between_parts (pos 1) (pos 1000000) (pos n) h in
    let small : n ≤ 1000000 = omega (arith, ints, a.below) in
    let b = between_parts (neg_ℤ (pos 1000000)) (pos 1000000) s g in
    let low = times_le n (neg_ℤ (pos 1000000)) s b.above in
    let high = times_le n s (pos 1000000) b.below in
    let most : pos n *ℤ pos 1000000 ≡ pos (n * 1000000) = refl in
    let least : pos n *ℤ neg_ℤ (pos 1000000) ≡ neg_ℤ (pos (n * 1000000)) = refl in
    record { above = omega (arith, linear); below = omega (arith, linear) }
product_near (negsuc n) s h g = absurd (omega (arith, ints, (between_parts (pos 1) (pos 1000000) (negsuc n) h).above))

-- ---- the angles at the two ends of a line

pick_place : (q : Quantity) (r : ℕ) (n : Name) → picks (the q r) n ≡ true → n.place ≡ r
pick_place q r n h =
    let same = eqb (number_of n.quantity) (number_of q) && true in
    let w = and_parts (leb r n.place) (ltb n.place (r + 1)) (and_parts (among r (r + 1) n) same h).0 in
    omega (arith, leb-true r n.place w.0, ltb-true n.place (r + 1) w.1)

pick_quantity : (q : Quantity) (r : ℕ) (n : Name) → picks (the q r) n ≡ true → number_of n.quantity ≡ number_of q
pick_quantity q r n h =
    let same = eqb (number_of n.quantity) (number_of q) in
    eqb-true (number_of n.quantity) (number_of q) (and_parts same true (and_parts (among r (r + 1) n) (same && true) h).1).0

at_most_one : (a b c : Bool) (z : ℤ) → is_admittance z ≡ true → (a ≡ true → b ≡ true → ⊥) → (a ≡ true → c ≡ true → ⊥) → (b ≡ true → c ≡ true → ⊥) → is_coefficient (when a (pos 1000) +ℤ (when b (neg_ℤ z) +ℤ (when c z +ℤ pos 0))) ≡ true
at_most_one true true c z h ab ac bc = absurd (ab refl refl)
at_most_one true false true z h ab ac bc = absurd (ac refl refl)
at_most_one true false false z h ab ac bc = refl
at_most_one false true true z h ab ac bc = absurd (bc refl refl)
at_most_one false true false z h ab ac bc =
    let b = between_parts (pos 1) (pos 1000000) z h in
    within_from 1000000 (pos 0 +ℤ (neg_ℤ z +ℤ (pos 0 +ℤ pos 0))) (record { above = omega (arith, ints); below = omega (arith, ints) })
at_most_one false false true z h ab ac bc =
    let b = between_parts (pos 1) (pos 1000000) z h in
    within_from 1000000 (pos 0 +ℤ (pos 0 +ℤ (z +ℤ pos 0))) (record { above = omega (arith, ints); below = omega (arith, ints) })
at_most_one false false false z h ab ac bc = refl

-- ---- rows

module _ (cs : List Named) (few : length cs ≤ 4000) (tames : every (λ (c : Named). tame c.name) cs ≡ true) where
  -- a test of each name, at each column
  coefficients : (is : List Item) → ((n : Name) → tame n ≡ true → is_coefficient (coefficient is n) ≡ true) → (xs : List Named) → every (λ (c : Named). tame c.name) xs ≡ true → every (λ (c : Named). is_coefficient (summed is c)) xs ≡ true
  coefficients is h [] w = refl
  coefficients is h (x ∷ xs) w =
      let s = and_parts (tame x.name) (every (λ (c : Named). tame c.name) xs) w in
      and_from _ _ (h x.name s.0) (coefficients is h xs s.1)

  row_kept : (d : Clause) → leb d.code 19 ≡ true → Sided d.lower d.upper → ((n : Name) → tame n ≡ true → is_coefficient (coefficient d.sum n) ≡ true) → sound_row (length cs) (row_of cs d) ≡ true
  row_kept d code sides h =
      let f = summed d.sum in
      and_from _ _ (and_from _ _ code sides)
      (and_from _ _ (and_from _ _ (terms_ranged f 0 cs (omega arith) (coefficients d.sum h cs tames)) (terms_below f 0 (length cs) cs (omega arith))) (terms_rising f 0 0 cs (omega arith)))

  light_row : (d : Clause) → leb d.code 19 ≡ true → Sided d.lower d.upper → light d.sum ≡ true → sound_row (length cs) (row_of cs d) ≡ true
  light_row d code sides l = row_kept d code sides (light_coefficient d.sum l)

  abbrev keeps : Clause → Bool
  keeps d = sound_row (length cs) (row_of cs d)

  module _ (s : Setting) (small : is_quantity s.allowance ≡ true) where
    zero_near : Between (neg_ℤ (pos 1000000000000)) (pos 1000000000000) (pos 0)
    zero_near = record { above = omega (arith, ints); below = omega (arith, ints) }

    about_zero : Sided (Some (pos 0 -ℤ s.allowance)) (Some (pos 0 +ℤ s.allowance))
    about_zero = widened s.allowance (pos 0) small zero_near

    angles : (start end : ℕ) (a : ℤ) → is_admittance a ≡ true → not (eqb start end) ≡ true → (n : Name) → is_coefficient (coefficient (d_16_2_3 s start end a (pos 0)).sum n) ≡ true
    angles start end a h d n =
        let r = s.place in
        let u = at s.kinds.nodes start in
        let v = at s.kinds.nodes end in
        at_most_one (picks (the Flow r) n) (picks (the Angle u) n) (picks (the Angle v) n) a h
        (λ x y. omega (arith, pick_quantity Flow r n x, pick_quantity Angle u n y))
        (λ x y. omega (arith, pick_quantity Flow r n x, pick_quantity Angle v n y))
        (λ x y. eqb-false start end (not-true (eqb start end) d) (omega (arith, pick_place Angle u n x, pick_place Angle v n y)))

    line_kept : (l : Line) → RangedLine l → not (eqb l.start l.end) ≡ true → every keeps (clauses_in s (line l)) ≡ true
    line_kept l g d =
        let b = between_parts (neg_ℤ (pos 1000000)) (pos 0) l.reverse_limit g.reverse in
        let reverse : Between (neg_ℤ (pos 2000000)) (pos 2000000) l.reverse_limit = record { above = omega (arith, ints); below = omega (arith, ints) } in
        and_from _ _ (light_row (d_16_2_1 s l.reverse_limit) refl (above_side l.reverse_limit reverse) refl)
        (and_from _ _ (light_row (d_16_2_2 s l.forward_limit) refl (below_side l.forward_limit (quantity_near l.forward_limit g.forward)) refl)
        (and_from _ _ (row_kept (d_16_2_3 s l.start l.end l.admittance l.shift) refl (widened s.allowance (l.admittance *ℤ l.shift) small (product_near l.admittance l.shift g.admittance g.shift)) (λ n t. angles l.start l.end l.admittance g.admittance d n))
        (and_from _ _ (light_row (d_16_3_1 s) refl about_zero refl)
        (and_from _ _ (light_row (d_16_3_2 s) refl about_zero refl)
        (and_from _ _ (light_row (d_16_3_3 s) refl refl refl) refl)))))

    pub clauses_kept : (e : Entry) → proper e ≡ true → every keeps (clauses_in s e) ≡ true
    clauses_kept (period p) h = refl
    clauses_kept (node d) h =
        and_from _ _ (light_row (d_16_1_1 s) refl about_zero refl) (and_from _ _ (light_row (d_16_1_2 s) refl refl refl) refl)
    clauses_kept (line l) h =
        let w = and_parts (in_range (line l)) (joins_two (line l)) h in
        line_kept l (ranged_line l w.0) w.1
    clauses_kept (energy_offer o) h =
        let g = ranged_offer o (and_parts (in_range (energy_offer o)) true h).0 in
        and_from _ _ (light_row (d_15_1_2 s) refl refl refl)
        (and_from _ _ (light_row (d_19_1_1 s o.end_maximum) refl (below_side o.end_maximum (quantity_near o.end_maximum g.maximum)) refl)
        (and_from _ _ (light_row (d_19_1_2 s o.end_minimum) refl (above_side o.end_minimum (quantity_near o.end_minimum g.minimum)) refl) refl))
    clauses_kept (bid b) h = and_from _ _ (light_row (d_15_2_2 s) refl refl refl) refl
    clauses_kept (regulation_offer o) h =
        let g = ranged_regulation o (and_parts (in_range (regulation_offer o)) true h).0 in
        let a = between_parts (pos 0) (pos 1000000) o.maximum g.maximum in
        let b = between_parts (pos 0) (pos 1000000) o.minimum g.minimum in
        let high : Between (neg_ℤ (pos 2000000)) (pos 2000000) (o.maximum +ℤ M) = record { above = omega (arith, ints); below = omega (arith, ints) } in
        let low : Between (neg_ℤ (pos 2000000)) (pos 2000000) (o.minimum -ℤ M) = record { above = omega (arith, ints); below = omega (arith, ints) } in
        and_from _ _ (light_row (d_18_1_2 s) refl refl refl)
        (and_from _ _ (light_row (d_18_1_3 s o.offer o.maximum) refl (below_side (o.maximum +ℤ M) high) refl)
        (and_from _ _ (light_row (d_18_1_4 s o.offer o.minimum) refl (above_side (o.minimum -ℤ M) low) refl)
        (and_from _ _ (light_row (d_18_1_5 s) refl refl refl) refl)))
    clauses_kept (requirement q) h =
        let a = parts (is_quantity q.requirement) (is_penalty q.deficit_price) (and_parts (in_range (requirement q)) true h).0 in
        and_from _ _ (light_row (d_18_2_1 s q.requirement) refl (above_side q.requirement (quantity_near q.requirement a.0)) refl) refl
