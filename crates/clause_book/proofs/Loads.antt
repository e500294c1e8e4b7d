-- The coefficient that a column has in a sum is at most what the items of its quantity add up to.
use Rattle.std.proofs.Common.{◌≡◌, ℕ, ◌+◌, ◌≤◌, Bool, true, false, cond, ◌&&◌, eqb, leb, ◌⊎◌, List, [], ◌∷◌, ℤ, ◌+ℤ◌, nat_abs, sym, refl, subst, inl, inr, arith}
use Rattle.std.proofs.lemmas.Int.{ints}
use Rattle.std.proofs.lemmas.Bool.{and_parts, leb-true, eqb-true}
use Rattle.listing_fields.specs.Tests.{is_coefficient}
use Rattle.books.specs.Conditions.{every}
use Rattle.books.proofs.Sounds.{within_parts}
use Rattle.case_columns.specs.declared.name.Name.{Name}
use Rattle.case_columns.specs.Placed.{among}
use Rattle.clauses.specs.declared.sum.Factor.{Factor}
use Rattle.clauses.specs.declared.sum.Factor.TheVariants.{Number, Minus, MinusFlow, MinusLoss}
use Rattle.clauses.specs.declared.sum.Item.{Item}
use Rattle.clauses.specs.Sums.{number_of, at_ends, factor, when, amount, coefficient}
use Rattle.clause_book.proofs.Withins.{within_from}
use Rattle.clause_book.proofs.SoundColumns.{tame}

-- how far a factor can be from nought
abbrev pub reach : Factor → ℕ
reach (Number c) = nat_abs c
reach (Minus c) = nat_abs c
reach MinusFlow = 1000000
reach MinusLoss = 1000000

-- the number of the quantity that an item picks
abbrev pub quantity_of : Item → ℕ
quantity_of i = number_of i.pick.quantity

-- what the items of a quantity can add
abbrev pub load : ℕ → List Item → ℕ
load q [] = 0
load q (i ∷ is) = cond (eqb q (quantity_of i)) (reach i.factor) 0 + load q is

-- for no quantity do the items add more than a coefficient can be
abbrev pub light : List Item → Bool
light is = every (λ (i : Item). leb (load (quantity_of i) is) 1000000) is

factor_reach : (k : Factor) (n : Name) → tame n ≡ true → nat_abs (factor k n) ≤ reach k
factor_reach (Number c) n t = omega arith
factor_reach (Minus c) n t = omega (arith, ints)
factor_reach MinusFlow n t =
    let w = within_parts 1000000 n.flow (and_parts (is_coefficient n.flow) (is_coefficient n.loss) t).0 in
    omega (arith, ints, w.above, w.below)
factor_reach MinusLoss n t =
    let w = within_parts 1000000 n.loss (and_parts (is_coefficient n.flow) (is_coefficient n.loss) t).1 in
    omega (arith, ints, w.above, w.below)

picked : (a q e : Bool) (z : ℤ) (m : ℕ) → nat_abs z ≤ m → nat_abs (when (a && (q && e)) z) ≤ cond q m 0
picked true true true z m h = h
picked true true false z m h = omega arith
picked false true e z m h = omega arith
picked true false e z m h = omega arith
picked false false e z m h = omega arith

added : (x y : ℤ) (m n : ℕ) → nat_abs x ≤ m → nat_abs y ≤ n → nat_abs (x +ℤ y) ≤ m + n
added x y m n g h = omega (arith, ints)

coefficient_load : (is : List Item) (n : Name) → tame n ≡ true → nat_abs (coefficient is n) ≤ load (number_of n.quantity) is
coefficient_load [] n t = omega arith
coefficient_load (i ∷ is) n t =
    added (amount i n) (coefficient is n) (cond (eqb (number_of n.quantity) (quantity_of i)) (reach i.factor) 0) (load (number_of n.quantity) is)
    (picked (among i.pick.span.first i.pick.span.past n) (eqb (number_of n.quantity) (quantity_of i)) (at_ends i.pick.ends n) (factor i.factor n) (reach i.factor) (factor_reach i.factor n t))
    (coefficient_load is n t)

-- a quantity has no item, or its load is one that was tested
loaded : (q : ℕ) (is js : List Item) → every (λ (i : Item). leb (load (quantity_of i) js) 1000000) is ≡ true → (load q is ≡ 0) ⊎ (load q js ≤ 1000000)
loaded q [] js h = inl refl
loaded q (i ∷ is) js h = go (eqb q (quantity_of i)) refl (loaded q is js s.1)
  where
    s : (leb (load (quantity_of i) js) 1000000 ≡ true) × (every (λ (k : Item). leb (load (quantity_of k) js) 1000000) is ≡ true)
    s = and_parts (leb (load (quantity_of i) js) 1000000) (every (λ (k : Item). leb (load (quantity_of k) js) 1000000) is) h

    go : (b : Bool) → eqb q (quantity_of i) ≡ b → (load q is ≡ 0) ⊎ (load q js ≤ 1000000) → (cond b (reach i.factor) 0 + load q is ≡ 0) ⊎ (load q js ≤ 1000000)
    go true e rest =
        inr (subst (λ (m : ℕ). load m js ≤ 1000000) (sym (eqb-true q (quantity_of i) e)) (leb-true (load (quantity_of i) js) 1000000 s.0))
    go false e (inl z) = inl (omega arith)
    go false e (inr l) = inr l

pub light_coefficient : (is : List Item) → light is ≡ true → (n : Name) → tame n ≡ true → is_coefficient (coefficient is n) ≡ true
light_coefficient is h n t =
    let c = coefficient_load is n t in
    let q = number_of n.quantity in
    let small : load q is ≤ 1000000 = elim (loaded q is is h) [ inl z ↦ omega arith | inr l ↦ l ] in
    within_from 1000000 (coefficient is n) (record { above = omega (arith, ints); below = omega (arith, ints) })
