-- Steps through the items of a sum.
use Rattle.std.proofs.Common.{◌≡◌, ℕ, ◌+◌, ◌<◌, ◌≤◌, false, ◌&&◌, eqb, List, length, get_or, drop, ℤ, pos, ◌+ℤ◌, ap, arith}
use Rattle.std.proofs.lemmas.List.{at_drop_more, at_drop_all}
use Rattle.std.proofs.lemmas.Int.{ints}
use Rattle.case_columns.specs.declared.name.Name.{Name}
use Rattle.case_columns.specs.Placed.{among}
use Rattle.clauses.specs.declared.sum.Item.{Item}
use Rattle.clauses.specs.Sums.{number_of, at_ends, factor, when, amount, coefficient}

module _ (items : List Item) (i : ℕ) (d : Item) (p : Name) (h : i < length items) where
  pub coefficient_more : coefficient (drop i items) p ≡ amount (get_or items i d) p +ℤ coefficient (drop (i + 1) items) p
  coefficient_more = at_drop_more (λ l. coefficient l p) items i d h

  pub coefficient_added : (r z t : ℤ) → r ≡ amount (get_or items i d) p → z +ℤ coefficient (drop i items) p ≡ t → (z +ℤ r) +ℤ coefficient (drop (i + 1) items) p ≡ t
  coefficient_added r z t e inv = let m = coefficient_more in omega (arith, ints)

  pub coefficient_skips : among (get_or items i d).pick.span.first (get_or items i d).pick.span.past p ≡ false → coefficient (drop i items) p ≡ coefficient (drop (i + 1) items) p
  coefficient_skips e =
      let k = (get_or items i d).pick in
      let m = coefficient_more in
      let z : amount (get_or items i d) p ≡ pos 0 = ap (λ b. when (b && (eqb (number_of p.quantity) (number_of k.quantity) && at_ends k.ends p)) (factor (get_or items i d).factor p)) e in
      omega (arith, ints)

pub coefficient_end : (items : List Item) (i : ℕ) (p : Name) → length items ≤ i → coefficient (drop i items) p ≡ pos 0
coefficient_end items i p h = at_drop_all (λ l. coefficient l p) items i h
