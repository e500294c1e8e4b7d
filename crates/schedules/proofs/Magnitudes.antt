-- How large a product and a running sum are.
use Rattle.std.proofs.Common.{◌≡◌, ℕ, ◌+◌, ◌*◌, ◌≤◌, ℤ, pos, negsuc, ◌+ℤ◌, ◌*ℤ◌, nat_abs, sym, subst, ◌∙◌, mul-le-mul, arith, w64, SFits, to_z, of_z}
use Rattle.std.proofs.lemmas.Int.{ints, to_z-of_z, unsigned_abs-mul}
use Rattle.books.proofs.Integers.{linear}
use Rattle.books.proofs.Sounds.{Within}

abs_out : (m : ℕ) (z : ℤ) → Within m z → nat_abs z ≤ m
abs_out m (pos n) h = let k = h.below in omega (arith, ints)
abs_out m (negsuc n) h = let k = h.above in omega (arith, ints)

abs_in : (m : ℕ) (z : ℤ) → nat_abs z ≤ m → Within m z
abs_in m (pos n) h = record { above = omega (arith, ints); below = omega (arith, ints) }
abs_in m (negsuc n) h = record { above = omega (arith, ints); below = omega (arith, ints) }

pub within_times : (m n : ℕ) (a b : ℤ) → Within m a → Within n b → Within (m * n) (a *ℤ b)
within_times m n a b p q =
    let both = mul-le-mul (abs_out m a p) (abs_out n b q) in
    let e = unsigned_abs-mul a b in
    abs_in (m * n) (a *ℤ b) (omega arith)

-- a running sum of n numbers of at most m, and what is left of the total
pub record Sum (m n : ℕ) (total left sum : ℤ) : Type 0 where
  pub whole : sum +ℤ left ≡ total
  pub far : Within (m * n) sum

pub sum_begins : (m : ℕ) (total : ℤ) → Sum m 0 total total (pos 0)
sum_begins m total = record { whole = omega (arith, ints); far = record { above = omega (arith, ints); below = omega (arith, ints) } }

-- y is added, and fits
pub record Turned (m n : ℕ) (total less sum y : ℤ) : Type 0 where
  pub fits : SFits w64 (sum +ℤ to_z w64 (of_z w64 y))
  pub next : (k : ℕ) → k ≡ n + 1 → Sum m k total less (to_z w64 (of_z w64 (sum +ℤ to_z w64 (of_z w64 y))))

-- one number more, as 64 bits hold it
module _ (m n : ℕ) {total left sum : ℤ} (most : m * n + m ≤ 1000000000000000000) (so_far : Sum m n total left sum) (x y less : ℤ) (near : Within m x) (front : left ≡ x +ℤ less) (same : y ≡ x) where
  held : to_z w64 (of_z w64 y) ≡ x
  held =
      let a = near.above in
      let b = near.below in
      let fits : SFits w64 y = omega (arith, ints) in
      to_z-of_z w64 y fits ∙ same

  whole : SFits w64 (sum +ℤ x)
  whole =
      let a = near.above in
      let b = near.below in
      let c = so_far.far.above in
      let d = so_far.far.below in
      omega (arith, ints)

  pub sum_turn : Turned m n total less sum y
  sum_turn =
      let a = near.above in
      let b = near.below in
      let c = so_far.far.above in
      let d = so_far.far.below in
      let w = so_far.whole in
      record {
        fits = rw held whole;
        next = λ k e. rw (held, to_z-of_z w64 (sum +ℤ x) whole) (record {
          whole = omega (arith, linear);
          far = subst (λ (j : ℕ). Within (m * j) (sum +ℤ x)) (sym e) (record { above = omega (arith, ints); below = omega (arith, ints) });
        });
      }

pub sum_ends : {m n : ℕ} {total left sum : ℤ} → Sum m n total left sum → left ≡ pos 0 → sum ≡ total
sum_ends s e = let w = s.whole in omega (arith, linear)
