-- A product of two numbers of 32 bits.
use Rattle.std.proofs.Common.{◌≡◌, ℕ, suc, ◌≤◌, ℤ, pos, negsuc, ◌*ℤ◌, neg_ℤ, ◌≤ℤ◌, sym, ◌∙◌, subst, mul-le-mul, arith, w64, to_z, of_z}
use Rattle.std.proofs.lemmas.Int.{ints}

pub record Near (z : ℤ) (b : ℕ) : Type 0 where
  pub low : neg_ℤ (pos b) ≤ℤ z
  pub high : z ≤ℤ pos b

near_pos : (n b : ℕ) → Near (pos n) b → n ≤ b
near_pos n b w = omega (arith, ints, w.high)

near_neg : (n b : ℕ) → Near (negsuc n) b → suc n ≤ b
near_neg n b w = omega (arith, ints, w.low)

pub product_near : (a b : ℤ) → Near a 2147483648 → Near b 2147483648 → Near (a *ℤ b) 4611686018427387904
product_near (pos m) (pos n) v w = let h = mul-le-mul (near_pos m _ v) (near_pos n _ w) in record { low = omega (arith, ints); high = omega (arith, ints) }
product_near (pos m) (negsuc n) v w = let h = mul-le-mul (near_pos m _ v) (near_neg n _ w) in record { low = omega (arith, ints); high = omega (arith, ints) }
product_near (negsuc m) (pos n) v w = let h = mul-le-mul (near_neg m _ v) (near_pos n _ w) in record { low = omega (arith, ints); high = omega (arith, ints) }
product_near (negsuc m) (negsuc n) v w = let h = mul-le-mul (near_neg m _ v) (near_neg n _ w) in record { low = omega (arith, ints); high = omega (arith, ints) }

back : (z : ℤ) → Near z 4611686018427387904 → to_z w64 (of_z w64 z) ≡ z
back z w = omega (arith, ints, w.low, w.high)

pub product_back : (a b x y : ℤ) → x ≡ a → y ≡ b → Near a 2147483648 → Near b 2147483648 → to_z w64 (of_z w64 (x *ℤ y)) ≡ a *ℤ b
product_back a b x y e f v w = (λ i. to_z w64 (of_z w64 (e i *ℤ f i))) ∙ back (a *ℤ b) (product_near a b v w)

pub same_near : (y z : ℤ) (b : ℕ) → y ≡ z → Near z b → Near y b
same_near y z b e w = subst (λ (v : ℤ). Near v b) (sym e) w
