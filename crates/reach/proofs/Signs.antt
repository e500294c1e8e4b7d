-- The tests of a product by its factors' signs.
use Rattle.std.proofs.Common.{◌≡◌, ℕ, zero, suc, ◌*◌, ◌/◌, ◌<◌, ◌≤◌, Bool, true, false, leb, ℤ, pos, negsuc, ◌*ℤ◌, neg_ℤ, nat_abs, ◌≤ℤ◌, ◌<ℤ◌, sym, refl, ap, ◌∙◌, mul_comm, le-div_iff_mul-le, div-le_self, arith, lit≤, w64, SFits, to_z, of_z, le-leb, leb-true}
use borrow.Author.Tests.{lt-leb}
use lib.Signed.{le_z, quot_z}
use Rattle.std.proofs.lemmas.Int.{ints, to_z-of_z, unsigned_abs-mul, fits_signed_from_abs}
use Rattle.certificates.specs.Steps.{in_reach}

abbrev H : ℕ
H = 1152921504606846976

same_test : (s t : Bool) → (s ≡ true → t ≡ true) → (t ≡ true → s ≡ true) → s ≡ t
same_test true t f g = sym (f refl)
same_test false true f g = g refl
same_test false false f g = refl

-- a factor within the quotient is a product within the range
by_quotient : (m k : ℕ) → 0 < k → leb m (H / k) ≡ leb (m * k) H
by_quotient m k h = same_test _ _
    (λ e. le-leb _ _ ((le-div_iff_mul-le h).0 (leb-true _ _ e)))
    (λ e. le-leb _ _ ((le-div_iff_mul-le h).1 (leb-true _ _ e)))

under : (q : ℕ) (b : ℤ) → b ≤ℤ pos 0 → le_z (neg_ℤ (pos q)) b ≡ leb (nat_abs b) q
under zero (pos zero) h = refl
under zero (pos (suc n)) h = absurd (omega (arith, ints))
under zero (negsuc n) h = sym (lt-leb (suc n) 0 (omega arith))
under (suc q) (pos zero) h = sym (le-leb 0 (suc q) (omega arith))
under (suc q) (pos (suc n)) h = absurd (omega (arith, ints))
under (suc q) (negsuc n) h = same_test _ _
    (λ e. le-leb _ _ (let p : n ≤ q = leb-true _ _ e in omega arith))
    (λ e. le-leb _ _ (let p : suc n ≤ suc q = leb-true _ _ e in omega arith))

to_reach : (a b : ℤ) → 0 < nat_abs a → leb (nat_abs b) (H / nat_abs a) ≡ in_reach (a *ℤ b)
to_reach a b h = by_quotient (nat_abs b) (nat_abs a) h ∙ ap (λ n. leb n H) (mul_comm (nat_abs b) (nat_abs a) ∙ sym (unsigned_abs-mul a b))

both_up : (a b : ℤ) → pos 0 <ℤ a → pos 0 <ℤ b → le_z a (quot_z (pos H) b) ≡ in_reach (a *ℤ b)
both_up (pos m) (pos n) p q = by_quotient m n (omega (arith, ints))
both_up (pos m) (negsuc n) p q = absurd (omega (arith, ints))
both_up (negsuc m) b p q = absurd (omega (arith, ints))

up_down : (a b : ℤ) → pos 0 <ℤ a → b ≤ℤ pos 0 → le_z (quot_z (negsuc 1152921504606846975) a) b ≡ in_reach (a *ℤ b)
up_down (pos m) b p q = under (H / m) b q ∙ to_reach (pos m) b (omega (arith, ints))
up_down (negsuc m) b p q = absurd (omega (arith, ints))

down_up : (a b : ℤ) → a <ℤ pos 0 → pos 0 <ℤ b → le_z (quot_z (negsuc 1152921504606846975) b) a ≡ in_reach (a *ℤ b)
down_up (pos m) b p q = absurd (omega (arith, ints))
down_up (negsuc m) (negsuc n) p q = absurd (omega (arith, ints))
down_up (negsuc m) (pos n) p q = under (H / n) (negsuc m) (omega (arith, ints)) ∙ by_quotient (suc m) n (omega (arith, ints)) ∙ ap (λ k. leb k H) (sym (unsigned_abs-mul (negsuc m) (pos n)))

both_down : (a b : ℤ) → a <ℤ pos 0 → b ≤ℤ pos 0 → le_z (quot_z (pos H) a) b ≡ in_reach (a *ℤ b)
both_down (pos m) b p q = absurd (omega (arith, ints))
both_down (negsuc m) b p q = under (H / suc m) b q ∙ to_reach (negsuc m) b (omega arith)

abs_neg : (n : ℕ) → nat_abs (neg_ℤ (pos n)) ≡ n
abs_neg zero = refl
abs_neg (suc n) = refl

quotient_fits : (n d : ℤ) → nat_abs n ≤ H → nat_abs (quot_z n d) ≤ H
quotient_fits (pos a) (pos b) h = let l = div-le_self a b in omega arith
quotient_fits (pos a) (negsuc b) h = let l = div-le_self a (suc b) in let e = abs_neg (a / suc b) in omega arith
quotient_fits (negsuc a) (pos b) h = let l = div-le_self (suc a) b in let e = abs_neg (suc a / b) in omega arith
quotient_fits (negsuc a) (negsuc b) h = let l = div-le_self (suc a) (suc b) in omega arith

-- a number as 64 bits hold it
abbrev held : ℤ → ℤ
held z = to_z w64 (of_z w64 z)

-- a quotient of the reach fits 64 bits
quotient_held : (n d : ℤ) → nat_abs n ≤ H → SFits w64 d → held (quot_z n (held d)) ≡ quot_z n d
quotient_held n d h f =
    let less = quotient_fits n d h in
    ap (λ k. held (quot_z n k)) (to_z-of_z w64 d f) ∙ to_z-of_z w64 (quot_z n d) (fits_signed_from_abs w64 _ (omega arith))

-- the four tests, as the code makes them
module _ (a b : ℤ) (p : SFits w64 a) (q : SFits w64 b) where
  pub by_both_up : pos 0 <ℤ a → pos 0 <ℤ b → le_z (held a) (held (quot_z (pos H) (held b))) ≡ in_reach (a *ℤ b)
  by_both_up s t = rw (to_z-of_z w64 a p, quotient_held (pos H) b (lit≤ tt) q) (both_up a b s t)

  pub by_up_down : pos 0 <ℤ a → b ≤ℤ pos 0 → le_z (held (quot_z (negsuc 1152921504606846975) (held a))) (held b) ≡ in_reach (a *ℤ b)
  by_up_down s t = rw (to_z-of_z w64 b q, quotient_held (negsuc 1152921504606846975) a (lit≤ tt) p) (up_down a b s t)

  pub by_down_up : a <ℤ pos 0 → pos 0 <ℤ b → le_z (held (quot_z (negsuc 1152921504606846975) (held b))) (held a) ≡ in_reach (a *ℤ b)
  by_down_up s t = rw (to_z-of_z w64 a p, quotient_held (negsuc 1152921504606846975) b (lit≤ tt) q) (down_up a b s t)

  pub by_both_down : a <ℤ pos 0 → b ≤ℤ pos 0 → le_z (held (quot_z (pos H) (held a))) (held b) ≡ in_reach (a *ℤ b)
  by_both_down s t = rw (to_z-of_z w64 b q, quotient_held (pos H) a (lit≤ tt) p) (both_down a b s t)

-- the four, for the attribute on `product_fits`
pub ruleset by_signs = (by_both_up, by_up_down, by_down_up, by_both_down)
