-- Laws of the integers' product that the libraries lack, and the rules by which `omega` takes a product for an unknown.
use Rattle.std.proofs.Common.{◌≡◌, ℕ, suc, ◌*◌, ℤ, pos, negsuc, ◌+ℤ◌, ◌*ℤ◌, ◌≤ℤ◌, sym, ap, ◌∙◌, mul-le-mul_left, arith}
use lib.IntN.{*ℤ_comm}
use borrow.Author.Differences.{up, down, same_in, same_out, le_out, at_most_in, lt_out, below_in, sum_is_lem, neg_is, product_is}

-- sums, differences and orders; a product stays an unknown
pub ruleset linear = (same_in, same_out, le_out, at_most_in, lt_out, below_in, sum_is_lem, neg_is)

pub add_times : (a b c : ℤ) → (a +ℤ b) *ℤ c ≡ a *ℤ c +ℤ b *ℤ c
add_times a b c =
    let p = ap (λ n. n * up c) (sum_is_lem a b) in
    let q = ap (λ n. n * down c) (sum_is_lem a b) in
    omega (arith, same_in, sum_is_lem, product_is)

pub times_add : (a b c : ℤ) → a *ℤ (b +ℤ c) ≡ a *ℤ b +ℤ a *ℤ c
times_add a b c = *ℤ_comm a (b +ℤ c) ∙ add_times b c a ∙ (λ i. *ℤ_comm b a i +ℤ *ℤ_comm c a i)

pub times_assoc : (a b c : ℤ) → (a *ℤ b) *ℤ c ≡ a *ℤ (b *ℤ c)
times_assoc a b c =
    let p = ap (λ n. n * up c) (product_is a b).0 in
    let q = ap (λ n. n * down c) (product_is a b).0 in
    let r = ap (λ n. n * up c) (product_is a b).1 in
    let s = ap (λ n. n * down c) (product_is a b).1 in
    let t = ap (λ n. up a * n) (product_is b c).0 in
    let u = ap (λ n. down a * n) (product_is b c).0 in
    let v = ap (λ n. up a * n) (product_is b c).1 in
    let w = ap (λ n. down a * n) (product_is b c).1 in
    omega (arith, same_in, product_is)

-- a factor moves to the front
pub times_swap : (a b c : ℤ) → a *ℤ (b *ℤ c) ≡ b *ℤ (a *ℤ c)
times_swap a b c = sym (times_assoc a b c) ∙ ap (λ z. z *ℤ c) (*ℤ_comm a b) ∙ times_assoc b a c

-- a factor that is not negative keeps an order, and a negative one turns it
pub times_le : (n : ℕ) (v w : ℤ) → v ≤ℤ w → (pos n *ℤ v) ≤ℤ (pos n *ℤ w)
times_le n v w h = let m = mul-le-mul_left n (le_out v w h) in omega (arith, at_most_in, product_is)

pub times_ge : (n : ℕ) (v w : ℤ) → w ≤ℤ v → (negsuc n *ℤ v) ≤ℤ (negsuc n *ℤ w)
times_ge n v w h = let m = mul-le-mul_left (suc n) (le_out w v h) in omega (arith, at_most_in, product_is)
