-- The ranges of blocks and of points, one after the other.
use Rattle.std.proofs.Common.{◌≡◌, ℕ, ◌+◌, ◌<◌, Bool, true, false, Some, None, Option, List, [], ◌∷◌, ℤ, pos, ◌+ℤ◌, nat_abs, ◌≤ℤ◌, sym, refl, ap, ◌∙◌, arith}
use lib.IntN.{+ℤ_assoc, +ℤ_idr}
use lib.Signed.{le_z}
use Rattle.std.proofs.lemmas.Int.{ints}
use Rattle.case_fields.specs.declared.part.Block.{Block}
use Rattle.case_fields.specs.declared.part.Point.{Point}
use Rattle.case_fields.specs.Kinds.{both}
use Rattle.case_fields.specs.Tests.{is_quantity, is_block_price, each_block, sum_of_maxima, each_point, above, points_fit}

-- both of two tests that passed together
pub parts : (x y : Bool) → both x y ≡ true → (x ≡ true) × (y ≡ true)
parts true y h = (refl, h)
parts false y h = absurd (let z : ◌≡◌ {A = ℕ} 0 1 = cc in omega arith)

-- whether blocks fit after others whose maxima sum to t
abbrev pub blocks_fit_after : ℕ → List Block → Bool
blocks_fit_after t bs = both (each_block bs) (le_z (pos t +ℤ sum_of_maxima bs) (pos 1000000))

abbrev is_block : Block → Bool
is_block b = both (is_block_price b.price) (is_quantity b.maximum)

added : (t : ℕ) (m : ℤ) → is_quantity m ≡ true → pos t +ℤ m ≡ pos (t + nat_abs m)
added t m h =
    let low : pos 0 ≤ℤ m = grind (arith, ints) in
    omega (arith, ints)

pub blocks_more : (t : ℕ) (b : Block) (bs : List Block) → true ≡ is_block b → blocks_fit_after t (b ∷ bs) ≡ blocks_fit_after (t + nat_abs b.maximum) bs
blocks_more t b bs h =
    let sum = added t b.maximum (parts _ _ (sym h)).1 in
    let on = sym (+ℤ_assoc (pos t) b.maximum (sum_of_maxima bs)) ∙ ap (λ z. z +ℤ sum_of_maxima bs) sum in
    λ i. both (both (sym h i) (each_block bs)) (le_z (on i) (pos 1000000))

-- too great a sum stays too great
pub over : (t : ℕ) (bs : List Block) → 1000000 < t → blocks_fit_after t bs ≡ false
over t [] h = let e : pos t +ℤ pos 0 ≡ pos t = +ℤ_idr (pos t) in grind (arith, ints)
over t (b ∷ bs) h = go (λ u k. over u bs k) (is_block b) refl
  where
    go : ((u : ℕ) → 1000000 < u → blocks_fit_after u bs ≡ false) → (v : Bool) → v ≡ is_block b → both (both v (each_block bs)) (le_z (pos t +ℤ (b.maximum +ℤ sum_of_maxima bs)) (pos 1000000)) ≡ false
    go rest false e = refl
    go rest true e =
        (λ i. both (both (e i) (each_block bs)) (le_z (pos t +ℤ (b.maximum +ℤ sum_of_maxima bs)) (pos 1000000)))
        ∙ blocks_more t b bs e
        ∙ rest (t + nat_abs b.maximum) (omega arith)

-- whether points fit after the last one of this flow, or before all
abbrev pub points_fit_after : Option ℤ → List Point → Bool
points_fit_after None ps = points_fit ps
points_fit_after (Some z) ps = both (each_point ps) (above z ps)
