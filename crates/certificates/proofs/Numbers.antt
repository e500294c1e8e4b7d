-- The numbers in the bytes of a certificate.
use Rattle.std.proofs.Common.{◌≡◌, ℕ, ◌+◌, ◌*◌, ◌/◌, ◌%◌, ◌<◌, List, ◌∷◌, ◌++◌, ℤ, ap, ◌∙◌, arith, w32, w64, SFits, to_z, of_z}
use Rattle.std.proofs.lemmas.Int.{ints}
use Rattle.fields.specs.Bytes.{four, eight, signed_four, signed_eight}
use Rattle.certificates.specs.Values.{quantities, multipliers}

-- a number, as it is written, is the first that its bytes hold
pub quantities_first : (bs : List ℕ) (z : ℤ) (rest : List ℕ) → SFits w32 z → bs ≡ signed_four z ++ rest → quantities bs ≡ to_z w32 (of_z w32 z) ∷ quantities rest
unfolding signed_four four
quantities_first bs z rest fits e =
    let n = of_z w32 z in
    let small : n < 4294967296 = omega (arith, ints) in
    let same : n / 16777216 % 256 * 16777216 + n / 65536 % 256 * 65536 + n / 256 % 256 * 256 + n % 256 ≡ n = omega arith in
    ap quantities e ∙ ap (λ m. to_z w32 m ∷ quantities rest) same

pub multipliers_first : (bs : List ℕ) (z : ℤ) (rest : List ℕ) → SFits w64 z → bs ≡ signed_eight z ++ rest → multipliers bs ≡ to_z w64 (of_z w64 z) ∷ multipliers rest
unfolding signed_eight eight
multipliers_first bs z rest fits e =
    let n = of_z w64 z in
    let small : n < 18446744073709551616 = omega (arith, ints) in
    let same : n / 72057594037927936 % 256 * 72057594037927936 + n / 281474976710656 % 256 * 281474976710656 + n / 1099511627776 % 256 * 1099511627776 + n / 4294967296 % 256 * 4294967296 + n / 16777216 % 256 * 16777216 + n / 65536 % 256 * 65536 + n / 256 % 256 * 256 + n % 256 ≡ n = omega arith in
    ap multipliers e ∙ ap (λ m. to_z w64 m ∷ multipliers rest) same
