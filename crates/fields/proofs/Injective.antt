-- The bytes of a number determine it.
use Rattle.std.proofs.Common.{◌≡◌, ℕ, ◌/◌, ◌%◌, ◌<◌, List, ◌++◌, length, ℤ, pos, negsuc, sym, refl, ap, ◌∙◌, arith, w32, w64, SFits, to_z, of_z}
use mir.Syntax.{Width}
use Rattle.std.proofs.lemmas.Int.{to_z-of_z}
use Rattle.fields.specs.Bytes.{two, four, eight, signed_four, signed_eight}

-- how many bytes a number has
pub length_two : (n : ℕ) → length (two n) ≡ 2
unfolding two
length_two n = refl

pub length-four : (n : ℕ) → length (four n) ≡ 4
unfolding four
length-four n = refl

pub length-signed_four : (z : ℤ) → length (signed_four z) ≡ 4
unfolding signed_four
length-signed_four z = length-four (of_z w32 z)

pub length-signed_eight : (z : ℤ) → length (signed_eight z) ≡ 8
unfolding signed_eight eight
length-signed_eight z = refl

-- unsigned numbers are equal, and what follows them, where the bytes are
pub two_one : (m n : ℕ) (x y : List ℕ) → m < 65536 → n < 65536 → two m ++ x ≡ two n ++ y → (m ≡ n) × (x ≡ y)
unfolding two
two_one m n x y p q e =
    let a : m / 256 % 256 ≡ n / 256 % 256 = cc in
    let b : m % 256 ≡ n % 256 = cc in
    (omega arith, cc)

pub four_one : (m n : ℕ) (x y : List ℕ) → m < 4294967296 → n < 4294967296 → four m ++ x ≡ four n ++ y → (m ≡ n) × (x ≡ y)
unfolding four
four_one m n x y p q e =
    let a : m / 16777216 % 256 ≡ n / 16777216 % 256 = cc in
    let b : m / 65536 % 256 ≡ n / 65536 % 256 = cc in
    let c : m / 256 % 256 ≡ n / 256 % 256 = cc in
    let d : m % 256 ≡ n % 256 = cc in
    (omega arith, cc)

eight_one : (m n : ℕ) (x y : List ℕ) → m < 18446744073709551616 → n < 18446744073709551616 → eight m ++ x ≡ eight n ++ y → (m ≡ n) × (x ≡ y)
unfolding eight
eight_one m n x y p q e =
    let a : m / 72057594037927936 % 256 ≡ n / 72057594037927936 % 256 = cc in
    let b : m / 281474976710656 % 256 ≡ n / 281474976710656 % 256 = cc in
    let c : m / 1099511627776 % 256 ≡ n / 1099511627776 % 256 = cc in
    let d : m / 4294967296 % 256 ≡ n / 4294967296 % 256 = cc in
    let a' : m / 16777216 % 256 ≡ n / 16777216 % 256 = cc in
    let b' : m / 65536 % 256 ≡ n / 65536 % 256 = cc in
    let c' : m / 256 % 256 ≡ n / 256 % 256 = cc in
    let d' : m % 256 ≡ n % 256 = cc in
    (omega arith, cc)

-- the bits of a signed number that fits are bounded, and determine it
bits_four : (z : ℤ) → SFits w32 z → of_z w32 z < 4294967296
bits_four (pos n) h = omega arith
bits_four (negsuc n) h = omega arith

bits_eight : (z : ℤ) → SFits w64 z → of_z w64 z < 18446744073709551616
bits_eight (pos n) h = omega arith
bits_eight (negsuc n) h = omega arith

bits_one : (w : Width) (a b : ℤ) → SFits w a → SFits w b → of_z w a ≡ of_z w b → a ≡ b
bits_one w a b p q e = sym (to_z-of_z w a p) ∙ ap (to_z w) e ∙ to_z-of_z w b q

-- the same of signed numbers
pub signed_four_one : (a b : ℤ) (x y : List ℕ) → SFits w32 a → SFits w32 b → signed_four a ++ x ≡ signed_four b ++ y → (a ≡ b) × (x ≡ y)
unfolding signed_four
signed_four_one a b x y p q e =
    let s = four_one (of_z w32 a) (of_z w32 b) x y (bits_four a p) (bits_four b q) e in
    (bits_one w32 a b p q s.0, s.1)

pub signed_eight_one : (a b : ℤ) (x y : List ℕ) → SFits w64 a → SFits w64 b → signed_eight a ++ x ≡ signed_eight b ++ y → (a ≡ b) × (x ≡ y)
unfolding signed_eight
signed_eight_one a b x y p q e =
    let s = eight_one (of_z w64 a) (of_z w64 b) x y (bits_eight a p) (bits_eight b q) e in
    (bits_one w64 a b p q s.0, s.1)
