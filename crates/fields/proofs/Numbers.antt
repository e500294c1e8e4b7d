-- The bytes of a number that was read are the bytes that it was read from.
use Rattle.std.proofs.Common.{◌≡◌, ℕ, ◌+◌, ◌-◌, ◌*◌, ◌/◌, ◌%◌, ◌^◌, ◌<◌, ◌≤◌, List, [], ◌∷◌, ◌++◌, length, get_or, take, drop, ℤ, sym, refl, ap, ◌∙◌, arith, w8, w32, w64, Fits, to_z}
use Rattle.std.proofs.lemmas.List.{take_rest, length-drop}
use Rattle.std.proofs.lemmas.Int.{of_z-to_z}
use Rattle.fields.specs.Bytes.{two, four, eight, signed_four, signed_eight}

pub two_read : (a b : ℕ) → a < 256 → b < 256 → two (a * 256 + b) ≡ a ∷ b ∷ []
unfolding two
two_read a b ha hb =
    let e : (a * 256 + b) / 256 % 256 ≡ a = omega arith in
    let f : (a * 256 + b) % 256 ≡ b = omega arith in
    λ i. e i ∷ f i ∷ []

pub four_read : (a b c d : ℕ) → a < 256 → b < 256 → c < 256 → d < 256 → four (a * 16777216 + b * 65536 + c * 256 + d) ≡ a ∷ b ∷ c ∷ d ∷ []
unfolding four
four_read a b c d ha hb hc hd =
    let e : (a * 16777216 + b * 65536 + c * 256 + d) / 16777216 % 256 ≡ a = omega arith in
    let f : (a * 16777216 + b * 65536 + c * 256 + d) / 65536 % 256 ≡ b = omega arith in
    let g : (a * 16777216 + b * 65536 + c * 256 + d) / 256 % 256 ≡ c = omega arith in
    let h : (a * 16777216 + b * 65536 + c * 256 + d) % 256 ≡ d = omega arith in
    λ i. e i ∷ f i ∷ g i ∷ h i ∷ []

pub signed_four_read : (a b c d : ℕ) → a < 256 → b < 256 → c < 256 → d < 256 → signed_four (to_z w32 (a * 16777216 + b * 65536 + c * 256 + d)) ≡ a ∷ b ∷ c ∷ d ∷ []
unfolding signed_four
signed_four_read a b c d ha hb hc hd =
    let small : a * 16777216 + b * 65536 + c * 256 + d < 2 ^ 32 = omega arith in
    ap four (of_z-to_z w32 (a * 16777216 + b * 65536 + c * 256 + d) small) ∙ four_read a b c d ha hb hc hd

eight_read : (a b c d e f g h : ℕ) → a < 256 → b < 256 → c < 256 → d < 256 → e < 256 → f < 256 → g < 256 → h < 256 → eight (a * 72057594037927936 + b * 281474976710656 + c * 1099511627776 + d * 4294967296 + e * 16777216 + f * 65536 + g * 256 + h) ≡ a ∷ b ∷ c ∷ d ∷ e ∷ f ∷ g ∷ h ∷ []
unfolding eight
eight_read a b c d e f g h ha hb hc hd he hf hg hh =
    let n : ℕ = a * 72057594037927936 + b * 281474976710656 + c * 1099511627776 + d * 4294967296 + e * 16777216 + f * 65536 + g * 256 + h in
    let ea : n / 72057594037927936 % 256 ≡ a = omega arith in
    let eb : n / 281474976710656 % 256 ≡ b = omega arith in
    let ec : n / 1099511627776 % 256 ≡ c = omega arith in
    let ed : n / 4294967296 % 256 ≡ d = omega arith in
    let ee : n / 16777216 % 256 ≡ e = omega arith in
    let ef : n / 65536 % 256 ≡ f = omega arith in
    let eg : n / 256 % 256 ≡ g = omega arith in
    let eh : n % 256 ≡ h = omega arith in
    λ i. ea i ∷ eb i ∷ ec i ∷ ed i ∷ ee i ∷ ef i ∷ eg i ∷ eh i ∷ []

pub signed_eight_read : (a b c d e f g h : ℕ) → a < 256 → b < 256 → c < 256 → d < 256 → e < 256 → f < 256 → g < 256 → h < 256 → signed_eight (to_z w64 (a * 72057594037927936 + b * 281474976710656 + c * 1099511627776 + d * 4294967296 + e * 16777216 + f * 65536 + g * 256 + h)) ≡ a ∷ b ∷ c ∷ d ∷ e ∷ f ∷ g ∷ h ∷ []
unfolding signed_eight
signed_eight_read a b c d e f g h ha hb hc hd he hf hg hh =
    let small : a * 72057594037927936 + b * 281474976710656 + c * 1099511627776 + d * 4294967296 + e * 16777216 + f * 65536 + g * 256 + h < 2 ^ 64 = omega arith in
    ap eight (of_z-to_z w64 _ small) ∙ eight_read a b c d e f g h ha hb hc hd he hf hg hh

-- the first elements of a list and the rest make the list
pub front_1 : (bs : List ℕ) → 1 ≤ length bs → bs ≡ get_or bs 0 0 ∷ drop 1 bs
front_1 [] h = absurd (omega arith)
front_1 (a ∷ bs) h = refl

pub front_2 : (bs : List ℕ) → 2 ≤ length bs → bs ≡ get_or bs 0 0 ∷ get_or bs 1 0 ∷ drop 2 bs
front_2 [] h = absurd (omega arith)
front_2 (a ∷ bs) h = ap (λ l. a ∷ l) (front_1 bs (omega arith))

pub front_4 : (bs : List ℕ) → 4 ≤ length bs → bs ≡ get_or bs 0 0 ∷ get_or bs 1 0 ∷ get_or bs 2 0 ∷ get_or bs 3 0 ∷ drop 4 bs
front_4 [] h = absurd (omega arith)
front_4 (a ∷ []) h = absurd (omega arith)
front_4 (a ∷ b ∷ bs) h = ap (λ l. a ∷ b ∷ l) (front_2 bs (omega arith))

pub front_8 : (bs : List ℕ) → 8 ≤ length bs → bs ≡ get_or bs 0 0 ∷ get_or bs 1 0 ∷ get_or bs 2 0 ∷ get_or bs 3 0 ∷ get_or bs 4 0 ∷ get_or bs 5 0 ∷ get_or bs 6 0 ∷ get_or bs 7 0 ∷ drop 8 bs
front_8 [] h = absurd (omega arith)
front_8 (a ∷ []) h = absurd (omega arith)
front_8 (a ∷ b ∷ []) h = absurd (omega arith)
front_8 (a ∷ b ∷ c ∷ []) h = absurd (omega arith)
front_8 (a ∷ b ∷ c ∷ d ∷ bs) h = ap (λ l. a ∷ b ∷ c ∷ d ∷ l) (front_4 bs (omega arith))

-- a front and the rest, as a slice pattern gives the rest
parted : (n : ℕ) (bs front : List ℕ) → n ≤ length bs → bs ≡ front ++ drop n bs → (bs ≡ front ++ take (length bs - n) (drop n bs)) × (length (take (length bs - n) (drop n bs)) + n ≡ length bs)
parted n bs front h e =
    let rest = take_rest bs n in
    (e ∙ sym (ap (λ l. front ++ l) rest), omega (arith, ap length rest, length-drop n bs))

abbrev Known : List ℕ → Type 0
Known bs = (k : ℕ) → Fits w8 (get_or bs k 0)

pub split_1 : (bs : List ℕ) → 1 ≤ length bs → (bs ≡ get_or bs 0 0 ∷ take (length bs - 1) (drop 1 bs)) × (length (take (length bs - 1) (drop 1 bs)) + 1 ≡ length bs)
split_1 bs h = parted 1 bs (get_or bs 0 0 ∷ []) h (front_1 bs h)

pub split_2 : (bs : List ℕ) (r : ℕ) → 2 ≤ length bs → Known bs → r ≡ get_or bs 0 0 * 256 + get_or bs 1 0 → (bs ≡ two r ++ take (length bs - 2) (drop 2 bs)) × (length (take (length bs - 2) (drop 2 bs)) + 2 ≡ length bs)
split_2 bs r h is e =
    let value = ap two e ∙ two_read (get_or bs 0 0) (get_or bs 1 0) (is 0).fits (is 1).fits in
    parted 2 bs (two r) h (front_2 bs h ∙ sym (ap (λ l. l ++ drop 2 bs) value))

pub split_4 : (bs : List ℕ) (r : ℕ) → 4 ≤ length bs → Known bs → r ≡ get_or bs 0 0 * 16777216 + get_or bs 1 0 * 65536 + get_or bs 2 0 * 256 + get_or bs 3 0 → (bs ≡ four r ++ take (length bs - 4) (drop 4 bs)) × (length (take (length bs - 4) (drop 4 bs)) + 4 ≡ length bs)
split_4 bs r h is e =
    let value = ap four e ∙ four_read (get_or bs 0 0) (get_or bs 1 0) (get_or bs 2 0) (get_or bs 3 0) (is 0).fits (is 1).fits (is 2).fits (is 3).fits in
    parted 4 bs (four r) h (front_4 bs h ∙ sym (ap (λ l. l ++ drop 4 bs) value))

pub split_signed_4 : (bs : List ℕ) (z : ℤ) → 4 ≤ length bs → Known bs → z ≡ to_z w32 (get_or bs 0 0 * 16777216 + get_or bs 1 0 * 65536 + get_or bs 2 0 * 256 + get_or bs 3 0) → (bs ≡ signed_four z ++ take (length bs - 4) (drop 4 bs)) × (length (take (length bs - 4) (drop 4 bs)) + 4 ≡ length bs)
split_signed_4 bs z h is e =
    let value = ap signed_four e ∙ signed_four_read (get_or bs 0 0) (get_or bs 1 0) (get_or bs 2 0) (get_or bs 3 0) (is 0).fits (is 1).fits (is 2).fits (is 3).fits in
    parted 4 bs (signed_four z) h (front_4 bs h ∙ sym (ap (λ l. l ++ drop 4 bs) value))

pub split_signed_8 : (bs : List ℕ) (z : ℤ) → 8 ≤ length bs → Known bs → z ≡ to_z w64 (get_or bs 0 0 * 72057594037927936 + get_or bs 1 0 * 281474976710656 + get_or bs 2 0 * 1099511627776 + get_or bs 3 0 * 4294967296 + get_or bs 4 0 * 16777216 + get_or bs 5 0 * 65536 + get_or bs 6 0 * 256 + get_or bs 7 0) → (bs ≡ signed_eight z ++ take (length bs - 8) (drop 8 bs)) × (length (take (length bs - 8) (drop 8 bs)) + 8 ≡ length bs)
split_signed_8 bs z h is e =
    let value = ap signed_eight e ∙ signed_eight_read (get_or bs 0 0) (get_or bs 1 0) (get_or bs 2 0) (get_or bs 3 0) (get_or bs 4 0) (get_or bs 5 0) (get_or bs 6 0) (get_or bs 7 0) (is 0).fits (is 1).fits (is 2).fits (is 3).fits (is 4).fits (is 5).fits (is 6).fits (is 7).fits in
    parted 8 bs (signed_eight z) h (front_8 bs h ∙ sym (ap (λ l. l ++ drop 8 bs) value))
