-- The pairs of numbers in the bytes of a file.
use Rattle.std.proofs.Common.{◌≡◌, ℕ, suc, ◌+◌, ◌*◌, ◌/◌, ◌%◌, ◌<◌, ◌^◌, List, [], ◌∷◌, ◌++◌, map, length, ℤ, sym, refl, ap, ◌∙◌, subst, arith, w32, SFits, to_z, of_z}
use Rattle.std.proofs.Math.Facts.{sfits_to_z, Fits-of_z}
use Rattle.std.proofs.lemmas.Int.{to_z-of_z}
use Rattle.std.specs.List.{flat_map}
use Rattle.std.proofs.lemmas.List.{length-append, append_assoc, nil_from_length}
use Rattle.fields.specs.Bytes.{Bytes, four, signed_four}
use Rattle.fields.proofs.Numbers.{signed_four_read}
use Rattle.fields.proofs.Injective.{length-signed_four, signed_four_one}
use Rattle.case_fields.specs.declared.part.Block.{Block}
use Rattle.case_fields.specs.declared.part.Point.{Point}
use Rattle.case_fields.specs.Parts.{pairs_in, block_of, point_of, blocks_in, points_in, blocks_bytes, points_bytes}
use Rattle.case_fields.specs.Held.{by_eights, pairs_none}
use Rattle.case_fields.specs.Encoding.{BlocksWritten, PointsWritten}

-- four bytes read back as the signed number that is written so
read_back : (z : ℤ) → SFits w32 z → to_z w32 (of_z w32 z / 16777216 % 256 * 16777216 + of_z w32 z / 65536 % 256 * 65536 + of_z w32 z / 256 % 256 * 256 + of_z w32 z % 256) ≡ z
read_back z h =
    let small : of_z w32 z < 2 ^ 32 = (Fits-of_z h).fits in
    let whole : of_z w32 z / 16777216 % 256 * 16777216 + of_z w32 z / 65536 % 256 * 65536 + of_z w32 z / 256 % 256 * 256 + of_z w32 z % 256 ≡ of_z w32 z = omega arith in
    ap (to_z w32) whole ∙ to_z-of_z w32 z h

front_pair : (x y : ℤ) (rest : List ℕ) → SFits w32 x → SFits w32 y → pairs_in (signed_four x ++ (signed_four y ++ rest)) ≡ (x, y) ∷ pairs_in rest
unfolding signed_four four
front_pair x y rest h k = λ i. (read_back x h i, read_back y k i) ∷ pairs_in rest

-- the part in front, as its two numbers are read and stored
pub part_read : {X : Type 0} (of : ℤ × ℤ → X) {bs r : List ℕ} (t : List ℕ) (x y : ℤ) → SFits w32 x → SFits w32 y → bs ≡ signed_four x ++ r → r ≡ signed_four y ++ t → map of (pairs_in bs) ≡ of (to_z w32 (of_z w32 x), to_z w32 (of_z w32 y)) ∷ map of (pairs_in t)
part_read of t x y h k e f =
    ap (λ l. map of (pairs_in l)) (e ∙ ap (λ l. signed_four x ++ l) f)
    ∙ ap (map of) (front_pair x y t h k)
    ∙ (λ i. of (sym (to_z-of_z w32 x h) i, sym (to_z-of_z w32 y k) i) ∷ map of (pairs_in t))

-- a number that was read fits its four bytes
number_fits : (a b c d : ℕ) → a < 256 → b < 256 → c < 256 → d < 256 → SFits w32 (to_z w32 (a * 16777216 + b * 65536 + c * 256 + d))
number_fits a b c d ha hb hc hd = sfits_to_z (record { fits = omega arith })

-- parts of two numbers, of which `Written` says that they fit
module _ {X : Type 0} (of : ℤ × ℤ → X) (first second : X → ℤ) (Written : List X → Type 0) where
  abbrev part_bytes : X → List ℕ
  part_bytes x = signed_four (first x) ++ signed_four (second x)

  -- the bytes of the parts that bytes hold are those bytes
  back : ((p : ℤ × ℤ) → part_bytes (of p) ≡ signed_four p.0 ++ signed_four p.1) → (bs : List ℕ) → Bytes bs → length bs % 8 ≡ 0 → flat_map part_bytes (map of (pairs_in bs)) ≡ bs
  back same =
      by_eights (λ bs. Bytes bs → length bs % 8 ≡ 0 → flat_map part_bytes (map of (pairs_in bs)) ≡ bs)
      (λ bs few is long. let none = nil_from_length bs (omega arith) in ap (λ l. flat_map part_bytes (map of (pairs_in l))) none ∙ sym none)
      (λ a b c d e f g h bs on is long.
      let one = signed_four_read a b c d (is 0) (is 1) (is 2) (is 3) in
      let two = signed_four_read e f g h (is 4) (is 5) (is 6) (is 7) in
      let rest = on (λ k. is (suc (suc (suc (suc (suc (suc (suc (suc k))))))))) (omega arith) in
      λ i. ((same _ ∙ (λ j. one j ++ two j)) i) ++ rest i)

  -- the parts that bytes hold fit
  fitting : Written [] → ((p : ℤ × ℤ) (xs : List X) → SFits w32 p.0 → SFits w32 p.1 → Written xs → Written (of p ∷ xs)) → (bs : List ℕ) → Bytes bs → Written (map of (pairs_in bs))
  fitting none more =
      by_eights (λ bs. Bytes bs → Written (map of (pairs_in bs)))
      (λ bs few is. subst (λ (ps : List (ℤ × ℤ)). Written (map of ps)) (sym (pairs_none bs few)) none)
      (λ a b c d e f g h bs on is.
      let one = number_fits a b c d (is 0) (is 1) (is 2) (is 3) in
      let two = number_fits e f g h (is 4) (is 5) (is 6) (is 7) in
      more _ _ one two (on (λ k. is (suc (suc (suc (suc (suc (suc (suc (suc k)))))))))))

  part_long : (x : X) (bs : List ℕ) → length (part_bytes x ++ bs) ≡ 8 + length bs
  part_long x bs =
      omega (arith, length-append (part_bytes x) bs, length-append (signed_four (first x)) (signed_four (second x)), length-signed_four (first x), length-signed_four (second x))

  -- parts that fit are equal where their bytes are
  one : ((x : X) → x ≡ of (first x, second x)) → ((x : X) (xs : List X) → Written (x ∷ xs) → SFits w32 (first x) × SFits w32 (second x) × Written xs) → (xs ys : List X) → Written xs → Written ys → flat_map part_bytes xs ≡ flat_map part_bytes ys → xs ≡ ys
  one made parts [] [] w v e = refl
  one made parts [] (y ∷ ys) w v e = absurd (omega (arith, ap length e, part_long y (flat_map part_bytes ys)))
  one made parts (x ∷ xs) [] w v e = absurd (omega (arith, ap length e, part_long x (flat_map part_bytes xs)))
  one made parts (x ∷ xs) (y ∷ ys) w v e =
      let p = parts x xs w in
      let q = parts y ys v in
      let joints : signed_four (first x) ++ (signed_four (second x) ++ flat_map part_bytes xs) ≡ signed_four (first y) ++ (signed_four (second y) ++ flat_map part_bytes ys) = sym (append_assoc (signed_four (first x)) (signed_four (second x)) (flat_map part_bytes xs)) ∙ e ∙ append_assoc (signed_four (first y)) (signed_four (second y)) (flat_map part_bytes ys) in
      let f = signed_four_one (first x) (first y) _ _ p.0 q.0 joints in
      let s = signed_four_one (second x) (second y) _ _ p.1 q.1 f.1 in
      let here = made x ∙ (λ i. of (f.0 i, s.0 i)) ∙ sym (made y) in
      let rest = one made parts xs ys p.2 q.2 s.1 in
      λ i. here i ∷ rest i

pub blocks_back : (bs : List ℕ) → Bytes bs → length bs % 8 ≡ 0 → blocks_bytes (blocks_in bs) ≡ bs
blocks_back = back block_of (λ b. b.price) (λ b. b.maximum) BlocksWritten (λ p. refl)

pub points_back : (bs : List ℕ) → Bytes bs → length bs % 8 ≡ 0 → points_bytes (points_in bs) ≡ bs
points_back = back point_of (λ p. p.flow) (λ p. p.loss) PointsWritten (λ p. refl)

pub blocks_written : (bs : List ℕ) → Bytes bs → BlocksWritten (blocks_in bs)
blocks_written = fitting block_of (λ b. b.price) (λ b. b.maximum) BlocksWritten tt (λ p bs f g w. (f, g, w))

pub points_written : (bs : List ℕ) → Bytes bs → PointsWritten (points_in bs)
points_written = fitting point_of (λ p. p.flow) (λ p. p.loss) PointsWritten tt (λ p ps f g w. (f, g, w))

pub blocks_one : (xs ys : List Block) → BlocksWritten xs → BlocksWritten ys → blocks_bytes xs ≡ blocks_bytes ys → xs ≡ ys
blocks_one = one block_of (λ b. b.price) (λ b. b.maximum) BlocksWritten (λ b. refl) (λ b bs w. w)

pub points_one : (xs ys : List Point) → PointsWritten xs → PointsWritten ys → points_bytes xs ≡ points_bytes ys → xs ≡ ys
points_one = one point_of (λ p. p.flow) (λ p. p.loss) PointsWritten (λ p. refl) (λ p ps w. w)
