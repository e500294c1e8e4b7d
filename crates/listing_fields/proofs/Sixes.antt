-- The terms in the bytes of a row.
use Rattle.std.proofs.Common.{◌≡◌, ℕ, suc, ◌+◌, ◌-◌, ◌*◌, ◌%◌, ◌<◌, ◌≤◌, List, [], ◌∷◌, ◌++◌, length, get_or, take, drop, ℤ, sym, refl, ap, ◌∙◌, arith, w32, SFits, to_z, rules}
use Rattle.std.proofs.lemmas.List.{take_rest, length-drop, append_assoc}
use Rattle.fields.specs.Bytes.{Bytes, two}
use Rattle.fields.proofs.Numbers.{two_read, signed_four_read, front_4}
use Rattle.fields.proofs.Injective.{two_one, signed_four_one}
use Rattle.listing_fields.specs.declared.term.Term.{Term}
use Rattle.listing_fields.specs.Terms.{terms_bytes, terms_in}
use Rattle.listing_fields.specs.Encoding.{TermsWritten}

-- the first six bytes and the rest
front_6 : (bs : List ℕ) → 6 ≤ length bs → bs ≡ get_or bs 0 0 ∷ get_or bs 1 0 ∷ get_or bs 2 0 ∷ get_or bs 3 0 ∷ get_or bs 4 0 ∷ get_or bs 5 0 ∷ drop 6 bs
front_6 [] h = absurd (omega arith)
front_6 (a ∷ []) h = absurd (omega arith)
front_6 (a ∷ b ∷ bs) h = ap (λ l. a ∷ b ∷ l) (front_4 bs (omega arith))

-- the term in front, as a slice pattern gives the rest
pub terms_more : (bs : List ℕ) (n : ℕ) (z : ℤ) → 6 ≤ length bs → n ≡ get_or bs 0 0 * 256 + get_or bs 1 0 → z ≡ to_z w32 (get_or bs 2 0 * 16777216 + get_or bs 3 0 * 65536 + get_or bs 4 0 * 256 + get_or bs 5 0) → (terms_in bs ≡ record { column = n; coefficient = z } ∷ terms_in (take (length bs - 6) (drop 6 bs))) × (length (take (length bs - 6) (drop 6 bs)) + 6 ≡ length bs)
terms_more bs n z h e f =
    let rest = take_rest bs 6 in (
      ap terms_in (front_6 bs h) ∙ sym (λ i. record { column = e i; coefficient = f i } ∷ terms_in (rest i)),
      omega (arith, ap length rest, length-drop 6 bs),
    )

-- whole terms are written in the bytes that they were read from
pub terms_back : (bs : List ℕ) → length bs % 6 ≡ 0 → Bytes bs → terms_bytes (terms_in bs) ≡ bs
terms_back [] h is = refl
terms_back (a ∷ []) h is = absurd (omega arith)
terms_back (a ∷ b ∷ []) h is = absurd (omega arith)
terms_back (a ∷ b ∷ c ∷ []) h is = absurd (omega arith)
terms_back (a ∷ b ∷ c ∷ d ∷ []) h is = absurd (omega arith)
terms_back (a ∷ b ∷ c ∷ d ∷ e ∷ []) h is = absurd (omega arith)
terms_back (a ∷ b ∷ c ∷ d ∷ e ∷ f ∷ bs) h is =
    let column = two_read a b (is 0) (is 1) in
    let coefficient = signed_four_read c d e f (is 2) (is 3) (is 4) (is 5) in
    λ i. ((column i) ++ (coefficient i)) ++ terms_back bs (omega arith) (λ k. is (suc (suc (suc (suc (suc (suc k))))))) i

-- the numbers that bytes hold fit them
signed_fits : (a b c d : ℕ) → a < 256 → b < 256 → c < 256 → d < 256 → SFits w32 (to_z w32 (a * 16777216 + b * 65536 + c * 256 + d))
signed_fits a b c d ha hb hc hd = search rules

pub terms_written : (bs : List ℕ) → Bytes bs → TermsWritten (terms_in bs)
terms_written [] is = tt
terms_written (a ∷ []) is = tt
terms_written (a ∷ b ∷ []) is = tt
terms_written (a ∷ b ∷ c ∷ []) is = tt
terms_written (a ∷ b ∷ c ∷ d ∷ []) is = tt
terms_written (a ∷ b ∷ c ∷ d ∷ e ∷ []) is = tt
terms_written (a ∷ b ∷ c ∷ d ∷ e ∷ f ∷ bs) is = (
  omega (arith, is 0, is 1),
  signed_fits c d e f (is 2) (is 3) (is 4) (is 5),
  terms_written bs (λ k. is (suc (suc (suc (suc (suc (suc k))))))),
)

-- terms are equal where their bytes are
pub terms_one : (ss ts : List Term) → TermsWritten ss → TermsWritten ts → terms_bytes ss ≡ terms_bytes ts → ss ≡ ts
unfolding two
terms_one [] [] p q e = refl
terms_one [] (t ∷ ts) p q e = let z : ◌≡◌ {A = ℕ} 0 1 = cc in absurd (omega arith)
terms_one (s ∷ ss) [] p q e = let z : ◌≡◌ {A = ℕ} 0 1 = cc in absurd (omega arith)
terms_one (s ∷ ss) (t ∷ ts) p q e =
    let c = two_one s.column t.column _ _ p.0 q.0 (simp append_assoc at e) in
    let k = signed_four_one s.coefficient t.coefficient _ _ p.1 q.1 c.1 in
    let rest = terms_one ss ts p.2 q.2 k.1 in
    λ i. record { column = c.0 i; coefficient = k.0 i } ∷ rest i
