-- A body that was read number by number is the body of what was read, and the record that is made of it means the same.
use Rattle.std.proofs.Common.{◌≡◌, ℕ, zero, suc, ◌+◌, ◌%◌, ◌<◌, true, cond, List, ◌∷◌, ◌++◌, length, ℤ, pos, negsuc, Some, None, Option, sym, refl, ap, ◌∙◌, subst, arith}
use Rattle.std.proofs.lemmas.Bool.{false≢true, eqb-true}
use Rattle.std.proofs.lemmas.List.{append_assoc, get_or-append-add}
use Rattle.fields.specs.Bytes.{Bytes, signed_eight}
use Rattle.listing_fields.specs.Terms.{terms_in, terms_bytes}
use Rattle.listing_fields.specs.Encoding.{TermsWritten}
use Rattle.listing_fields.specs.Tests.{is_nought, has_lower, has_upper}
use Rattle.listing_fields.specs.Meant.{side_byte, side_number}
use Rattle.listing_fields.proofs.Ranges.{Sides}
use Rattle.listing_fields.proofs.Sixes.{terms_back, terms_written}

-- what follows a front of bytes are bytes
behind : (front rest : List ℕ) → Bytes (front ++ rest) → Bytes rest
behind front rest is k = subst (λ n. n < 256) (get_or-append-add front rest k 0) (is (length front + k))

module _ (bs x y z ts us : List ℕ) (c s : ℕ) (l l' u u' : ℤ) (el : l' ≡ l) (eu : u' ≡ u) (is : Bytes bs) (p : bs ≡ c ∷ x) (q : x ≡ s ∷ y) (a : y ≡ signed_eight l ++ z) (b : z ≡ signed_eight u ++ us) (same : ts ≡ us) where
  row_terms : Bytes ts
  row_terms =
      let join = append_assoc (signed_eight l) (signed_eight u) us in
      let whole : bs ≡ (c ∷ s ∷ (signed_eight l ++ signed_eight u)) ++ ts = cc in
      behind (c ∷ s ∷ (signed_eight l ++ signed_eight u)) ts (subst Bytes whole is)

  pub row_parsed : length us % 6 ≡ 0 → c ∷ s ∷ (signed_eight l' ++ (signed_eight u' ++ terms_bytes (terms_in ts))) ≡ bs
  row_parsed h = let t = terms_back ts (ap (λ l. length l % 6) same ∙ h) row_terms in cc

  pub row_terms_written : TermsWritten (terms_in ts)
  row_terms_written = terms_written ts row_terms

nought : (z : ℤ) → is_nought z ≡ true → pos 0 ≡ z
nought (pos n) h = ap pos (sym (eqb-true n 0 h))
nought (negsuc n) h = absurd (false≢true h)

-- the sides that are present, with a side byte that is in range
pub sides_meant : (s : ℕ) (l u : ℤ) (a b : Option ℤ) → Sides s l u → a ≡ cond (has_lower s) (Some l) None → b ≡ cond (has_upper s) (Some u) None → (side_byte a b ≡ s) × (side_number a ≡ l) × (side_number b ≡ u)
sides_meant zero l u a b p ea eb = absurd (omega (arith, p.least))
sides_meant (suc zero) l u a b p ea eb = rw (ea, eb) (refl, refl, nought u p.upper)
sides_meant (suc (suc zero)) l u a b p ea eb = rw (ea, eb) (refl, nought l p.lower, refl)
sides_meant (suc (suc (suc zero))) l u a b p ea eb = rw (ea, eb) (refl, refl, refl)
sides_meant (suc (suc (suc (suc s)))) l u a b p ea eb = absurd (omega (arith, p.most))
