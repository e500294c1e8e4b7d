-- The bytes of a term, a column and a row, part by part.
use Rattle.std.proofs.Common.{◌≡◌, ℕ, ◌+◌, ◌*◌, List, [], ◌∷◌, ◌++◌, length, sym, refl, ap, ◌∙◌, arith}
use Rattle.std.proofs.lemmas.List.{length-append}
use Rattle.fields.specs.Bytes.{two, four, eight, signed_four, signed_eight}
use Rattle.fields.specs.Fields.{field}
use Rattle.fields.proofs.Injective.{length_two, length-signed_four}
use Rattle.listing_fields.specs.declared.term.Term.{Term}
use Rattle.listing_fields.specs.Terms.{term_bytes, terms_bytes}
use Rattle.listing_fields.specs.Listings.{listing_format}
use Rattle.listing_fields.specs.Meant.{switch_byte, side_byte, side_number}
use Rattle.books.specs.declared.part.Column.{Column}
use Rattle.books.specs.declared.part.Row.{Row}
use Rattle.books.specs.Lists.{FullRow, head}
use Rattle.listings.specs.declared.put.Writer.{Writer}
use Rattle.listings.specs.Writing.{column_bytes, row_bytes, head_bytes}
use Rattle.listings.specs.Puts.{Puts}
use Rattle.listings.proofs.Chains.{puts_more, puts_same}

pub length-term : (t : Term) → length (term_bytes t) ≡ 6
length-term t =
    omega (arith, length-append (two t.column) (signed_four t.coefficient), length_two t.column, length-signed_four t.coefficient)

pub length-terms : (ts : List Term) → length (terms_bytes ts) ≡ 6 * length ts
length-terms [] = refl
length-terms (t ∷ ts) =
    omega (arith, length-append (term_bytes t) (terms_bytes ts), length-term t, length-terms ts)

pub term_put : {o p q : Writer} (t : Term) (n z : List ℕ) → n ≡ two t.column → z ≡ signed_four t.coefficient → Puts o n p → Puts p z q → Puts o (term_bytes t) q
term_put t n z en ez h1 h2 = puts_same _ (term_bytes t) (λ i. en i ++ ez i) (puts_more n z h1 h2)

-- a column
column_is : (c : Column) → (10 ∷ 0 ∷ 13 ∷ []) ++ (signed_four c.lower ++ (signed_four c.upper ++ (signed_four c.price ++ (switch_byte c.switch ∷ [])))) ≡ column_bytes c
unfolding listing_format field two four signed_four
column_is c = refl

pub length-column : (c : Column) → length (column_bytes c) ≡ 16
unfolding listing_format field two four signed_four
length-column c = refl

pub column_put : {o p q r s t : Writer} (col : Column) (tag w : ℕ) (l u k : List ℕ) → tag ≡ 10 → l ≡ signed_four col.lower → u ≡ signed_four col.upper → k ≡ signed_four col.price → w ≡ switch_byte col.switch → Puts o (tag ∷ 0 ∷ 13 ∷ []) p → Puts p l q → Puts q u r → Puts r k s → Puts s (w ∷ []) t → Puts o (column_bytes col) t
column_put col tag w l u k et el eu ek ew h1 h2 h3 h4 h5 =
    puts_same _ (column_bytes col)
    ((λ i. (et i ∷ 0 ∷ 13 ∷ []) ++ (el i ++ (eu i ++ (ek i ++ (ew i ∷ []))))) ∙ column_is col)
    (puts_more (tag ∷ 0 ∷ 13 ∷ []) _ h1 (puts_more l _ h2 (puts_more u _ h3 (puts_more k (w ∷ []) h4 h5))))

-- a row up to its terms
pub length-head : (r : Row) → length (head_bytes r) ≡ 21
unfolding two eight signed_eight
length-head r = refl

pub head_put : {o p q r s t : Writer} (row : Row) (tag x : ℕ) (n l u : List ℕ) → tag ≡ 11 → n ≡ two (18 + 6 * row.terms) → x ≡ side_byte row.lower row.upper → l ≡ signed_eight (side_number row.lower) → u ≡ signed_eight (side_number row.upper) → Puts o (tag ∷ []) p → Puts p n q → Puts q (row.code ∷ x ∷ []) r → Puts r l s → Puts s u t → Puts o (head_bytes row) t
head_put row tag x n l u et en ex el eu h1 h2 h3 h4 h5 =
    puts_same _ (head_bytes row)
    (λ i. (et i ∷ []) ++ (en i ++ ((row.code ∷ ex i ∷ []) ++ (el i ++ eu i))))
    (puts_more (tag ∷ []) _ h1 (puts_more n _ h2 (puts_more (row.code ∷ x ∷ []) _ h3 (puts_more l u h4 h5))))

-- a row is this and its terms
body_long : (r : FullRow) → length (r.code ∷ side_byte r.lower r.upper ∷ (signed_eight (side_number r.lower) ++ (signed_eight (side_number r.upper) ++ terms_bytes r.terms))) ≡ 18 + 6 * length r.terms
unfolding eight signed_eight
body_long r = omega (arith, length-terms r.terms)

pub row_is : (r : FullRow) → head_bytes (head r) ++ terms_bytes r.terms ≡ row_bytes r
unfolding listing_format field two eight signed_eight
row_is r =
    ap (λ n. 11 ∷ (two n ++ (r.code ∷ side_byte r.lower r.upper ∷ (signed_eight (side_number r.lower) ++ (signed_eight (side_number r.upper) ++ terms_bytes r.terms))))) (sym (body_long r))

pub length-row : (r : FullRow) → length (row_bytes r) ≡ 21 + 6 * length r.terms
length-row r =
    ap length (sym (row_is r)) ∙ length-append (head_bytes (head r)) (terms_bytes r.terms) ∙ (λ i. length-head (head r) i + length-terms r.terms i)
