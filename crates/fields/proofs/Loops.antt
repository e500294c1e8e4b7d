-- One turn of a loop that reads one record after the other, in any format.
use Rattle.std.proofs.Common.{◌≡◌, ℕ, ◌+◌, ◌-◌, List, [], ◌∷◌, ◌++◌, length, sym, ap, ◌∙◌, arith}
use Rattle.std.proofs.lemmas.List.{append_assoc, length-append}
use Rattle.fields.specs.Fields.{field, Begins}
use Rattle.fields.specs.Files.{Format, encode, encoding}
use Rattle.fields.proofs.Heads.{length-field}
use Rattle.fields.proofs.Laws.{encoding_push}

-- a field and what follows it are as long as the bytes that begin with it
pub sizes : {bs : List ℕ} {t : ℕ} {b r : List ℕ} → Begins bs t b r → length r + (3 + length b) ≡ length bs
sizes {t = t} {b = b} {r = r} p = omega (arith, ap length p.bytes, length-append (field t b) r, length-field t b)

module _ {E : Type 0} (f : Format E) (es : List E) (e : E) {rest after : List ℕ} (p : Begins rest (f.tag e) (f.body e) after) where
  -- the bytes of the records and the rest still make the input
  pub read_on : {input : List ℕ} → input ≡ encoding f es ++ rest → input ≡ encoding f (es ++ e ∷ []) ++ after
  read_on h =
      h
      ∙ ap (λ l. encoding f es ++ l) p.bytes
      ∙ sym (append_assoc (encoding f es) (encode f e) after)
      ∙ ap (λ l. l ++ after) (sym (encoding_push f es e))

  -- and the offset is still the length of those bytes
  pub offset_on : {offset : ℕ} → offset ≡ length (encoding f es) → offset + (length rest - length after) ≡ length (encoding f (es ++ e ∷ []))
  offset_on h =
      omega (arith, h, ap length (encoding_push f es e), length-append (encoding f es) (encode f e), length-field (f.tag e) (f.body e), sizes p)
