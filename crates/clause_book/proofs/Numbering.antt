-- The records of a tag stand together, since tags never fall.
use Rattle.std.proofs.Common.{◌≡◌, ℕ, zero, suc, ◌+◌, ◌<◌, ◌≤◌, Bool, true, false, not, ◌&&◌, eqb, ltb, leb, List, [], ◌∷◌, ◌++◌, Some, None, Option, sym, refl, ap, ◌∙◌, inl, inr, arith}
use Rattle.std.specs.List.{slice_get}
use Rattle.std.proofs.lemmas.Bool.{and_from, and_parts, leb-true, ltb-true, ltb-false, eqb-true, eqb-false, le-ltb, ne_eqb, cases_lt}
use Rattle.fields.specs.Files.{Fit, IsFile}
use Rattle.case_fields.specs.Entries.{Entry}
use Rattle.case_fields.specs.Encoding.{tag}
use Rattle.case_fields.specs.Kinds.{both, kind, once}
use Rattle.case_fields.specs.declared.kind.RecordKind.{RecordKind}
use Rattle.case_fields.specs.Tests.{tag_of_last, in_turn, follows, one, count}
use Rattle.case_fields.specs.Cases.{case_format}
use Rattle.case_fields.proofs.Ranges.{parts}
use Rattle.case_columns.specs.Kinds.{below}
use Rattle.clause_book.specs.Numbered.{kept_if, of_tag, Numbered}

-- tags do not fall, from one on
abbrev rises : ℕ → List Entry → Bool
rises t [] = true
rises t (e ∷ es) = leb t (tag e) && rises (tag e) es

last_pushed : (es : List Entry) (e : Entry) → tag_of_last (es ++ e ∷ []) ≡ tag e
last_pushed [] e = refl
last_pushed (x ∷ []) e = refl
last_pushed (x ∷ y ∷ es) e = last_pushed (y ∷ es) e

follows_last : (before : List Entry) (t : ℕ) → follows before t ≡ true → leb (tag_of_last before) t ≡ true
follows_last before t h = go (kind t) h
  where
    go : (k : Option RecordKind) → elim k [ Some j ↦ in_turn (tag_of_last before) j t | None ↦ false ] ≡ true → leb (tag_of_last before) t ≡ true
    go (Some j) e = (parts (leb (tag_of_last before) t) (not (both (once j) (eqb (tag_of_last before) t))) e).0
    go None e = cc

fit_rises : (before es : List Entry) → Fit case_format before es → rises (tag_of_last before) es ≡ true
unfolding case_format
fit_rises before [] w = refl
fit_rises before (e ∷ es) w =
    and_from (leb (tag_of_last before) (tag e)) (rises (tag e) es) (follows_last before (tag e) w.0.follows)
    (ap (λ (t : ℕ). rises t es) (sym (last_pushed before e)) ∙ fit_rises (before ++ e ∷ []) es w.1)

-- above a tag there is none of it, and none below it
none_below : (t low : ℕ) (es : List Entry) → rises low es ≡ true → t ≤ low → below t es ≡ 0
none_below t low [] w h = refl
none_below t low (e ∷ es) w h =
    let p = and_parts (leb low (tag e)) (rises (tag e) es) w in
    let up = leb-true low (tag e) p.0 in
    let rest = none_below t (tag e) es p.1 (omega arith) in
    let here : one (ltb (tag e) t) ≡ 0 = ap one (le-ltb (tag e) t (omega arith)) in
    omega arith

none_of : (t low : ℕ) (es : List Entry) → rises low es ≡ true → t < low → count t es ≡ 0
none_of t low [] w h = refl
none_of t low (e ∷ es) w h =
    let p = and_parts (leb low (tag e)) (rises (tag e) es) w in
    let up = leb-true low (tag e) p.0 in
    let rest = none_of t (tag e) es p.1 (omega arith) in
    let here : one (eqb (tag e) t) ≡ 0 = ap one (ne_eqb (tag e) t (λ e. omega arith)) in
    omega arith

-- the n-th record of a tag stands n places behind the first
placed : (low : ℕ) (es : List Entry) → rises low es ≡ true → (t n : ℕ) → n < count t es → slice_get es (below t es + n) ≡ slice_get (of_tag t es) n
placed low [] w t n h = absurd (omega arith)
placed low (e ∷ es) w t n h =
    go (λ m k. placed (tag e) es rest t m k) (ltb (tag e) t) (eqb (tag e) t) refl refl h
  where
    rest : rises (tag e) es ≡ true
    rest = (and_parts (leb low (tag e)) (rises (tag e) es) w).1

    above : t ≤ tag e → (tag e ≡ t → ⊥) → t < tag e
    above u v = elim (cases_lt t (tag e)) [ inl x ↦ x | inr y ↦ absurd (v (omega arith)) ]

    -- the first record of the tag stands here
    first : ((m : ℕ) → m < count t es → slice_get es (below t es + m) ≡ slice_get (of_tag t es) m) → below t es ≡ 0 → (m : ℕ) → m < 1 + count t es → slice_get (e ∷ es) (0 + below t es + m) ≡ slice_get (e ∷ of_tag t es) m
    first later none zero k = let here : 0 + below t es + 0 ≡ 0 = omega arith in ap (slice_get (e ∷ es)) here
    first later none (suc m) k =
        let here : 0 + below t es + suc m ≡ suc (below t es + m) = omega arith in
        ap (slice_get (e ∷ es)) here ∙ later m (omega arith)

    go : ((m : ℕ) → m < count t es → slice_get es (below t es + m) ≡ slice_get (of_tag t es) m) → (l q : Bool) → ltb (tag e) t ≡ l → eqb (tag e) t ≡ q → n < one q + count t es → slice_get (e ∷ es) (one l + below t es + n) ≡ slice_get (kept_if q e (of_tag t es)) n
    go later true true a b c = absurd (omega (arith, ltb-true (tag e) t a, eqb-true (tag e) t b))
    go later true false a b c =
        let more : 1 + below t es + n ≡ suc (below t es + n) = omega arith in
        ap (slice_get (e ∷ es)) more ∙ later n (omega arith)
    go later false true a b c =
        first later (none_below t (tag e) es rest (omega (arith, eqb-true (tag e) t b))) n c
    go later false false a b c =
        let over : t < tag e = above (ltb-false (tag e) t a) (eqb-false (tag e) t b) in
        absurd (omega (arith, none_of t (tag e) es rest over))

pub numbered : (bs : List ℕ) (es : List Entry) → IsFile case_format bs es → Numbered es
numbered bs es i t n h = placed 0 es (fit_rises [] es i.each) t n h
