-- What a walk over the entries of a book, or over elements, goes through, and what is left of it.
use Rattle.std.proofs.Common.{◌≡◌, ℕ, ◌+◌, ◌<◌, List, [], ◌∷◌, ◌++◌, length, drop, Some, None, Option, sym, ap, ◌∙◌, arith}
use Rattle.std.specs.Iterator.{YieldsFirst, Yields}
use Rattle.std.proofs.lemmas.List.{at_drop_more, drop_all, length_push}
use Rattle.std.proofs.lemmas.Iterator.{YieldsList}
use Rattle.std.proofs.lemmas.Iterator.Consumers.{YieldsList-from_first, YieldsList-turn, YieldsList-end}
use Rattle.fields.specs.declared.sequence.Elements.{Elements}
use Rattle.books.specs.declared.walk.Columns.{Columns}
use Rattle.books.specs.declared.walk.Rows.{Rows}
use Rattle.books.specs.declared.walk.Terms.{Terms}
use Rattle.books.specs.Lists.{Lists}
use Rattle.books.specs.Walks.{heads_of, terms_of}

-- ---- what the walks go through

module _ {X : Type 0} (m : X → Lists) (x : X) where
  -- at the start all is left
  pub columns_left : (s : Columns X) → s.book.now ≡ x → s.next ≡ 0 → drop s.next (m s.book.now).columns ≡ (m x).columns
  columns_left s e n = ap (λ k. drop k (m s.book.now).columns) n ∙ ap (λ (y : X). (m y).columns) e

  pub heads_left : (s : Rows X) → s.book.now ≡ x → s.next ≡ 0 → drop s.next (heads_of (m s.book.now)) ≡ heads_of (m x)
  heads_left s e n = ap (λ k. drop k (heads_of (m s.book.now))) n ∙ ap (λ (y : X). heads_of (m y)) e

  pub terms_left : (s : Terms X) (i : ℕ) → s.book.now ≡ x → s.row ≡ i → s.next ≡ 0 → drop s.next (terms_of (m s.book.now) s.row) ≡ terms_of (m x) i
  terms_left s i e r n =
      ap (λ k. drop k (terms_of (m s.book.now) s.row)) n ∙ ap (terms_of (m s.book.now)) r ∙ ap (λ (y : X). terms_of (m y) i) e

  pub columns_road : {s : Columns X} → s.book.now ≡ x → s.next ≡ 0 → YieldsList (YieldsFirst (λ (w : Columns X). drop w.next (m w.book.now).columns)) (λ c. c) s (m x).columns
  columns_road {s} e n =
      YieldsList-from_first (λ c. c) (λ (w : Columns X). drop w.next (m w.book.now).columns) (m x).columns (columns_left s e n)

  pub rows_road : {s : Rows X} → s.book.now ≡ x → s.next ≡ 0 → YieldsList (YieldsFirst (λ (w : Rows X). drop w.next (heads_of (m w.book.now)))) (λ r. r) s (heads_of (m x))
  rows_road {s} e n =
      YieldsList-from_first (λ r. r) (λ (w : Rows X). drop w.next (heads_of (m w.book.now))) (heads_of (m x)) (heads_left s e n)

  pub terms_road : {s : Terms X} (i : ℕ) → s.book.now ≡ x → s.row ≡ i → s.next ≡ 0 → YieldsList (YieldsFirst (λ (w : Terms X). drop w.next (terms_of (m w.book.now) w.row))) (λ t. t) s (terms_of (m x) i)
  terms_road {s} i e r n =
      YieldsList-from_first (λ t. t) (λ (w : Terms X). drop w.next (terms_of (m w.book.now) w.row)) (terms_of (m x) i) (terms_left s i e r n)

pub elements_road : {T : Type 0} (held : List ℕ → List T) {s : Elements T} (bs : List ℕ) → s.rest.now ≡ bs → YieldsList (YieldsFirst (λ (w : Elements T). held w.rest.now)) (λ x. x) s (held bs)
elements_road {T} held bs e =
    YieldsList-from_first (λ x. x) (λ (w : Elements T). held w.rest.now) (held bs) (ap held e)

-- ---- one turn of a loop, and its end

module _ {S A B : Type 0} {steps : S → Option A → S → Type 0} {v : A → B} {s : S} {all : List B} (road : YieldsList steps v s all) (so_far : List A) (t : S) (by : Yields steps s so_far t) (r : Option A) (u : S) where
  -- what is left begins with the item of this turn
  pub left_more : (x : A) → r ≡ Some x → steps t r u → drop (length so_far) all ≡ v x ∷ drop (length (so_far ++ x ∷ [])) all
  left_more x is step =
      let here = YieldsList-turn road so_far t by r u x is step in
      at_drop_more (λ l. l) all (length so_far) (v x) here.0
      ∙ ap (λ y. y ∷ drop (length so_far + 1) all) (sym here.1)
      ∙ ap (λ n. v x ∷ drop n all) (sym (length_push so_far x))

  -- it is one of so many
  pub left_few : (x : A) → r ≡ Some x → steps t r u → length so_far < length all
  left_few x is step = (YieldsList-turn road so_far t by r u x is step).0

  -- in the end nothing is left
  pub left_none : r ≡ None → steps t r u → drop (length so_far) all ≡ []
  left_none is step =
      let done = (YieldsList-end road so_far t by r u is step).1 in drop_all (length so_far) all (omega arith)
