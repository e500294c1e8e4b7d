-- Rows with a term that is beyond what a term holds do not keep the conditions.
use Rattle.std.proofs.Common.{◌≡◌, ℕ, Bool, true, false, ◌&&◌, ltb, leb, List, [], ◌∷◌, length, pos, neg_ℤ, refl, arith}
use lib.Signed.{le_z}
use Rattle.std.proofs.lemmas.Int.{ints}
use Rattle.std.proofs.lemmas.Bool.{and_from, and_parts}
use Rattle.std.specs.List.{list_all}
use Rattle.listing_fields.specs.declared.term.Term.{Term}
use Rattle.listing_fields.specs.Tests.{is_coefficient, terms_in_range, terms_refer, terms_rise}
use Rattle.books.specs.Lists.{FullRow}
use Rattle.books.specs.Conditions.{every, few, sound, sound_column, sound_sides, sound_terms, sound_row}
use Rattle.case_columns.specs.declared.name.Named.{Named}
use Rattle.clauses.specs.Stored.{holds, holds_row}
use Rattle.clause_book.specs.CaseLists.{lists_of}
use Rattle.clause_book.proofs.Withins.{ordered, leZ_true}

-- a test that passes where another does fails nowhere else
fails_too : (a b : Bool) → (b ≡ true → a ≡ true) → a ≡ false → b ≡ false
fails_too a true h e = absurd (let t = h refl in let z : ◌≡◌ {A = Bool} true false = cc in cc)
fails_too a false h e = refl

all_too : {X : Type 0} (p q : X → Bool) → ((x : X) → q x ≡ true → p x ≡ true) → (xs : List X) → list_all q xs ≡ true → list_all p xs ≡ true
all_too p q h [] w = refl
all_too p q h (x ∷ xs) w =
    let s = and_parts (q x) (list_all q xs) w in
    and_from (p x) (list_all p xs) (h x s.0) (all_too p q h xs s.1)

term_held : (t : Term) → (ltb t.column 65536 && is_coefficient t.coefficient) ≡ true → holds t ≡ true
term_held t h =
    let s = and_parts (ltb t.column 65536) (is_coefficient t.coefficient) h in
    let u = and_parts (le_z (neg_ℤ (pos 1000000)) t.coefficient) (le_z t.coefficient (pos 1000000)) s.1 in
    let low = leZ_true (neg_ℤ (pos 1000000)) t.coefficient u.0 in
    let high = leZ_true t.coefficient (pos 1000000) u.1 in
    and_from (ltb t.column 65536) _ s.0 (and_from (le_z (neg_ℤ (pos 2147483648)) t.coefficient) (le_z t.coefficient (pos 2147483647)) (ordered (neg_ℤ (pos 2147483648)) t.coefficient (omega (arith, ints))) (ordered t.coefficient (pos 2147483647) (omega (arith, ints))))

row_held : (n : ℕ) (r : FullRow) → sound_row n r ≡ true → holds_row r ≡ true
row_held n r h =
    let s = and_parts (leb r.code 19 && sound_sides r) (sound_terms n r) h in
    let u = and_parts (terms_in_range r.terms && terms_refer n r.terms) (terms_rise 0 r.terms) s.1 in
    let v = and_parts (terms_in_range r.terms) (terms_refer n r.terms) u.0 in
    all_too holds (λ (t : Term). ltb t.column 65536 && is_coefficient t.coefficient) term_held r.terms v.0

pub out_of_range : (cs : List Named) (rs : List FullRow) → list_all holds_row rs ≡ false → sound (lists_of cs rs) ≡ false
unfolding sound
out_of_range cs rs h =
    let b = lists_of cs rs in
    fails_too (list_all holds_row rs) (few b && every sound_column b.columns && every (sound_row (length b.columns)) rs) (λ e.
    let s = and_parts (few b && every sound_column b.columns) (every (sound_row (length b.columns)) rs) e in
    all_too holds_row (sound_row (length b.columns)) (row_held (length b.columns)) rs s.1) h
