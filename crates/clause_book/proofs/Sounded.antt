-- The lists of a well formed case keep the conditions exactly when they are few.
use Rattle.std.proofs.Common.{◌≡◌, ℕ, ◌≤◌, true, ◌&&◌, ltb, leb, List, [], ◌∷◌, map, length, sym, refl, ◌∙◌, subst, arith}
use Rattle.std.proofs.lemmas.List.{length-map}
use Rattle.std.proofs.lemmas.List.Folds.{list_all-map}
use Rattle.std.proofs.lemmas.Bool.{and_from, and_parts, leb-true}
use Rattle.fields.specs.Files.{IsFile}
use Rattle.case_fields.specs.Cases.{case_format}
use Rattle.case_fields.specs.Entries.{Entry}
use Rattle.case_fields.specs.Entries.Entry.{period, node, line, energy_offer, bid, regulation_offer, requirement}
use Rattle.case_fields.specs.Tests.{is_quantity, in_range}
use Rattle.case_fields.proofs.Ranges.{parts}
use Rattle.books.specs.Conditions.{every, few, sound, sound_column, sound_row}
use Rattle.books.proofs.Sounds.{short}
use Rattle.case_columns.specs.declared.name.Named.{Named}
use Rattle.case_columns.specs.Columns.{columns, columns_of}
use Rattle.case_columns.specs.Kinds.{kinds}
use Rattle.clauses.specs.Rows.{Clause, row_of}
use Rattle.clauses.specs.Clauses.{allowance, common, clauses, clauses_of}
use Rattle.clause_book.specs.CaseLists.{case_lists}
use Rattle.clause_book.proofs.Withins.{every_spread, every_parts}
use Rattle.clause_book.proofs.Fitted.{joins_two, proper, each_proper}
use Rattle.clause_book.proofs.SoundColumns.{tame, kept, columns_kept}
use Rattle.clause_book.proofs.SoundRows.{clauses_kept}

-- the allowance is in range
allowed : (es : List Entry) → every proper es ≡ true → is_quantity (allowance es) ≡ true
allowed [] w = refl
allowed (period p ∷ es) w =
    let g = (and_parts (in_range (period p)) true (and_parts (proper (period p)) (every proper es) w).0).0 in
    (parts (ltb p.number 4294967296) (is_quantity p.allowance) g).1
allowed (node x ∷ es) w = allowed es (and_parts (proper (node x)) (every proper es) w).1
allowed (line x ∷ es) w = allowed es (and_parts (proper (line x)) (every proper es) w).1
allowed (energy_offer x ∷ es) w = allowed es (and_parts (proper (energy_offer x)) (every proper es) w).1
allowed (bid x ∷ es) w = allowed es (and_parts (proper (bid x)) (every proper es) w).1
allowed (regulation_offer x ∷ es) w = allowed es (and_parts (proper (regulation_offer x)) (every proper es) w).1
allowed (requirement x ∷ es) w = allowed es (and_parts (proper (requirement x)) (every proper es) w).1

-- every column is kept
all_kept : (es : List Entry) → every proper es ≡ true → every kept (columns es) ≡ true
all_kept es w =
    every_spread kept proper (columns_of (kinds es)) (λ r e h. columns_kept (kinds es) r e (and_parts (in_range e) (joins_two e) h).0) 0 es w

proper_sound : (es : List Entry) → every proper es ≡ true → few (case_lists es) ≡ true → sound (case_lists es) ≡ true
unfolding case_lists sound
proper_sound es w f =
    let cs = columns es in
    let column = λ (c : Named). c.column in
    let rows = map (row_of cs) (clauses es) in
    let kept-parts = every_parts (λ (c : Named). sound_column c.column) (λ (c : Named). tame c.name) cs (all_kept es w) in
    let long = length-map cs column in
    let n = leb (length (map column cs)) 4000 in
    let m = leb (length rows) 4000 in
    let counts = and_parts n m (and_parts (n && m) (every short rows) f).0 in
    let small : length cs ≤ 4000 = omega (arith, long, leb-true (length (map column cs)) 4000 counts.0) in
    let each = every_spread (λ (d : Clause). sound_row (length cs) (row_of cs d)) proper (clauses_of (common es)) (λ r e h. clauses_kept cs small kept-parts.1 (record { kinds = kinds es; allowance = allowance es; place = r }) (allowed es w) e h) 0 es w in
    and_from _ _ (and_from _ _ f (list_all-map sound_column column cs ∙ kept-parts.0))
    (subst (λ (k : ℕ). every (sound_row k) rows ≡ true) (sym long) (list_all-map (sound_row (length cs)) (row_of cs) (clauses es) ∙ each))

pub case_sound : (bs : List ℕ) (es : List Entry) → IsFile case_format bs es → few (case_lists es) ≡ true → sound (case_lists es) ≡ true
case_sound bs es i f = proper_sound es (each_proper [] es i.each) f
