use Rattle.std.proofs.Common.{◌≡◌, ◌+◌, false, [], ◌∷◌, ◌++◌, drop, pos, vec_items, sym, ap, ◌∙◌, arith, rules, to_z, of_z}
use Rattle.std.specs.Int.{w128}
use Rattle.std.specs.List.{list_all}
use Rattle.std.proofs.lemmas.Int.{ints}
use Rattle.std.proofs.lemmas.Option.{slice_get_within, get_or_from_slice_get}
use Rattle.case_columns.specs.Tables.{columns_in}
use Rattle.books.proofs.Nths.{none_past}
use Rattle.clauses.specs.Sums.{sum}
use Rattle.clauses.specs.Terms.{terms, terms_from}
use Rattle.clauses.specs.Stored.{holds}
use Rattle.clauses.proofs.Walks.{skip_to, listed, held_out, passed, all_listed}
use Rattle.clauses.proofs.walk.terms_of.Goals as goal
use Rattle.clauses.proofs.walk.terms_of.Goals.{then-coefficient-ne0+in_ok-term+in_ok-push, else-coefficient-ne0}

pub loop-named-init : goal.loop-named-init
loop-named-init c =
    let got = c.next_in-at.ensures in
    (got.high, skip_to _ _ 0 c.next_in-at.result got.low got.high got.skips ∙ ap (λ l. l ++ terms_from c.next_in-at.result (sum c.args.items.now) (drop c.next_in-at.result (columns_in c.args.table.now))) (sym c.new-out.ensures.items))

pub returns-in_err-term : goal.returns-in_err-term
returns-in_err-term c =
    let f = sum c.args.items.now in
    let xs = columns_in c.args.table.now in
    let here = sym c.in-Some.ensures in
    let within = slice_get_within xs c.loop-named.at c.in-Some.named here in
    let is = c.coefficient-coefficient.ensures ∙ ap f (sym (get_or_from_slice_get xs c.loop-named.at c.in-Some.named c.in-Some.named here)) in
    let z = c.coefficient-coefficient.result in
    let back : to_z w128 (of_z w128 z) ≡ z = omega (arith, ints) in
    let beyond = ap (λ v. holds (record { column = c.loop-named.at; coefficient = v })) (sym back) ∙ c.in_err-term.ensures.1 in
    let out : list_all holds (terms f xs) ≡ false = held_out f xs c.loop-named.at _ _ _ z within is c.loop-named.invariant.1 (λ e. c.if-coefficient-ne0.true (ap (of_z w128) e)) holds beyond in
    search rules

pub next_in-at-requires-in-Some : goal.next_in-at-requires-in-Some
next_in-at-requires-in-Some c =
    omega (arith, slice_get_within (columns_in c.args.table.now) c.loop-named.at c.in-Some.named (sym c.in-Some.ensures))

pub loop-named-preserved : goal.loop-named-preserved
loop-named-preserved c =
    let got = c.next_in-at-in-Some.ensures in
    let f = sum c.args.items.now in
    let xs = columns_in c.args.table.now in
    let n = c.loop-named.at in
    let z = c.coefficient-coefficient.result in
    let here = sym c.in-Some.ensures in
    let within = slice_get_within xs n c.in-Some.named here in
    let is = c.coefficient-coefficient.ensures ∙ ap f (sym (get_or_from_slice_get xs n c.in-Some.named c.in-Some.named here)) in
    let on = skip_to f xs (n + 1) c.next_in-at-in-Some.result got.low got.high got.skips in (
      got.high,
      elim c.if-coefficient-ne0.branch [
        | then-coefficient-ne0+in_ok-term+in_ok-push w ↦
            (let back : to_z w128 (of_z w128 z) ≡ z = omega (arith, ints) in
            listed f xs n _ _ _ z within is c.loop-named.invariant.1 (λ e. w.if-coefficient-ne0.true (ap (of_z w128) e))
            ∙ ap (λ l. l ++ terms_from (n + 1) f (drop (n + 1) xs)) (sym (ap vec_items w.out-is ∙ w.in_ok-push.ensures.items ∙ ap (λ t. vec_items c.loop-named.out ++ t ∷ []) w.in_ok-term.ensures ∙ ap (λ v. vec_items c.loop-named.out ++ (record { column = n; coefficient = v }) ∷ []) back))
            ∙ ap (◌++◌ (vec_items c.if-coefficient-ne0.out)) on)
        | else-coefficient-ne0 w ↦
            (let e : z ≡ pos 0 = omega (arith, ints, w.if-coefficient-ne0.false) in
            passed f xs n _ _ _ z within is c.loop-named.invariant.1 e
            ∙ ap (λ l. l ++ terms_from (n + 1) f (drop (n + 1) xs)) (sym (ap vec_items w.out-is))
            ∙ ap (◌++◌ (vec_items c.if-coefficient-ne0.out)) on)
      ],
    )

pub returns : goal.returns
returns c =
    all_listed _ _ c.loop-named.at _ _ (none_past (columns_in c.args.table.now) c.loop-named.at (sym c.in_default.ensures)) c.loop-named.invariant.1
