use Rattle.std.proofs.Common.{◌≡◌, ℕ, zero, suc, ◌+◌, ◌-◌, ◌<◌, Bool, true, false, cond, List, sym, refl, ap, ◌∙◌, add-one, sub-one, arith}
use Rattle.std.specs.List.{slice_get}
use Rattle.case_columns.specs.declared.name.Name.{Name}
use Rattle.case_columns.specs.declared.name.Named.{Named}
use Rattle.clause_book.specs.Books.{named_in}
use Rattle.model_text.specs.Names.{is_like, parts_before}
use Rattle.model_text.proofs.name.parts_before.Goals as goal

-- what the column before the one of a number makes of the count
before : (cs : List Named) (n : Name) (i : ℕ) → 0 < i → parts_before cs n i ≡ cond (is_like (slice_get cs (i - 1)) n) (parts_before cs n (i - 1) + 1) 0
before cs n zero h = let z : ⊥ = omega arith in elim z [ ]
before cs n (suc i) h = rw (sub-one, add-one) refl

more : (cs : List Named) (n : Name) (i : ℕ) → 0 < i → is_like (slice_get cs (i - 1)) n ≡ true → parts_before cs n i ≡ parts_before cs n (i - 1) + 1
more cs n i h e = before cs n i h ∙ ap (λ (b : Bool). cond b (parts_before cs n (i - 1) + 1) 0) e

none : (cs : List Named) (n : Name) (i : ℕ) → 0 < i → is_like (slice_get cs (i - 1)) n ≡ false → parts_before cs n i ≡ 0
none cs n i h e = before cs n i h ∙ ap (λ (b : Bool). cond b (parts_before cs n (i - 1) + 1) 0) e

pub loop-i-preserved : goal.loop-i-preserved
loop-i-preserved c =
    let e = more (named_in c.args.book.now) c.args.name c.loop-i.i c.loop-i-test.true (sym c.if-not-is_like.ensures) in
    (omega (arith, c.loop-i.invariant.0), omega (arith, c.loop-i.invariant.1))

pub returns-then-not-is_like : goal.returns-then-not-is_like
returns-then-not-is_like c =
    let e = none (named_in c.args.book.now) c.args.name c.loop-i.i c.loop-i-test.true (sym c.if-not-is_like.ensures) in
    omega (arith, c.loop-i.invariant.0)
