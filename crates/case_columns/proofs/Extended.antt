-- What columns hold once those of the elements of a file are added to them.
use Rattle.std.proofs.Common.{◌≡◌, ℕ, List, ◌++◌, Result, Ok, Err, OnOk, ap, ◌∙◌, append_assoc}
use Rattle.std.specs.Iterator.{YieldsFirst}
use Rattle.std.proofs.lemmas.Iterator.{YieldsList}
use Rattle.std.proofs.lemmas.Iterator.Consumers.{YieldsList-from_first}
use Rattle.fields.specs.declared.sequence.Elements.{Elements}
use Rattle.case_columns.specs.declared.name.Named.{Named}

-- a walk over the elements that bytes hold
pub elements_road : {T : Type 0} (held : List ℕ → List T) {s : Elements T} (bs : List ℕ) → s.rest.now ≡ bs → YieldsList (YieldsFirst (λ (w : Elements T). held w.rest.now)) (λ x. x) s (held bs)
elements_road {T} held bs e =
    YieldsList-from_first (λ x. x) (λ (w : Elements T). held w.rest.now) (held bs) (ap held e)

-- the front, and behind it the columns of the elements
pub behind : {E P : Type 0} (was front mid now all : List Named) (r : Result (Unit {0}) E) → mid ≡ was ++ front → OnOk r P → (P → now ≡ mid ++ all) → OnOk r (now ≡ was ++ (front ++ all))
behind was front mid now all (Ok u) m h k = k h ∙ ap (λ l. l ++ all) m ∙ append_assoc was front all
behind was front mid now all (Err e) m h k = tt
