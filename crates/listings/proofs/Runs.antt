-- A loop that writes the bytes of one element after the other.
use Rattle.std.proofs.Common.{◌≡◌, ℕ, ◌+◌, ◌≤◌, List, [], ◌∷◌, ◌++◌, length, sym, ap, ◌∙◌, arith}
use Rattle.std.specs.List.{flat_map}
use Rattle.std.proofs.lemmas.List.{append_assoc, append-nil, length-append, flat_map_more}
use Rattle.std.proofs.lemmas.Grind.{flat_map-append}
use Rattle.listings.specs.declared.put.Writer.{Writer}
use Rattle.listings.specs.Puts.{Puts}
use Rattle.listings.proofs.Chains.{puts_none, puts_same, puts_more, puts_long}

module _ {X : Type 0} (f : X → List ℕ) where
  -- the bytes of the elements before those left are written
  pub record Run (xs : List X) (start now : Writer) (left : List X) : Type 0 where
    pub done : List X
    pub split : xs ≡ done ++ left
    pub puts : Puts start (flat_map f done) now

  module _ (xs : List X) (w : Writer) (fits : w.at + length (flat_map f xs) ≤ length w.out.now) where
    pub run_none : (left : List X) → left ≡ xs → Run xs w w left
    run_none left e = record { done = []; split = sym e; puts = puts_none w (omega (arith, fits)) }

    module _ {now : Writer} {left : List X} (run : Run xs w now left) where
      pub run_room : (x : X) (more : List X) → left ≡ x ∷ more → now.at + length (f x) ≤ length now.out.now
      run_room x more e =
          omega (arith, fits, run.puts.wrote.next_is, puts_long run.puts, ap (λ l. length (flat_map f l)) run.split, ap length (flat_map-append f run.done left), length-append (flat_map f run.done) (flat_map f left), ap (λ l. length (flat_map f l)) e, length-append (f x) (flat_map f more))

      pub run_more : (x : X) (more : List X) {next : Writer} → left ≡ x ∷ more → Puts now (f x) next → Run xs w next more
      run_more x more e p =
          record {
            done = run.done ++ x ∷ [];
            split = run.split ∙ ap (λ l. run.done ++ l) e ∙ sym (append_assoc run.done (x ∷ []) more);
            puts = puts_same _ _ (flat_map_more f [] run.done x) (puts_more (flat_map f run.done) (f x) run.puts p);
          }

      pub run_all : left ≡ [] → Puts w (flat_map f xs) now
      run_all e =
          puts_same _ _ (ap (flat_map f) (sym (run.split ∙ ap (λ l. run.done ++ l) e ∙ append-nil run.done))) run.puts
