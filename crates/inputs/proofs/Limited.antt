-- What a reader that takes so many bytes at most has left.
use Rattle.std.proofs.Common.{◌≡◌, ℕ, List, [], ◌++◌, take, Some, Option, sym, ap, subst, ◌∙◌}
use Rattle.std.specs.Prelude.{IfSome}
use Rattle.std.specs.Option.{option_map}

-- what was read, where the bytes that the reader has are known
pub read_front : {S : Type 0} (left : S → Option (List ℕ)) (s t : S) (bs got start : List ℕ) (n m : ℕ) → s ≡ t → n ≡ m → start ≡ [] → left s ≡ Some bs → IfSome (option_map (take m) (left t)) (λ xs. got ≡ start ++ xs) → got ≡ take n bs
read_front left s t bs got start n m same more none e is =
    let there : left t ≡ Some bs = sym (ap left same) ∙ e in
    let read : IfSome (option_map (take m) (Some bs)) (λ xs. got ≡ start ++ xs) = subst (λ o. IfSome (option_map (take m) o) (λ xs. got ≡ start ++ xs)) there is in
    read ∙ ap (λ l. l ++ take m bs) none ∙ ap (λ k. take k bs) (sym more)
