-- What a buffer's length makes of writing a listing into it.
use Rattle.std.proofs.Common.{◌≡◌, ℕ, ◌<◌, ◌≤◌, List, ◌++◌, length, Ok, Err, Result, ap, ◌∙◌, append-nil, arith, drop_of_length-le}
use Rattle.books.specs.declared.fault.BookFault.{BookFault}
use Rattle.books.specs.declared.fault.BookFault.TheVariants.{ShortBuffer}
use Rattle.listings.specs.Writing.{ListedInto}

pub refused : (n : ℕ) (bs old new : List ℕ) (answer : Result ℕ BookFault) → length bs ≡ n → length old < n → ListedInto bs old new answer → (answer ≡ Err (ShortBuffer n)) × (new ≡ old)
refused n bs old new (Ok k) long less w = let e : k ≡ length bs = w.0 in let h : k ≤ length old = w.1 in let z : ⊥ = omega arith in elim z [ ]
refused n bs old new (Err e) long less w = (ap Err (w.0 ∙ ap ShortBuffer long), w.2)

pub filled : (n : ℕ) (bs old new : List ℕ) (answer : Result ℕ BookFault) → length bs ≡ n → length old ≡ n → ListedInto bs old new answer → (answer ≡ Ok n) × (new ≡ bs)
filled n bs old new (Ok k) long same w =
    let e : k ≡ length bs = w.0 in
    let h : length old ≤ k = omega arith in
    (ap Ok (e ∙ long), w.2 ∙ ap (λ (t : List ℕ). bs ++ t) (drop_of_length-le old h) ∙ append-nil bs)
filled n bs old new (Err e) long same w = let h : length old < length bs = w.1 in let z : ⊥ = omega arith in elim z [ ]
