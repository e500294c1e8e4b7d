use Rattle.std.proofs.Common.{◌≡◌, ℕ, ◌≤◌, List, ◌++◌, length, take, drop, ap, ◌∙◌, append-nil, arith, drop_of_length-le, take_all}
use lib.Seq.{take-append-le}
use Rattle.listings.specs.Listed.{listing_of}
use Rattle.listings.proofs.bytes.listing_bytes.Goals as goal

-- a buffer as long as the bytes written in front is these bytes
whole : (k n : ℕ) (bs old new more : List ℕ) → length old ≡ k → k ≡ length bs → n ≡ length bs → new ≡ bs ++ drop n old → take k (new ++ drop (length new) more) ≡ bs
whole k n bs old new more long same written e =
    let h : length old ≤ n = omega arith in
    let full : new ≡ bs = e ∙ ap (λ (t : List ℕ). bs ++ t) (drop_of_length-le old h) ∙ append-nil bs in
    let l : length new ≡ length bs = ap length full in
    let fits : k ≤ length new = omega arith in
    let less : length new ≤ k = omega arith in
    take-append-le k new (drop (length new) more) fits ∙ take_all k new less ∙ full

pub returns : goal.returns
returns g c =
    let bs = listing_of (g.B.Book.meaning c.args.book.now) in
    let w = c.put_listing.ensures in
    let same : c.in_ok-bytes.bytes.len ≡ length bs = c.in_ok-bytes.ensures.len ∙ c.listing_length.ensures in
    let n : c.put_listing.result ≡ length bs = omega (arith, w.next_is) in
    whole c.in_ok-bytes.bytes.len c.put_listing.result bs c.deref_mut.result.now c.put_listing.new.out c.in_ok-bytes.bytes.items c.deref_mut.ensures.len same n w.bytes
