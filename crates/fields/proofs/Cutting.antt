-- When bytes begin with a whole field, and with which.
use Rattle.std.proofs.Common.{◌≡◌, ℕ, zero, suc, ◌+◌, ◌-◌, ◌*◌, ◌<◌, ◌≤◌, List, [], ◌∷◌, ◌++◌, length, get_or, take, drop, sym, ap, ◌∙◌, subst, arith, lit<, w8, Fits}
use Rattle.std.proofs.lemmas.List.{take_rest, length-append, length-drop, take-append-drop, get_or-drop, length-take-le}
use Rattle.fields.specs.Bytes.{Bytes, two}
use Rattle.fields.specs.Fields.{field, Begins, Cut}
use Rattle.fields.proofs.Numbers.{two_read}

-- a front of bytes, and what follows it, are bytes
pub bytes_take : (n : ℕ) (bs : List ℕ) → Bytes bs → Bytes (take n bs)
bytes_take zero bs h k = lit< tt
bytes_take (suc n) [] h k = lit< tt
bytes_take (suc n) (b ∷ bs) h zero = h 0
bytes_take (suc n) (b ∷ bs) h (suc k) = bytes_take n bs (λ j. h (suc j)) k

pub bytes_drop : (n : ℕ) (bs : List ℕ) → Bytes bs → Bytes (drop n bs)
bytes_drop n bs h k = rw get_or-drop (h (n + k))

-- fewer than three bytes hold no head
pub no_head : (bs : List ℕ) → length bs < 3 → Cut bs
unfolding field two
no_head bs h tag body rest b = omega (arith, ap length b.bytes)

-- a body that is shorter than the head says
pub no_body : (bs : List ℕ) (long : ℕ) → 3 ≤ length bs → long ≡ get_or bs 1 0 * 256 + get_or bs 2 0 → length (take (length bs - 3) (drop 3 bs)) < long → Cut bs
unfolding field two
no_body bs long three e h tag body rest b =
    let whole = length-append body rest in
    let high = ap (λ l. get_or l 1 0) b.bytes in
    let low = ap (λ l. get_or l 2 0) b.bytes in
    omega (arith, b.short, ap length (take_rest bs 3), length-drop 3 bs, ap length b.bytes, e)

-- the head and as many bytes as it says
pub whole : (bs : List ℕ) (long : ℕ) (body rest : List ℕ) → 3 ≤ length bs → ((k : ℕ) → Fits w8 (get_or bs k 0)) → long ≡ get_or bs 1 0 * 256 + get_or bs 2 0 → long ≤ length (take (length bs - 3) (drop 3 bs)) → body ≡ take long (take (length bs - 3) (drop 3 bs)) → rest ≡ drop long (take (length bs - 3) (drop 3 bs)) → Begins bs (get_or bs 0 0) body rest × Bytes body
unfolding field
whole [] long body rest three is e h front back = absurd (omega arith)
whole (t ∷ []) long body rest three is e h front back = absurd (omega arith)
whole (t ∷ a ∷ []) long body rest three is e h front back = absurd (omega arith)
whole (t ∷ a ∷ l ∷ bs) long body rest three is e h front back = (record { bytes = bytes; short = short }, each)
  where
    after : take (length (t ∷ a ∷ l ∷ bs) - 3) bs ≡ bs
    after = take_rest (t ∷ a ∷ l ∷ bs) 3

    size : length body ≡ long
    size = ap length front ∙ length-take-le long _ h

    short : length body < 65536
    short = omega (arith, (is 1).fits, (is 2).fits, size)

    head : two (length body) ≡ a ∷ l ∷ []
    head = ap two (size ∙ e) ∙ two_read a l (is 1).fits (is 2).fits

    bytes : t ∷ a ∷ l ∷ bs ≡ field t body ++ rest
    bytes =
        ap (λ x. t ∷ a ∷ l ∷ x) (sym (take-append-drop long bs))
        ∙ sym (λ i. t ∷ ((head i) ++ ((front ∙ ap (take long) after) i)) ++ ((back ∙ ap (drop long) after) i))

    each : Bytes body
    each k =
        subst (λ (l : List ℕ). get_or l k 0 < 256) (sym (front ∙ ap (take long) after)) (bytes_take long bs (λ j. (is (suc (suc (suc j)))).fits) k)
