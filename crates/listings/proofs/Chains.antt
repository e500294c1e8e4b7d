-- Bytes written behind others.
use Rattle.std.proofs.Common.{◌≡◌, ℕ, ◌+◌, ◌≤◌, List, [], ◌++◌, length, take, drop, sym, refl, ap, ◌∙◌, arith}
use Rattle.std.proofs.lemmas.List.{append_assoc, length-append, length-take-le, take_at, drop_at, drop-drop, length-drop, take-append-drop}
use Rattle.listings.specs.declared.put.Writer.{Writer}
use Rattle.listings.specs.Writing.{Wrote}
use Rattle.listings.specs.Puts.{Puts}

-- nothing written
wrote_none : (old : List ℕ) (at : ℕ) → at ≤ length old → Wrote old at [] old at
wrote_none old at room = record { bytes = sym (take-append-drop at old); next_is = omega arith; room = room }

wrote_more : {old mid new : List ℕ} {at next last : ℕ} (bs cs : List ℕ) → Wrote old at bs mid next → Wrote mid next cs new last → Wrote old at (bs ++ cs) new last
wrote_more {old} {mid} {new} {at} {next} {last} bs cs p q =
    let front = take at old ++ bs in
    let fits : at ≤ length old = omega (arith, p.next_is, p.room) in
    let long : length front ≡ next = length-append (take at old) bs ∙ (λ i. length-take-le at old fits i + length bs) ∙ sym p.next_is in
    let split : mid ≡ front ++ drop next old = p.bytes ∙ sym (append_assoc (take at old) bs (drop next old)) in
    let kept : take next mid ≡ front = ap (take next) split ∙ take_at front (drop next old) next long in
    let behind : drop next mid ≡ drop next old = ap (drop next) split ∙ drop_at front (drop next old) next long in
    let rest : drop last mid ≡ drop last old =
    ap (λ n. drop n mid) q.next_is
    ∙ sym (drop-drop (length cs) next mid)
    ∙ ap (drop (length cs)) behind
    ∙ drop-drop (length cs) next old
    ∙ ap (λ n. drop n old) (sym q.next_is) in
    let size : length mid ≡ length old = omega (arith, ap length split, length-append front (drop next old), long, length-drop next old, p.room) in
    record {
      bytes =
          q.bytes
          ∙ (λ i. kept i ++ (cs ++ rest i))
          ∙ append_assoc (take at old) bs (cs ++ drop last old)
          ∙ ap (λ l. take at old ++ l) (sym (append_assoc bs cs (drop last old)));
      next_is = omega (arith, p.next_is, q.next_is, length-append bs cs);
      room = omega (arith, q.room, size);
    }

-- the same of a writer
pub puts_none : (w : Writer) → w.at ≤ length w.out.now → Puts w [] w
puts_none w room = record { wrote = wrote_none w.out.now w.at room; same = refl }

pub puts_same : {w v : Writer} (bs cs : List ℕ) → bs ≡ cs → Puts w bs v → Puts w cs v
puts_same bs cs e p = rw (← e) p

pub puts_more : {w v u : Writer} (bs cs : List ℕ) → Puts w bs v → Puts v cs u → Puts w (bs ++ cs) u
puts_more bs cs p q = record { wrote = wrote_more bs cs p.wrote q.wrote; same = q.same ∙ p.same }

-- a writer's buffer keeps its length
pub puts_long : {w v : Writer} {bs : List ℕ} → Puts w bs v → length v.out.now ≡ length w.out.now
puts_long {w} {v} {bs} p =
    let front = take w.at w.out.now ++ bs in
    omega (arith, ap length p.wrote.bytes, length-append (take w.at w.out.now) (bs ++ drop v.at w.out.now), length-append bs (drop v.at w.out.now), length-take-le w.at w.out.now (omega (arith, p.wrote.next_is, p.wrote.room)), length-drop v.at w.out.now, p.wrote.next_is, p.wrote.room)

-- what a buffer holds once the writer is gone, where it holds what the writer left in the same buffer
pub puts_read : {w v : Writer} {bs : List ℕ} → Puts w bs v → (x : List ℕ) → (w.out.ghost_name ≡ v.out.ghost_name → x ≡ v.out.now) → Wrote w.out.now w.at bs x v.at
puts_read p x read =
    let e = read (sym p.same) in
    record { bytes = e ∙ p.wrote.bytes; next_is = p.wrote.next_is; room = p.wrote.room }
