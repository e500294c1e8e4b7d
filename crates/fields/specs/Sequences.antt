-- Values that stand one after the other, each in the same number of bytes.
use Rattle.std.specs.Prelude.{◌≡◌, ℕ, ◌/◌, ◌<◌, List, length, drop}

-- what the values that bytes hold owe: each takes so many bytes, and behind the first come the others
pub record Held {X : Type 0} (width : ℕ) (held : List ℕ → List X) : Type 0 where
  pub some : 0 < width
  pub count : (bs : List ℕ) → length (held bs) ≡ length bs / width
  pub skip : (bs : List ℕ) → held (drop width bs) ≡ drop 1 (held bs)
