-- Numbers that lie within ±2^60, and steps that keep to it.
use Rattle.std.specs.Prelude.{cond, ℤ, ◌+ℤ◌, ◌-ℤ◌, ◌*ℤ◌, Some, None, Option}
use Rattle.certificates.specs.Steps.{in_reach}

-- a number, if it lies within the reach
abbrev pub reach : ℤ → Option ℤ
reach z = cond (in_reach z) (Some z) None

-- what is done with a value, if there is one
abbrev pub after : Option ℤ → (ℤ → Option ℤ) → Option ℤ
after None f = None
after (Some v) f = f v

-- t and a times b, if the product and the sum lie within the reach
abbrev pub more : ℤ → ℤ → ℤ → Option ℤ
more t a b = after (reach (a *ℤ b)) (λ p. reach (t +ℤ p))

-- t less a times b, if the product and the difference lie within the reach
abbrev pub less : ℤ → ℤ → ℤ → Option ℤ
less t a b = after (reach (a *ℤ b)) (λ p. reach (t -ℤ p))
