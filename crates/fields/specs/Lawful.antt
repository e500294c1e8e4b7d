-- What a format owes, so that bytes have at most one reading and at most one first fault.
use Rattle.std.specs.Prelude.{◌≡◌, true}
use Rattle.fields.specs.Files.{Format}

pub record Lawful {E : Type 0} (f : Format E) : Type 0 where
  -- tag and body determine the record
  pub one : (d e : E) → f.tag d ≡ f.tag e → f.body d ≡ f.body e → f.Written d → f.Written e → d ≡ e
  -- numbers in range fit the bytes that hold them
  pub written : (e : E) → f.in_range e ≡ true → f.Written e
