-- A record that was read from a body.
use Rattle.std.specs.Prelude.{◌≡◌, ℕ, List}
use Rattle.case_fields.specs.Entries.{Entry}
use Rattle.case_fields.specs.Encoding.{tag, body, Written}

-- the bytes are the body of the record, which has this tag
pub record Holds (bs : List ℕ) (t : ℕ) (e : Entry) : Type 0 where
  pub bytes : bs ≡ body e
  pub tagged : tag e ≡ t
  pub written : Written e
