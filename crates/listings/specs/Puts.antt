-- What a writer does to its buffer.
use Rattle.std.specs.Prelude.{◌≡◌, ℕ, List}
use Rattle.listings.specs.declared.put.Writer.{Writer}
use Rattle.listings.specs.Writing.{Wrote}

-- the bytes are written at the writer's place, in the same buffer
pub record Puts (old : Writer) (bs : List ℕ) (new : Writer) : Type 0 where
  pub wrote : Wrote old.out.now old.at bs new.out.now new.at
  pub same : new.out.ghost_name ≡ old.out.ghost_name
