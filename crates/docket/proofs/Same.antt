-- A docket with the same parts is the same.
use Rattle.std.proofs.Common.{◌≡◌}
use Rattle.docket.specs.Docketed.{Docketed}

pub docket_same : {X : Type 0} (s t : Docketed X) → s.book ≡ t.book → s.table ≡ t.table → s.standing ≡ t.standing → s ≡ t
docket_same s t book table standing = λ i. record { book = book i; table = table i; standing = standing i }
