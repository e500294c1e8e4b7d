-- Where the records of each kind stand: tags never fall, so those of one tag stand together.
use Rattle.std.specs.Prelude.{ℕ, ◌+◌, ◌<◌, List, [], ◌∷◌, nat_lt}
use Rattle.case_fields.specs.Entries.{Entry}
use Rattle.case_fields.specs.Encoding.{tag}
use Rattle.case_fields.specs.Tests.{one}
use Rattle.case_columns.specs.declared.kinds.Span.{Span}
use Rattle.case_columns.specs.declared.kinds.Kinds.{Kinds}

-- how many records have a lower tag
abbrev pub below : ℕ → List Entry → ℕ
below t [] = 0
below t (e ∷ es) = one (nat_lt (tag e) t) + below t es

-- the records of a tag
abbrev pub span : ℕ → List Entry → Span
span t es = record { first = below t es; past = below (t + 1) es }

-- the records of each kind
abbrev pub kinds : List Entry → Kinds
kinds es = record { nodes = span 2 es; lines = span 3 es; offers = span 4 es; bids = span 5 es; regulations = span 6 es }

-- the place of the record of a number among its kind
abbrev pub at : Span → ℕ → ℕ
at k n = k.first + n

-- places at which 64 bits have room for a number of two bytes more
pub record Few (k : Kinds) : Type 0 where
  pub nodes : k.nodes.first < 9223372036854775808
  pub offers : k.offers.first < 9223372036854775808
