-- What a summary of records says of them.
use Rattle.std.specs.Prelude.{◌≡◌, ℕ, Some, None, Option, Bool, false, ◌==◌, List, vec_items, vec_len, nat_lt, slice_index_or}
use Rattle.case_fields.specs.declared.summary.Summary.{Summary}
use Rattle.case_fields.specs.declared.kind.RecordKind.{RecordKind}
use Rattle.case_fields.specs.Kinds.{tag_of}
use Rattle.case_fields.specs.Entries.{Entry}
use Rattle.case_fields.specs.Tests.{tag_of_last, count, regulated}

-- the tag of the last record's kind, nought before the first
abbrev pub last_tag : Option RecordKind → ℕ
last_tag None = 0
last_tag (Some k) = tag_of k

-- the last record has the requirement's tag
abbrev pub ends : Option RecordKind → Bool
ends None = false
ends (Some k) = tag_of k == 15

pub record SumsUp (s : Summary) (es : List Entry) : Type 0 where
  pub last : last_tag s.last ≡ tag_of_last es
  pub period : s.has_period ≡ nat_lt 0 (count 1 es)
  pub requirement : ends s.last ≡ nat_lt 0 (count 15 es)
  pub nodes : s.nodes ≡ count 2 es
  pub offers : vec_len s.regulated ≡ count 4 es
  pub marks : (k : ℕ) → slice_index_or (vec_items s.regulated) k false ≡ regulated k es
