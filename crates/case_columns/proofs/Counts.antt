-- Counting the records of a lower tag.
use Rattle.std.proofs.Common.{◌≡◌, ℕ, suc, ◌+◌, nat_lt, nat_le, Bool, true, false, cond, List, map, refl, ap, ◌∙◌, arith}
use Rattle.std.proofs.Math.Dec.{leb-suc-suc}
use Rattle.std.specs.List.{count_by}
use Rattle.std.proofs.lemmas.List.Recursion.{is_count_by}
use Rattle.case_fields.specs.declared.record.CaseRecord.{CaseRecord}
use Rattle.case_fields.specs.Encoding.{tag}
use Rattle.case_fields.specs.Meant.{meant}
use Rattle.case_fields.specs.Tests.{one}
use Rattle.case_columns.specs.Kinds.{below}

one_more : (b : Bool) (n : ℕ) → one b + n ≡ cond b (1 + n) n
one_more true n = refl
one_more false n = omega arith

pub count_below : (t : ℕ) (rs : List CaseRecord) → below t (map meant rs) ≡ count_by (λ r. nat_lt (tag (meant r)) t) rs
count_below t rs =
    is_count_by (λ l. below t (map meant l)) (λ r. nat_lt (tag (meant r)) t) refl (λ r l. one_more (nat_lt (tag (meant r)) t) (below t (map meant l))) rs

pub count_up_to : (t : ℕ) (rs : List CaseRecord) → below (t + 1) (map meant rs) ≡ count_by (λ r. nat_le (tag (meant r)) t) rs
count_up_to t rs =
    is_count_by (λ l. below (t + 1) (map meant l)) (λ r. nat_le (tag (meant r)) t) refl (λ r l. ap (λ b. one b + below (t + 1) (map meant l)) (lt_next (tag (meant r)) t) ∙ one_more (nat_le (tag (meant r)) t) (below (t + 1) (map meant l))) rs
  where
    lt_next : (n m : ℕ) → nat_lt n (m + 1) ≡ nat_le n m
    lt_next n m = let e : m + 1 ≡ suc m = omega arith in ap (nat_lt n) e ∙ leb-suc-suc n m
