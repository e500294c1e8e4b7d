-- Schedules and sets of multipliers for the worked case, as the fields of a file.
use Rattle.std.specs.Prelude.{ℕ, List, [], ◌∷◌, ◌++◌, map, ℤ, pos}
use Rattle.std.specs.List.{flat_map}
use Rattle.fields.specs.Bytes.{four, signed_four, signed_eight}
use Rattle.fields.specs.Fields.{field}
use Rattle.fields.specs.Certificates.{certificate_tag}
use Rattle.fields.specs.declared.certificate.CertificateKind.{CertificateKind}
use Rattle.fields.specs.declared.certificate.CertificateKind.TheVariants.{Schedule, Multipliers}
use Rattle.case_fields.specs.Tests.{minus}
use Rattle.docket.specs.Calls.{Laid, laid}

-- one field of a kind is laid: a label, then value bytes
abbrev pub certificate : CertificateKind → ℕ → List ℕ → Laid
certificate k label values = laid k (field (certificate_tag k) (four label ++ values))

-- the value bytes of a schedule, and of a set
abbrev pub schedule_values : List ℤ → List ℕ
schedule_values xs = flat_map signed_four xs

abbrev pub set_values : List ℤ → List ℕ
set_values ys = flat_map signed_eight ys

-- a schedule is laid under a label, and a set
abbrev pub schedule : ℕ → List ℤ → Laid
schedule label xs = certificate Schedule label (schedule_values xs)

abbrev pub set : ℕ → List ℤ → Laid
set label ys = certificate Multipliers label (set_values ys)

-- what a schedule of the worked case is made of: all else is nought, or matches
pub record Dispatch : Type 0 where
  pub generation_0 : ℕ
  pub generation_1 : ℕ
  pub purchase : ℕ
  pub regulation_0 : ℕ
  pub switch_0 : ℕ
  pub regulation_1 : ℕ
  pub switch_1 : ℕ

-- one number a column, blocks to match, the rest nought
abbrev pub numbers : Dispatch → List ℤ
numbers d =
    -- node 0: Injection, Angle, Deficit, Excess
    map pos (0 ∷ 0 ∷ 0 ∷ 0
    -- each energy offer: Generation, OverUp, OverDown, its block
    ∷ d.generation_0 ∷ 0 ∷ 0 ∷ d.generation_0
    ∷ d.generation_1 ∷ 0 ∷ 0 ∷ d.generation_1
    -- the bid: Purchase, its block
    ∷ d.purchase ∷ d.purchase
    -- each regulation offer: Regulation, Switch, OverReg, ShortReg, its block
    ∷ d.regulation_0 ∷ d.switch_0 ∷ 0 ∷ 0 ∷ d.regulation_0
    ∷ d.regulation_1 ∷ d.switch_1 ∷ 0 ∷ 0 ∷ d.regulation_1
    -- the requirement: ShortRequirement
    ∷ 0
    ∷ [])

-- offer 1 alone regulates
abbrev pub one_regulates : List ℤ
one_regulates =
    numbers (record { generation_0 = 100000; generation_1 = 400000; purchase = 500000; regulation_0 = 0; switch_0 = 0; regulation_1 = 12000; switch_1 = 1 })

-- the same with both offers regulating, offer 0 below the minimum from which it may
abbrev pub both_too_low : List ℤ
both_too_low =
    numbers (record { generation_0 = 100000; generation_1 = 400000; purchase = 500000; regulation_0 = 10000; switch_0 = 1; regulation_1 = 2000; switch_1 = 1 })

-- the same with offer 0 raised to that minimum
abbrev pub both_regulate : List ℤ
both_regulate =
    numbers (record { generation_0 = 190000; generation_1 = 310000; purchase = 500000; regulation_0 = 10000; switch_0 = 1; regulation_1 = 2000; switch_1 = 1 })

-- every number nought
abbrev pub all_nought : List ℤ
all_nought =
    numbers (record { generation_0 = 0; generation_1 = 0; purchase = 0; regulation_0 = 0; switch_0 = 0; regulation_1 = 0; switch_1 = 0 })

-- one multiplier a row: on the balance of the node, on blocks, and on the requirement
abbrev pub row_multipliers : List ℤ
row_multipliers =
    -- node 0: D.16.1.1, D.16.1.2
    minus 1000000000 ∷ pos 2000000000
    -- each energy offer: D.15.1.2, D.19.1.1, D.19.1.2
    ∷ pos 2000000000 ∷ pos 0 ∷ pos 0
    ∷ pos 2000000000 ∷ pos 0 ∷ pos 0
    -- the bid: D.15.2.2
    ∷ minus 2000000000
    -- each regulation offer: D.18.1.2, D.18.1.3, D.18.1.4, D.18.1.5
    ∷ pos 600000000 ∷ pos 0 ∷ pos 0 ∷ pos 0
    ∷ pos 600000000 ∷ pos 0 ∷ pos 0 ∷ pos 0
    -- the requirement: D.18.2.1
    ∷ minus 600000000
    ∷ []

-- +1 on the requirement's row, which has no upper side, the rest nought
abbrev pub wrong_sign : List ℤ
wrong_sign =
    map pos (0 ∷ 0 ∷ 0 ∷ 0 ∷ 0 ∷ 0 ∷ 0 ∷ 0 ∷ 0 ∷ 0 ∷ 0 ∷ 0 ∷ 0 ∷ 0 ∷ 0 ∷ 0 ∷ 0 ∷ 1 ∷ [])
