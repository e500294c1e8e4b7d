-- The fields of the first three certificates, written out.
use Rattle.std.specs.Prelude.{ℕ, List, [], ◌∷◌}

-- the schedule of label 1
abbrev pub one_regulates_bytes : List ℕ
one_regulates_bytes =
    -- tag, length, label
    20 ∷ 0 ∷ 104 ∷ 0 ∷ 0 ∷ 0 ∷ 1
    -- node 0: Injection, Angle, Deficit, Excess
    ∷ 0 ∷ 0 ∷ 0 ∷ 0 ∷ 0 ∷ 0 ∷ 0 ∷ 0 ∷ 0 ∷ 0 ∷ 0 ∷ 0 ∷ 0 ∷ 0 ∷ 0 ∷ 0
    -- energy offer 0: Generation, OverUp, OverDown, its block
    ∷ 0 ∷ 1 ∷ 134 ∷ 160 ∷ 0 ∷ 0 ∷ 0 ∷ 0 ∷ 0 ∷ 0 ∷ 0 ∷ 0 ∷ 0 ∷ 1 ∷ 134 ∷ 160
    -- energy offer 1: the same
    ∷ 0 ∷ 6 ∷ 26 ∷ 128 ∷ 0 ∷ 0 ∷ 0 ∷ 0 ∷ 0 ∷ 0 ∷ 0 ∷ 0 ∷ 0 ∷ 6 ∷ 26 ∷ 128
    -- bid 0: Purchase, its block
    ∷ 0 ∷ 7 ∷ 161 ∷ 32 ∷ 0 ∷ 7 ∷ 161 ∷ 32
    -- regulation offer 0: Regulation, Switch, OverReg, ShortReg, its block
    ∷ 0 ∷ 0 ∷ 0 ∷ 0 ∷ 0 ∷ 0 ∷ 0 ∷ 0 ∷ 0 ∷ 0 ∷ 0 ∷ 0 ∷ 0 ∷ 0 ∷ 0 ∷ 0 ∷ 0 ∷ 0 ∷ 0 ∷ 0
    -- regulation offer 1: the same
    ∷ 0 ∷ 0 ∷ 46 ∷ 224 ∷ 0 ∷ 0 ∷ 0 ∷ 1 ∷ 0 ∷ 0 ∷ 0 ∷ 0 ∷ 0 ∷ 0 ∷ 0 ∷ 0 ∷ 0 ∷ 0 ∷ 46 ∷ 224
    -- requirement: ShortRequirement
    ∷ 0 ∷ 0 ∷ 0 ∷ 0
    ∷ []

-- the schedule of label 2
abbrev pub both_too_low_bytes : List ℕ
both_too_low_bytes =
    -- tag, length, label
    20 ∷ 0 ∷ 104 ∷ 0 ∷ 0 ∷ 0 ∷ 2
    -- node 0: Injection, Angle, Deficit, Excess
    ∷ 0 ∷ 0 ∷ 0 ∷ 0 ∷ 0 ∷ 0 ∷ 0 ∷ 0 ∷ 0 ∷ 0 ∷ 0 ∷ 0 ∷ 0 ∷ 0 ∷ 0 ∷ 0
    -- energy offer 0: Generation, OverUp, OverDown, its block
    ∷ 0 ∷ 1 ∷ 134 ∷ 160 ∷ 0 ∷ 0 ∷ 0 ∷ 0 ∷ 0 ∷ 0 ∷ 0 ∷ 0 ∷ 0 ∷ 1 ∷ 134 ∷ 160
    -- energy offer 1: the same
    ∷ 0 ∷ 6 ∷ 26 ∷ 128 ∷ 0 ∷ 0 ∷ 0 ∷ 0 ∷ 0 ∷ 0 ∷ 0 ∷ 0 ∷ 0 ∷ 6 ∷ 26 ∷ 128
    -- bid 0: Purchase, its block
    ∷ 0 ∷ 7 ∷ 161 ∷ 32 ∷ 0 ∷ 7 ∷ 161 ∷ 32
    -- regulation offer 0: Regulation, Switch, OverReg, ShortReg, its block
    ∷ 0 ∷ 0 ∷ 39 ∷ 16 ∷ 0 ∷ 0 ∷ 0 ∷ 1 ∷ 0 ∷ 0 ∷ 0 ∷ 0 ∷ 0 ∷ 0 ∷ 0 ∷ 0 ∷ 0 ∷ 0 ∷ 39 ∷ 16
    -- regulation offer 1: the same
    ∷ 0 ∷ 0 ∷ 7 ∷ 208 ∷ 0 ∷ 0 ∷ 0 ∷ 1 ∷ 0 ∷ 0 ∷ 0 ∷ 0 ∷ 0 ∷ 0 ∷ 0 ∷ 0 ∷ 0 ∷ 0 ∷ 7 ∷ 208
    -- requirement: ShortRequirement
    ∷ 0 ∷ 0 ∷ 0 ∷ 0
    ∷ []

-- the multipliers of label 3
abbrev pub row_multipliers_bytes : List ℕ
row_multipliers_bytes =
    -- tag, length, label
    21 ∷ 0 ∷ 148 ∷ 0 ∷ 0 ∷ 0 ∷ 3
    -- node 0: D.16.1.1, D.16.1.2
    ∷ 255 ∷ 255 ∷ 255 ∷ 255 ∷ 196 ∷ 101 ∷ 54 ∷ 0 ∷ 0 ∷ 0 ∷ 0 ∷ 0 ∷ 119 ∷ 53 ∷ 148 ∷ 0
    -- energy offer 0: D.15.1.2, D.19.1.1, D.19.1.2
    ∷ 0 ∷ 0 ∷ 0 ∷ 0 ∷ 119 ∷ 53 ∷ 148 ∷ 0 ∷ 0 ∷ 0 ∷ 0 ∷ 0 ∷ 0 ∷ 0 ∷ 0 ∷ 0 ∷ 0 ∷ 0 ∷ 0 ∷ 0 ∷ 0 ∷ 0 ∷ 0 ∷ 0
    -- energy offer 1: the same
    ∷ 0 ∷ 0 ∷ 0 ∷ 0 ∷ 119 ∷ 53 ∷ 148 ∷ 0 ∷ 0 ∷ 0 ∷ 0 ∷ 0 ∷ 0 ∷ 0 ∷ 0 ∷ 0 ∷ 0 ∷ 0 ∷ 0 ∷ 0 ∷ 0 ∷ 0 ∷ 0 ∷ 0
    -- bid 0: D.15.2.2
    ∷ 255 ∷ 255 ∷ 255 ∷ 255 ∷ 136 ∷ 202 ∷ 108 ∷ 0
    -- regulation offer 0: D.18.1.2, D.18.1.3, D.18.1.4, D.18.1.5
    ∷ 0 ∷ 0 ∷ 0 ∷ 0 ∷ 35 ∷ 195 ∷ 70 ∷ 0 ∷ 0 ∷ 0 ∷ 0 ∷ 0 ∷ 0 ∷ 0 ∷ 0 ∷ 0 ∷ 0 ∷ 0 ∷ 0 ∷ 0 ∷ 0 ∷ 0 ∷ 0 ∷ 0 ∷ 0 ∷ 0 ∷ 0 ∷ 0 ∷ 0 ∷ 0 ∷ 0 ∷ 0
    -- regulation offer 1: the same
    ∷ 0 ∷ 0 ∷ 0 ∷ 0 ∷ 35 ∷ 195 ∷ 70 ∷ 0 ∷ 0 ∷ 0 ∷ 0 ∷ 0 ∷ 0 ∷ 0 ∷ 0 ∷ 0 ∷ 0 ∷ 0 ∷ 0 ∷ 0 ∷ 0 ∷ 0 ∷ 0 ∷ 0 ∷ 0 ∷ 0 ∷ 0 ∷ 0 ∷ 0 ∷ 0 ∷ 0 ∷ 0
    -- requirement: D.18.2.1
    ∷ 255 ∷ 255 ∷ 255 ∷ 255 ∷ 220 ∷ 60 ∷ 186 ∷ 0
    ∷ []
