-- The kinds of case records: the tag of each, and how long its field can be.
use Rattle.std.specs.Prelude.{ℕ, ◌+◌, ◌-◌, ◌*◌, ◌/◌, Bool, true, false, Some, None, Option, Result, MatchResult, ◌==◌, nat_le, ◌≡◌}
use Rattle.fields.specs.declared.fault.FaultKind.{FaultKind}
use Rattle.fields.specs.declared.fault.FaultKind.TheVariants.{UnknownTag}
use Rattle.case_fields.specs.declared.kind.RecordKind.{RecordKind}
use Rattle.case_fields.specs.declared.kind.RecordKind.TheVariants.{Period, Node, Line, EnergyOffer, Bid, RegulationOffer, Requirement}

abbrev pub both : Bool → Bool → Bool
both true b = b
both false b = false

abbrev pub tag_of : RecordKind → ℕ
tag_of Period = 1
tag_of Node = 2
tag_of Line = 3
tag_of EnergyOffer = 4
tag_of Bid = 5
tag_of RegulationOffer = 6
tag_of Requirement = 15

abbrev pub choose : Bool → RecordKind → Option RecordKind → Option RecordKind
choose true k o = Some k
choose false k o = o

-- the kind that a tag names
abbrev pub kind : ℕ → Option RecordKind
kind t =
    choose (t == 1) Period (choose (t == 2) Node (choose (t == 3) Line (choose (t == 4) EnergyOffer (choose (t == 5) Bid (choose (t == 6) RegulationOffer (choose (t == 15) Requirement None))))))

-- the kind that a tag names is this one, or no kind has the tag
abbrev pub Names : ℕ → Result RecordKind FaultKind → Type 0
Names t r = MatchResult r (λ k. Some k ≡ kind t) (λ e. (e ≡ UnknownTag) × (None ≡ kind t))

-- a case has a record of this kind exactly once
abbrev pub once : RecordKind → Bool
once Period = true
once Node = false
once Line = false
once EnergyOffer = false
once Bid = false
once RegulationOffer = false
once Requirement = true

-- the bytes of the numbers before the points or blocks
abbrev pub front : RecordKind → ℕ
front Period = 8
front Node = 16
front Line = 24
front EnergyOffer = 14
front Bid = 2
front RegulationOffer = 14
front Requirement = 8

-- the fewest and the most points or blocks, of eight bytes each
abbrev pub fewest : RecordKind → ℕ
fewest Period = 0
fewest Node = 0
fewest Line = 2
fewest EnergyOffer = 1
fewest Bid = 1
fewest RegulationOffer = 1
fewest Requirement = 0

abbrev pub most : RecordKind → ℕ
most Period = 0
most Node = 0
most Line = 21
most EnergyOffer = 10
most Bid = 10
most RegulationOffer = 5
most Requirement = 0

-- a body can be so long
abbrev pub takes : RecordKind → ℕ → Bool
takes k n =
    both (front k + 8 * ((n - front k) / 8) == n) (both (nat_le (fewest k) ((n - front k) / 8)) (nat_le ((n - front k) / 8) (most k)))
