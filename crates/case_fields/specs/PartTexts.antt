-- A block and a point in words.
use Rattle.std.specs.Prelude.{ℕ, List, ◌++◌, codes}
use Rattle.std.specs.Fmt.{signed_decimal}
use Rattle.case_fields.specs.declared.part.Block.{Block}
use Rattle.case_fields.specs.declared.part.Point.{Point}

-- up to so many kilowatts at a price
abbrev pub block_text : Block → List ℕ
block_text b = codes "block of " ++ (signed_decimal b.maximum ++ (codes " kW at " ++ (signed_decimal b.price ++ codes " cents per MWh")))

-- the kilowatts lost at a flow
abbrev pub point_text : Point → List ℕ
point_text p = codes "point of " ++ (signed_decimal p.flow ++ (codes " kW losing " ++ (signed_decimal p.loss ++ codes " kW")))
