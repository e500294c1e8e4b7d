-- The records of a case as plain values, in whole kilowatts and cents per MWh.
use Rattle.std.specs.Prelude.{ℕ, List, ℤ}
use Rattle.case_fields.specs.declared.part.Block.{Block}
use Rattle.case_fields.specs.declared.part.Point.{Point}

pub record Period : Type 0 where
  pub number : ℕ
  pub allowance : ℤ

pub record Node : Type 0 where
  pub deficit_maximum : ℤ
  pub deficit_price : ℤ
  pub excess_maximum : ℤ
  pub excess_price : ℤ

pub record Line : Type 0 where
  pub start : ℕ
  pub end : ℕ
  pub forward_limit : ℤ
  pub reverse_limit : ℤ
  pub admittance : ℤ
  pub shift : ℤ
  pub violation_price : ℤ
  pub points : List Point

pub record EnergyOffer : Type 0 where
  pub node : ℕ
  pub end_minimum : ℤ
  pub end_maximum : ℤ
  pub violation_price : ℤ
  pub blocks : List Block

pub record Bid : Type 0 where
  pub node : ℕ
  pub blocks : List Block

pub record RegulationOffer : Type 0 where
  pub offer : ℕ
  pub minimum : ℤ
  pub maximum : ℤ
  pub violation_price : ℤ
  pub blocks : List Block

pub record Requirement : Type 0 where
  pub requirement : ℤ
  pub deficit_price : ℤ

-- one record of a case
pub data Entry : Type 0 where
  period : Period → Entry
  node : Node → Entry
  line : Line → Entry
  energy_offer : EnergyOffer → Entry
  bid : Bid → Entry
  regulation_offer : RegulationOffer → Entry
  requirement : Requirement → Entry
