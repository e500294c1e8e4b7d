-- What a check that passes, and one that does not, says of the fault that it looks for.
use Rattle.std.proofs.Common.{◌≡◌, Bool, true, false, cond, Some, None, Ok, Err, Option, refl}
use Rattle.certificates.specs.declared.fault.DocketFault.{DocketFault}
use Rattle.certificates.specs.Checks.{passed}

pub fault_is : (o : Option DocketFault) (f : DocketFault) → Err f ≡ passed o → o ≡ Some f
fault_is None f e = cc
fault_is (Some h) f e = cc

pub none_is : (o : Option DocketFault) (u : Unit {0}) → Ok u ≡ passed o → o ≡ None
none_is None u e = refl
none_is (Some h) u e = cc

-- a check that passes leaves the rest, and one that fails is the fault
pub cond_none : (t : Bool) (f : DocketFault) (r : Option DocketFault) → cond t r (Some f) ≡ None → (t ≡ true) × (r ≡ None)
cond_none true f r e = (refl, e)
cond_none false f r e = cc
