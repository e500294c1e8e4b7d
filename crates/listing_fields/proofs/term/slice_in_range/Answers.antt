use Rattle.std.proofs.lemmas.Iterator.{YieldsList-from_slice}
use Rattle.std.proofs.lemmas.Iterator.Consumers.{YieldsList-from_copied}
use Rattle.listing_fields.proofs.term.slice_in_range.Goals as goal

pub returns : goal.returns
returns c = c.are_in_range.ensures c.args.terms.now (YieldsList-from_copied (YieldsList-from_slice c.args.terms.now (cc))).runs
