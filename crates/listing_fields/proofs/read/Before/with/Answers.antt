use Rattle.listing_fields.proofs.Steps.{tells_column, tells_row}
use Rattle.listing_fields.proofs.read.Before.with.Goals as goal

pub returns-in-Column : goal.returns-in-Column
returns-in-Column c es t = rw c.in-Column.is (tells_column es _ t)

pub returns-in-Row : goal.returns-in-Row
returns-in-Row c es t = rw c.in-Row.is (tells_row es _ t)
