-- What a working table is, as its holder sees it.
use Rattle.multipliers.specs.declared.working_table.WorkingTable.{WorkingTable}
use Rattle.multipliers.specs.Costs.{Held}

-- its reduced costs, and the block that holds them
abbrev pub held : WorkingTable → Held
held t = t.costs
