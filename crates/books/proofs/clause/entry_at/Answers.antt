use Rattle.std.proofs.Common.{ap, ◌∙◌}
use Rattle.std.specs.Option.{option_map}
use Rattle.books.specs.ClauseTable.{entry_of}
use Rattle.books.proofs.Entries.{entry_got}
use Rattle.books.proofs.clause.entry_at.Goals as goal

pub returns : goal.returns
returns c =
    ap (option_map entry_of) c.copied.ensures
    ∙ entry_got entry_of c.args.table.now c.args.place c.get.result c.get.ensures.lookup.0 c.get.ensures.lookup.1
