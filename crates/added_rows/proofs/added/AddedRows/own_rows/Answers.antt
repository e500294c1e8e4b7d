use Rattle.std.proofs.Common.{rules}
use Rattle.books.proofs.Sounds.{sound_parts}
use Rattle.added_rows.proofs.added.AddedRows.own_rows.Goals as goal

pub overflow_add-first : goal.overflow_add-first
overflow_add-first g c =
    let few = (sound_parts _ (g.met.B.Book.kept c.args.self.now.below)).few_rows in search rules
