use Rattle.std.proofs.Common.{◌≤◌, map, length, take, sym, ap, ◌∙◌, arith}
use Rattle.std.proofs.lemmas.List.{length-map, length-take, take-map, take-take}
use Rattle.added_rows.specs.OwnRows.{full_row}
use Rattle.added_rows.proofs.table.Table.truncate.Goals as goal

pub returns : goal.returns
returns c =
    let t = c.self.inside in
    let fewer : c.args.len ≤ t.used = omega (arith, ap length c.self.view_is, length-map (take t.used t.rows) full_row, length-take t.used t.rows) in
    sym (ap (take c.args.len) (sym c.self.view_is) ∙ take-map full_row c.args.len (take t.used t.rows) ∙ ap (map full_row) (take-take c.args.len t.used t.rows fewer))
