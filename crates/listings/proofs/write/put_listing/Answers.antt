use Rattle.std.proofs.Common.{length, sym, ap, arith, rules}
use Rattle.std.specs.List.{flat_map}
use Rattle.std.proofs.lemmas.List.{length-append}
use Rattle.listings.specs.Writing.{column_bytes, row_bytes}
use Rattle.listings.proofs.Chains.{puts_same, puts_more, puts_long, puts_read}
use Rattle.listings.proofs.Fews.{listing_is}
use Rattle.listings.proofs.write.put_listing.Goals as goal

pub put_columns-requires : goal.put_columns-requires
put_columns-requires g c =
    let b = g.B.Book.meaning c.args.book.now in
    omega (arith, c.requires, ap length (listing_is b), length-append (flat_map column_bytes b.columns) (flat_map row_bytes b.rows))

pub put_rows-requires : goal.put_rows-requires
put_rows-requires g c =
    let b = g.B.Book.meaning c.args.book.now in
    omega (arith, c.requires, ap length (listing_is b), length-append (flat_map column_bytes b.columns) (flat_map row_bytes b.rows), c.put_columns.ensures.wrote.next_is, puts_long c.put_columns.ensures)

pub returns : goal.returns
returns g c =
    let b = g.B.Book.meaning c.args.book.now in
    let done = puts_same _ _ (sym (listing_is b)) (puts_more (flat_map column_bytes b.columns) (flat_map row_bytes b.rows) c.put_columns.ensures c.put_rows.ensures) in
    puts_read done _ (λ named. search rules)
