use Rattle.std.proofs.Common.{◌≡◌, arith, w64, to_z, of_z}
use Rattle.std.proofs.lemmas.Int.{ints}
use Rattle.clauses.proofs.Products.{Near, product_near, product_back, same_near}
use Rattle.clauses.proofs.clause.product.Goals as goal

pub returns : goal.returns
returns c =
    let a = c.args.a in
    let b = c.args.b in
    let e : to_z w64 (of_z w64 c.from.result) ≡ a = omega (arith, ints) in
    let f : to_z w64 (of_z w64 c.from-2.result) ≡ b = omega (arith, ints) in
    let v : Near a 2147483648 = record { low = omega (arith, ints); high = omega (arith, ints) } in
    let w : Near b 2147483648 = record { low = omega (arith, ints); high = omega (arith, ints) } in
    let is = product_back a b _ _ e f v w in
    let near = same_near _ _ _ is (product_near a b v w) in
    record { value = is; low = near.low; high = near.high }
