use Rattle.std.proofs.Common.{[], ◌∷◌, ◌++◌, ◌*ℤ◌, length, drop, w32, w64, SFits, to_z, sym, ap, ◌∙◌, arith, rules}
use Rattle.std.specs.List.{zip}
use Rattle.std.proofs.lemmas.Int.{to_z-of_z}
use Rattle.std.proofs.lemmas.List.{length_push}
use Rattle.std.proofs.lemmas.Slice.Zip.{length-zip}
use Rattle.std.proofs.lemmas.Iterator.{YieldsList-from_zip}
use Rattle.books.proofs.Sounds.{sound_parts}
use Rattle.certificates.specs.Values.{quantities}
use Rattle.certificates.proofs.Roads.{columns_road, elements_road, left_more, left_few, left_none}
use Rattle.schedules.proofs.Magnitudes.{Turned, sum_turn, sum_ends}
use Rattle.schedules.proofs.Scans.{gains, SmallGain, gains_small, benefit_pairs, all_front}
use Rattle.schedules.proofs.limit.Within.net_benefit.Given as given
use Rattle.schedules.proofs.limit.Within.net_benefit.Goals as goal

turn : (g : given.Over) (c : goal.After-wide_product-sum g) → Turned 200000000000000 (length c.loop-column.yielded) (gains (zip (g.B.Book.meaning c.args.self.now.book.now).columns (quantities c.args.self.now.values.bytes.now))) (gains (drop (length (c.loop-column.yielded ++ (c.in-Some.column, c.in-Some.value) ∷ [])) (zip (g.B.Book.meaning c.args.self.now.book.now).columns (quantities c.args.self.now.values.bytes.now)))) (to_z w64 c.loop-column.sum-bits) c.wide_product-sum.result
turn g c =
    let b = g.B.Book.meaning c.args.self.now.book.now in
    let xs = quantities c.args.self.now.values.bytes.now in
    let loop = c.loop-column in
    let fits : SFits w32 c.into.result = search rules in
    let sound = sound_parts b (g.met.B.Book.kept c.args.self.now.book.now) in
    let road = YieldsList-from_zip {s = c.into_iter-column-iterator.result} (columns_road g.B.Book.meaning c.args.self.now.book.now (cc) (cc)) (elements_road quantities c.args.self.now.values.bytes.now (cc)) in
    let front = left_more road loop.yielded loop.column-iterator loop.yielded_by _ c.next.new.self (c.in-Some.column, c.in-Some.value) c.in-Some.is c.next.ensures.steps in
    let below = left_few road loop.yielded loop.column-iterator loop.yielded_by _ c.next.new.self (c.in-Some.column, c.in-Some.value) c.in-Some.is c.next.ensures.steps in
    let pairs = length-zip b.columns xs in
    let few = sound.few_columns in
    let price : SFits w32 c.in-Some.column.price = search rules in
    let near = all_front SmallGain (zip b.columns xs) _ (length loop.yielded) _ (gains_small 0 b.columns xs sound.columns c.args.self.now.limits) front in
    sum_turn 200000000000000 (length loop.yielded) (omega arith) loop.invariant.2 _ _ _ near (ap gains front) ((simp to_z-of_z at c.wide_product-sum.ensures) ∙ ap (λ v. c.in-Some.column.price *ℤ v) c.into.ensures)

pub overflow_add-sum : goal.overflow_add-sum
overflow_add-sum g c = (turn g c).fits

pub loop-column-preserved : goal.loop-column-preserved
loop-column-preserved g c = ((tt, tt), tt, (turn g c).next _ (length_push c.loop-column.yielded _))

pub returns : goal.returns
returns g c =
    let b = g.B.Book.meaning c.args.self.now.book.now in
    let xs = quantities c.args.self.now.values.bytes.now in
    let loop = c.loop-column in
    let road = YieldsList-from_zip {s = c.into_iter-column-iterator.result} (columns_road g.B.Book.meaning c.args.self.now.book.now (cc) (cc)) (elements_road quantities c.args.self.now.values.bytes.now (cc)) in
    sum_ends loop.invariant.2 (ap gains (left_none road loop.yielded loop.column-iterator loop.yielded_by _ c.next.new.self c.in-None.is c.next.ensures.steps)) ∙ sym (benefit_pairs b.columns xs)
