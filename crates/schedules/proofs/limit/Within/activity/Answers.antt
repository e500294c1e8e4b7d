use Rattle.std.proofs.Common.{[], ◌∷◌, ◌++◌, length, drop, w64, to_z, ap, arith}
use Rattle.std.proofs.lemmas.List.{length_push}
use Rattle.books.specs.Schedules.{activity}
use Rattle.books.specs.Walks.{terms_of}
use Rattle.certificates.specs.Values.{quantities}
use Rattle.certificates.proofs.Roads.{terms_road, left_more, left_few, left_none}
use Rattle.schedules.proofs.Magnitudes.{Turned, sum_turn, sum_ends}
use Rattle.schedules.proofs.Scans.{SmallTerm, terms_small, all_front}
use Rattle.schedules.proofs.limit.Within.activity.Given as given
use Rattle.schedules.proofs.limit.Within.activity.Goals as goal

turn : (g : given.Over) (c : goal.After-term_product-sum g) → Turned 20000000000000 (length c.loop-term.yielded) (activity (terms_of (g.B.Book.meaning c.args.self.now.book.now) c.args.i) (quantities c.args.self.now.values.bytes.now)) (activity (drop (length (c.loop-term.yielded ++ c.in-Some.term ∷ [])) (terms_of (g.B.Book.meaning c.args.self.now.book.now) c.args.i)) (quantities c.args.self.now.values.bytes.now)) (to_z w64 c.loop-term.sum-bits) c.term_product-sum.result
turn g c =
    let b = g.B.Book.meaning c.args.self.now.book.now in
    let xs = quantities c.args.self.now.values.bytes.now in
    let loop = c.loop-term in
    let road = terms_road g.B.Book.meaning c.args.self.now.book.now {s = c.into_iter-term-iterator.result} c.args.i (cc) (cc) (cc) in
    let front = left_more road loop.yielded loop.term-iterator loop.yielded_by _ c.next.new.self c.in-Some.term c.in-Some.is c.next.ensures.steps in
    let below = left_few road loop.yielded loop.term-iterator loop.yielded_by _ c.next.new.self c.in-Some.term c.in-Some.is c.next.ensures.steps in
    let small = terms_small b (g.met.B.Book.kept c.args.self.now.book.now) xs c.args.self.now.limits c.args.i in
    let few = small.few in
    sum_turn 20000000000000 (length loop.yielded) (omega arith) loop.invariant.2 _ _ _ (all_front (SmallTerm xs) (terms_of b c.args.i) _ _ _ small.small front) (ap (λ l. activity l xs) front) c.term_product-sum.ensures

pub overflow_add-sum : goal.overflow_add-sum
overflow_add-sum g c = (turn g c).fits

pub loop-term-preserved : goal.loop-term-preserved
loop-term-preserved g c = (tt, tt, (turn g c).next _ (length_push c.loop-term.yielded c.in-Some.term))

pub returns : goal.returns
returns g c =
    let b = g.B.Book.meaning c.args.self.now.book.now in
    let xs = quantities c.args.self.now.values.bytes.now in
    let loop = c.loop-term in
    let road = terms_road g.B.Book.meaning c.args.self.now.book.now {s = c.into_iter-term-iterator.result} c.args.i (cc) (cc) (cc) in
    sum_ends loop.invariant.2 (ap (λ l. activity l xs) (left_none road loop.yielded loop.term-iterator loop.yielded_by _ c.next.new.self c.in-None.is c.next.ensures.steps))
