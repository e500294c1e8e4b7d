use Rattle.std.proofs.Common.{Some, refl, ap, inl, inr, w64, SFits, rules}
use Rattle.std.proofs.lemmas.Int.{to_z-of_z}
use Rattle.multipliers.specs.Tables.{held}
use Rattle.docket.proofs.Laying.{leader_is, next_fits, next_lays, refused_lays}
use Rattle.docket.proofs.docket.Docket.lay.Goals as goal
use Rattle.docket.proofs.docket.Docket.lay.Goals.{in-Schedule, in-Multipliers}

pub invariant_of-self : goal.invariant_of-self
invariant_of-self g c =
    let i = c.self.inside in
    next_fits g.B.Book.meaning i.book.now (g.met.B.Book.kept i.book.now) c.args.field.now c.args.kind c.in-Ok.new c.in-Ok.ensures.told i.best i.bound _ _ c.self.invariant
    (inl (c.in-Schedule.is, ap Some (leader_is _ _ i.best c.in-Ok.new _ (λ old t p e. search rules) c.leader.ensures), refl))

pub invariant_of-self-in-Multipliers : goal.invariant_of-self-in-Multipliers
invariant_of-self-in-Multipliers g c =
    let i = c.self.inside in
    next_fits g.B.Book.meaning i.book.now (g.met.B.Book.kept i.book.now) c.args.field.now c.args.kind c.in-Ok.new c.in-Ok.ensures.told i.best i.bound _ _ c.self.invariant
    (inr (c.in-Multipliers.is, refl, ap Some (leader_is _ _ i.bound c.in-Ok.new _ (λ old t p e. search rules) c.leader-in-Multipliers.ensures)))

pub returns-after-kind : goal.returns-after-kind
returns-after-kind g c =
    let i = c.self.inside in
    let fits : SFits w64 c.in-Ok.new.figure = search rules in
    let lays = next_lays g.B.Book.meaning i.book.now (g.met.B.Book.kept i.book.now) c.args.field.now c.args.kind c.in-Ok.new c.in-Ok.ensures.told i.best i.bound in
    elim c.match-kind.branch [
      | in-Schedule w ↦ lays _ _ _ _ _ _ _ c.self.invariant (to_z-of_z w64 _ fits) (ap held c.in-Ok.ensures.same) c.self.view_is w.self-is
          (inl (w.in-Schedule.is, ap Some (leader_is _ _ i.best c.in-Ok.new _ (λ old t p e. search rules) w.leader.ensures), refl))
      | in-Multipliers w ↦ lays _ _ _ _ _ _ _ c.self.invariant (to_z-of_z w64 _ fits) (ap held c.in-Ok.ensures.same) c.self.view_is w.self-is
          (inr (w.in-Multipliers.is, refl, ap Some (leader_is _ _ i.bound c.in-Ok.new _ (λ old t p e. search rules) w.leader-in-Multipliers.ensures)))
    ]

pub returns-in-Err : goal.returns-in-Err
returns-in-Err g c =
    let i = c.self.inside in
    refused_lays g.B.Book.meaning i.book.now (g.met.B.Book.kept i.book.now) c.args.field.now c.args.kind c.in-Err.fault c.in-Err.ensures.told _ _ _ _ _ _ c.self.invariant c.into.ensures (ap held c.in-Err.ensures.same) c.self.view_is
