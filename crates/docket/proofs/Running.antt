-- A run, call by call.
use Rattle.std.proofs.Common.{◌≡◌, ℕ, zero, suc, ◌+◌, ◌<◌, ◌≤◌, List, [], ◌∷◌, ◌++◌, map, length, get_or, take, Some, sym, refl, ap, ◌∙◌, subst, ⊎_elim, arith}
use Rattle.std.specs.List.{slice_get}
use Rattle.std.proofs.lemmas.List.{length-append, map_more, take_all, take-append-le}
use Rattle.std.proofs.lemmas.Option.{slice_get_within}
use Rattle.books.specs.Lists.{Lists}
use Rattle.docket.specs.declared.run.Answer.{Answer}
use Rattle.docket.specs.declared.run.Call.{Call}
use Rattle.docket.specs.declared.standing.Standing.{Standing}
use Rattle.docket.specs.declared.verdict.Verdict.{Verdict}
use Rattle.docket.specs.Calls.{Laid, RightVerdict}
use Rattle.docket.specs.Docketed.{Docketed, Lays}
use Rattle.docket.specs.Standings.{StandingOf}
use Rattle.docket.specs.Runs.{laid_by, RightRun}
use Rattle.docket.proofs.Leading.{nth_push}
use Rattle.docket.proofs.Established.{gap_never_grows}

-- ---- fronts of a list

-- a longer front is a shorter one with more behind it
longer : {X : Type 0} (j k : ℕ) (xs : List X) → j ≤ k → (more : List X) × (take k xs ≡ take j xs ++ more)
longer zero k xs h = (take k xs, refl)
longer (suc j) zero xs h = absurd (omega arith)
longer (suc j) (suc k) [] h = ([], refl)
longer (suc j) (suc k) (x ∷ xs) h = let r = longer j k xs (omega arith) in (r.0, ap (λ l. x ∷ l) r.1)

-- ---- the answers so far

pub record SoFar (b : Lists) (h : List Laid) (ans : List Answer) (s : Standing) : Type 0 where
  pub each : length ans ≡ length h
  pub verdicts : (k : ℕ) (c : Laid) (a : Answer) → slice_get h k ≡ Some c → slice_get ans k ≡ Some a → RightVerdict b c a.verdict
  pub standings : (k : ℕ) (a : Answer) → slice_get ans k ≡ Some a → StandingOf b (take (suc k) h) a.standing
  pub final : StandingOf b h s

pub none_so_far : (b : Lists) (s : Standing) → StandingOf b [] s → SoFar b [] [] s
none_so_far b s f = record {
  each = refl;
  verdicts = λ k c a e. cc;
  standings = λ k a e. cc;
  final = f;
}

module _ (b : Lists) (h : List Laid) (ans : List Answer) (s : Standing) (far : SoFar b h ans s) (c : Laid) (a : Answer) where
  verdicts_more : RightVerdict b c a.verdict → (k : ℕ) (d : Laid) (x : Answer) → slice_get (h ++ c ∷ []) k ≡ Some d → slice_get (ans ++ a ∷ []) k ≡ Some x → RightVerdict b d x.verdict
  verdicts_more right k d x at at' =
      let e = far.each in
      ⊎_elim
      (λ p. ⊎_elim (λ q. far.verdicts k d x p q) (λ q. absurd (let l = slice_get_within h k d p in let m = q.0 in omega arith)) (nth_push ans a k x at'))
      (λ p. ⊎_elim (λ q. absurd (let l = slice_get_within ans k x q in let m = p.0 in omega arith))
      (λ q. subst (λ (z : Laid). RightVerdict b z x.verdict) p.1 (subst (λ (y : Answer). RightVerdict b c y.verdict) q.1 right)) (nth_push ans a k x at'))
      (nth_push h c k d at)

  standings_more : StandingOf b (h ++ c ∷ []) a.standing → (k : ℕ) (x : Answer) → slice_get (ans ++ a ∷ []) k ≡ Some x → StandingOf b (take (suc k) (h ++ c ∷ [])) x.standing
  standings_more stands k x at =
      let e = far.each in
      ⊎_elim
      (λ p. let l = slice_get_within ans k x p in subst (λ (l : List Laid). StandingOf b l x.standing) (sym (take-append-le (suc k) h (c ∷ []) (omega arith))) (far.standings k x p))
      (λ p. let m = p.0 in let n = length-append h (c ∷ []) in
      subst (λ (l : List Laid). StandingOf b l x.standing) (sym (take_all (suc k) (h ++ c ∷ []) (omega arith))) (subst (λ (y : Answer). StandingOf b (h ++ c ∷ []) y.standing) p.1 stands))
      (nth_push ans a k x at)

  pub one_more : RightVerdict b c a.verdict → StandingOf b (h ++ c ∷ []) a.standing → SoFar b (h ++ c ∷ []) (ans ++ a ∷ []) a.standing
  one_more right stands = record {
    each = let e = far.each in omega (arith, length-append h (c ∷ []), length-append ans (a ∷ []));
    verdicts = verdicts_more right;
    standings = standings_more stands;
    final = stands;
  }

-- ---- the whole run

pub whole : (b : Lists) (h : List Laid) (ans : List Answer) (s : Standing) → SoFar b h ans s → RightRun b h ans s
whole b h ans s far = record {
  each = far.each;
  verdicts = far.verdicts;
  standings = far.standings;
  final = far.final;
  gaps = λ j k p q le at at'.
      let m = longer (suc j) (suc k) h (omega arith) in
      gap_never_grows b (take (suc j) h) m.0 p.standing q.standing (far.standings j p at) (subst (λ (l : List Laid). StandingOf b l q.standing) m.1 (far.standings k q at'));
}

-- ---- the turns of the loop over the calls

module _ {X : Type 0} (m : X → Lists) (x : X) (cs : List Call) (i : ℕ) (ans : List Answer) (d : Docketed X) (same : d.book ≡ x) (far : SoFar (m x) (map laid_by (take i cs)) ans d.standing) where
  -- one call more: w is its verdict, e the docket after it, and u the standing that was read
  pub turn : (call : Call) (new : List Answer) (w : Verdict) (e : Docketed X) (u : Standing) → i < length cs → Lays m (laid_by (get_or cs i call)) w d e
      → u ≡ e.standing → new ≡ ans ++ record { verdict = w; standing = u } ∷ [] → SoFar (m x) (map laid_by (take (i + 1) cs)) new e.standing × (e.book ≡ x)
  turn call new w e u within lays read pushed =
      let b = m x in
      let c = laid_by (get_or cs i call) in
      let h = map laid_by (take i cs) in
      let is = ap m same in
      let answer : Answer = record { verdict = w; standing = u } in
      let right = subst (λ (a : Lists). RightVerdict a c w) is lays.verdict in
      let stands = subst (λ (a : Lists). (h : List Laid) → StandingOf a h d.standing → StandingOf a (h ++ c ∷ []) e.standing) is lays.history h far.final in
      let more = one_more b h ans d.standing far c answer right (subst (StandingOf b (h ++ c ∷ [])) (sym read) stands) in (
        subst (λ (l : List Laid). SoFar b l new e.standing) (sym (map_more laid_by cs i call within))
            (subst (λ (l : List Answer). SoFar b (h ++ c ∷ []) l e.standing) (sym pushed) (subst (SoFar b (h ++ c ∷ []) (ans ++ answer ∷ [])) read more)),
        lays.book ∙ same,
      )

  -- no call is left
  pub ended : (u : Standing) → length cs ≤ i → u ≡ d.standing → RightRun (m x) (map laid_by cs) ans u
  ended u past read =
      subst (RightRun (m x) (map laid_by cs) ans) (sym read)
      (whole (m x) (map laid_by cs) ans d.standing (subst (λ (l : List Call). SoFar (m x) (map laid_by l) ans d.standing) (take_all i cs past) far))
