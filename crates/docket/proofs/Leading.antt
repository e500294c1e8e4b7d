-- The first of the best along a history, one call more.
use Rattle.std.proofs.Common.{◌≡◌, ℕ, zero, suc, ◌⊎◌, List, [], ◌∷◌, ◌++◌, length, ℤ, Some, None, Option, sym, refl, ap, subst, inl, inr, ⊎_elim, arith}
use Rattle.std.specs.List.{slice_get}
use Rattle.std.proofs.lemmas.Option.{slice_get_within}
use Rattle.docket.specs.Calls.{Laid}
use Rattle.docket.specs.Standings.{FirstBest, NoneAccepted, Leads}

-- ---- places of a list with more behind it

pub nth_more : {X : Type 0} (xs ys : List X) (k : ℕ) (x : X) → slice_get xs k ≡ Some x → slice_get (xs ++ ys) k ≡ Some x
nth_more [] ys k x e = cc
nth_more (y ∷ xs) ys zero x e = e
nth_more (y ∷ xs) ys (suc k) x e = nth_more xs ys k x e

pub nth_last : {X : Type 0} (xs : List X) (x : X) → slice_get (xs ++ x ∷ []) (length xs) ≡ Some x
nth_last [] x = refl
nth_last (y ∷ xs) x = nth_last xs x

-- an element of a list with one more is one of the list, or the last
pub nth_push : {X : Type 0} (xs : List X) (y : X) (k : ℕ) (x : X) → slice_get (xs ++ y ∷ []) k ≡ Some x → (slice_get xs k ≡ Some x) ⊎ ((k ≡ length xs) × (y ≡ x))
nth_push [] y zero x e = inr (refl, cc)
nth_push [] y (suc k) x e = cc
nth_push (z ∷ xs) y zero x e = inl e
nth_push (z ∷ xs) y (suc k) x e =
    ⊎_elim inl (λ p. inr (ap suc p.0, p.1)) (nth_push xs y k x e)

-- ---- one call more

module _ (Accepted : Laid → ℕ → ℤ → Type 0) (Worse Under : ℤ → ℤ → Type 0) where
  -- a call is accepted under one label with one figure, and the orders fit each other
  pub record Orders : Type 0 where
    pub one : (c : Laid) (l m : ℕ) (v w : ℤ) → Accepted c l v → Accepted c m w → (l ≡ m) × (v ≡ w)
    pub same : (v : ℤ) → Worse v v
    pub soft : (v w : ℤ) → Under v w → Worse v w
    pub over : (u v w : ℤ) → Worse u v → Under v w → Under u w

  -- no call accepted: what stood stands
  pub keeps : (h : List Laid) (c : Laid) (lo : Option ℕ) (vo : Option ℤ) → ((l : ℕ) (v : ℤ) → Accepted c l v → ⊥) → Leads Accepted Worse Under h lo vo → Leads Accepted Worse Under (h ++ c ∷ []) lo vo
  keeps h c None None never none =
      λ k d l v at a. ⊎_elim (λ e. none k d l v e a) (λ p. never l v (subst (λ (x : Laid). Accepted x l v) (sym p.1) a)) (nth_push h c k d at)
  keeps h c None (Some v) never n = n
  keeps h c (Some l) None never n = n
  keeps h c (Some l) (Some v) never f =
      record {
        place = f.place;
        call = f.call;
        there = nth_more h (c ∷ []) f.place f.call f.there;
        accepted = f.accepted;
        best = λ k d m w at a. ⊎_elim (λ e. f.best k d m w e a) (λ p. absurd (never m w (subst (λ (x : Laid). Accepted x m w) (sym p.1) a))) (nth_push h c k d at);
        first = λ k d m w low at a. ⊎_elim (λ e. f.first k d m w low e a) (λ p. absurd (never m w (subst (λ (x : Laid). Accepted x m w) (sym p.1) a))) (nth_push h c k d at);
      }

  module _ (o : Orders) (h : List Laid) (c : Laid) (l : ℕ) (v : ℤ) (a : Accepted c l v) where
    -- the figure of an accepted call, at the last place
    last_is : (k : ℕ) (d : Laid) (m : ℕ) (w : ℤ) → c ≡ d → Accepted d m w → w ≡ v
    last_is k d m w e b = (o.one c m l w v (subst (λ (x : Laid). Accepted x m w) (sym e) b) a).1

    -- the first that is accepted
    pub begins : NoneAccepted Accepted Worse Under h → FirstBest Accepted Worse Under (h ++ c ∷ []) l v
    begins none =
        record {
          place = length h;
          call = c;
          there = nth_last h c;
          accepted = a;
          best = λ k d m w at b. ⊎_elim (λ e. absurd (none k d m w e b)) (λ p. subst (λ z. Worse z v) (sym (last_is k d m w p.1 b)) (o.same v)) (nth_push h c k d at);
          first = λ k d m w low at b. ⊎_elim (λ e. absurd (none k d m w e b)) (λ p. absurd (let q = p.0 in omega arith)) (nth_push h c k d at);
        }

    -- one that is better than what stood
    pub leads : (l₀ : ℕ) (v₀ : ℤ) → Under v₀ v → FirstBest Accepted Worse Under h l₀ v₀ → FirstBest Accepted Worse Under (h ++ c ∷ []) l v
    leads l₀ v₀ better f =
        record {
          place = length h;
          call = c;
          there = nth_last h c;
          accepted = a;
          best = λ k d m w at b. ⊎_elim (λ e. o.soft w v (o.over w v₀ v (f.best k d m w e b) better)) (λ p. subst (λ z. Worse z v) (sym (last_is k d m w p.1 b)) (o.same v)) (nth_push h c k d at);
          first = λ k d m w low at b. ⊎_elim (λ e. o.over w v₀ v (f.best k d m w e b) better) (λ p. absurd (let q = p.0 in omega arith)) (nth_push h c k d at);
        }

    -- one that is no better
    pub follows : (l₀ : ℕ) (v₀ : ℤ) → Worse v v₀ → FirstBest Accepted Worse Under h l₀ v₀ → FirstBest Accepted Worse Under (h ++ c ∷ []) l₀ v₀
    follows l₀ v₀ worse f =
        record {
          place = f.place;
          call = f.call;
          there = nth_more h (c ∷ []) f.place f.call f.there;
          accepted = f.accepted;
          best = λ k d m w at b. ⊎_elim (λ e. f.best k d m w e b) (λ p. subst (λ z. Worse z v₀) (sym (last_is k d m w p.1 b)) worse) (nth_push h c k d at);
          first = λ k d m w low at b. ⊎_elim (λ e. f.first k d m w low e b) (λ p. absurd (let q = p.0 in let r = slice_get_within h f.place f.call f.there in omega arith)) (nth_push h c k d at);
        }

  -- along a longer history what stands gets no worse, and does not go
  pub later : (h more : List Laid) (l m : ℕ) (v w : ℤ) → FirstBest Accepted Worse Under h l v → FirstBest Accepted Worse Under (h ++ more) m w → Worse v w
  later h more l m v w f g = g.best f.place f.call l v (nth_more h more f.place f.call f.there) f.accepted

  pub stays : (h more : List Laid) (l : ℕ) (v : ℤ) → FirstBest Accepted Worse Under h l v → NoneAccepted Accepted Worse Under (h ++ more) → ⊥
  stays h more l v f none = none f.place f.call l v (nth_more h more f.place f.call f.there) f.accepted
