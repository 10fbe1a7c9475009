-- The bonds at an atom from a number on, and the forest that the walk adds along them. Assumes nothing.
use Prim.Native.Nat.{ℕ, zero, suc, ◌+◌, ◌-◌, ◌<◌, ◌≤◌}
use native.Mathlib.Omega.{arith}
use mathlib.Core.Path.{◌≡◌, refl, sym, ap, ◌∙◌, subst}
use mathlib.Core.Bool.{Bool, true, false, ◌||◌, cond}
use mathlib.Core.List.{List, [], ◌∷◌, ◌++◌}
use lib.Dec.{eqb}
use Rattle.kinds.specs.Kind.{turned}
use Rattle.loops.specs.Loop.{pick, up_to}
use Rattle.writing_walk.specs.Token.{Bond}
use Rattle.writing_walk.specs.Emit.{Forest, leaf, node, pre}
use Rattle.writing_walk.specs.Walk.{Neighbour, neighbour, member, neighbours, visit_in_turn, walk}
use Rattle.writing_walk.proofs.Count.{All, none, more}
use Rattle.writing_walk.proofs.Walk.{Inside, same-fuel}
use Rattle.writing_visit.specs.Visit.{touching, first_from, other_end, kind_from, neighbours_from, grow, BondsFit}

module _ (bonds : ℕ → Bond) (v : ℕ) where
  apart : (k : ℕ) (l : List Bond) → touching bonds v k ≡ false → neighbours v (bonds k ∷ l) ≡ neighbours v l
  unfolding touching
  apart k l e = go (eqb (bonds k).lo v) (eqb (bonds k).hi v) e
    where
      go : (a b : Bool) → (a || b) ≡ false
          → cond a (neighbour (bonds k).hi (bonds k).kind ∷ neighbours v l) (cond b (neighbour (bonds k).lo (turned (bonds k).kind) ∷ neighbours v l) (neighbours v l)) ≡ neighbours v l
      go true b e = absurd (let z : ◌≡◌ {A = ℕ} 0 1 = cc in omega arith)
      go false true e = absurd (let z : ◌≡◌ {A = ℕ} 0 1 = cc in omega arith)
      go false false e = refl

  together : (k : ℕ) (l : List Bond) → touching bonds v k ≡ true → neighbours v (bonds k ∷ l) ≡ neighbour (other_end bonds k v) (kind_from bonds k v) ∷ neighbours v l
  unfolding touching
  together k l e = go (eqb (bonds k).lo v) (eqb (bonds k).hi v) e
    where
      go : (a b : Bool) → (a || b) ≡ true
          → cond a (neighbour (bonds k).hi (bonds k).kind ∷ neighbours v l) (cond b (neighbour (bonds k).lo (turned (bonds k).kind) ∷ neighbours v l) (neighbours v l)) ≡ neighbour (pick a (bonds k).hi (bonds k).lo) (pick a (bonds k).kind (turned (bonds k).kind)) ∷ neighbours v l
      go true b e = refl
      go false true e = refl
      go false false e = absurd (let z : ◌≡◌ {A = ℕ} 0 1 = cc in omega arith)

  -- what the search found
  pub record Next (m from r : ℕ) : Type 0 where
    pub low : from ≤ r
    pub high : r ≤ m
    pub here : r < m → touching bonds v r ≡ true
    pub same : neighbours_from bonds m v from ≡ neighbours_from bonds m v r

  next-from : (m d k : ℕ) → k + d ≡ m → Next m k (first_from (touching bonds v) k d)
  unfolding first_from up_to
  next-from m zero k h = record { low = omega arith; high = omega arith; here = λ g. absurd (omega arith); same = refl }
  next-from m (suc d) k h = go (touching bonds v k) refl (next-from m d (suc k) (omega arith))
    where
      go : (t : Bool) → touching bonds v k ≡ t → Next m (suc k) (first_from (touching bonds v) (suc k) d) → Next m k (pick t k (first_from (touching bonds v) (suc k) d))
      go true e r = record { low = omega arith; high = omega arith; here = λ g. e; same = refl }
      go false e r =
          let l = r.low in
          let x : m - k ≡ suc (m - suc k) = omega arith in
          record { low = omega arith; high = r.high; here = r.here; same = simp x (apart k (up_to bonds (suc k) (m - suc k)) e) ∙ r.same }

  pub next-is : (m from r : ℕ) → from ≤ m → r ≡ first_from (touching bonds v) from (m - from) → Next m from r
  next-is m from r h e = subst (Next m from) (sym e) (next-from m (m - from) from (omega arith))

  pub ways-here : (m r : ℕ) → r < m → touching bonds v r ≡ true → neighbours_from bonds m v r ≡ neighbour (other_end bonds r v) (kind_from bonds r v) ∷ neighbours_from bonds m v (suc r)
  unfolding up_to
  ways-here m r h e = let x : m - r ≡ suc (m - suc r) = omega arith in simp x (together r (up_to bonds (suc r) (m - suc r)) e)

  pub ways-end : (m r : ℕ) → m ≤ r → neighbours_from bonds m v r ≡ []
  unfolding up_to
  ways-end m r h = let x : m - r ≡ 0 = omega arith in simp x

-- the bonds join atoms below n
all-up_to : {A : Type 0} (P : A → Type 0) (f : ℕ → A) (k d : ℕ) → ((b : ℕ) → k ≤ b → b < k + d → P (f b)) → All P (up_to f k d)
unfolding up_to
all-up_to P f k zero h = none
all-up_to P f k (suc d) h = more (h k (omega arith) (omega arith)) (all-up_to P f (suc k) d (λ b g i. h b (omega arith) (omega arith)))

module _ {bonds : ℕ → Bond} {n m : ℕ} (fit : BondsFit bonds n m) where
  pub bonds-inside : Inside n (up_to bonds 0 m)
  bonds-inside = all-up_to (λ b. (b.lo < b.hi) × (b.hi < n)) bonds 0 m (λ b g h. fit.ends b (omega arith))

  pub other-below : (v b : ℕ) → b < m → other_end bonds b v < n
  other-below v b h = go (eqb (bonds b).lo v)
    where
      go : (t : Bool) → pick t (bonds b).hi (bonds b).lo < n
      go true = (fit.ends b h).1
      go false = let q = fit.ends b h in omega arith

  -- the forest at an atom from a bond number on is that from the next bond at it
  pub grow-same : (v from r : ℕ) → Next bonds v m from r → (s : List ℕ) → grow bonds n m v from s ≡ grow bonds n m v r s
  unfolding grow
  grow-same v from r x s = ap (λ cs. visit_in_turn (walk (up_to bonds 0 m) n) cs s) x.same

  pub grow-end : (v b : ℕ) → m ≤ b → (s : List ℕ) → grow bonds n m v b s ≡ leaf
  unfolding grow
  grow-end v b h s = ap (λ cs. visit_in_turn (walk (up_to bonds 0 m) n) cs s) (ways-end bonds v m b h)

  -- the forest at an atom from one of its bonds on, and from the next one
  module _ (v b r : ℕ) (h : b < m) (here : touching bonds v b ≡ true) (x : Next bonds v m (suc b) r) (s : List ℕ) where
    abbrev w : ℕ
    w = other_end bonds b v

    around : neighbours_from bonds m v b ≡ neighbour w (kind_from bonds b v) ∷ neighbours_from bonds m v r
    around = ways-here bonds v m b h here ∙ ap (λ (cs : List Neighbour). neighbour w (kind_from bonds b v) ∷ cs) x.same

    pub grow-skip : member w s ≡ true → grow bonds n m v b s ≡ grow bonds n m v r s
    unfolding grow
    grow-skip e = ap (λ cs. visit_in_turn (walk (up_to bonds 0 m) n) cs s) around ∙ rw e

    pub grow-visit : member w s ≡ false → (f : Forest) → f ≡ grow bonds n m w 0 (s ++ (w ∷ []))
        → grow bonds n m v b s ≡ node w (kind_from bonds b v) f (grow bonds n m v r ((s ++ (w ∷ [])) ++ pre f))
    unfolding grow
    grow-visit e f q =
        let z : m - 0 ≡ m = omega arith in
        let g : walk (up_to bonds 0 m) n w (s ++ (w ∷ [])) ≡ f = same-fuel n (up_to bonds 0 m) bonds-inside w (s ++ (w ∷ [])) ∙ sym (q ∙ simp z) in
        ap (λ cs. visit_in_turn (walk (up_to bonds 0 m) n) cs s) around ∙ rw (e, g)
