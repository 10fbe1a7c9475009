-- When writing says 14 or 15: exactly when the walk needs too many bridges, or its branches nest too deep. Assumes nothing.
use mathlib.Core.Path.{◌≡◌, refl, sym, ap, ◌∙◌, subst}
use mathlib.Core.Bool.{Bool, true, false, ◌&&◌}
use mathlib.Core.List.{List, [], ◌∷◌, ◌++◌}
use Prim.Native.Nat.{ℕ, zero, suc, ◌-◌, ◌<◌, ◌≤◌}
use native.Mathlib.Omega.{arith}
use lib.Dec.{eqb, leb, ltb}
use lib.IntN.{ℤ}
use mathlib.Core.Logic.{◌⊎◌, inl, inr, ⊎_elim}
use borrow.Author.Tests.{eqb-true, eqb-false, ltb-true, lt-ltb, lt-leb, ltb-false}
use Rattle.loops.proofs.Loops.{and_left, and_right}
use Rattle.table.specs.Sound.{sound}
use Rattle.table.proofs.Sound.{sound-valid}
use Rattle.ids.specs.Limits.{max_depth, bridges}
use Rattle.writing_walk.specs.Token.{Tok, apart, along, ring, branch, back}
use Rattle.writing_walk.specs.Emit.{size}
use Rattle.writing_walk.specs.Walk.{forest_of, relabel, unused}
use Rattle.writing_walk.specs.Depth.{nests}
use Rattle.writing_walk.specs.Same.{All, none, more}
use Rattle.writing_walk.proofs.Count.{all_map, nobody}
use Rattle.writing_walk.proofs.Walk.{Inside}
use Rattle.writing_walk.proofs.Trip.{size-length, size-relabel, renumbering, inside-unused}
use Rattle.writing_walk.proofs.Bridges.{Low, low-places, places-low}
use Rattle.writing.specs.Write.{bond_list, tokens, few_bridges, shallow}
use Rattle.writing.specs.Conditions.{most_bridges, open_at, depth_after, ManyBridges, Deep}
use Rattle.writing.proofs.Bonds.{inside}

few-low : (ts : List Tok) → few_bridges ts ≡ true → All (Low most_bridges) ts
unfolding few_bridges
few-low [] h = none
few-low (apart w ∷ ts) h = more {b = apart w} tt (few-low ts h)
few-low (along k w ∷ ts) h = more {b = along k w} tt (few-low ts h)
few-low (ring k r ∷ ts) h = more {b = ring k r} (let l = ltb-true (suc r) bridges (and_left (ltb (suc r) bridges) (few_bridges ts) h) in omega arith) (few-low ts (and_right (ltb (suc r) bridges) (few_bridges ts) h))
few-low (branch ∷ ts) h = more {b = branch} tt (few-low ts h)
few-low (back ∷ ts) h = more {b = back} tt (few-low ts h)

low-few : (ts : List Tok) → All (Low most_bridges) ts → few_bridges ts ≡ true
unfolding few_bridges
low-few [] none = refl
low-few (apart w ∷ ts) (more h a) = low-few ts a
low-few (along k w ∷ ts) (more h a) = low-few ts a
low-few (ring k r ∷ ts) (more h a) = rw (lt-ltb (suc r) bridges (omega arith)) (low-few ts a)
low-few (branch ∷ ts) (more h a) = low-few ts a
low-few (back ∷ ts) (more h a) = low-few ts a

-- all numbers below a bound are small, or one is not
over : (f : ℕ → ℕ) (c k : ℕ) → ((x : ℕ) → x < k → f x ≤ c) ⊎ ((x : ℕ) × (c < f x))
over f c zero = inl (λ x l. absurd (omega arith))
over f c (suc k) = go (ltb c (f k)) refl (over f c k)
  where
    go : (y : Bool) → ltb c (f k) ≡ y → ((x : ℕ) → x < k → f x ≤ c) ⊎ ((x : ℕ) × (c < f x)) → ((x : ℕ) → x < suc k → f x ≤ c) ⊎ ((x : ℕ) × (c < f x))
    go true e r = inr (k, ltb-true c (f k) e)
    go false e (inr s) = inr s
    go false e (inl h) = inl (λ x l. last x l (eqb x k) refl)
      where
        last : (x : ℕ) → x < suc k → (y : Bool) → eqb x k ≡ y → f x ≤ c
        last x l true y = subst (λ (i : ℕ). f i ≤ c) (sym (eqb-true x k y)) (ltb-false c (f k) e)
        last x l false y = let z = eqb-false x k y in h x (omega arith)

module _ (atoms bonds : List ℤ) (n m : ℕ) (h : sound atoms bonds n m ≡ true) where
  i : Inside n (bond_list bonds m)
  i = inside (sound-valid atoms bonds n m h)

  -- past the last atom none is open
  open-past : (x : ℕ) → n < x → open_at bonds n m x ≡ 0
  open-past x l = nobody (λ b. ltb b.lo x) (λ b. leb x b.hi) (unused n (bond_list bonds m))
      (all_map (λ b. (b.lo < b.hi) × (b.hi < n)) (λ b. (ltb b.lo x && leb x b.hi) ≡ false) (λ b g. rw (lt-leb x b.hi (omega arith)) (and-false (ltb b.lo x))) (unused n (bond_list bonds m)) (inside-unused n (bond_list bonds m) i))
    where
      and-false : (a : Bool) → (a && false) ≡ false
      and-false true = refl
      and-false false = refl

  -- 14: "the walk needs over 99 bridges open at once"
  few-bridges-open : few_bridges (tokens bonds n m) ≡ true → (x : ℕ) → open_at bonds n m x ≤ most_bridges
  unfolding tokens
  few-bridges-open g x = go (ltb n x) refl
    where
      sized : size (relabel (λ a. a) (forest_of n (bond_list bonds m))) ≡ n
      sized = size-relabel (λ a. a) (forest_of n (bond_list bonds m)) ∙ sym (size-length (forest_of n (bond_list bonds m))) ∙ (renumbering n (bond_list bonds m) i).long

      go : (y : Bool) → ltb n x ≡ y → open_at bonds n m x ≤ most_bridges
      go true e = let z = open-past x (ltb-true n x e) in omega arith
      go false e = places-low most_bridges n (λ a. a) (bond_list bonds m) i (few-low (tokens bonds n m) g) x (let l = ltb-false n x e in let s = sized in omega arith)

  open-few-bridges : ((x : ℕ) → open_at bonds n m x ≤ most_bridges) → few_bridges (tokens bonds n m) ≡ true
  unfolding tokens
  open-few-bridges g = low-few (tokens bonds n m) (low-places most_bridges n (λ a. a) (bond_list bonds m) i g)

  -- told as a point of the walk: 14 exactly if at some atom over 99 bridges are open
  pub many-bridges-open : few_bridges (tokens bonds n m) ≡ false → ManyBridges bonds n m
  many-bridges-open g = ⊎_elim
      (λ all. absurd (let e = open-few-bridges (λ x. below x (all x)) in let z : ◌≡◌ {A = ℕ} 0 1 = cc in omega arith))
      (λ some. record { atom = some.0; over = some.1 }) (over (open_at bonds n m) most_bridges (suc n))
    where
      below : (x : ℕ) → (x < suc n → open_at bonds n m x ≤ most_bridges) → open_at bonds n m x ≤ most_bridges
      below x k = go (ltb n x) refl
        where
          go : (y : Bool) → ltb n x ≡ y → open_at bonds n m x ≤ most_bridges
          go true e = let z = open-past x (ltb-true n x e) in omega arith
          go false e = k (let l = ltb-false n x e in omega arith)

  pub open-many-bridges : ManyBridges bonds n m → few_bridges (tokens bonds n m) ≡ false
  open-many-bridges w = go (few_bridges (tokens bonds n m)) refl
    where
      go : (y : Bool) → few_bridges (tokens bonds n m) ≡ y → y ≡ false
      go true e = absurd (omega (arith, few-bridges-open e w.atom, w.over))
      go false e = refl

-- ---- 15
-- no branch opens inside max_depth others
abbrev NoDeeper : List Tok → ℕ → Type 0
NoDeeper ts d = (a b : List Tok) → ts ≡ a ++ (branch ∷ b) → depth_after a d < max_depth

tail-same : (t u : Tok) (ts us : List Tok) → t ∷ ts ≡ u ∷ us → ts ≡ us
tail-same t u ts us e = cc

nests-deep : (ts : List Tok) (d : ℕ) → nests max_depth ts d ≡ true → NoDeeper ts d
nests-deep [] d h [] b e = absurd (let z : ◌≡◌ {A = ℕ} 0 1 = cc in omega arith)
nests-deep [] d h (t ∷ a) b e = absurd (let z : ◌≡◌ {A = ℕ} 0 1 = cc in omega arith)
nests-deep (apart w ∷ ts) d h [] b e = absurd (let z : ◌≡◌ {A = ℕ} 0 1 = cc in omega arith)
nests-deep (along k w ∷ ts) d h [] b e = absurd (let z : ◌≡◌ {A = ℕ} 0 1 = cc in omega arith)
nests-deep (ring k r ∷ ts) d h [] b e = absurd (let z : ◌≡◌ {A = ℕ} 0 1 = cc in omega arith)
nests-deep (back ∷ ts) d h [] b e = absurd (let z : ◌≡◌ {A = ℕ} 0 1 = cc in omega arith)
nests-deep (branch ∷ ts) d h [] b e = ltb-true d max_depth (and_left (ltb d max_depth) (nests max_depth ts (suc d)) h)
nests-deep (apart w ∷ ts) d h (t ∷ a) b e = subst (λ (t : Tok). depth_after (t ∷ a) d < max_depth) (let q : apart w ≡ t = cc in q) (nests-deep ts d h a b (tail-same (apart w) t ts (a ++ (branch ∷ b)) e))
nests-deep (along k w ∷ ts) d h (t ∷ a) b e = subst (λ (t : Tok). depth_after (t ∷ a) d < max_depth) (let q : along k w ≡ t = cc in q) (nests-deep ts d h a b (tail-same (along k w) t ts (a ++ (branch ∷ b)) e))
nests-deep (ring k r ∷ ts) d h (t ∷ a) b e = subst (λ (t : Tok). depth_after (t ∷ a) d < max_depth) (let q : ring k r ≡ t = cc in q) (nests-deep ts d h a b (tail-same (ring k r) t ts (a ++ (branch ∷ b)) e))
nests-deep (branch ∷ ts) d h (t ∷ a) b e = subst (λ (t : Tok). depth_after (t ∷ a) d < max_depth) (let q : branch ≡ t = cc in q) (nests-deep ts (suc d) (and_right (ltb d max_depth) (nests max_depth ts (suc d)) h) a b (tail-same branch t ts (a ++ (branch ∷ b)) e))
nests-deep (back ∷ ts) zero h (t ∷ a) b e = subst (λ (t : Tok). depth_after (t ∷ a) 0 < max_depth) (let q : back ≡ t = cc in q) (nests-deep ts 0 h a b (tail-same back t ts (a ++ (branch ∷ b)) e))
nests-deep (back ∷ ts) (suc d) h (t ∷ a) b e =
    let s : suc d - 1 ≡ d = omega arith in
    subst (λ (t : Tok). depth_after (t ∷ a) (suc d) < max_depth) (let q : back ≡ t = cc in q) (rw s (nests-deep ts d h a b (tail-same back t ts (a ++ (branch ∷ b)) e)))

-- 15: "the written branches nest over 64 deep": told as a point of the text
later : (t : Tok) {ts : List Tok} {d e : ℕ} → ((a : List Tok) → depth_after (t ∷ a) d ≡ depth_after a e) → Deep ts e → Deep (t ∷ ts) d
later t h g = record { before = t ∷ g.before; after = g.after; cut = ap (λ (l : List Tok). t ∷ l) g.cut; deep = let q = h g.before in let k = g.deep in omega arith }

deep-at : (ts : List Tok) (d : ℕ) → nests max_depth ts d ≡ false → Deep ts d
deep-at [] d h = absurd (let z : ◌≡◌ {A = ℕ} 0 1 = cc in omega arith)
deep-at (apart w ∷ ts) d h = later (apart w) (λ a. refl) (deep-at ts d h)
deep-at (along k w ∷ ts) d h = later (along k w) (λ a. refl) (deep-at ts d h)
deep-at (ring k r ∷ ts) d h = later (ring k r) (λ a. refl) (deep-at ts d h)
deep-at (branch ∷ ts) d h = go (ltb d max_depth) refl h (deep-at ts (suc d))
  where
    go : (x : Bool) → ltb d max_depth ≡ x → (x && nests max_depth ts (suc d)) ≡ false → (nests max_depth ts (suc d) ≡ false → Deep ts (suc d)) → Deep (branch ∷ ts) d
    go true e h f = later branch (λ a. refl) (f h)
    go false e h f = record { before = []; after = ts; cut = refl; deep = ltb-false d max_depth e }
deep-at (back ∷ ts) zero h = later back (λ a. refl) (deep-at ts 0 h)
deep-at (back ∷ ts) (suc d) h = later back (λ a. let s : suc d - 1 ≡ d = omega arith in ap (depth_after a) s) (deep-at ts d h)

pub deep_branch : (ts : List Tok) → shallow ts ≡ false → Deep ts 0
deep_branch ts h = deep-at ts 0 h

pub branch-deep : (ts : List Tok) → Deep ts 0 → shallow ts ≡ false
branch-deep ts w = go (shallow ts) refl
  where
    go : (y : Bool) → shallow ts ≡ y → y ≡ false
    go true e = absurd (omega (arith, nests-deep ts 0 e w.before w.after w.cut, w.deep))
    go false e = refl
