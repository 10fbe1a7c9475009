-- The arrays of unused bonds hold them in order. Assumes nothing.
use Prim.Native.Nat.{ℕ, zero, suc, ◌+◌, ◌<◌, ◌≤◌}
use native.Mathlib.Omega.{arith}
use mathlib.Core.Path.{◌≡◌, refl, sym, ap, ◌∙◌}
use mathlib.Core.Bool.{Bool, true, false, not}
use mathlib.Core.List.{List, [], ◌∷◌, map}
use lib.ListN.{length, get_or, set}
use lib.Dec.{eqb}
use borrow.Author.Tests.{eq-eqb}
use Rattle.loops.specs.Loop.{pick, run, up_to}
use Rattle.writing_walk.specs.Token.{Bond, bond}
use Rattle.writing_walk.specs.Emit.{pre}
use Rattle.writing_walk.specs.Walk.{forest_of, renumber, renumbered, unused, keep_if, keep}
use Rattle.writing_walk.specs.Check.{ends}
use Rattle.writing_walk.specs.Flat.{ups}
use Rattle.writing_walk.proofs.Count.{bit, count, All, none, more, all_map}
use Rattle.writing_walk.proofs.Trip.{inside-renumbered, inside-unused}
use Rattle.writing_walk.proofs.Twice.{Distinct}
use Rattle.writing_visit.specs.Visit.{lay, BondsFit}
use Rattle.writing_visit.proofs.Ways.{bonds-inside}
use Rattle.writing_visit.proofs.Roots.{laid-at}
use Rattle.writing_bridges.specs.Unused.{BondArrays, bond_arrays, tree_bond, add_bond, in_walk, Numbered, BondRoom}
use Rattle.writing_bridges.specs.Slots.{Bridged}
use Rattle.writing_bridges.proofs.Spare.{keep_same, unused-is, distinct-unused}

-- what a run over the bonds leaves
module _ (up : List ℕ) (R : ℕ → Bond) where
  abbrev spare : Bond → Bool
  spare b = not (tree_bond up b)

  laid : BondArrays → List Bond → BondArrays
  laid g W = bond_arrays (lay g.used (map (λ b. b.lo) W) g.los) (lay g.used (map (λ b. b.hi) W) g.his) (lay g.used (map (λ b. b.kind) W) g.kinds) (g.used + length W)

  laid_none : (g : BondArrays) → g ≡ laid g []
  unfolding laid lay
  laid_none g = let e : g.used ≡ g.used + 0 = omega arith in ap (bond_arrays g.los g.his g.kinds) e

  laid-step : (b : Bond) (g : BondArrays) (W : List Bond) → laid (add_bond up b g) W ≡ laid g (keep_if (spare b) b W)
  unfolding laid lay add_bond
  laid-step b g W = go (tree_bond up b)
    where
      go : (t : Bool) → laid (pick t g (bond_arrays (set g.los g.used b.lo) (set g.his g.used b.hi) (set g.kinds g.used b.kind) (suc g.used))) W ≡ laid g (keep_if (not t) b W)
      go true = refl
      go false =
          let e : suc g.used + length W ≡ g.used + suc (length W) = omega arith in
          ap (bond_arrays (lay (suc g.used) (map (λ b. b.lo) W) (set g.los g.used b.lo)) (lay (suc g.used) (map (λ b. b.hi) W) (set g.his g.used b.hi)) (lay (suc g.used) (map (λ b. b.kind) W) (set g.kinds g.used b.kind))) e

  bag-run : (b d : ℕ) (g : BondArrays) → run (λ i. add_bond up (R i)) b d g ≡ laid g (keep spare (up_to R b d))
  unfolding run up_to
  bag-run b zero g = laid_none g
  bag-run b (suc d) g = bag-run (suc b) d (add_bond up (R b) g) ∙ laid-step (R b) g (keep spare (up_to R (suc b) d))

-- a list by its places
module _ {A : Type 0} (e : A) where
  by_place : (l : List A) (f : ℕ → A) (k : ℕ) → ((i : ℕ) → i < length l → f (k + i) ≡ get_or l i e) → up_to f k (length l) ≡ l
  unfolding up_to
  by_place [] f k h = refl
  by_place (x ∷ l) f k h =
      let z : k + 0 ≡ k = omega arith in
      let one : f k ≡ x = rw z at (h 0 (omega arith)) in
      let two : up_to f (suc k) (length l) ≡ l = by_place l f (suc k) (λ i g. (let s : suc k + i ≡ k + suc i = omega arith in rw s (h (suc i) (omega arith)))) in
      λ i. one i ∷ two i

  pub places : (l : List A) → up_to (λ i. get_or l i e) 0 (length l) ≡ l
  places l = by_place l (λ i. get_or l i e) 0 (λ i g. (let z : 0 + i ≡ i = omega arith in rw z))

  all-place : (P : A → Type 0) (l : List A) → All P l → (i : ℕ) → i < length l → P (get_or l i e)
  all-place P [] none i h = absurd (omega arith)
  all-place P (x ∷ l) (more p a) zero h = p
  all-place P (x ∷ l) (more p a) (suc i) h = all-place P l a i (omega arith)

map-place : (g : Bond → ℕ) (l : List Bond) (i : ℕ) → i < length l → get_or (map g l) i 0 ≡ g (get_or l i (bond 0 0 0))
map-place g [] i h = absurd (omega arith)
map-place g (x ∷ l) zero h = refl
map-place g (x ∷ l) (suc i) h = map-place g l i (omega arith)

map-length : (g : Bond → ℕ) (l : List Bond) → length (map g l) ≡ length l
map-length g [] = refl
map-length g (x ∷ l) = ap suc (map-length g l)

keep-length : (p : Bond → Bool) (l : List Bond) → length (keep p l) ≤ length l
keep-length p [] = omega arith
keep-length p (b ∷ l) = go (p b) (keep-length p l)
  where
    go : (t : Bool) → length (keep p l) ≤ length l → length (keep_if t b (keep p l)) ≤ suc (length l)
    go true h = omega arith
    go false h = omega arith

up_to-long : {A : Type 0} (f : ℕ → A) (k m : ℕ) → length (up_to f k m) ≡ m
unfolding up_to
up_to-long f k zero = refl
up_to-long f k (suc m) = ap suc (up_to-long f (suc k) m)

up_to-map : (g : Bond → Bond) (f : ℕ → Bond) (k m : ℕ) → map g (up_to f k m) ≡ up_to (λ b. g (f b)) k m
unfolding up_to
up_to-map g f k zero = refl
up_to-map g f k (suc m) = ap (λ (l : List Bond). g (f k) ∷ l) (up_to-map g f (suc k) m)

-- no two places have the same ends
found : (x : Bond) (l : List Bond) (j : ℕ) → j < length l → x.lo ≡ (get_or l j (bond 0 0 0)).lo → x.hi ≡ (get_or l j (bond 0 0 0)).hi → 1 ≤ count (ends x.lo x.hi) l
found x [] j h p q = absurd (omega arith)
found x (y ∷ l) zero h p q = let z : bit (ends x.lo x.hi y) ≡ 1 = rw (eq-eqb y.lo x.lo (sym p), eq-eqb y.hi x.hi (sym q)) in omega arith
found x (y ∷ l) (suc j) h p q = omega (arith, found x l j (omega arith) p q)

twice : (x : Bond) (l : List Bond) → Distinct (x ∷ l) → (j : ℕ) → j < length l → x.lo ≡ (get_or l j (bond 0 0 0)).lo → x.hi ≡ (get_or l j (bond 0 0 0)).hi → ⊥
twice x l d j h p q =
    let z : bit (ends x.lo x.hi x) ≡ 1 = rw (eq-eqb x.lo x.lo refl, eq-eqb x.hi x.hi refl) in
    let w = found x l j h p q in
    let y = d x.lo x.hi in
    omega arith

same_place : (l : List Bond) → Distinct l → (i j : ℕ) → i < length l → j < length l
    → (get_or l i (bond 0 0 0)).lo ≡ (get_or l j (bond 0 0 0)).lo → (get_or l i (bond 0 0 0)).hi ≡ (get_or l j (bond 0 0 0)).hi → i ≡ j
same_place [] d i j h g p q = absurd (omega arith)
same_place (x ∷ l) d zero zero h g p q = refl
same_place (x ∷ l) d zero (suc j) h g p q = absurd (twice x l d j (omega arith) p q)
same_place (x ∷ l) d (suc i) zero h g p q = absurd (twice x l d i (omega arith) (sym p) (sym q))
same_place (x ∷ l) d (suc i) (suc j) h g p q = ap suc (same_place l (λ a c. (let z = d a c in omega arith)) i j (omega arith) (omega arith) p q)

field_at : (g : Bond → ℕ) (U : List Bond) (t t2 : List ℕ) (k : ℕ) → k ≡ length U → t2 ≡ lay 0 (map g U) t → k ≤ length t → (j : ℕ) → j < k → g (get_or U j (bond 0 0 0)) ≡ get_or t2 j 0
field_at g U t t2 k e w r j y =
    let ml = map-length g U in
    sym (ap (λ (x : List ℕ). get_or x j 0) w ∙ laid-at (map g U) t j (omega arith) (omega arith) ∙ map-place g U j (omega arith))

-- the arrays, place by place
pub record Listed (bs : List Bond) (n : ℕ) (los his kinds : List ℕ) (k : ℕ) : Type 0 where
  pub bond-at : ℕ → Bond
  pub few : k ≤ length bs
  pub bridged : Bridged bond-at n k los his
  pub kind_at : (i : ℕ) → i < k → (bond-at i).kind ≡ get_or kinds i 0
  pub all : up_to bond-at 0 k ≡ unused n bs

module _ {bonds : ℕ → Bond} {n m : ℕ} {v u : List ℕ} (fit : BondsFit bonds n m) (distinct : Distinct (up_to bonds 0 m)) (num : Numbered (up_to bonds 0 m) n v u) where
  abbrev bs : List Bond
  bs = up_to bonds 0 m

  spare-list : keep (spare u (in_walk bonds n m)) (up_to (in_walk bonds n m) 0 m) ≡ unused n bs
  unfolding in_walk renumbered
  spare-list =
      let i = bonds-inside fit in
      let e : map (renumber (pre (forest_of n bs))) bs ≡ up_to (λ b. renumber (pre (forest_of n bs)) (bonds b)) 0 m = up_to-map (renumber (pre (forest_of n bs))) bonds 0 m in
      sym (unused-is n bs i distinct
      ∙ keep_same (λ b. not (eqb (get_or (ups (forest_of n bs) 0 0) b.hi 0) (suc b.lo))) (λ b. not (tree_bond u b)) (renumbered n bs)
      (all_map (λ b. (b.lo < b.hi) × (b.hi < n)) (λ b. not (eqb (get_or (ups (forest_of n bs) 0 0) b.hi 0) (suc b.lo)) ≡ not (tree_bond u b)) (λ b h. ap (λ (x : ℕ). not (eqb x (suc b.lo))) (sym (num.up b.hi h.1))) (renumbered n bs) (inside-renumbered n bs i))
      ∙ ap (keep (λ b. not (tree_bond u b))) e)

  -- THE STATEMENT
  pub listed : (l h q l2 h2 q2 : List ℕ) (k : ℕ) → BondRoom m l h q → bond_arrays l2 h2 q2 k ≡ run (λ b. add_bond u (in_walk bonds n m b)) 0 m (bond_arrays l h q 0) → Listed (up_to bonds 0 m) n l2 h2 q2 k
  unfolding laid
  listed l h q l2 h2 q2 k room e =
      let U = unused n bs in
      let E = e ∙ bag-run u (in_walk bonds n m) 0 m (bond_arrays l h q 0) ∙ ap (laid u (in_walk bonds n m) (bond_arrays l h q 0)) spare-list in
      let i = bonds-inside fit in
      let z : 0 + length U ≡ length U = omega arith in
      let len : k ≡ length U = ap (λ (g : BondArrays). g.used) E ∙ z in
      let short : length U ≤ m = (let a = keep-length (spare u (in_walk bonds n m)) (up_to (in_walk bonds n m) 0 m) in let b = up_to-long (in_walk bonds n m) 0 m in let c = ap length spare-list in omega arith) in
      let f = fit.bonds_few in
      let r1 = room.los in
      let r2 = room.his in
      let r3 = room.kinds in
      record {
        bond-at = λ j. get_or U j (bond 0 0 0);
        few = omega (arith, up_to-long bonds 0 m);
        bridged = record {
          lo = field_at (λ b. b.lo) U l l2 k len (ap (λ (g : BondArrays). g.los) E) (omega arith);
          hi = field_at (λ b. b.hi) U h h2 k len (ap (λ (g : BondArrays). g.his) E) (omega arith);
          ordered = λ j y. (all-place (bond 0 0 0) (λ b. (b.lo < b.hi) × (b.hi < n)) U (inside-unused n bs i) j (omega arith)).0;
          inside = λ j y. (all-place (bond 0 0 0) (λ b. (b.lo < b.hi) × (b.hi < n)) U (inside-unused n bs i) j (omega arith)).1;
          apart = λ a c y w. same_place U (distinct-unused n bs i distinct) a c (omega arith) (omega arith);
        };
        kind_at = field_at (λ b. b.kind) U q q2 k len (ap (λ (g : BondArrays). g.kinds) E) (omega arith);
        all = ap (up_to (λ j. get_or U j (bond 0 0 0)) 0) len ∙ places (bond 0 0 0) U;
      }
