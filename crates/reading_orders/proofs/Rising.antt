-- Lists whose items have ascending ranks, put one behind the other, and the same items in another order. Assumes nothing.
use Prim.Native.Nat.{ℕ, suc, ◌≤◌, ◌<◌}
use native.Mathlib.Omega.{arith}
use mathlib.Core.Path.{◌≡◌, refl, ap}
use mathlib.Core.Bool.{true}
use mathlib.Core.List.{List, [], ◌∷◌, ◌++◌, map}
use lib.Dec.{ltb}
use borrow.Author.Tests.{lt-ltb, ltb-true, ne_eqb}
use Rattle.loops.proofs.Loops.{and_left, and_right}
use Rattle.parity.specs.Parity.{absent, unlike, below, ascending, Perm, nil, cons, swap, trans}
use Rattle.parity.proofs.Items.{perm_same}

-- ---- ascending ranks
module _ (f : ℕ → ℕ) where
  -- each rank is above the ones before it, the first at least this
  abbrev pub Climbs : ℕ → List ℕ → Type 0
  Climbs low [] = Unit {0}
  Climbs low (x ∷ l) = (low ≤ f x) × Climbs (suc (f x)) l

  -- each rank is below this
  abbrev pub Under : ℕ → List ℕ → Type 0
  Under high [] = Unit {0}
  Under high (x ∷ l) = (f x < high) × Under high l

  -- each rank is at least this
  abbrev pub AtLeast : ℕ → List ℕ → Type 0
  AtLeast low [] = Unit {0}
  AtLeast low (x ∷ l) = (low ≤ f x) × AtLeast low l

  pub climbs-lower : {low mid : ℕ} (l : List ℕ) → low ≤ mid → Climbs mid l → Climbs low l
  climbs-lower [] h c = tt
  climbs-lower (x ∷ l) h c = (omega (arith, c.0), c.1)

  -- one list behind the other
  pub climbs-on : (low mid : ℕ) (l r : List ℕ) → low ≤ mid → Climbs low l → Under mid l → Climbs mid r → Climbs low (l ++ r)
  climbs-on low mid [] r h c u d = climbs-lower r h d
  climbs-on low mid (x ∷ l) r h c u d = (c.0, climbs-on (suc (f x)) mid l r (omega (arith, u.0)) c.1 u.1 d)

  climbs-below : {low : ℕ} (x : ℕ) (l : List ℕ) → x < low → Climbs low l → below x (map f l) ≡ true
  unfolding below
  climbs-below x [] h c = refl
  climbs-below {low = low} x (y ∷ l) h c = rw (lt-ltb x (f y) (omega (arith, c.0))) (climbs-below {low = suc (f y)} x l (omega (arith, c.0)) c.1)

  pub climbs-ascending : (low : ℕ) (l : List ℕ) → Climbs low l → ascending (map f l) ≡ true
  unfolding ascending
  climbs-ascending low [] c = refl
  climbs-ascending low (x ∷ l) c = rw (climbs-below (f x) l (omega arith) c.1) (climbs-ascending (suc (f x)) l c.1)

-- what ascends has no number twice
below-absent : (x : ℕ) (l : List ℕ) → below x l ≡ true → absent x l ≡ true
unfolding below absent
below-absent x [] h = refl
below-absent x (y ∷ l) h =
    let g = ltb-true x y (and_left (ltb x y) (below x l) h) in
    rw (ne_eqb x y (λ e. omega arith)) (below-absent x l (and_right (ltb x y) (below x l) h))

pub ascending-unlike : (l : List ℕ) → ascending l ≡ true → unlike l ≡ true
unfolding ascending unlike
ascending-unlike [] h = refl
ascending-unlike (x ∷ l) h = rw (below-absent x l (and_left (below x l) (ascending l) h)) (ascending-unlike l (and_right (below x l) (ascending l) h))

-- ---- the same items in another order
pub perm-both : {l m p q : List ℕ} → Perm l m → Perm p q → Perm (l ++ p) (m ++ q)
perm-both nil w = w
perm-both (cons v) w = cons (perm-both v w)
perm-both (swap v) w = swap (perm-both v w)
perm-both {q = q} (trans v u) w = trans (perm-both v w) (perm-both u (perm_same q))

-- an item moved behind a list, a list behind a list
pub perm-past : (x : ℕ) (l r : List ℕ) → Perm (x ∷ (l ++ r)) (l ++ (x ∷ r))
perm-past x [] r = perm_same (x ∷ r)
perm-past x (y ∷ l) r = trans (swap (perm_same (l ++ r))) (cons (perm-past x l r))

pub perm-around : (l m r : List ℕ) → Perm (l ++ (m ++ r)) (m ++ (l ++ r))
perm-around [] m r = perm_same (m ++ r)
perm-around (x ∷ l) m r = trans (cons (perm-around l m r)) (perm-past x m (l ++ r))

pub map_both : (f : ℕ → ℕ) (l r : List ℕ) → map f (l ++ r) ≡ map f l ++ map f r
map_both f [] r = refl
map_both f (x ∷ l) r = ap (λ (p : List ℕ). f x ∷ p) (map_both f l r)
