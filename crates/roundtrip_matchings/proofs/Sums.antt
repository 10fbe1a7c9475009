-- The bond sums of the tables are sums over the walk's bonds, so a renumbering keeps them, and with them which atoms are delocalized. Assumes nothing.
use mathlib.Core.Path.{◌≡◌, refl, sym, ap, ◌∙◌}
use mathlib.Core.Bool.{Bool, true, false, ◌||◌, cond}
use mathlib.Core.List.{List, ◌∷◌, map}
use Prim.Native.Nat.{ℕ, zero, suc, ◌+◌, ◌<◌}
use native.Mathlib.Omega.{arith}
use native.Mathlib.Nat.{zero-add, add-zero}
use lib.Dec.{eqb}
use lib.IntN.{ℤ}
use Rattle.kinds.proofs.Kind.{order-turned}
use Rattle.loops.specs.Loop.{pick, run, up_to}
use Rattle.loops.proofs.Loops.{length-up_to, up_to-at}
use Rattle.table.specs.Limits.{CHARGE}
use Rattle.table.specs.Cells.{atom_cell, element, selected, hydrogens, end1, end2, kind}
use Rattle.kinds.specs.Kind.{order}
use Rattle.valence.specs.Valence.{delocalized}
use Rattle.table.specs.Cells.{touches}
use Rattle.table.specs.Sound.{count_bond, bond_degree}
use Rattle.table_graph.specs.Graph.{share, add_share, bond_sum, flag, delocalized_flag, delocalized_flags, graph_of}
use Rattle.writing_walk.specs.Walk.{place, renumber}
use Rattle.writing_walk.proofs.Walk.{Inside}
use Rattle.writing_walk.proofs.Trip.{Renumbering, place-lt}
use Rattle.writing_walk.proofs.Perm.{Perm}
use Rattle.writing_walk.proofs.Sums.{total, total-perm, weight_at, sum-place}
use Rattle.writing.specs.Write.{walk_bond, bond_list}
use Rattle.roundtrip_matchings.proofs.Renamed.{edge, Followed}

-- the bonds as matchings see them are the walk's bonds
up_to-map : {A B : Type 0} (g : A → B) (f : ℕ → A) (k m : ℕ) → up_to (λ j. g (f j)) k m ≡ map g (up_to f k m)
unfolding up_to
up_to-map g f k zero = refl
up_to-map {B = B} g f k (suc m) = ap {B = List B} (λ l. g (f k) ∷ l) (up_to-map g f (suc k) m)

pub graph-edges : (bonds : List ℤ) (m : ℕ) → graph_of bonds m ≡ map edge (bond_list bonds m)
graph-edges bonds m = up_to-map edge (walk_bond bonds) 0 m

-- what a bond adds
share-weight : (bonds : List ℤ) (a b : ℕ) → share bonds a b ≡ weight_at order a (walk_bond bonds b)
unfolding share touches
share-weight bonds a b = go (eqb (end1 bonds b) a || eqb (end2 bonds b) a)
  where
    go : (x : Bool) → pick x (order (kind bonds b)) 0 ≡ cond x (order (kind bonds b)) 0
    go true = refl
    go false = refl

sum-from : (bonds : List ℤ) (a k m s : ℕ) → run (add_share bonds a) k m s ≡ s + total (weight_at order a) (up_to (walk_bond bonds) k m)
unfolding run up_to
sum-from bonds a k zero s = sym (add-zero s)
sum-from bonds a k (suc m) s = omega (arith, sum-from bonds a (suc k) m (s + share bonds a k), share-weight bonds a k)

pub sum-total : (bonds : List ℤ) (m a : ℕ) → bond_sum bonds m a ≡ total (weight_at order a) (bond_list bonds m)
unfolding bond_sum
sum-total bonds m a = sum-from bonds a 0 m 0 ∙ zero-add (total (weight_at order a) (bond_list bonds m))

-- the number of an atom's bonds, in the same way
count-weight : (bonds : List ℤ) (a b : ℕ) → pick (touches bonds a b) 1 0 ≡ weight_at (λ k. 1) a (walk_bond bonds b)
unfolding touches
count-weight bonds a b = go (eqb (end1 bonds b) a || eqb (end2 bonds b) a)
  where
    go : (x : Bool) → pick {A = ℕ} x 1 0 ≡ cond x 1 0
    go true = refl
    go false = refl

degree-from : (bonds : List ℤ) (a k m s : ℕ) → run (count_bond bonds a) k m s ≡ s + total (weight_at (λ k. 1) a) (up_to (walk_bond bonds) k m)
unfolding run up_to
degree-from bonds a k zero s = sym (add-zero s)
degree-from bonds a k (suc m) s = omega (arith, degree-from bonds a (suc k) m (s + pick (touches bonds a k) 1 0), count-weight bonds a k)

pub degree-total : (bonds : List ℤ) (m a : ℕ) → bond_degree bonds m a ≡ total (weight_at (λ k. 1) a) (bond_list bonds m)
unfolding bond_degree
degree-total bonds m a = degree-from bonds a 0 m 0 ∙ zero-add (total (weight_at (λ k. 1) a) (bond_list bonds m))

-- tables with n atoms and m bonds, and the same molecule under the walk numbers `order`
pub record Renumbered (n m : ℕ) (order : List ℕ) (atoms bonds atoms' bonds' : List ℤ) : Type 0 where
  pub numbers : Renumbering n order
  pub inside : Inside n (bond_list bonds m)
  pub permuted : Perm (bond_list bonds' m) (map (renumber order) (bond_list bonds m))
  pub elements : (v : ℕ) → v < n → element atoms' (place order v) ≡ element atoms v
  pub selections : (v : ℕ) → v < n → selected atoms' (place order v) ≡ selected atoms v
  pub charges : (v : ℕ) → v < n → atom_cell atoms' (place order v) CHARGE ≡ atom_cell atoms v CHARGE
  pub hydrogen-counts : (v : ℕ) → v < n → hydrogens atoms' (place order v) ≡ hydrogens atoms v

module _ {n m : ℕ} {walk : List ℕ} {atoms bonds atoms' bonds' : List ℤ} (w : Renumbered n m walk atoms bonds atoms' bonds') where
  -- THE STATEMENT: each atom keeps its bond sum
  pub sum-renumbered : (v : ℕ) → v < n → bond_sum bonds' m (place walk v) ≡ bond_sum bonds m v
  sum-renumbered v h =
      sum-total bonds' m (place walk v)
      ∙ total-perm (weight_at order (place walk v)) w.permuted
      ∙ sum-place n walk w.numbers.every order order-turned v h (bond_list bonds m) w.inside
      ∙ sym (sum-total bonds m v)

  -- and stays delocalized, or not
  pub flag-renumbered : (v : ℕ) → v < n → delocalized_flag atoms' bonds' m (place walk v) ≡ delocalized_flag atoms bonds m v
  flag-renumbered v h =
      λ i. flag (delocalized (w.elements v h i) (w.selections v h i) (w.charges v h i) (sum-renumbered v h i) (w.hydrogen-counts v h i))

  pub flags-followed : Followed n walk (delocalized_flags atoms bonds n m) (delocalized_flags atoms' bonds' n m)
  flags-followed =
      record {
        order_is = w.numbers;
        size = length-up_to (delocalized_flag atoms bonds m) 0 n;
        size' = length-up_to (delocalized_flag atoms' bonds' m) 0 n;
        same =
            λ v h.
            let l : place walk v < n = omega (arith, place-lt v walk (w.numbers.every v h), w.numbers.long) in
            up_to-at (delocalized_flag atoms' bonds' m) n (place walk v) 0 l ∙ flag-renumbered v h ∙ sym (up_to-at (delocalized_flag atoms bonds m) n v 0 h);
      }
