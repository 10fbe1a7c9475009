-- Bond sum and hydrogens together stay at every atom that stays, so the same atoms are delocalized. Assumes nothing.
use mathlib.Core.Path.{◌≡◌, refl, ap, ◌∙◌}
use mathlib.Core.Bool.{Bool, true, false, ◌&&◌, not}
use Prim.Native.Nat.{ℕ, ◌+◌, ◌<◌}
use native.Mathlib.Omega.{arith}
use lib.Dec.{eqb}
use lib.IntN.{ℤ, pos}
use lib.Signed.{le_z}
use Rattle.loops.specs.Loop.{pick}
use Rattle.table.specs.Limits.{ELEMENT, SELECTED, CHARGE}
use Rattle.table.specs.Cells.{atom_cell, element, selected, hydrogens}
use Rattle.valence.specs.Valence.{shifted_target, delocalized}
use Rattle.table_graph.specs.Graph.{bond_sum, delocalized_at, flag}
use Rattle.same_model.specs.Same.{Molecule, order_between}
use Rattle.same_model.specs.Redrawing.{settled_sum}
use Rattle.same_model.proofs.Totals.{total, total-same, total-add}
use Rattle.same_model.proofs.Orders.{sum-between}
use Rattle.folding.specs.Folding.{neighbour, goes, stays, merged, Complete}
use Rattle.folding.proofs.Ranks.{total-nth}
use Rattle.folding.proofs.Neighbours.{order-turned, lone-order}
use Rattle.folding.proofs.Plain.{goes-plain, gained}
use Rattle.folding.proofs.Merged.{old, old-at, merged-count, merged-field, merged-hydrogens, merged-valid, merged-order}

module _ (x : Molecule) (c : Complete x) where
  -- the bond sum is over those that stay and those that go
  stay-sum : (k : ℕ) → k < (merged x).n → bond_sum (merged x).bonds (merged x).m k ≡ total (λ b. pick (stays x b) (order_between x (old x k) b) 0) x.n
  stay-sum k l =
      sum-between (merged x) (merged-valid x c) k
      ∙ total-same (order_between (merged x) k) (λ j. order_between x (old x k) (old x j)) (merged x).n (λ j i. merged-order x c k j l i)
      ∙ ap (total (λ j. order_between x (old x k) (old x j))) (merged-count x)
      ∙ total-nth (stays x) (order_between x (old x k)) x.n

  -- the order to one that goes is what is gained by it
  gone-order : (a b : ℕ) → a < x.n → b < x.n → pick (goes x b) (order_between x a b) 0 ≡ gained x a b
  gone-order a b l k = go (goes x b) refl
    where
      go : (z : Bool) → goes x b ≡ z → pick z (order_between x a b) 0 ≡ pick (z && eqb (neighbour x.bonds x.m b) a) 1 0
      go true e = let p = goes-plain x b e in order-turned x a b ∙ lone-order x c.valid b p.degree p.sum a l
      go false e = refl

  split : (z : Bool) (o : ℕ) → o ≡ pick (not z) o 0 + pick z o 0
  split true o = omega arith
  split false o = omega arith

  whole_sum : (a : ℕ) → a < x.n → bond_sum x.bonds x.m a ≡ total (λ b. pick (stays x b) (order_between x a b) 0) x.n + total (gained x a) x.n
  whole_sum a l =
      sum-between x c.valid a
      ∙ total-same (order_between x a) (λ b. pick (stays x b) (order_between x a b) 0 + pick (goes x b) (order_between x a b) 0) x.n (λ b k. split (goes x b) (order_between x a b))
      ∙ total-add (λ b. pick (stays x b) (order_between x a b) 0) (λ b. pick (goes x b) (order_between x a b) 0) x.n
      ∙ ap (λ (s : ℕ). total (λ b. pick (stays x b) (order_between x a b) 0) x.n + s) (total-same (λ b. pick (goes x b) (order_between x a b) 0) (gained x a) x.n (λ b k. gone-order a b l k))

  pub merged-sum : (k : ℕ) → k < (merged x).n → bond_sum (merged x).bonds (merged x).m k + hydrogens (merged x).atoms k ≡ bond_sum x.bonds x.m (old x k) + hydrogens x.atoms (old x k)
  merged-sum k l =
      let p = stay-sum k l in
      let q = whole_sum (old x k) (old-at x k l).below in
      let r = merged-hydrogens x c k l in
      omega arith

  same-delocalized : (e s : ℕ) (z : ℤ) (a b h i : ℕ) → a + h ≡ b + i → delocalized e s z a h ≡ delocalized e s z b i
  unfolding delocalized
  same-delocalized e s z a b h i q = ap (λ (k : ℕ). eqb s 1 && le_z (pos (k + 1)) (shifted_target e z)) q

  pub merged-delocalized : (k : ℕ) → k < (merged x).n → delocalized_at (merged x).atoms (merged x).bonds (merged x).m k ≡ delocalized_at x.atoms x.bonds x.m (old x k)
  merged-delocalized k l =
      rw (
        merged-field x c k ELEMENT l (omega arith) (λ e. omega arith),
        merged-field x c k SELECTED l (omega arith) (λ e. omega arith),
        merged-field x c k CHARGE l (omega arith) (λ e. omega arith),
      )
      (same-delocalized (element x.atoms (old x k)) (selected x.atoms (old x k)) (atom_cell x.atoms (old x k) CHARGE) (bond_sum (merged x).bonds (merged x).m k) (bond_sum x.bonds x.m (old x k)) (hydrogens (merged x).atoms k) (hydrogens x.atoms (old x k)) (merged-sum k l))

  pub merged-settled : (k : ℕ) → k < (merged x).n → settled_sum (merged x) k + hydrogens (merged x).atoms k ≡ settled_sum x (old x k) + hydrogens x.atoms (old x k)
  merged-settled k l = let p = merged-sum k l in let q = ap flag (merged-delocalized k l) in omega arith
