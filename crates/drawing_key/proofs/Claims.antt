-- What is claimed of the key: redrawings have equal keys, and so do their atoms. Assumes nothing.
use mathlib.Core.Path.{◌≡◌, refl, sym, ◌∙◌}
use mathlib.Core.Bool.{Bool, true, false, ◌||◌}
use Prim.Native.Nat.{ℕ, ◌+◌, ◌<◌}
use native.Mathlib.Omega.{arith}
use lib.Dec.{eqb}
use borrow.Author.Tests.{eqb-true}
use Rattle.loops.specs.Loop.{pick}
use Rattle.table.specs.Cells.{end1, end2, touches}
use Rattle.table.specs.Valid.{Valid}
use Rattle.table.specs.Sound.{bond_degree}
use Rattle.table.proofs.Valid.{bond-row}
use Rattle.same_model.specs.Same.{Molecule, image, joins}
use Rattle.same_model.specs.Redrawing.{joined, Redrawing}
use Rattle.same_model.proofs.Totals.{total, run-total, total-same, total-exchange}
use Rattle.same_model.proofs.Single.{joined-total}
use Rattle.same_keys.specs.Keys.{at}
use Rattle.same_keys.proofs.Kept.{other-end}
use Rattle.drawing_key.specs.Key.{degree, atom_keys, key_of}
use Rattle.drawing_key.proofs.Joined.{joined-sum}
use Rattle.drawing_key.proofs.Kept.{atoms-kept, key-kept}

-- redrawings have equal keys
pub redrawing-key : {x y : Molecule} → Redrawing x y → key_of x ≡ key_of y
redrawing-key w = key-kept w

-- an atom and its image have equal keys
pub redrawing-atom-key : {x y : Molecule} (w : Redrawing x y) (a : ℕ) → a < x.n → at (atom_keys x) a ≡ at (atom_keys y) (image w.renumbering a)
redrawing-atom-key w = atoms-kept w

-- how many atoms one is joined to is how many bonds it has
module _ (x : Molecule) (v : Valid x.atoms x.bonds x.n x.m) where
  touched : (a k : ℕ) → k < x.m → pick (touches x.bonds a k) 1 0 ≡ total (λ b. pick (joins x a b k) 1 0) x.n
  unfolding touches joins
  touched a k l =
      let r = bond-row v k l in
      go (eqb (end1 x.bonds k) a) (eqb (end2 x.bonds k) a) refl refl
      ∙ other-end x.n a (end1 x.bonds k) (end2 x.bonds k) (λ b. 1) r.order r.second
    where
      go : (y z : Bool) → eqb (end1 x.bonds k) a ≡ y → eqb (end2 x.bonds k) a ≡ z → pick (y || z) 1 0 ≡ pick y 1 0 + pick z 1 0
      go true true p q = let r = bond-row v k l in let u = eqb-true (end1 x.bonds k) a p in let w = eqb-true (end2 x.bonds k) a q in absurd (omega (arith, r.order))
      go true false p q = refl
      go false true p q = refl
      go false false p q = refl

  pub degree-bonds : (a : ℕ) → degree x a ≡ bond_degree x.bonds x.m a
  unfolding bond_degree
  degree-bonds a =
      joined-sum x (λ b. 1) a
      ∙ total-same (λ b. pick (joined x a b) 1 0) (λ b. total (λ k. pick (joins x a b k) 1 0) x.m) x.n (λ b l. sym (joined-total x v a b 1))
      ∙ total-exchange (λ b k. pick (joins x a b k) 1 0) x.n x.m
      ∙ sym (total-same (λ k. pick (touches x.bonds a k) 1 0) (λ k. total (λ b. pick (joins x a b k) 1 0) x.n) x.m (touched a))
      ∙ sym (run-total (λ k. pick (touches x.bonds a k) 1 0) x.m)
