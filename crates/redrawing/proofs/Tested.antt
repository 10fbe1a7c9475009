-- Redrawings by computation: what a redrawing with the same numbers keeps, tested at each atom and at each pair. Assumes nothing.
use mathlib.Core.Path.{◌≡◌, refl}
use mathlib.Core.Bool.{Bool, true, false}
use Prim.Native.Nat.{ℕ}
use native.Mathlib.Omega.{arith}
use lib.Dec.{eqb}
use borrow.Author.Tests.{eqb-true}
use Rattle.loops.specs.Loop.{each}
use Rattle.loops.proofs.Loops.{each_at}
use Rattle.table_graph.specs.Graph.{flag}
use Rattle.same_model.specs.Same.{Molecule, same_cells}
use Rattle.same_model.specs.Redrawing.{Redrawing, settled_sum, joined}
use Rattle.same_model.proofs.Relation.{identity, identity-renumbers, identity-at}

flag_one : (y z : Bool) → flag y ≡ flag z → y ≡ z
flag_one true true e = refl
flag_one true false e = absurd (omega arith)
flag_one false true e = absurd (omega arith)
flag_one false false e = refl

module _ (x y : Molecule) where
  abbrev pub same_at : ℕ → Bool
  same_at a = same_cells x y a a

  abbrev pub same_joined : ℕ → ℕ → Bool
  same_joined a b = eqb (flag (joined x a b)) (flag (joined y a b))

  abbrev pub same_sum : ℕ → Bool
  same_sum a = eqb (settled_sum x a) (settled_sum y a)

  -- the tests of n atoms
  pub record Tested (n : ℕ) : Type 0 where
    pub counts : n ≡ y.n
    pub cells : each same_at 0 n ≡ true
    pub bonds : each (λ a. each (same_joined a) 0 n) 0 n ≡ true
    pub sums : each same_sum 0 n ≡ true

  module _ (w : Tested x.n) where
    pub tested-drawing : Redrawing x y
    tested-drawing =
        record {
          renumbering = identity x.n;
          counts = w.counts;
          renumbers = identity-renumbers x.n;
          cells = λ a l. rw (identity-at x.n a l) (each_at same_at x.n a w.cells l);
          bonds = λ a b l k.
              rw (identity-at x.n a l, identity-at x.n b k)
              (flag_one (joined x a b) (joined y a b)
              (eqb-true (flag (joined x a b)) (flag (joined y a b)) (each_at (same_joined a) x.n b (each_at (λ a. each (same_joined a) 0 x.n) x.n a w.bonds l) k)));
          sums = λ a l. rw (identity-at x.n a l) (eqb-true (settled_sum x a) (settled_sum y a) (each_at same_sum x.n a w.sums l));
        }
