-- The bond sum of an atom is the sum of the orders between it and every other. Assumes nothing.
use mathlib.Core.Path.{◌≡◌, refl, sym, ap, ◌∙◌}
use mathlib.Core.Bool.{Bool, true, false, ◌&&◌, ◌||◌}
use mathlib.Core.List.{List}
use Prim.Native.Nat.{ℕ, ◌<◌}
use native.Mathlib.Omega.{arith}
use lib.IntN.{ℤ}
use lib.Dec.{eqb}
use borrow.Author.Tests.{eqb-true}
use Rattle.loops.specs.Loop.{pick}
use Rattle.table.specs.Cells.{end1, end2, kind, touches}
use Rattle.table.specs.Valid.{Valid}
use Rattle.table.proofs.Valid.{bond-row}
use Rattle.kinds.specs.Kind.{order}
use Rattle.table_graph.specs.Graph.{share, bond_sum}
use Rattle.same_model.specs.Same.{Molecule, joins, order_between}
use Rattle.same_model.proofs.Totals.{total, run-total, total-same, total-none, total-one, total-exchange}

-- what the bond k adds between a and b
abbrev pub between : Molecule → ℕ → ℕ → ℕ → ℕ
between x a b k = pick (joins x a b k) (order (kind x.bonds k)) 0

pub order-total : (x : Molecule) (a b : ℕ) → order_between x a b ≡ total (between x a b) x.m
unfolding order_between
order-total x a b = run-total (between x a b) x.m

pub sum-total : (bonds : List ℤ) (m a : ℕ) → bond_sum bonds m a ≡ total (share bonds a) m
unfolding bond_sum
sum-total bonds m a = run-total (share bonds a) m

or-and-false : (p q : Bool) → (p || (q && false)) ≡ p
or-and-false true q = refl
or-and-false false true = refl
or-and-false false false = refl

and-true : (q : Bool) → (q && true) ≡ q
and-true true = refl
and-true false = refl

-- a bond has one other end
other-end : (n a e f o : ℕ) → e < f → f < n → total (λ b. pick ((eqb e a && eqb f b) || (eqb e b && eqb f a)) o 0) n ≡ pick (eqb e a || eqb f a) o 0
other-end n a e f o l h = go (eqb e a) (eqb f a) refl refl
  where
    go : (y z : Bool) → eqb e a ≡ y → eqb f a ≡ z → total (λ b. pick ((y && eqb f b) || (eqb e b && z)) o 0) n ≡ pick (y || z) o 0
    go true true p q = let u = eqb-true e a p in let w = eqb-true f a q in absurd (omega arith)
    go true false p q =
        total-same (λ b. pick ((true && eqb f b) || (eqb e b && false)) o 0) (λ b. pick (eqb f b) o 0) n (λ b i. ap (λ (z : Bool). pick z o 0) (or-and-false (eqb f b) (eqb e b)))
        ∙ total-one f o n h
    go false true p q =
        total-same (λ b. pick ((false && eqb f b) || (eqb e b && true)) o 0) (λ b. pick (eqb e b) o 0) n (λ b i. ap (λ (z : Bool). pick z o 0) (and-true (eqb e b)))
        ∙ total-one e o n (omega arith)
    go false false p q = total-none (λ b. pick ((false && eqb f b) || (eqb e b && false)) o 0) n (λ b i. ap (λ (z : Bool). pick z o 0) (or-and-false false (eqb e b)))

pub sum-between : (x : Molecule) → Valid x.atoms x.bonds x.n x.m → (a : ℕ) → bond_sum x.bonds x.m a ≡ total (order_between x a) x.n
unfolding share touches joins
sum-between x v a =
    sum-total x.bonds x.m a
    ∙ total-same (share x.bonds a) (λ k. total (λ b. between x a b k) x.n) x.m
    (λ k l. let f = bond-row v k l in sym (other-end x.n a (end1 x.bonds k) (end2 x.bonds k) (order (kind x.bonds k)) f.order f.second))
    ∙ sym (total-exchange (λ b k. between x a b k) x.n x.m)
    ∙ sym (total-same (order_between x a) (λ b. total (λ k. between x a b k) x.m) x.n (λ b l. order-total x a b))
