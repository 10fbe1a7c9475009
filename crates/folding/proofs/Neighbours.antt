-- An atom with one bond, of order 1: its neighbour, and the orders between it and every other atom. Assumes nothing.
use mathlib.Core.Path.{◌≡◌, refl, sym, ap, ◌∙◌}
use mathlib.Core.Bool.{Bool, true, false, ◌&&◌, ◌||◌, not}
use mathlib.Core.List.{List, [], ◌∷◌}
use Prim.Native.Nat.{ℕ, zero, suc, ◌+◌, ◌*◌, ◌<◌, ◌≤◌}
use native.Mathlib.Omega.{arith}
use lib.Dec.{eqb, leb}
use lib.ListN.{length, get_or}
use lib.IntN.{ℤ}
use borrow.Author.Tests.{eqb-true, eqb-false, eq-eqb, le-leb}
use Rattle.loops.specs.Loop.{pick}
use Rattle.kinds.specs.Kind.{order, max_kind}
use Rattle.kinds.proofs.Kind.{order_small}
use Rattle.parity.specs.Parity.{absent}
use Rattle.parity.proofs.Turns.{Listed}
use Rattle.table.specs.Cells.{end1, end2, kind, touches}
use Rattle.table.specs.Valid.{Valid}
use Rattle.table.specs.Sound.{bond_degree}
use Rattle.table.specs.Orders.{bonds_at}
use Rattle.table.proofs.Valid.{kind-small, first-end, second-end}
use Rattle.table.proofs.Orders.{bonds-length, bonds-listed}
use Rattle.table_graph.specs.Graph.{share, bond_sum}
use Rattle.same_model.specs.Same.{Molecule, joins, order_between}
use Rattle.same_model.specs.Redrawing.{joined}
use Rattle.same_model.proofs.Totals.{total, total-same, total-le, run-total}
use Rattle.same_model.proofs.Orders.{between, order-total, sum-total, sum-between}
use Rattle.same_model.proofs.Single.{joined-total}
use Rattle.folding.specs.Folding.{neighbour}

-- ---- sums of few
pub total-has : (f : ℕ → ℕ) (n c : ℕ) → c < n → f c ≤ total f n
unfolding total
total-has f zero c l = absurd (omega arith)
total-has f (suc n) c l = go (eqb c n) refl (λ i. total-has f n c i)
  where
    go : (z : Bool) → eqb c n ≡ z → (c < n → f c ≤ total f n) → f c ≤ total f n + f n
    go true e ih = let q = eqb-true c n e in rw q (omega arith)
    go false e ih = let q = eqb-false c n e in let r = ih (omega arith) in omega arith

total-two : (f : ℕ → ℕ) (n c b : ℕ) → c < n → b < n → (c ≡ b → ⊥) → f c + f b ≤ total f n
unfolding total
total-two f zero c b l k h = absurd (omega arith)
total-two f (suc n) c b l k h = go (eqb c n) refl (eqb b n) refl (λ i j. total-two f n c b i j h)
  where
    go : (y : Bool) → eqb c n ≡ y → (z : Bool) → eqb b n ≡ z → (c < n → b < n → f c + f b ≤ total f n) → f c + f b ≤ total f n + f n
    go true e true g ih = absurd (h (eqb-true c n e ∙ sym (eqb-true b n g)))
    go true e false g ih =
        let q = eqb-true c n e in
        let r = eqb-false b n g in
        let s = total-has f n b (omega arith) in
        let u : f c ≡ f n = ap f q in
        omega arith
    go false e true g ih =
        let q = eqb-false c n e in
        let r = eqb-true b n g in
        let s = total-has f n c (omega arith) in
        let u : f b ≡ f n = ap f r in
        omega arith
    go false e false g ih = let q = eqb-false c n e in let r = eqb-false b n g in let s = ih (omega arith) (omega arith) in omega arith

-- a sum of 1 has one term
total-single : (f : ℕ → ℕ) (n c b : ℕ) → total f n ≡ 1 → c < n → 0 < f c → b < n → f b ≡ pick (eqb c b) 1 0
total-single f n c b e l h k = go (eqb c b) refl
  where
    go : (z : Bool) → eqb c b ≡ z → f b ≡ pick z 1 0
    go true q = let r = total-has f n c l in let u : f c ≡ f b = ap f (eqb-true c b q) in omega arith
    go false q = let r = total-two f n c b l k (eqb-false c b q) in omega arith

total-times : (f : ℕ → ℕ) (n : ℕ) → total (λ b. 3 * f b) n ≡ 3 * total f n
unfolding total
total-times f zero = refl
total-times f (suc n) = let ih = total-times f n in omega arith

-- ---- the order between two atoms does not depend on which is named first
or_turned : (p q : Bool) → (p || q) ≡ (q || p)
or_turned true true = refl
or_turned true false = refl
or_turned false true = refl
or_turned false false = refl

pub order-turned : (x : Molecule) (a b : ℕ) → order_between x a b ≡ order_between x b a
unfolding joins
order-turned x a b =
    order-total x a b
    ∙ total-same (between x a b) (between x b a) x.m (λ k l. ap (λ (z : Bool). pick z (order (kind x.bonds k)) 0) (or_turned (eqb (end1 x.bonds k) a && eqb (end2 x.bonds k) b) (eqb (end1 x.bonds k) b && eqb (end2 x.bonds k) a)))
    ∙ sym (order-total x b a)

-- ---- how many bonds, and their sum
degree-total : (bonds : List ℤ) (m a : ℕ) → bond_degree bonds m a ≡ total (λ b. pick (touches bonds a b) 1 0) m
unfolding bond_degree
degree-total bonds m a = run-total (λ (b : ℕ). pick (touches bonds a b) 1 0) m

pub order-positive : (k : ℕ) → k ≤ max_kind → 0 < order k
unfolding order
order-positive k l = go (eqb k 0) (leb k 3) (leb k max_kind) refl (le-leb k max_kind l)
  where
    go : (p q r : Bool) → eqb k 0 ≡ p → r ≡ true → 0 < pick p 1 (pick q k (pick r 1 0))
    go true q r e h = omega arith
    go false true r e h = let u = eqb-false k 0 e in omega arith
    go false false r e h = rw h (omega arith)

first-listed : (l : List ℕ) → 0 < length l → Listed l (get_or l 0 0)
unfolding absent
first-listed [] h = absurd (omega arith)
first-listed (c ∷ l) h = rw (eq-eqb c c refl)

module _ (x : Molecule) (v : Valid x.atoms x.bonds x.n x.m) where
  -- each bond adds 1 to 3 to the sum
  degree-low : (a : ℕ) → bond_degree x.bonds x.m a ≤ bond_sum x.bonds x.m a
  unfolding share
  degree-low a =
      let p = degree-total x.bonds x.m a in
      let q = sum-total x.bonds x.m a in
      let r = total-le (λ b. pick (touches x.bonds a b) 1 0) (share x.bonds a) x.m (λ b l. go (touches x.bonds a b) (order (kind x.bonds b)) (order-positive (kind x.bonds b) (kind-small v b l))) in
      omega arith
    where
      go : (z : Bool) (o : ℕ) → 0 < o → pick z 1 0 ≤ pick z o 0
      go true o h = h
      go false o h = omega arith

  degree-high : (a : ℕ) → bond_sum x.bonds x.m a ≤ 3 * bond_degree x.bonds x.m a
  unfolding share
  degree-high a =
      let p = degree-total x.bonds x.m a in
      let q = sum-total x.bonds x.m a in
      let r = total-le (share x.bonds a) (λ b. 3 * pick (touches x.bonds a b) 1 0) x.m (λ b l. go (touches x.bonds a b) (order (kind x.bonds b)) (order_small (kind x.bonds b))) in
      let s = total-times (λ b. pick (touches x.bonds a b) 1 0) x.m in
      omega arith
    where
      go : (z : Bool) (o : ℕ) → o ≤ 3 → pick z o 0 ≤ 3 * pick z 1 0
      go true o h = h
      go false o h = omega arith

  pub sum-degree : (a : ℕ) → bond_sum x.bonds x.m a ≡ 1 → bond_degree x.bonds x.m a ≡ 1
  sum-degree a e = let p = degree-low a in let q = degree-high a in omega arith

  -- the bond of an atom that has one, and its neighbour
  module _ (a : ℕ) (one : bond_degree x.bonds x.m a ≡ 1) where
    abbrev bond : ℕ
    bond = get_or (bonds_at x.bonds x.m a) 0 0

    its-bond : (bond < x.m) × (touches x.bonds a bond ≡ true)
    its-bond = bonds-listed x.bonds a x.m bond (first-listed (bonds_at x.bonds x.m a) (omega (arith, bonds-length x.bonds a x.m)))

    far-end : (touches x.bonds a bond ≡ true) → (joins x a (neighbour x.bonds x.m a) bond ≡ true)
    unfolding touches joins neighbour
    far-end h = go (eqb (end1 x.bonds bond) a) refl h
      where
        e : ℕ
        e = end1 x.bonds bond

        f : ℕ
        f = end2 x.bonds bond

        or-true : (z : Bool) → (z || true) ≡ true
        or-true true = refl
        or-true false = refl

        go : (z : Bool) → eqb e a ≡ z → (z || eqb f a) ≡ true → ((z && eqb f (pick z f e)) || (eqb e (pick z f e) && eqb f a)) ≡ true
        go true q k = rw (eq-eqb f f refl)
        go false q k = rw (eq-eqb e e refl, k)

    pub neighbour-below : neighbour x.bonds x.m a < x.n
    unfolding neighbour
    neighbour-below = go (eqb (end1 x.bonds bond) a)
      where
        go : (z : Bool) → pick z (end2 x.bonds bond) (end1 x.bonds bond) < x.n
        go true = second-end v bond its-bond.0
        go false = first-end v bond its-bond.0

    pub neighbour-joined : joined x a (neighbour x.bonds x.m a) ≡ true
    neighbour-joined = go (joined x a p) refl
      where
        p : ℕ
        p = neighbour x.bonds x.m a

        go : (z : Bool) → joined x a p ≡ z → z ≡ true
        go true e = refl
        go false e =
            let t = joined-total x v a p 1 in
            let h = total-has (λ k. pick (joins x a p k) 1 0) x.m bond its-bond.0 in
            let u : ◌≡◌ {A = ℕ} (pick (joins x a p bond) 1 0) 1 = ap (λ (z : Bool). pick {A = ℕ} z 1 0) (far-end its-bond.1) in
            let w : ◌≡◌ {A = ℕ} (pick (joined x a p) 1 0) 0 = ap (λ (z : Bool). pick {A = ℕ} z 1 0) e in
            absurd (omega arith)

    -- of order 1: there is no other
    module _ (single : bond_sum x.bonds x.m a ≡ 1) where
      pub lone-order : (b : ℕ) → b < x.n → order_between x a b ≡ pick (eqb (neighbour x.bonds x.m a) b) 1 0
      lone-order b l =
          total-single (order_between x a) x.n (neighbour x.bonds x.m a) b (sym (sum-between x v a) ∙ single) neighbour-below (positive (order_between x a (neighbour x.bonds x.m a)) neighbour-joined) l
        where
          positive : (o : ℕ) → not (eqb o 0) ≡ true → 0 < o
          positive o h = go (eqb o 0) refl h
            where
              go : (z : Bool) → eqb o 0 ≡ z → not z ≡ true → 0 < o
              go true e k = absurd (let z : ◌≡◌ {A = ℕ} 0 1 = cc in omega arith)
              go false e k = let q = eqb-false o 0 e in omega arith

      flag-back : (z : Bool) → not (eqb (pick z 1 0) 0) ≡ z
      flag-back true = refl
      flag-back false = refl

      pub lone-joined : (b : ℕ) → b < x.n → joined x a b ≡ eqb (neighbour x.bonds x.m a) b
      lone-joined b l = ap (λ (o : ℕ). not (eqb o 0)) (lone-order b l) ∙ flag-back (eqb (neighbour x.bonds x.m a) b)
