-- At most one bond joins two atoms of valid tables: what is added up over the bonds between them is what it gives. Assumes nothing.
use mathlib.Core.Path.{◌≡◌, refl, sym, ap, ◌∙◌}
use mathlib.Core.Bool.{Bool, true, false, ◌&&◌, not}
use Prim.Native.Nat.{ℕ, ◌<◌, ◌≤◌}
use native.Mathlib.Omega.{arith}
use lib.Dec.{eqb, leb, ltb}
use borrow.Author.Tests.{eqb-true, eqb-false, eq-eqb, ne_eqb, ltb-true, ltb-false, le-leb, not-true, not-false}
use Rattle.loops.specs.Loop.{pick, each}
use Rattle.loops.proofs.Loops.{and_left, and_right, each_at, each-fails}
use Rattle.table.specs.Cells.{end1, end2, kind}
use Rattle.table.specs.Valid.{Valid, same_ends}
use Rattle.table.proofs.Valid.{bond-row, kind-small, apart-at}
use Rattle.kinds.specs.Kind.{order, max_kind}
use Rattle.kinds.proofs.Kind.{order_small}
use Rattle.matching.proofs.Graph.{and_intro, same_bool, never, or_cases}
use Rattle.same_model.specs.Same.{Molecule, joins, order_between}
use Rattle.same_model.specs.Redrawing.{joined}
use Rattle.same_model.proofs.Totals.{total, total-same, total-none, total-at}
use Rattle.same_model.proofs.Orders.{order-total}

-- a kind has an order above 0
order-positive : (k : ℕ) → k ≤ max_kind → 0 < order k
unfolding order
order-positive k l = go (eqb k 0) (leb k 3) (leb k max_kind) refl (le-leb k max_kind l)
  where
    go : (p q r : Bool) → eqb k 0 ≡ p → r ≡ true → 0 < pick p 1 (pick q k (pick r 1 0))
    go true q r e h = omega arith
    go false true r e h = let u = eqb-false k 0 e in omega arith
    go false false r e h = rw h (omega arith)

module _ (x : Molecule) (v : Valid x.atoms x.bonds x.n x.m) (a b : ℕ) where
  abbrev e : ℕ → ℕ
  e = end1 x.bonds

  abbrev f : ℕ → ℕ
  f = end2 x.bonds

  same_ends_lem : (i j : ℕ) → e i ≡ e j → f i ≡ f j → same_ends x.bonds i j ≡ true
  unfolding same_ends
  same_ends_lem i j p q = and_intro (eqb (e i) (e j)) (eqb (f i) (f j)) (eq-eqb (e i) (e j) p) (eq-eqb (f i) (f j) q)

  -- a bond that joins a and b, in either order
  ends : {R : Type 0} (k : ℕ) → joins x a b k ≡ true → (e k ≡ a → f k ≡ b → R) → (e k ≡ b → f k ≡ a → R) → R
  unfolding joins
  ends k h p q =
      or_cases (eqb (e k) a && eqb (f k) b) (eqb (e k) b && eqb (f k) a) h
      (λ w. p (eqb-true (e k) a (and_left (eqb (e k) a) (eqb (f k) b) w)) (eqb-true (f k) b (and_right (eqb (e k) a) (eqb (f k) b) w)))
      (λ w. q (eqb-true (e k) b (and_left (eqb (e k) b) (eqb (f k) a) w)) (eqb-true (f k) a (and_right (eqb (e k) b) (eqb (f k) a) w)))

  never-two : (i j : ℕ) → i < x.m → j < i → joins x a b i ≡ true → joins x a b j ≡ true → ⊥
  never-two i j l k g h =
      let oi = (bond-row v i l).order in
      let oj = (bond-row v j (omega arith)).order in
      let d = apart-at v i j l k in
      ends i g
      (λ p q. ends j h (λ r s. never (same_ends x.bonds i j) (same_ends_lem i j (p ∙ sym r) (q ∙ sym s)) d) (λ r s. omega (arith, oi, oj, p, q, r, s)))
      (λ p q. ends j h (λ r s. omega (arith, oi, oj, p, q, r, s)) (λ r s. never (same_ends x.bonds i j) (same_ends_lem i j (p ∙ sym r) (q ∙ sym s)) d))

  only : (i : ℕ) → i < x.m → joins x a b i ≡ true → (k : ℕ) → k < x.m → joins x a b k ≡ eqb i k
  only i l g k h =
      same_bool (joins x a b k) (eqb i k)
      (λ q. eq-eqb i k (go q (ltb k i) (ltb i k) refl refl))
      (λ q. ap (joins x a b) (sym (eqb-true i k q)) ∙ g)
    where
      go : joins x a b k ≡ true → (y z : Bool) → ltb k i ≡ y → ltb i k ≡ z → i ≡ k
      go q true z p r = absurd (never-two i k l (ltb-true k i p) g q)
      go q false true p r = absurd (never-two k i h (ltb-true i k r) q g)
      go q false false p r = let u = ltb-false k i p in let w = ltb-false i k r in omega arith

  -- what the bond between them gives
  one-total : (i : ℕ) → i < x.m → joins x a b i ≡ true → (w : ℕ → ℕ) → total (λ k. pick (joins x a b k) (w k) 0) x.m ≡ w i
  one-total i l g w =
      total-same (λ k. pick (joins x a b k) (w k) 0) (λ k. pick (eqb i k) (w k) 0) x.m (λ k h. ap (λ (z : Bool). pick z (w k) 0) (only i l g k h))
      ∙ total-at i x.m w l

  none-total : each (λ k. not (joins x a b k)) 0 x.m ≡ true → (w : ℕ → ℕ) → total (λ k. pick (joins x a b k) (w k) 0) x.m ≡ 0
  none-total g w = total-none (λ k. pick (joins x a b k) (w k) 0) x.m (λ k l. ap (λ (z : Bool). pick z (w k) 0) (not-true (joins x a b k) (each_at (λ k. not (joins x a b k)) x.m k g l)))

  pub joined-total : (o : ℕ) → total (λ k. pick (joins x a b k) o 0) x.m ≡ pick (joined x a b) o 0
  joined-total o = go (each (λ k. not (joins x a b k)) 0 x.m) refl
    where
      go : (z : Bool) → each (λ k. not (joins x a b k)) 0 x.m ≡ z → total (λ k. pick (joins x a b k) o 0) x.m ≡ pick (joined x a b) o 0
      go true g = none-total g (λ k. o) ∙ sym (ap (λ (s : ℕ). pick (not (eqb s 0)) o 0) (order-total x a b ∙ none-total g (λ k. order (kind x.bonds k))))
      go false g =
          let c = each-fails (λ k. not (joins x a b k)) 0 x.m g in
          let l : c.at < x.m = omega (arith, c.below) in
          let j = not-false (joins x a b c.at) c.fails in
          let s : order_between x a b ≡ order (kind x.bonds c.at) = order-total x a b ∙ one-total c.at l j (λ k. order (kind x.bonds k)) in
          let p = order-positive (kind x.bonds c.at) (kind-small v c.at l) in
          one-total c.at l j (λ k. o) ∙ sym (ap (λ (z : Bool). pick (not z) o 0) (ne_eqb (order_between x a b) 0 (λ q. omega arith)))

  -- an order is at most 3
  pub orders-low : order_between x a b ≤ 3
  orders-low = go (each (λ k. not (joins x a b k)) 0 x.m) refl
    where
      go : (z : Bool) → each (λ k. not (joins x a b k)) 0 x.m ≡ z → order_between x a b ≤ 3
      go true g = omega (arith, order-total x a b ∙ none-total g (λ k. order (kind x.bonds k)))
      go false g =
          let c = each-fails (λ k. not (joins x a b k)) 0 x.m g in
          let l : c.at < x.m = omega (arith, c.below) in
          let j = not-false (joins x a b c.at) c.fails in
          omega (arith, order-total x a b ∙ one-total c.at l j (λ k. order (kind x.bonds k)), order_small (kind x.bonds c.at))
