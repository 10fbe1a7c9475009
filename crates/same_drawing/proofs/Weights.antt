-- The sum of a row: two rows that settle to the same under a renumbering have equal sums. Assumes nothing.
use mathlib.Core.Path.{◌≡◌, refl, sym, ap, ◌∙◌}
use mathlib.Core.Bool.{Bool, true, false, ◌&&◌, ◌||◌}
use mathlib.Core.List.{List}
use Prim.Native.Nat.{ℕ, zero, suc, ◌+◌, ◌*◌, ◌<◌, ◌≤◌}
use native.Mathlib.Omega.{arith}
use native.Mathlib.Nat.{add_comm, mul-le-mul}
use lib.IntN.{ℤ}
use lib.Dec.{eqb}
use lib.ListN.{get_or}
use Rattle.loops.specs.Loop.{pick}
use Rattle.table.specs.Cells.{end1, end2, kind}
use Rattle.table.specs.Valid.{Valid}
use Rattle.table.proofs.Valid.{Enough, bond-row}
use Rattle.matching.specs.Enumeration.{Row}
use Rattle.same_model.specs.Same.{Molecule, settled, order_between, image}
use Rattle.same_model.specs.Redrawing.{Renumbering}
use Rattle.same_model.proofs.Sameness.{Carried}
use Rattle.same_model.proofs.Totals.{total, run-total, total-same, total-add, total-at, total-exchange, total-permuted}
use Rattle.same_model.proofs.Orders.{between, order-total}
use Rattle.same_keys.specs.Keys.{prime, mixed}
use Rattle.same_keys.proofs.Mixing.{mixed-low}
use Rattle.same_keys.proofs.Kept.{other-end}
use Rattle.same_drawing.specs.Drawing.{drawn_order, bond_weight, row_sum}
use Rattle.same_drawing.proofs.Matrix.{drawn-small}
use Rattle.same_drawing.proofs.Drawn.{between-at}

pub weight-low : (bonds : List ℤ) (keys : List ℕ) (c k : ℕ) → bond_weight bonds keys c k ≤ 3 * prime
unfolding bond_weight
weight-low bonds keys c k =
    let l = mixed-low (get_or keys (end1 bonds k) 0 + get_or keys (end2 bonds k) 0) in
    mul-le-mul {n₁ = drawn_order bonds c k} {m₁ = mixed (get_or keys (end1 bonds k) 0 + get_or keys (end2 bonds k) 0)} {n₂ = 3} {m₂ = prime} (drawn-small (kind bonds k) c) (omega arith)

total-scale : (f : ℕ → ℕ) (c n : ℕ) → total f n * c ≡ total (λ k. f k * c) n
unfolding total
total-scale f c zero = omega arith
total-scale f c (suc n) = let ih = total-scale f c n in omega arith

scaled : (z : Bool) (o c : ℕ) → pick z o 0 * c ≡ pick z (o * c) 0
scaled true o c = refl
scaled false o c = omega arith

module _ (x : Molecule) (row : Row) (v : Valid x.atoms x.bonds x.n x.m) (e : Enough x.atoms x.bonds) (keys : List ℕ) where
  -- the weight of two atoms that are joined
  abbrev weigh : ℕ → ℕ → ℕ
  weigh a b = mixed (get_or keys a 0 + get_or keys b 0)

  abbrev ord : ℕ → ℕ
  ord k = drawn_order x.bonds (get_or row k 0) k

  abbrev meets : ℕ → ℕ → ℕ → Bool
  meets a b k = (eqb (end1 x.bonds k) a && eqb (end2 x.bonds k) b) || (eqb (end1 x.bonds k) b && eqb (end2 x.bonds k) a)

  -- all pairs of atoms: each bond twice
  one-bond : (k : ℕ) → k < x.m → total (λ a. total (λ b. pick (meets a b k) (ord k * weigh a b) 0) x.n) x.n ≡ 2 * bond_weight x.bonds keys (get_or row k 0) k
  unfolding bond_weight
  one-bond k l =
      let f = bond-row v k l in
      let i = end1 x.bonds k in
      let j = end2 x.bonds k in
      total-same (λ a. total (λ b. pick (meets a b k) (ord k * weigh a b) 0) x.n) (λ a. pick (eqb i a) (ord k * weigh a j) 0 + pick (eqb j a) (ord k * weigh a i) 0) x.n
      (λ a h. sym (other-end x.n a i j (λ b. ord k * weigh a b) f.order f.second))
      ∙ total-add (λ a. pick (eqb i a) (ord k * weigh a j) 0) (λ a. pick (eqb j a) (ord k * weigh a i) 0) x.n
      ∙ (λ q. total-at i x.n (λ a. ord k * weigh a j) (omega (arith, f.order, f.second)) q + total-at j x.n (λ a. ord k * weigh a i) f.second q)
      ∙ ap (λ (s : ℕ). ord k * weigh i j + ord k * mixed s) (add_comm (get_or keys j 0) (get_or keys i 0))
      ∙ omega arith

  pub sum_twice : total (λ a. total (λ b. order_between (settled x row) a b * weigh a b) x.n) x.n ≡ 2 * row_sum x.bonds x.m keys row
  unfolding row_sum
  sum_twice =
      total-same (λ a. total (λ b. order_between (settled x row) a b * weigh a b) x.n) (λ a. total (λ k. total (λ b. pick (meets a b k) (ord k * weigh a b) 0) x.n) x.m) x.n
      (λ a l.
      total-same (λ b. order_between (settled x row) a b * weigh a b) (λ b. total (λ k. pick (meets a b k) (ord k * weigh a b) 0) x.m) x.n (λ b h. each-order a b)
      ∙ total-exchange (λ b k. pick (meets a b k) (ord k * weigh a b) 0) x.n x.m)
      ∙ total-exchange (λ a k. total (λ b. pick (meets a b k) (ord k * weigh a b) 0) x.n) x.n x.m
      ∙ total-same (λ k. total (λ a. total (λ b. pick (meets a b k) (ord k * weigh a b) 0) x.n) x.n) (λ k. bond_weight x.bonds keys (get_or row k 0) k + bond_weight x.bonds keys (get_or row k 0) k) x.m
      (λ k l. one-bond k l ∙ omega arith)
      ∙ total-add (λ k. bond_weight x.bonds keys (get_or row k 0) k) (λ k. bond_weight x.bonds keys (get_or row k 0) k) x.m
      ∙ (let s = run-total (λ k. bond_weight x.bonds keys (get_or row k 0) k) x.m in omega arith)
    where
      each-order : (a b : ℕ) → order_between (settled x row) a b * weigh a b ≡ total (λ k. pick (meets a b k) (ord k * weigh a b) 0) x.m
      each-order a b =
          ap (λ (s : ℕ). s * weigh a b) (order-total (settled x row) a b)
          ∙ total-scale (between (settled x row) a b) (weigh a b) x.m
          ∙ total-same (λ k. between (settled x row) a b k * weigh a b) (λ k. pick (meets a b k) (ord k * weigh a b) 0) x.m
          (λ k l. ap (λ (s : ℕ). s * weigh a b) (between-at x row v e a b k l) ∙ scaled (meets a b k) (ord k) (weigh a b))

-- rows that settle to the same have equal sums
module _ (x y : Molecule) (r s : Row) (v1 : Valid x.atoms x.bonds x.n x.m) (e1 : Enough x.atoms x.bonds) (v2 : Valid y.atoms y.bonds y.n y.m) (e2 : Enough y.atoms y.bonds) (counts : x.n ≡ y.n)
    (keys1 keys2 t : List ℕ) (w : Renumbering x.n t) (c : Carried (settled x r) (settled y s) t) (kept : (a : ℕ) → a < x.n → get_or keys1 a 0 ≡ get_or keys2 (image t a) 0) where
  abbrev right : ℕ → ℕ → ℕ
  right a b = order_between (settled y s) a b * mixed (get_or keys2 a 0 + get_or keys2 b 0)

  twice : 2 * row_sum x.bonds x.m keys1 r ≡ 2 * row_sum y.bonds y.m keys2 s
  twice =
      sym (sum_twice x r v1 e1 keys1)
      ∙ total-same (λ a. total (λ b. order_between (settled x r) a b * mixed (get_or keys1 a 0 + get_or keys1 b 0)) x.n) (λ a. total (right (image t a)) x.n) x.n
      (λ a l.
      total-same (λ b. order_between (settled x r) a b * mixed (get_or keys1 a 0 + get_or keys1 b 0)) (λ b. right (image t a) (image t b)) x.n (λ b h. λ i. c.orders a b l h i * mixed (kept a l i + kept b h i))
      ∙ total-permuted x.n (image t) w.below w.one (right (image t a)))
      ∙ total-permuted x.n (image t) w.below w.one (λ a. total (right a) x.n)
      ∙ ap (λ (n : ℕ). total (λ a. total (right a) n) n) counts
      ∙ sum_twice y s v2 e2 keys2

  pub row-sums : row_sum x.bonds x.m keys1 r ≡ row_sum y.bonds y.m keys2 s
  row-sums = let q = twice in omega arith
