-- Bonds of two molecules side by side: those of one do not touch the atoms of the other, so that every sum and count at an atom is that of its own molecule. Assumes nothing.
use Prim.Native.Nat.{ℕ, ◌+◌, ◌<◌}
use native.Mathlib.Nat.{zero-add, add-zero}
use native.Mathlib.Omega.{arith}
use mathlib.Core.Path.{◌≡◌, refl, ap, ◌∙◌}
use mathlib.Core.Bool.{Bool, false, ◌&&◌, ◌||◌}
use mathlib.Core.List.{List}
use lib.IntN.{ℤ}
use lib.Dec.{eqb}
use borrow.Author.Tests.{ne_eqb}
use Rattle.loops.specs.Loop.{pick}
use Rattle.loops.proofs.Counting.{many-none}
use Rattle.kinds.specs.Kind.{elided, double, order, mark_of, turned}
use Rattle.table.specs.declared.Bond.{Bond}
use Rattle.table.specs.Cells.{number, end1, end2, kind, touches}
use Rattle.table.specs.Marks.{side, side_count, double_at, double_count}
use Rattle.table.specs.Sound.{bond_degree}
use Rattle.table_graph.specs.Graph.{share, bond_sum}
use Rattle.mixture_rows.specs.Beside.{BondsBeside}
use Rattle.mixture_rows.proofs.Parts.{many-parts, sum-parts, sum-none}
use Rattle.mixture_rows.proofs.Graph.{eqb-raised}

module _ {n m k : ℕ} {bonds1 bonds2 bonds : List ℤ} (w : BondsBeside n m k bonds1 bonds2 bonds) where
  -- ---- cells
  pub first-end1 : (b : ℕ) → b < m → end1 bonds b ≡ end1 bonds1 b
  first-end1 b l = ap (λ (x : Bond). number x.first) (w.first_bonds b l)

  pub first-end2 : (b : ℕ) → b < m → end2 bonds b ≡ end2 bonds1 b
  first-end2 b l = ap (λ (x : Bond). number x.second) (w.first_bonds b l)

  pub first_kind : (b : ℕ) → b < m → kind bonds b ≡ kind bonds1 b
  first_kind b l = ap (λ (x : Bond). number x.kind) (w.first_bonds b l)

  pub second-end1 : (b : ℕ) → b < k → end1 bonds (m + b) ≡ n + end1 bonds2 b
  unfolding number
  second-end1 b l = ap (λ (x : Bond). number x.first) (w.second_bonds b l)

  pub second-end2 : (b : ℕ) → b < k → end2 bonds (m + b) ≡ n + end2 bonds2 b
  unfolding number
  second-end2 b l = ap (λ (x : Bond). number x.second) (w.second_bonds b l)

  pub second-kind : (b : ℕ) → b < k → kind bonds (m + b) ≡ kind bonds2 b
  second-kind b l = ap (λ (x : Bond). number x.kind) (w.second_bonds b l)

  -- ---- which ends an atom is
  ends_low : (a b : ℕ) → a < n → b < k → (eqb (end1 bonds (m + b)) a ≡ false) × (eqb (end2 bonds (m + b)) a ≡ false)
  ends_low a b h l =
      let e = second-end1 b l in
      let f = second-end2 b l in
      (ne_eqb (end1 bonds (m + b)) a (λ q. omega arith), ne_eqb (end2 bonds (m + b)) a (λ q. omega arith))

  ends-high : (a b : ℕ) → b < m → (eqb (end1 bonds b) (n + a) ≡ false) × (eqb (end2 bonds b) (n + a) ≡ false)
  ends-high a b l =
      let e = first-end1 b l in
      let f = first-end2 b l in
      let i = w.inside b l in
      (ne_eqb (end1 bonds b) (n + a) (λ q. omega arith), ne_eqb (end2 bonds b) (n + a) (λ q. omega arith))

  at-end1 : (a b : ℕ) → b < k → eqb (end1 bonds (m + b)) (n + a) ≡ eqb (end1 bonds2 b) a
  at-end1 a b l = ap (λ (x : ℕ). eqb x (n + a)) (second-end1 b l) ∙ eqb-raised n (end1 bonds2 b) a

  pub at-end2 : (a b : ℕ) → b < k → eqb (end2 bonds (m + b)) (n + a) ≡ eqb (end2 bonds2 b) a
  at-end2 a b l = ap (λ (x : ℕ). eqb x (n + a)) (second-end2 b l) ∙ eqb-raised n (end2 bonds2 b) a

  pub touch-first : (a b : ℕ) → b < m → touches bonds a b ≡ touches bonds1 a b
  unfolding touches
  touch-first a b l = λ i. eqb (first-end1 b l i) a || eqb (first-end2 b l i) a

  pub touch-low : (a b : ℕ) → a < n → b < k → touches bonds a (m + b) ≡ false
  unfolding touches
  touch-low a b h l = let e = ends_low a b h l in rw (e.0, e.1)

  pub touch-high : (a b : ℕ) → b < m → touches bonds (n + a) b ≡ false
  unfolding touches
  touch-high a b l = let e = ends-high a b l in rw (e.0, e.1)

  pub touch-second : (a b : ℕ) → b < k → touches bonds (n + a) (m + b) ≡ touches bonds2 a b
  unfolding touches
  touch-second a b l = λ i. at-end1 a b l i || at-end2 a b l i

  -- ---- bond sums
  pub sum_first : (a : ℕ) → a < n → bond_sum bonds (m + k) a ≡ bond_sum bonds1 m a
  unfolding bond_sum share
  sum_first a h =
      sum-parts (share bonds a) (share bonds1 a) (λ b. 0) m k
      (λ b l i. pick (touch-first a b l i) (order (first_kind b l i)) 0)
      (λ b l. ap (λ (x : Bool). pick x (order (kind bonds (m + b))) 0) (touch-low a b h l))
      ∙ ap (λ (x : ℕ). bond_sum bonds1 m a + x) (sum-none k 0)
      ∙ add-zero (bond_sum bonds1 m a)

  pub sum-second : (a : ℕ) → bond_sum bonds (m + k) (n + a) ≡ bond_sum bonds2 k a
  unfolding bond_sum share
  sum-second a =
      sum-parts (share bonds (n + a)) (λ b. 0) (share bonds2 a) m k
      (λ b l. ap (λ (x : Bool). pick x (order (kind bonds b)) 0) (touch-high a b l))
      (λ b l i. pick (touch-second a b l i) (order (second-kind b l i)) 0)
      ∙ ap (λ (x : ℕ). x + bond_sum bonds2 k a) (sum-none m 0)
      ∙ zero-add (bond_sum bonds2 k a)

  -- ---- numbers of bonds
  pub degree-first : (a : ℕ) → a < n → bond_degree bonds (m + k) a ≡ bond_degree bonds1 m a
  unfolding bond_degree
  degree-first a h =
      sum-parts (λ b. pick (touches bonds a b) 1 0) (λ b. pick (touches bonds1 a b) 1 0) (λ b. 0) m k
      (λ b l i. pick (touch-first a b l i) 1 0)
      (λ b l i. pick (touch-low a b h l i) 1 0)
      ∙ ap (λ (x : ℕ). bond_degree bonds1 m a + x) (sum-none k 0)
      ∙ add-zero (bond_degree bonds1 m a)

  pub degree-second : (a : ℕ) → bond_degree bonds (m + k) (n + a) ≡ bond_degree bonds2 k a
  unfolding bond_degree
  degree-second a =
      sum-parts (λ b. pick (touches bonds (n + a) b) 1 0) (λ b. 0) (λ b. pick (touches bonds2 a b) 1 0) m k
      (λ b l i. pick (touch-high a b l i) 1 0)
      (λ b l i. pick (touch-second a b l i) 1 0)
      ∙ ap (λ (x : ℕ). x + bond_degree bonds2 k a) (sum-none m 0)
      ∙ zero-add (bond_degree bonds2 k a)

  -- ---- sides
  side-first : (a b : ℕ) → b < m → side bonds a b ≡ side bonds1 a b
  unfolding side
  side-first a b l = λ i. pick (eqb (first-end1 b l i) a) (mark_of (first_kind b l i)) (pick (eqb (first-end2 b l i) a) (turned (mark_of (first_kind b l i))) elided)

  side-low : (a b : ℕ) → a < n → b < k → side bonds a (m + b) ≡ elided
  unfolding side
  side-low a b h l = let e = ends_low a b h l in rw (e.0, e.1)

  side-high : (a b : ℕ) → b < m → side bonds (n + a) b ≡ elided
  unfolding side
  side-high a b l = let e = ends-high a b l in rw (e.0, e.1)

  side-second : (a b : ℕ) → b < k → side bonds (n + a) (m + b) ≡ side bonds2 a b
  unfolding side
  side-second a b l = λ i. pick (at-end1 a b l i) (mark_of (second-kind b l i)) (pick (at-end2 a b l i) (turned (mark_of (second-kind b l i))) elided)

  pub sides_first : (a s : ℕ) → a < n → eqb elided s ≡ false → side_count bonds (m + k) a s ≡ side_count bonds1 m a s
  unfolding side_count
  sides_first a s h z =
      many-parts (λ b. eqb (side bonds a b) s) (λ b. eqb (side bonds1 a b) s) (λ b. false) m k (λ b l i. eqb (side-first a b l i) s) (λ b l. ap (λ (x : ℕ). eqb x s) (side-low a b h l) ∙ z)
      ∙ ap (λ (x : ℕ). side_count bonds1 m a s + x) (many-none (λ b. false) k (λ b l. refl))
      ∙ add-zero (side_count bonds1 m a s)

  pub sides-second : (a s : ℕ) → eqb elided s ≡ false → side_count bonds (m + k) (n + a) s ≡ side_count bonds2 k a s
  unfolding side_count
  sides-second a s z =
      many-parts (λ b. eqb (side bonds (n + a) b) s) (λ b. false) (λ b. eqb (side bonds2 a b) s) m k (λ b l. ap (λ (x : ℕ). eqb x s) (side-high a b l) ∙ z) (λ b l i. eqb (side-second a b l i) s)
      ∙ ap (λ (x : ℕ). x + side_count bonds2 k a s) (many-none (λ b. false) m (λ b l. refl))
      ∙ zero-add (side_count bonds2 k a s)

  -- ---- double bonds
  pub doubles-first : (a : ℕ) → a < n → double_count bonds (m + k) a ≡ double_count bonds1 m a
  unfolding double_count
  doubles-first a h =
      many-parts (double_at bonds a) (double_at bonds1 a) (λ b. false) m k
      (λ b l i. touch-first a b l i && eqb (first_kind b l i) double)
      (λ b l. ap (λ (x : Bool). x && eqb (kind bonds (m + b)) double) (touch-low a b h l))
      ∙ ap (λ (x : ℕ). double_count bonds1 m a + x) (many-none (λ b. false) k (λ b l. refl))
      ∙ add-zero (double_count bonds1 m a)

  pub doubles-second : (a : ℕ) → double_count bonds (m + k) (n + a) ≡ double_count bonds2 k a
  unfolding double_count
  doubles-second a =
      many-parts (double_at bonds (n + a)) (λ b. false) (double_at bonds2 a) m k
      (λ b l. ap (λ (x : Bool). x && eqb (kind bonds b) double) (touch-high a b l))
      (λ b l i. touch-second a b l i && eqb (second-kind b l i) double)
      ∙ ap (λ (x : ℕ). x + double_count bonds2 k a) (many-none (λ b. false) m (λ b l. refl))
      ∙ zero-add (double_count bonds2 k a)
