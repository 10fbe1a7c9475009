-- Bond sums in one pass: a bond added at its ends carries every atom's sum one bond further. Assumes nothing.
use Prim.Native.Nat.{ℕ, zero, suc, ◌+◌, ◌*◌, ◌≤◌, ◌<◌}
use native.Mathlib.Omega.{arith}
use native.Mathlib.Numerals.{add-one}
use native.Mathlib.Nat.{add-zero}
use mathlib.Core.Path.{◌≡◌, refl, sym, ap, ◌∙◌}
use mathlib.Core.Bool.{Bool, true, false, ◌||◌}
use mathlib.Core.List.{List, ◌∷◌}
use borrow.Author.Tests.{eq-eqb, ne_eqb, eqb-true, eqb-false, lt-ltb, ltb-true, ltb-false}
use lib.ListN.{length, get_or, replicate, length-set, length-replicate, get_or-eq_default}
use lib.Seq.{get_or-set_same, get_or-set_other, ext_get_or}
use lib.IntN.{ℤ}
use mir.Syntax.{w32}
use mir.Val.{to_z, of_z}
use mir.Facts.{to_z-of_z}
use lib.Dec.{eqb, ltb}
use Rattle.loops.specs.Loop.{pick, run, up_to}
use Rattle.loops.proofs.Loops.{length-up_to, up_to-at}
use Rattle.table.specs.declared.Bond.{Bond}
use Rattle.table.specs.Limits.{max_bonds}
use Rattle.table.specs.Cells.{number, end1, end2, kind}
use Rattle.table.specs.Rows.{bond_at, bond_row, BondFits}
use Rattle.kinds.specs.Kind.{order}
use Rattle.kinds.proofs.Kind.{order_small}
use Rattle.table.specs.Cells.{touches}
use Rattle.table_graph.specs.Graph.{share, add_share, bond_sum}
use Rattle.table_graph.specs.Built.{bump, sums_with_bond}

-- the numbers in a bond's row are those of its cells
pub row-cells : (bonds : List ℤ) (b : ℕ) (x : Bond) → (x ≡ bond_at bonds b) × BondFits x → b < max_bonds
    → (number (to_z w32 (of_z w32 x.first)) ≡ end1 bonds b) × (number (to_z w32 (of_z w32 x.second)) ≡ end2 bonds b) × (number (to_z w32 (of_z w32 x.kind)) ≡ kind bonds b)
unfolding bond_at
row-cells bonds b x e h =
    let f : x ≡ bond_row bonds b = e.0 ∙ simp (lt-ltb b max_bonds h) in (
      ap number (to_z-of_z e.1.first) ∙ ap (λ (y : Bond). number y.first) f,
      ap number (to_z-of_z e.1.second) ∙ ap (λ (y : Bond). number y.second) f,
      ap number (to_z-of_z e.1.kind) ∙ ap (λ (y : Bond). number y.kind) f,
    )

-- the last step of a loop
run-last : {S : Type 0} (step : ℕ → S → S) (k m : ℕ) (s : S) → run step k (suc m) s ≡ step (k + m) (run step k m s)
unfolding run
run-last step k zero s = simp add-zero
run-last step k (suc m) s = let e : k + suc m ≡ suc k + m = omega arith in rw e (run-last step (suc k) m (step k s))

-- one bond more
sum-suc : (bonds : List ℤ) (b a : ℕ) → bond_sum bonds (suc b) a ≡ bond_sum bonds b a + share bonds a b
unfolding bond_sum
sum-suc bonds b a = let e : 0 + b ≡ b = omega arith in run-last (add_share bonds a) 0 b 0 ∙ simp e

pub sum_more : (bonds : List ℤ) (b a : ℕ) → bond_sum bonds (b + 1) a ≡ bond_sum bonds b a + share bonds a b
sum_more bonds b a = rw (add-one b) (sum-suc bonds b a)

pub share-small : (bonds : List ℤ) (a b : ℕ) → share bonds a b ≤ 3
unfolding share
share-small bonds a b = go (touches bonds a b)
  where
    go : (x : Bool) → pick x (order (kind bonds b)) 0 ≤ 3
    go true = order_small (kind bonds b)
    go false = omega arith

pub sum-small : (bonds : List ℤ) (b a : ℕ) → bond_sum bonds b a ≤ 3 * b
unfolding bond_sum run
sum-small bonds zero a = omega arith
sum-small bonds (suc b) a = omega (arith, sum-suc bonds b a, share-small bonds a b, sum-small bonds b a)

-- the sums of every atom below len, over b bonds
abbrev pub sums_to : List ℤ → ℕ → ℕ → List ℕ
sums_to bonds b len = up_to (bond_sum bonds b) 0 len

pub sums-small : (bonds : List ℤ) (b len a : ℕ) → get_or (sums_to bonds b len) a 0 ≤ 3 * b
sums-small bonds b len a = go (ltb a len) refl
  where
    go : (x : Bool) → ltb a len ≡ x → get_or (sums_to bonds b len) a 0 ≤ 3 * b
    go true e = omega (arith, up_to-at (bond_sum bonds b) len a 0 (ltb-true a len e), sum-small bonds b a)
    go false e =
        let l : length (sums_to bonds b len) ≤ a = omega (arith, length-up_to (bond_sum bonds b) 0 len, ltb-false a len e) in
        omega (arith, get_or-eq_default (sums_to bonds b len) 0 l)

sums-nil : (bonds : List ℤ) (k len : ℕ) → replicate len 0 ≡ up_to (bond_sum bonds 0) k len
unfolding up_to bond_sum run
sums-nil bonds k zero = refl
sums-nil bonds k (suc len) = ap (λ (r : List ℕ). 0 ∷ r) (sums-nil bonds (suc k) len)

pub sums_none : (bonds : List ℤ) (len : ℕ) → replicate len 0 ≡ sums_to bonds 0 len
sums_none bonds len = sums-nil bonds 0 len

-- one sum raised, atom by atom
bump_at : (s : List ℕ) (e x i : ℕ) → i < length s → get_or (bump s e x) i 0 ≡ get_or s i 0 + pick (eqb e i) x 0
bump_at s e x i l = go (eqb e i) refl
  where
    go : (y : Bool) → eqb e i ≡ y → get_or (bump s e x) i 0 ≡ get_or s i 0 + pick y x 0
    go true h = let q : e ≡ i = eqb-true e i h in rw q (get_or-set_same s i (get_or s i 0 + x) 0 l)
    go false h =
        let n = eqb-false e i h in
        get_or-set_other s e i (get_or s e 0 + x) 0 (λ q. n (sym q)) ∙ sym (add-zero (get_or s i 0))

-- the two ends of a bond
ends_same : (e f i x : ℕ) → e ≡ f → pick (eqb e i) x 0 ≡ pick (eqb e i || eqb f i) x 0
ends_same e f i x q = rw q (go (eqb f i))
  where
    go : (y : Bool) → pick y x 0 ≡ pick (y || y) x 0
    go true = refl
    go false = refl

ends-two : (e f i x : ℕ) → (e ≡ f → ⊥) → pick (eqb e i) x 0 + pick (eqb f i) x 0 ≡ pick (eqb e i || eqb f i) x 0
ends-two e f i x n = go (eqb e i) (eqb f i) refl refl
  where
    go : (y z : Bool) → eqb e i ≡ y → eqb f i ≡ z → pick y x 0 + pick z x 0 ≡ pick (y || z) x 0
    go true true p q = absurd (n (eqb-true e i p ∙ sym (eqb-true f i q)))
    go true false p q = add-zero x
    go false z p q = omega arith

pub bond-at : (bonds : List ℤ) (b i : ℕ) (s : List ℕ) → i < length s → get_or (sums_with_bond bonds b s) i 0 ≡ get_or s i 0 + share bonds i b
unfolding sums_with_bond share touches
bond-at bonds b i s l = go (eqb e f) refl
  where
    e : ℕ
    e = end1 bonds b

    f : ℕ
    f = end2 bonds b

    x : ℕ
    x = order (kind bonds b)

    go : (y : Bool) → eqb e f ≡ y → get_or (pick y (bump s e x) (bump (bump s e x) f x)) i 0 ≡ get_or s i 0 + pick (eqb e i || eqb f i) x 0
    go true h = bump_at s e x i l ∙ ap (λ (k : ℕ). get_or s i 0 + k) (ends_same e f i x (eqb-true e f h))
    go false h =
        let w : i < length (bump s e x) = simp length-set l in
        omega (arith, bump_at (bump s e x) f x i w, bump_at s e x i l, ends-two e f i x (eqb-false e f h))

pub bond-length : (bonds : List ℤ) (b : ℕ) (s : List ℕ) → length (sums_with_bond bonds b s) ≡ length s
unfolding sums_with_bond
bond-length bonds b s = go (eqb (end1 bonds b) (end2 bonds b))
  where
    x : ℕ
    x = order (kind bonds b)

    go : (y : Bool) → length (pick y (bump s (end1 bonds b) x) (bump (bump s (end1 bonds b) x) (end2 bonds b) x)) ≡ length s
    go true = simp length-set
    go false = simp length-set

pub sums-more : (bonds : List ℤ) (b len : ℕ) → sums_with_bond bonds b (sums_to bonds b len) ≡ sums_to bonds (b + 1) len
sums-more bonds b len =
    let s = sums_to bonds b len in
    let n : length s ≡ len = length-up_to (bond_sum bonds b) 0 len in
    let n2 : length (sums_with_bond bonds b s) ≡ len = bond-length bonds b s ∙ n in
    ext_get_or 0 (sums_with_bond bonds b s) (sums_to bonds (b + 1) len) (n2 ∙ sym (length-up_to (bond_sum bonds (b + 1)) 0 len))
    (λ i l.
    let l1 : i < len = omega arith in
    let l2 : i < length s = omega arith in
    bond-at bonds b i s l2 ∙ ap (λ (k : ℕ). k + share bonds i b) (up_to-at (bond_sum bonds b) len i 0 l1) ∙ sym (sum_more bonds b i) ∙ sym (up_to-at (bond_sum bonds (b + 1)) len i 0 l1))

-- the two paths of adding one bond
pub one_end : (bonds : List ℤ) (b : ℕ) (s : List ℕ) {e f k x : ℕ} {s1 : List ℕ} → e ≡ end1 bonds b → f ≡ end2 bonds b → k ≡ kind bonds b → x ≡ order k → e ≡ f → s1 ≡ bump s e x → s1 ≡ sums_with_bond bonds b s
unfolding sums_with_bond
one_end bonds b s pe pf pk px q e1 = let w : end1 bonds b ≡ end2 bonds b = sym pe ∙ q ∙ pf in simp (e1, px, pk, pe, eq-eqb (end1 bonds b) (end2 bonds b) w)

pub two_ends : (bonds : List ℤ) (b : ℕ) (s : List ℕ) {e f k x : ℕ} {s1 s2 : List ℕ} → e ≡ end1 bonds b → f ≡ end2 bonds b → k ≡ kind bonds b → x ≡ order k → (e ≡ f → ⊥) → s1 ≡ bump s e x → s2 ≡ bump s1 f x → s2 ≡ sums_with_bond bonds b s
unfolding sums_with_bond
two_ends bonds b s pe pf pk px q e1 e2 =
    let w : end1 bonds b ≡ end2 bonds b → ⊥ = λ h. q (pe ∙ h ∙ sym pf) in
    simp (e2, e1, px, pk, pe, pf, ne_eqb (end1 bonds b) (end2 bonds b) w)

-- the pass over the bonds: where it begins, what it needs, a turn, and its end
pub sums-start : (bonds : List ℤ) (len : ℕ) {s : List ℕ} → s ≡ replicate len 0 → s ≡ sums_to bonds 0 (length s)
sums-start bonds len e = e ∙ sums_none bonds len ∙ ap (sums_to bonds 0) (sym (ap length e ∙ length-replicate len 0))

pub sums-bound : (bonds : List ℤ) (b len : ℕ) {s : List ℕ} → s ≡ sums_to bonds b len → (a : ℕ) → get_or s a 0 ≤ 3 * b
sums-bound bonds b len e a = rw e (sums-small bonds b len a)

pub second-bound : (s : List ℕ) (e f x n : ℕ) → e < f → ((a : ℕ) → get_or s a 0 ≤ n) → get_or (bump s e x) f 0 ≤ n
second-bound s e f x n l h = rw (get_or-set_other s e f (get_or s e 0 + x) 0 (λ q. omega arith)) (h f)

pub sums-step : (bonds : List ℤ) (b len : ℕ) {s t : List ℕ} → s ≡ sums_to bonds b len → t ≡ sums_with_bond bonds b s → t ≡ sums_to bonds (b + 1) len
sums-step bonds b len e h = h ∙ ap (sums_with_bond bonds b) e ∙ sums-more bonds b len

pub sums-length : (bonds : List ℤ) (b len : ℕ) {s : List ℕ} → s ≡ sums_to bonds b len → length s ≡ len
sums-length bonds b len e = ap length e ∙ length-up_to (bond_sum bonds b) 0 len
