-- What the loops of the checker hold on to, and what their answers together say. Assumes nothing.
use mathlib.Core.Path.{◌≡◌, refl, sym, ap, ◌∙◌}
use mathlib.Core.Bool.{Bool, true, false, ◌&&◌, ◌||◌, not}
use mathlib.Core.List.{List, ◌++◌}
use Prim.Native.Nat.{ℕ, ◌+◌, ◌<◌, ◌≤◌}
use native.Mathlib.Omega.{arith}
use lib.IntN.{ℤ}
use lib.Dec.{eqb, ltb}
use lib.ListN.{length, get_or, set, drop, length-set}
use lib.Seq.{get_or-set_same, get_or-set_other}
use borrow.Author.Tests.{eqb-true, eq-eqb, ne_eqb, ltb-true, ltb-false, not-false}
use Rattle.loops.specs.Loop.{each, up_to}
use Rattle.loops.proofs.Loops.{up_to-at, filled_at, each_at, each_same}
use Rattle.table.specs.Limits.{CHARGE}
use Rattle.table.specs.Cells.{atom_cell, element, selected, hydrogens, end1, end2}
use Rattle.valence.specs.Valence.{delocalized}
use Rattle.table_graph.specs.Graph.{bond_sum, flag, delocalized_flag}
use Rattle.table_graph.specs.Built.{sum_flag}
use Rattle.same_model.specs.Same.{Molecule, molecule, same_cells, joins, image}
use Rattle.same_model.specs.Redrawing.{settled_sum}
use Rattle.same_drawing.specs.Drawing.{atoms_only}
use Rattle.redrawing_check.specs.Certificate.{Permutes, Shows, bonds_only, cells_kept, ends_kept, numbers_kept, sums_kept, sum_at, Settled}

-- the first a of n numbers are below n, no two are equal, and each is marked
pub record Permuting (list : List ℕ) (n size a : ℕ) (seen : List Bool) : Type 0 where
  pub within : a ≤ n
  pub room : length seen ≡ size
  pub below : (b : ℕ) → b < a → image list b < n
  pub marked : (b : ℕ) → b < a → get_or seen (image list b) false ≡ true
  pub one : (b c : ℕ) → b < a → c < a → image list b ≡ image list c → b ≡ c

pub permuting-start : {list : List ℕ} {seen : List Bool} {n : ℕ} → Permuting list n (length seen) 0 seen
permuting-start = record { within = omega arith; room = refl; below = λ b l. absurd (omega arith); marked = λ b l. absurd (omega arith); one = λ b c l k e. absurd (omega arith) }

-- the last of a + 1 numbers, or one before it
last_or : {R : Type 0} (a b : ℕ) → b < a + 1 → (b < a → R) → (b ≡ a → R) → R
last_or {R} a b l f g = go (ltb b a) refl
  where
    go : (z : Bool) → ltb b a ≡ z → R
    go true e = f (ltb-true b a e)
    go false e = g (let q = ltb-false b a e in omega arith)

module _ {list : List ℕ} {seen : List Bool} {n size a : ℕ} (p : Permuting list n size a seen) (v : ℕ) (e : v ≡ image list a) (l : a < n) (h : v < n) (r : n ≤ size) (z : get_or seen v false ≡ false) where
  fresh : (b : ℕ) → b < a → image list b ≡ v → ⊥
  fresh b k q = let m = p.marked b k in let w = ap (λ (i : ℕ). get_or seen i false) q in (cc)

  marks : (i : ℕ) → (i ≡ v → ⊥) → get_or seen i false ≡ true → get_or (set seen v true) i false ≡ true
  marks i q k = get_or-set_other seen v i true false q ∙ k

  pub permuting-step : Permuting list n size (a + 1) (set seen v true)
  permuting-step =
      record {
        within = omega arith;
        room = length-set seen v true ∙ p.room;
        below = λ b k. last_or a b k (λ i. p.below b i) (λ i. rw (ap (image list) i, sym e) h);
        marked = λ b k. last_or a b k
            (λ i. marks (image list b) (fresh b i) (p.marked b i))
            (λ i. ap (λ (j : ℕ). get_or (set seen v true) j false) (ap (image list) i ∙ sym e) ∙ get_or-set_same seen v true false (omega (arith, p.room)));
        one = λ b c k j q. last_or a b k
            (λ i. last_or a c j (λ m. p.one b c i m q) (λ m. absurd (fresh b i (q ∙ ap (image list) m ∙ sym e))))
            (λ i. last_or a c j (λ m. absurd (fresh c m (sym q ∙ ap (image list) i ∙ sym e))) (λ m. i ∙ sym m));
      }

pub permuting-end : {list : List ℕ} {seen : List Bool} {n size a : ℕ} → Permuting list n size a seen → n ≤ a → Permutes n list
permuting-end p l = record { below = λ b k. p.below b (omega arith); one = λ b c k j q. p.one b c (omega arith) (omega arith) q }

-- the ends of a bond
pub joins-by : (bonds : List ℤ) (a b k : ℕ) {e f : ℕ} → e ≡ end1 bonds k → f ≡ end2 bonds k → ((eqb e a && eqb f b) || (eqb e b && eqb f a)) ≡ joins (bonds_only bonds) a b k
unfolding joins
joins-by bonds a b k p q = rw (p, q) refl

-- the cells of an atom and its image
pub cells_told : (atoms1 atoms2 : List ℤ) (t : List ℕ) (a : ℕ) {b : ℕ} {r : Bool} → b ≡ image t a → r ≡ same_cells (atoms_only atoms1) (atoms_only atoms2) a b → r ≡ cells_kept atoms1 atoms2 t a
cells_told atoms1 atoms2 t a e h = h ∙ ap (same_cells (atoms_only atoms1) (atoms_only atoms2) a) e

-- the ends of a bond and its image
pub ends-told : (bonds1 bonds2 : List ℤ) (t u : List ℕ) (k : ℕ) {e f a b j : ℕ} {r : Bool} → e ≡ end1 bonds1 k → a ≡ image t e → f ≡ end2 bonds1 k → b ≡ image t f → j ≡ image u k → r ≡ joins (bonds_only bonds2) a b j → r ≡ ends_kept bonds1 bonds2 t u k
ends-told bonds1 bonds2 t u k pe pa pf pb pj h =
    h ∙ λ i. joins (bonds_only bonds2) ((pa ∙ ap (image t) pe) i) ((pb ∙ ap (image t) pf) i) (pj i)

-- a number of an atom and its image
module _ (l r t : List ℕ) (a : ℕ) {b : ℕ} (e : b ≡ image t a) where
  pub number-kept : get_or l a 0 ≡ get_or r b 0 → numbers_kept l r t a ≡ true
  number-kept h = eq-eqb (get_or l a 0) (get_or r (image t a) 0) (h ∙ ap (λ (i : ℕ). get_or r i 0) e)

  pub number-lost : (get_or l a 0 ≡ get_or r b 0 → ⊥) → numbers_kept l r t a ≡ false
  number-lost h = ne_eqb (get_or l a 0) (get_or r (image t a) 0) (λ q. h (q ∙ ap (λ (i : ℕ). get_or r i 0) (sym e)))

-- the settled sums from bond sums and flags
module _ (atoms bonds : List ℤ) (n m len : ℕ) {sums flags settled : List ℕ} (flags₀ settled₀ : List ℕ) (s : sums ≡ up_to (bond_sum bonds m) 0 len) (few : n ≤ len) (g : flags ≡ up_to (sum_flag atoms sums) 0 n ++ drop n flags₀)
    (k : settled ≡ up_to (sum_at sums flags) 0 n ++ drop n settled₀) where
  sum-at : (a : ℕ) → a < n → get_or sums a 0 ≡ bond_sum bonds m a
  sum-at a l = ap (λ (t : List ℕ). get_or t a 0) s ∙ up_to-at (bond_sum bonds m) len a 0 (omega arith)

  flag_at : (a : ℕ) → a < n → get_or flags a 0 ≡ delocalized_flag atoms bonds m a
  flag_at a l =
      filled_at (sum_flag atoms sums) n a 0 flags (drop n flags₀) g l
      ∙ ap (λ (u : ℕ). flag (delocalized (element atoms a) (selected atoms a) (atom_cell atoms a CHARGE) u (hydrogens atoms a))) (sum-at a l)

  pub settled-by : Settled (molecule atoms bonds n m) settled
  settled-by = record { at = λ a l. filled_at (sum_at sums flags) n a 0 settled (drop n settled₀) k l ∙ λ i. sum-at a l i + flag_at a l i }

-- settled sums in two lists, compared
pub sums-told : {x y : Molecule} {l r t : List ℕ} {z : Bool} → Settled x l → Settled y r → x.n ≡ y.n → Permutes x.n t → z ≡ each (numbers_kept l r t) 0 x.n → z ≡ each (sums_kept x y t) 0 x.n
sums-told {x} {y} {l} {r} {t} p q e w h =
    h ∙ each_same (numbers_kept l r t) (sums_kept x y t) x.n (λ a i. λ j. eqb (p.at a i j) (q.at (image t a) (let b = w.below a i in omega arith) j))

-- the answers of the checker together
module _ {atoms1 bonds1 atoms2 bonds2 : List ℤ} {n1 m1 n2 m2 : ℕ} {t u : List ℕ} (e : n1 ≡ n2) (f : m1 ≡ m2) (p : Permutes n1 t) (q : Permutes m1 u) where
  pub shows-by : {i j z : Bool} → i ≡ each (cells_kept atoms1 atoms2 t) 0 n1 → not i ≡ false → j ≡ each (ends_kept bonds1 bonds2 t u) 0 m1 → not j ≡ false
      → z ≡ each (sums_kept (molecule atoms1 bonds1 n1 m1) (molecule atoms2 bonds2 n2 m2) t) 0 n1 → z ≡ true → Shows (molecule atoms1 bonds1 n1 m1) (molecule atoms2 bonds2 n2 m2) t u
  unfolding same_cells joins
  shows-by {i} {j} p1 q1 p2 q2 p3 q3 =
      let c = sym p1 ∙ not-false i q1 in
      let b = sym p2 ∙ not-false j q2 in
      let s = sym p3 ∙ q3 in
      record {
        atoms = e;
        bonds = f;
        renumbers = p;
        reorders = q;
        cells = λ a l. each_at (cells_kept atoms1 atoms2 t) n1 a c l;
        sums = λ a l. eqb-true (settled_sum (molecule atoms1 bonds1 n1 m1) a) (settled_sum (molecule atoms2 bonds2 n2 m2) (image t a)) (each_at (sums_kept (molecule atoms1 bonds1 n1 m1) (molecule atoms2 bonds2 n2 m2) t) n1 a s l);
        ends = λ k l. each_at (ends_kept bonds1 bonds2 t u) m1 k b l;
      }
