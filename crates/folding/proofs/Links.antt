-- Folding as the code does it: links tell the neighbours of atoms with one single bond, and new numbers who stays; rows moved by them are those of the definition. Assumes nothing.
use mathlib.Core.Path.{◌≡◌, refl, sym, ap, ◌∙◌}
use mathlib.Core.Bool.{Bool, true, false, ◌&&◌, not}
use mathlib.Core.List.{List, [], ◌∷◌, ◌++◌}
use Prim.Native.Nat.{ℕ, zero, suc, ◌+◌, ◌*◌, ◌-◌, ◌<◌, ◌≤◌}
use native.Mathlib.Omega.{arith}
use native.Mathlib.Numerals.{add-one}
use lib.Dec.{eqb, leb, ltb}
use lib.ListN.{length, get_or, set, replicate, length-set}
use lib.Seq.{sets, get_or-set_same, get_or-set_other, ext_get_or}
use lib.IntN.{ℤ}
use borrow.Author.Tests.{eqb-true, eqb-false, ne_eqb, le-leb, lt-ltb, le-ltb, not-true}
use Rattle.loops.specs.Loop.{pick, run, up_to, how_many}
use Rattle.loops.proofs.Loops.{length-up_to, up_to-at, each_at, filled_at}
use Rattle.loops.proofs.Counting.{many-same}
use Rattle.kinds.specs.Kind.{order}
use Rattle.table.specs.Limits.{max_atoms, atom_cells, bond_cells, ELEMENT, FIRST, SECOND, KIND}
use Rattle.table.specs.Cells.{number, bond_cell, element, hydrogens, end1, end2, kind, touches}
use Rattle.table.specs.declared.Atom.{Atom}
use Rattle.table.specs.declared.Bond.{Bond}
use Rattle.table.specs.Rows.{atom_row, cells_of, bond_cells_of, with_atom, with_bond}
use Rattle.table.specs.Valid.{Valid}
use Rattle.table.specs.Sound.{bond_degree}
use Rattle.table.specs.Orders.{bonds_from, bonds_at}
use Rattle.table.proofs.Valid.{kind-small, bond-row, first-end, second-end}
use Rattle.table.proofs.Rows.{same-atom-row}
use Rattle.table.proofs.Sound.{run-last, degree-more, degree-none}
use Rattle.table.proofs.Orders.{bonds-length}
use Rattle.table_graph.specs.Graph.{share, bond_sum}
use Rattle.table_graph.proofs.Sums.{sum_more}
use Rattle.same_model.specs.Same.{Molecule, molecule}
use Rattle.folding.specs.Folding.{other_end, neighbour, is_cell, plain_row, plain_hydrogen, folds, one_more, fold_into, folded_to, goes, stays, new_atom, bond_stays, new_bond, moved_bond, placed, packed, merged, Complete}
use Rattle.folding.specs.Links.{none, linked, link_with, link, Ends, is_heavy, no_hydrogen, takes_one, folds_by, fold_by, folded_by, goes_by, stays_by, number_by, move_atom, move_atoms, kept_by, moved_by, Placing, placing, move_bond, move_bonds}
use Rattle.folding.proofs.Ranks.{rank-none, rank-more, rank-true, rank-false, rank-low}
use Rattle.folding.proofs.Packed.{packed_none, packed_more, packed-after}
use Rattle.folding.proofs.Neighbours.{order-positive, neighbour-below}
use Rattle.folding.proofs.Plain.{is-cell, heavy-plain, to_none, to-more}
use Rattle.folding.proofs.Merged.{first-stays, second-stays}
use Rattle.folding.proofs.Again.{merged-still}

-- ---- no hydrogen: nothing folds
heavy-cell : (t : List ℤ) (a : ℕ) → is_heavy t a ≡ true → is_cell t a ELEMENT 1 ≡ false
unfolding number
heavy-cell t a h = go (is_cell t a ELEMENT 1) refl
  where
    go : (z : Bool) → is_cell t a ELEMENT 1 ≡ z → z ≡ false
    go true e = absurd (let q : element t a ≡ 1 = ap number (is-cell t a ELEMENT 1 e) in eqb-false (element t a) 1 (not-true (eqb (element t a) 1) h) q)
    go false e = refl

pub heavy-merged : (x : Molecule) → Complete x → no_hydrogen x.atoms x.n ≡ true → merged x ≡ x
unfolding no_hydrogen folds
heavy-merged x c h = merged-still x c (λ a l. rw (heavy-plain x.atoms x.bonds x.m a (heavy-cell x.atoms a (each_at (is_heavy x.atoms) x.n a h l))))

-- ---- links, bond by bond
pub link-none : (bonds : List ℤ) (a : ℕ) → link bonds 0 a ≡ 0
unfolding link run
link-none bonds a = refl

pub link-more : (bonds : List ℤ) (b a : ℕ) → link bonds (suc b) a ≡ link_with bonds a b (link bonds b a)
unfolding link
link-more bonds b a = let e : 0 + b ≡ b = omega arith in rw e at (run-last (link_with bonds a) 0 b 0)

-- the bonds at an atom, with one more
from_last : (bonds : List ℤ) (a b m : ℕ) → bonds_from bonds a b (suc m) ≡ bonds_from bonds a b m ++ pick (touches bonds a (b + m)) ((b + m) ∷ []) []
unfolding bonds_from
from_last bonds a b zero = let e : b + 0 ≡ b = omega arith in rw e
from_last bonds a b (suc m) = let e : b + suc m ≡ suc b + m = omega arith in rw e (go (touches bonds a b) (from_last bonds a (suc b) m))
  where
    go : (z : Bool) → bonds_from bonds a (suc b) (suc m) ≡ bonds_from bonds a (suc b) m ++ pick (touches bonds a (suc b + m)) ((suc b + m) ∷ []) []
        → pick z (b ∷ bonds_from bonds a (suc b) (suc m)) (bonds_from bonds a (suc b) (suc m)) ≡ pick z (b ∷ bonds_from bonds a (suc b) m) (bonds_from bonds a (suc b) m) ++ pick (touches bonds a (suc b + m)) ((suc b + m) ∷ []) []
    go true ih = ap (λ (l : List ℕ). b ∷ l) ih
    go false ih = ih

at_last : (bonds : List ℤ) (a m : ℕ) → bonds_at bonds (suc m) a ≡ bonds_at bonds m a ++ pick (touches bonds a m) (m ∷ []) []
unfolding bonds_at
at_last bonds a m = let e : 0 + m ≡ m = omega arith in rw e at (from_last bonds a 0 m)

empty-list : (l : List ℕ) → length l ≡ 0 → l ≡ []
empty-list [] e = refl
empty-list (c ∷ l) e = absurd (omega arith)

append-none : (l : List ℕ) → l ++ [] ≡ l
append-none [] = refl
append-none (c ∷ l) = ap (λ (r : List ℕ). c ∷ r) (append-none l)

first-near : (bonds : List ℤ) (a m : ℕ) → bond_degree bonds m a ≡ 0 → touches bonds a m ≡ true → neighbour bonds (suc m) a ≡ other_end bonds a m
unfolding neighbour
first-near bonds a m e h =
    let q : bonds_at bonds m a ≡ [] = empty-list (bonds_at bonds m a) (bonds-length bonds a m ∙ e) in
    let r : bonds_at bonds (suc m) a ≡ m ∷ [] = at_last bonds a m ∙ rw (h, q) in
    rw r

same-near : (bonds : List ℤ) (a m : ℕ) → touches bonds a m ≡ false → neighbour bonds (suc m) a ≡ neighbour bonds m a
unfolding neighbour
same-near bonds a m h = let r : bonds_at bonds (suc m) a ≡ bonds_at bonds m a = at_last bonds a m ∙ rw h (append-none (bonds_at bonds m a)) in rw r

-- what a link says of the first b bonds
data Told (bonds : List ℤ) (a b : ℕ) : ℕ → Type 0 where
  no-bond : bond_degree bonds b a ≡ 0 → bond_sum bonds b a ≡ 0 → Told bonds a b 0
  one-bond : bond_degree bonds b a ≡ 1 → bond_sum bonds b a ≡ 1 → Told bonds a b (neighbour bonds b a + 1)
  more : 1 < bond_sum bonds b a → Told bonds a b none

sum-none : (bonds : List ℤ) (a : ℕ) → bond_sum bonds 0 a ≡ 0
unfolding bond_sum run
sum-none bonds a = refl

module _ (x : Molecule) (v : Valid x.atoms x.bonds x.n x.m) (a : ℕ) where
  abbrev bonds : List ℤ
  bonds = x.bonds

  degree-suc : (b : ℕ) (z : Bool) → touches bonds a b ≡ z → bond_degree bonds (suc b) a ≡ bond_degree bonds b a + pick z 1 0
  degree-suc b z e = rw (add-one b) at (degree-more bonds b a) ∙ ap (λ (z : Bool). bond_degree bonds b a + pick z 1 0) e

  sum-suc : (b : ℕ) (z : Bool) → touches bonds a b ≡ z → bond_sum bonds (suc b) a ≡ bond_sum bonds b a + pick z (order (kind bonds b)) 0
  unfolding share
  sum-suc b z e = rw (add-one b) at (sum_more bonds b a) ∙ ap (λ (z : Bool). bond_sum bonds b a + pick z (order (kind bonds b)) 0) e

  told-step : (b k : ℕ) → b < x.m → Told bonds a b k → Told bonds a (suc b) (link_with bonds a b k)
  told-step b k l w = go (touches bonds a b) refl k w
    where
      o : ℕ
      o = order (kind bonds b)

      positive : 0 < o
      positive = order-positive (kind bonds b) (kind-small v b l)

      first : (z : Bool) → eqb o 1 ≡ z → touches bonds a b ≡ true → bond_degree bonds b a ≡ 0 → bond_sum bonds b a ≡ 0 → Told bonds a (suc b) (pick z (other_end bonds a b + 1) none)
      first true q e p s =
          let n = first-near bonds a b p e in
          let r = eqb-true o 1 q in
          rw (sym n) (one-bond (let u = degree-suc b true e in omega arith) (let u = sum-suc b true e in omega arith))
      first false q e p s = more (let u = sum-suc b true e in let r = eqb-false o 1 q in let t = positive in omega arith)

      go : (z : Bool) → touches bonds a b ≡ z → (k : ℕ) → Told bonds a b k → Told bonds a (suc b) (pick z (linked k (other_end bonds a b) o) k)
      go true e k (no-bond p s) = first (eqb o 1) refl e p s
      go true e k (one-bond p s) = rw (ne_eqb (neighbour bonds b a + 1) 0 (λ q. omega arith)) (more (let u = sum-suc b true e in let t = positive in omega arith))
      go true e k (more s) = more (let u = sum-suc b true e in omega arith)
      go false e k (no-bond p s) = no-bond (let u = degree-suc b false e in omega arith) (let u = sum-suc b false e in omega arith)
      go false e k (one-bond p s) =
          let n = same-near bonds a b e in
          rw (sym n) (one-bond (let u = degree-suc b false e in omega arith) (let u = sum-suc b false e in omega arith))
      go false e k (more s) = more (let u = sum-suc b false e in omega arith)

  told : (b : ℕ) → b ≤ x.m → Told bonds a b (link bonds b a)
  told zero l = rw (link-none bonds a) (no-bond (degree-none bonds a) (sum-none bonds a))
  told (suc b) l = rw (link-more bonds b a) (told-step b (link bonds b a) (omega arith) (told b (omega arith)))

  -- so it tells who folds, and into whom
  parts : (r : Bool) (d s : ℕ) (h u : Bool) → (((r && eqb d 1 && eqb s 1) && h) && u) ≡ (r && ((eqb d 1 && eqb s 1) && (h && u)))
  parts true d s h u = go (eqb d 1) (eqb s 1) h u
    where
      go : (p q h u : Bool) → (((p && q) && h) && u) ≡ ((p && q) && (h && u))
      go true true h u = refl
      go true false h u = refl
      go false q h u = refl
  parts false d s h u = refl

  link-folds : (t : List ℤ) → folds_by (link bonds x.m a) a t ≡ folds bonds x.m a t
  unfolding folds_by takes_one folds plain_hydrogen
  link-folds t =
      go (link bonds x.m a) (told x.m (omega arith))
      ∙ sym (parts (plain_row t a) (bond_degree bonds x.m a) (bond_sum bonds x.m a) (not (is_cell t (neighbour bonds x.m a) ELEMENT 1)) (ltb (hydrogens t (neighbour bonds x.m a)) 9))
    where
      p : ℕ
      p = neighbour bonds x.m a

      taken : ℕ → Bool
      taken i = not (is_cell t i ELEMENT 1) && ltb (hydrogens t i) 9

      go : (k : ℕ) → Told bonds a x.m k → (plain_row t a && (not (eqb k 0) && (leb k max_atoms && taken (k - 1)))) ≡ (plain_row t a && ((eqb (bond_degree bonds x.m a) 1 && eqb (bond_sum bonds x.m a) 1) && taken p))
      go k (no-bond d s) = rw d
      go k (one-bond d s) =
          let l = neighbour-below x v a d in
          let e : (p + 1) - 1 ≡ p = omega arith in
          rw (d, s, ne_eqb (p + 1) 0 (λ q. omega arith), le-leb (p + 1) max_atoms (let f = v.atoms_few in omega arith), e)
      go k (more s) = none-one (bond_degree bonds x.m a) (bond_sum bonds x.m a) s
        where
          none-one : (d s : ℕ) → 1 < s → (plain_row t a && false) ≡ (plain_row t a && ((eqb d 1 && eqb s 1) && taken p))
          none-one d s l = rw (ne_eqb s 1 (λ q. omega arith)) (ap (λ (z : Bool). plain_row t a && (z && taken p)) (ends (eqb d 1)))
            where
              ends : (z : Bool) → false ≡ (z && false)
              ends true = refl
              ends false = refl

  link_near : (t : List ℤ) → folds_by (link bonds x.m a) a t ≡ true → link bonds x.m a - 1 ≡ neighbour bonds x.m a
  unfolding folds_by
  link_near t h = go (link bonds x.m a) (told x.m (omega arith)) h
    where
      never : (r : Bool) → (r && false) ≡ true → ⊥
      never true e = let z : ◌≡◌ {A = ℕ} 0 1 = cc in omega arith
      never false e = let z : ◌≡◌ {A = ℕ} 0 1 = cc in omega arith

      go : (k : ℕ) → Told bonds a x.m k → (plain_row t a && (not (eqb k 0) && (leb k max_atoms && takes_one t (k - 1)))) ≡ true → k - 1 ≡ neighbour bonds x.m a
      go k (no-bond d s) e = absurd (never (plain_row t a) e)
      go k (one-bond d s) e = omega arith
      go k (more s) e = absurd (never (plain_row t a) e)

  pub link-fold : (t : List ℤ) → fold_by (link bonds x.m a) a t ≡ fold_into bonds x.m a t
  unfolding fold_into
  link-fold t = go (folds_by (link bonds x.m a) a t) refl
    where
      go : (z : Bool) → folds_by (link bonds x.m a) a t ≡ z → pick z (one_more (link bonds x.m a - 1) t) t ≡ pick (folds bonds x.m a t) (one_more (neighbour bonds x.m a) t) t
      go true e = rw (sym (link-folds t) ∙ e, link_near t e)
      go false e = rw (sym (link-folds t) ∙ e)

-- ---- the pass over the bonds
abbrev pub links_to : List ℤ → ℕ → ℕ → List ℕ
links_to bonds b len = up_to (link bonds b) 0 len

zeros-from : (bonds : List ℤ) (k len : ℕ) → replicate len 0 ≡ up_to (link bonds 0) k len
unfolding up_to
zeros-from bonds k zero = refl
zeros-from bonds k (suc len) = ap (λ (r : List ℕ). 0 ∷ r) (zeros-from bonds (suc k) len) ∙ ap (λ (i : ℕ). i ∷ up_to (link bonds 0) (suc k) len) (sym (link-none bonds k))

pub links-start : (bonds : List ℤ) {s : List ℕ} → s ≡ replicate (length s) 0 → s ≡ links_to bonds 0 (length s)
links-start bonds {s} e = e ∙ zeros-from bonds 0 (length s)

pub links-length : (bonds : List ℤ) (b len : ℕ) {s : List ℕ} → s ≡ links_to bonds b len → length s ≡ len
links-length bonds b len e = ap length e ∙ length-up_to (link bonds b) 0 len

-- the ends of valid bonds
pub ends : {atoms bonds : List ℤ} {n m len : ℕ} → Valid atoms bonds n m → n ≤ len → Ends bonds m len
ends v l = record { few = v.bonds_few; order = λ b k. (bond-row v b k).order; second = λ b k. omega (arith, (bond-row v b k).second); limit = λ b k. omega (arith, (bond-row v b k).second, v.atoms_few) }

module _ (bonds : List ℤ) (b len : ℕ) {s s1 s2 : List ℕ} {e f o u1 u2 : ℕ} (h : s ≡ links_to bonds b len) (pe : e ≡ end1 bonds b) (pf : f ≡ end2 bonds b) (po : o ≡ order (kind bonds b)) (l : e < f) (r : f < len)
    (q1 : u1 ≡ linked (get_or s e 0) f o) (w1 : s1 ≡ set s e u1) (q2 : u2 ≡ linked (get_or s1 f 0) e o) (w2 : s2 ≡ set s1 f u2) where
  long : length s ≡ len
  long = links-length bonds b len h

  long1 : length s1 ≡ len
  long1 = ap length w1 ∙ length-set s e u1 ∙ long

  was : (i : ℕ) → i < len → get_or s i 0 ≡ link bonds b i
  was i k = ap (λ (t : List ℕ). get_or t i 0) h ∙ up_to-at (link bonds b) len i 0 k

  apart : (i : ℕ) → (i ≡ e → ⊥) → get_or s1 i 0 ≡ get_or s i 0
  apart i n = ap (λ (t : List ℕ). get_or t i 0) w1 ∙ get_or-set_other s e i u1 0 n

  apart2 : (i : ℕ) → (i ≡ f → ⊥) → get_or s2 i 0 ≡ get_or s1 i 0
  apart2 i n = ap (λ (t : List ℕ). get_or t i 0) w2 ∙ get_or-set_other s1 f i u2 0 n

  -- each atom's link with the bond b
  now : (i : ℕ) → i < len → get_or s2 i 0 ≡ link_with bonds i b (link bonds b i)
  unfolding touches
  now i k = go (eqb e i) refl (eqb f i) refl
    where
      go : (y : Bool) → eqb e i ≡ y → (z : Bool) → eqb f i ≡ z → get_or s2 i 0 ≡ link_with bonds i b (link bonds b i)
      go true p z g =
          let a = eqb-true e i p in
          let t : eqb (end1 bonds b) i ≡ true = rw (sym pe) p in
          apart2 i (λ q. omega arith)
          ∙ ap (λ (t : List ℕ). get_or t i 0) w1
          ∙ rw (sym a) (get_or-set_same s e u1 0 (let n = long in omega arith))
          ∙ q1
          ∙ rw (t, sym pf, sym po, sym (was i k), a)
      go false p true g =
          let a = eqb-true f i g in
          let t : eqb (end1 bonds b) i ≡ false = rw (sym pe) p in
          let u : eqb (end2 bonds b) i ≡ true = rw (sym pf) g in
          ap (λ (t : List ℕ). get_or t i 0) w2
          ∙ rw (sym a) (get_or-set_same s1 f u2 0 (let n = long1 in omega arith))
          ∙ q2
          ∙ ap (λ (k : ℕ). linked k e o) (apart f (λ q. omega arith))
          ∙ rw (t, u, sym pe, sym po, sym (was i k), a)
      go false p false g =
          let t : eqb (end1 bonds b) i ≡ false = rw (sym pe) p in
          let u : eqb (end2 bonds b) i ≡ false = rw (sym pf) g in
          apart2 i (λ q. eqb-false f i g (sym q)) ∙ apart i (λ q. eqb-false e i p (sym q)) ∙ was i k ∙ rw (t, u)

  pub links-step : s2 ≡ links_to bonds (b + 1) len
  links-step =
      let n : length s2 ≡ len = ap length w2 ∙ length-set s1 f u2 ∙ long1 in
      ext_get_or 0 s2 (links_to bonds (b + 1) len) (n ∙ sym (length-up_to (link bonds (b + 1)) 0 len))
      (λ i k. let m : i < len = omega arith in now i m ∙ sym (link-more bonds b i) ∙ ap (λ (c : ℕ). link bonds c i) (sym (add-one b)) ∙ sym (up_to-at (link bonds (b + 1)) len i 0 m))

-- ---- the turns
pub by-none : (links : List ℕ) (t : List ℤ) → folded_by links t 0 ≡ t
unfolding folded_by run
by-none links t = refl

pub by-more : (links : List ℕ) (t : List ℤ) (a : ℕ) → folded_by links t (suc a) ≡ fold_by (get_or links a 0) a (folded_by links t a)
unfolding folded_by
by-more links t a = let e : 0 + a ≡ a = omega arith in rw e at (run-last (λ b. fold_by (get_or links b 0) b) 0 a t)

-- the loop over the atoms stands at i
pub record Turned (links : List ℕ) (t₀ : List ℤ) (n i : ℕ) (t : List ℤ) (k : ℕ) : Type 0 where
  pub within : i ≤ n
  pub table : t ≡ folded_by links t₀ i
  pub count : k ≡ how_many (stays_by links t₀) 0 i

pub turned-start : {links : List ℕ} {t : List ℤ} {n : ℕ} → Turned links t n 0 t 0
unfolding how_many
turned-start {links} {t} = record { within = omega arith; table = sym (by-none links t); count = refl }

module _ {links : List ℕ} {t₀ t : List ℤ} {n i k : ℕ} (w : Turned links t₀ n i t k) where
  pub turned-low : k ≤ i
  turned-low = let p = rank-low (stays_by links t₀) i in let q = w.count in omega arith

  turned-goes : folds_by (get_or links i 0) i t ≡ goes_by links t₀ i
  unfolding goes_by
  turned-goes = ap (folds_by (get_or links i 0) i) w.table

  stay-next : (z : Bool) → goes_by links t₀ i ≡ z → pick z k (k + 1) ≡ how_many (stays_by links t₀) 0 (i + 1)
  stay-next true e = let p = rank-more (stays_by links t₀) i in let q : ◌≡◌ {A = ℕ} (pick (stays_by links t₀ i) 1 0) 0 = ap (λ (z : Bool). pick {A = ℕ} (not z) 1 0) e in rw (add-one i) (omega (arith, w.count))
  stay-next false e = let p = rank-more (stays_by links t₀) i in let q : ◌≡◌ {A = ℕ} (pick (stays_by links t₀ i) 1 0) 1 = ap (λ (z : Bool). pick {A = ℕ} (not z) 1 0) e in rw (add-one i) (omega (arith, w.count))

  pub turned-number : {gone : Bool} {c : ℕ} → gone ≡ folds_by (get_or links i 0) i t → c ≡ pick gone none k → c ≡ number_by links t₀ i
  turned-number e g = g ∙ rw (e ∙ turned-goes, w.count)

  pub turned-step : {gone : Bool} {u : List ℤ} {j : ℕ} → i < n → gone ≡ folds_by (get_or links i 0) i t → u ≡ fold_by (get_or links i 0) i t → j ≡ pick gone k (k + 1) → Turned links t₀ n (i + 1) u j
  turned-step h e f g =
      record {
        within = omega arith;
        table = rw (add-one i) (f ∙ rw w.table (sym (by-more links t₀ i)));
        count = g ∙ ap (λ (z : Bool). pick z k (k + 1)) (e ∙ turned-goes) ∙ stay-next (goes_by links t₀ i) refl;
      }

  pub turned-end : n ≤ i → (k ≡ how_many (stays_by links t₀) 0 n) × (t ≡ folded_by links t₀ n)
  turned-end h = let q : i ≡ n = let p = w.within in omega arith in (rw q at w.count, rw q at w.table)

-- ---- a row is written cell by cell
atoms_cells : (t : List ℤ) (k : ℕ) (r : Atom) → with_atom t k r ≡ sets t (atom_cells * k) (cells_of r)
unfolding with_atom
atoms_cells t k r = refl

bonds_cells : (t : List ℤ) (k : ℕ) (r : Bond) → with_bond t k r ≡ sets t (bond_cells * k) (bond_cells_of r)
unfolding with_bond
bonds_cells t k r = refl

-- ---- the rows of atoms
pub moved_none : (numbers : List ℕ) (t : List ℤ) → move_atoms numbers 0 t ≡ t
unfolding move_atoms run
moved_none numbers t = refl

pub moved_more : (numbers : List ℕ) (n : ℕ) (t : List ℤ) → move_atoms numbers (suc n) t ≡ move_atom (get_or numbers n none) n (move_atoms numbers n t)
unfolding move_atoms
moved_more numbers n t = let e : 0 + n ≡ n = omega arith in rw e at (run-last (λ a. move_atom (get_or numbers a none) a) 0 n t)

-- ---- the rows of bonds
pub bonds-none : (numbers : List ℕ) (t : List ℤ) → move_bonds numbers 0 t ≡ placing t 0
unfolding move_bonds run
bonds-none numbers t = refl

pub bonds-more : (numbers : List ℕ) (m : ℕ) (t : List ℤ) → move_bonds numbers (suc m) t ≡ move_bond numbers m (move_bonds numbers m t)
unfolding move_bonds
bonds-more numbers m t = let e : 0 + m ≡ m = omega arith in rw e at (run-last (move_bond numbers) 0 m (placing t 0))

-- ---- the definition's
module _ (x : Molecule) (c : Complete x) (links : List ℕ) (len : ℕ) (room : x.n ≤ len) (Linked-up : links ≡ links_to x.bonds x.m len) where
  link_at : (a : ℕ) → a < x.n → get_or links a 0 ≡ link x.bonds x.m a
  link_at a l = ap (λ (t : List ℕ). get_or t a 0) Linked-up ∙ up_to-at (link x.bonds x.m) len a 0 (omega arith)

  by-to : (a : ℕ) → a ≤ x.n → folded_by links x.atoms a ≡ folded_to x a
  by-to zero l = by-none links x.atoms ∙ sym (to_none x)
  by-to (suc a) l =
      by-more links x.atoms a
      ∙ rw (by-to a (omega arith), link_at a l) (link-fold x c.valid a (folded_to x a))
      ∙ sym (to-more x a)

  by-goes : (a : ℕ) → a < x.n → goes_by links x.atoms a ≡ goes x a
  unfolding goes_by goes
  by-goes a l = rw (by-to a (omega arith), link_at a l) (link-folds x c.valid a (folded_to x a))

  by-new : (a : ℕ) → a ≤ x.n → how_many (stays_by links x.atoms) 0 a ≡ new_atom x a
  by-new a l = many-same (stays_by links x.atoms) (stays x) a (λ j k. ap not (by-goes j (omega arith)))

  -- the new numbers, in a buffer
  module _ (numbers rest : List ℕ) (filled : numbers ≡ up_to (number_by links x.atoms) 0 x.n ++ rest) where
    number_at : (a : ℕ) → a < x.n → get_or numbers a none ≡ pick (goes x a) none (new_atom x a)
    number_at a l = filled_at (number_by links x.atoms) x.n a none numbers rest filled l ∙ rw (by-goes a l, by-new a (omega arith))

    number-stays : (a : ℕ) → a < x.n → ltb (get_or numbers a none) max_atoms ≡ stays x a
    number-stays a l = ap (λ (k : ℕ). ltb k max_atoms) (number_at a l) ∙ go (goes x a)
      where
        go : (z : Bool) → ltb (pick z none (new_atom x a)) max_atoms ≡ not z
        go true = le-ltb none max_atoms (omega arith)
        go false = lt-ltb (new_atom x a) max_atoms (let p = rank-low (stays x) a in let q = c.valid.atoms_few in omega arith)

    number-new : (a : ℕ) → a < x.n → stays x a ≡ true → get_or numbers a none ≡ new_atom x a
    number-new a l h = number_at a l ∙ rw (not-true (goes x a) h)

    -- the rows of atoms
    module _ (t : List ℤ) where
      abbrev row : ℕ → List ℤ
      row a = cells_of (atom_row t a)

      row-there : (a : ℕ) → atom_row (packed atom_cells (stays x) row a t) a ≡ atom_row t a
      row-there a =
          same-atom-row (packed atom_cells (stays x) row a t) t a
          (λ f l. packed-after atom_cells (stays x) row (λ a. refl) a (atom_cells * a + f) t (let p = rank-low (stays x) a in omega arith))

      pub moved-packed : (a : ℕ) → a ≤ x.n → move_atoms numbers a t ≡ packed atom_cells (stays x) row a t
      moved-packed zero l = moved_none numbers t ∙ sym (packed_none atom_cells (stays x) row t)
      moved-packed (suc a) l = moved_more numbers a t ∙ ap (move_atom (get_or numbers a none) a) (moved-packed a (omega arith)) ∙ go (stays x a) refl ∙ sym (packed_more atom_cells (stays x) row a t)
        where
          P : List ℤ
          P = packed atom_cells (stays x) row a t

          go : (z : Bool) → stays x a ≡ z → move_atom (get_or numbers a none) a P ≡ pick z (sets P (atom_cells * how_many (stays x) 0 a) (row a)) P
          go true e =
              ap (λ (z : Bool). pick z (with_atom P (get_or numbers a none) (atom_row P a)) P) (number-stays a (omega arith) ∙ e)
              ∙ ap (λ (k : ℕ). with_atom P k (atom_row P a)) (number-new a (omega arith) e)
              ∙ ap (with_atom P (new_atom x a)) (row-there a)
              ∙ atoms_cells P (new_atom x a) (atom_row t a)
          go false e = ap (λ (z : Bool). pick z (with_atom P (get_or numbers a none) (atom_row P a)) P) (number-stays a (omega arith) ∙ e)

    -- the rows of bonds
    abbrev bond-row-of : ℕ → List ℤ
    bond-row-of b = bond_cells_of (moved_bond x b)

    bond-there : (b f : ℕ) → bond_cell (packed bond_cells (bond_stays x) bond-row-of b x.bonds) b f ≡ bond_cell x.bonds b f
    bond-there b f = packed-after bond_cells (bond_stays x) bond-row-of (λ b. refl) b (bond_cells * b + f) x.bonds (let p = rank-low (bond_stays x) b in omega arith)

    kept-stays : (b : ℕ) → b < x.m → kept_by numbers b (packed bond_cells (bond_stays x) bond-row-of b x.bonds) ≡ bond_stays x b
    unfolding kept_by bond_stays
    kept-stays b l = rw (bond-there b FIRST, bond-there b SECOND, number-stays (end1 x.bonds b) (first-end c.valid b l), number-stays (end2 x.bonds b) (second-end c.valid b l))

    move_step : (b k : ℕ) (t : List ℤ) → move_bond numbers b (placing t k) ≡ pick (kept_by numbers b t) (placing (with_bond t k (moved_by numbers b t)) (k + 1)) (placing t k)
    unfolding move_bond
    move_step b k t = refl

    moved_same : (b : ℕ) → b < x.m → bond_stays x b ≡ true → moved_by numbers b (packed bond_cells (bond_stays x) bond-row-of b x.bonds) ≡ moved_bond x b
    moved_same b l h =
        rw (
          bond-there b FIRST,
          bond-there b SECOND,
          bond-there b KIND,
          number-new (end1 x.bonds b) (first-end c.valid b l) (first-stays x b h),
          number-new (end2 x.bonds b) (second-end c.valid b l) (second-stays x b h),
        )

    pub bonds-packed : (b : ℕ) → b ≤ x.m → move_bonds numbers b x.bonds ≡ placing (packed bond_cells (bond_stays x) bond-row-of b x.bonds) (new_bond x b)
    bonds-packed zero l = bonds-none numbers x.bonds ∙ (let p = sym (packed_none bond_cells (bond_stays x) bond-row-of x.bonds) in let q = sym (rank-none (bond_stays x)) in λ i. placing (p i) (q i))
    bonds-packed (suc b) l =
        bonds-more numbers b x.bonds ∙ ap (move_bond numbers b) (bonds-packed b (omega arith)) ∙ move_step b k P ∙ ap (λ (z : Bool). pick z (placing (with_bond P k (moved_by numbers b P)) (k + 1)) (placing P k)) (kept-stays b l) ∙ go (bond_stays x b) refl
      where
        P : List ℤ
        P = packed bond_cells (bond_stays x) bond-row-of b x.bonds

        k : ℕ
        k = new_bond x b

        there : packed bond_cells (bond_stays x) bond-row-of (suc b) x.bonds ≡ placed bond_cells (bond_stays x) bond-row-of b P
        there = packed_more bond_cells (bond_stays x) bond-row-of b x.bonds

        go : (z : Bool) → bond_stays x b ≡ z → pick z (placing (with_bond P k (moved_by numbers b P)) (k + 1)) (placing P k) ≡ placing (packed bond_cells (bond_stays x) bond-row-of (suc b) x.bonds) (new_bond x (suc b))
        go true e =
            let p : with_bond P k (moved_by numbers b P) ≡ packed bond_cells (bond_stays x) bond-row-of (suc b) x.bonds =
            ap (with_bond P k) (moved_same b l e) ∙ bonds_cells P k (moved_bond x b) ∙ sym (there ∙ ap (λ (z : Bool). pick z (sets P (bond_cells * k) (bond-row-of b)) P) e) in
            let q : k + 1 ≡ new_bond x (suc b) = let r = rank-true (bond_stays x) b e in omega arith in
            λ i. placing (p i) (q i)
        go false e =
            let p : P ≡ packed bond_cells (bond_stays x) bond-row-of (suc b) x.bonds = sym (there ∙ ap (λ (z : Bool). pick z (sets P (bond_cells * k) (bond-row-of b)) P) e) in
            let q : k ≡ new_bond x (suc b) = sym (rank-false (bond_stays x) b e) in
            λ i. placing (p i) (q i)

    -- all together
    pub merged_by : {t : List ℤ} {k : ℕ} {u w : List ℤ} {j : ℕ} → t ≡ folded_by links x.atoms x.n → k ≡ how_many (stays_by links x.atoms) 0 x.n → u ≡ move_atoms numbers x.n t → placing w j ≡ move_bonds numbers x.m x.bonds → molecule u w k j ≡ merged x
    unfolding merged
    merged_by {t} {k} {u} {w} {j} e f g h =
        let T : t ≡ folded_to x x.n = e ∙ by-to x.n (omega arith) in
        let p : u ≡ packed atom_cells (stays x) (λ a. cells_of (atom_row (folded_to x x.n) a)) x.n (folded_to x x.n) = g ∙ ap (move_atoms numbers x.n) T ∙ moved-packed (folded_to x x.n) x.n (omega arith) in
        let B : placing w j ≡ placing (packed bond_cells (bond_stays x) bond-row-of x.m x.bonds) (new_bond x x.m) = h ∙ bonds-packed x.m (omega arith) in
        let q : w ≡ packed bond_cells (bond_stays x) bond-row-of x.m x.bonds = ap (λ (s : Placing). s.table) B in
        let r : k ≡ new_atom x x.n = f ∙ by-new x.n (omega arith) in
        let s : j ≡ new_bond x x.m = ap (λ (s : Placing). s.next) B in
        λ i. record { atoms = p i; bonds = q i; n = r i; m = s i }
