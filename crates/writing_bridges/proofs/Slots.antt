-- The array of slots does what the list of slots does. Assumes nothing.
use Prim.Native.Nat.{ℕ, suc, ◌+◌, ◌<◌, ◌≤◌}
use native.Mathlib.Omega.{arith}
use native.Mathlib.Numerals.{add-one}
use mathlib.Core.Path.{◌≡◌, refl, sym, ap, ◌∙◌, subst}
use mathlib.Core.Bool.{Bool, true, false, cond}
use mathlib.Core.List.{List, ◌∷◌}
use lib.ListN.{length, get_or, set, drop_of_length-le}
use lib.Seq.{drop-cons}
use lib.Dec.{eqb}
use borrow.Author.Tests.{eq-eqb, ne_eqb, eqb-true, eqb-false}
use Rattle.loops.specs.Loop.{pick}
use Rattle.writing_walk.specs.Token.{Bond, eq_bond}
use Rattle.writing_walk.specs.Emit.{Slot, free, held, find, release, lowest, insert}
use Rattle.writing_walk.proofs.Count.{bit, count, bond-eq, bond-same, never}
use Rattle.writing_walk.proofs.Read.{open_of}
use Rattle.writing_bridges.specs.Slots.{index_of, Looked, Slots, end, rest, gap, full, Bridged}

pub looked-start : {x : ℕ} {l : List ℕ} → Looked x l 0
looked-start = record { within = omega arith; same = omega arith }

module _ {x : ℕ} {l : List ℕ} {i : ℕ} (s : Looked x l i) where
  pub looked-hit : i < length l → get_or l i 0 ≡ x → i ≡ index_of x l
  unfolding index_of
  looked-hit h e = sym (s.same ∙ rw (drop-cons l i 0 h, eq-eqb (get_or l i 0) x e) (omega arith))

  pub looked-pass : i < length l → (get_or l i 0 ≡ x → ⊥) → Looked x l (i + 1)
  unfolding index_of
  looked-pass h e = record { within = omega arith; same = s.same ∙ rw (drop-cons l i 0 h, ne_eqb (get_or l i 0) x e, add-one i) (omega arith) }

  pub looked-end : length l ≤ i → i ≡ index_of x l
  unfolding index_of
  looked-end h = sym (s.same ∙ rw (drop_of_length-le l h) (omega arith))

-- the first two slots
module _ (x : ℕ) (l : List ℕ) (h : 2 ≤ length l) where
  pub looked-first : get_or l 0 0 ≡ x → 0 ≡ index_of x l
  looked-first e = looked-hit looked-start (omega arith) e

  module _ (e : get_or l 0 0 ≡ x → ⊥) where
    one : Looked x l 1
    one = looked-pass looked-start (omega arith) e

    pub looked-second : get_or l 1 0 ≡ x → 1 ≡ index_of x l
    looked-second f = looked-hit one (omega arith) f

    pub looked-two : (get_or l 1 0 ≡ x → ⊥) → Looked x l 2
    looked-two f = looked-pass one (omega arith) f

-- equal bonds have equal numbers
pub same_number : {f : ℕ → Bond} {n k : ℕ} {los his : List ℕ} → Bridged f n k los his → (i j : ℕ) → i < k → j < k → eq_bond (f i) (f j) ≡ eqb i j
same_number {f} b i j h g = go (eq_bond (f i) (f j)) refl
  where
    go : (t : Bool) → eq_bond (f i) (f j) ≡ t → t ≡ eqb i j
    go true e = let q = bond-eq (f i) (f j) e in sym (eq-eqb i j (b.apart i j h g (ap (λ (x : Bond). x.lo) q) (ap (λ (x : Bond). x.hi) q)))
    go false e = sym (ne_eqb i j (λ q. never (eq_bond (f i) (f j)) (subst (λ (x : ℕ). eq_bond (f i) (f x) ≡ true) q (bond-same (f i))) e))

module _ (f : ℕ → Bond) (k : ℕ) where
  -- the lowest free slot
  pub lowest-index : {a : List ℕ} {t : List Slot} → Slots f k a t → index_of 0 a ≡ lowest t
  unfolding index_of
  lowest-index end = refl
  lowest-index (rest s) = refl
  lowest-index (gap s) = refl
  lowest-index (full i h s) = rw (ne_eqb (suc i) 0 (omega arith)) (ap suc (lowest-index s))

  pub slots-insert : {a : List ℕ} {t : List Slot} (i : ℕ) → i < k → Slots f k a t → lowest t < length a → Slots f k (set a (lowest t) (suc i)) (insert (f i) t)
  slots-insert i h end l = absurd (omega arith)
  slots-insert i h (rest s) l = full i h s
  slots-insert i h (gap s) l = full i h s
  slots-insert i h (full j g s) l = full j g (slots-insert i h s (omega arith))

  module _ (same : (i j : ℕ) → i < k → j < k → eq_bond (f i) (f j) ≡ eqb i j) (i : ℕ) (h : i < k) where
    abbrev Open : List Slot → Type 0
    Open t = 0 < count (eq_bond (f i)) (open_of t)

    -- the slot of an open bond
    pub find-index : {a : List ℕ} {t : List Slot} → Slots f k a t → Open t → (index_of (suc i) a ≡ find (f i) t) × (find (f i) t < length a)
    unfolding index_of
    find-index end o = absurd (omega arith)
    find-index (rest s) o = absurd (omega arith)
    find-index (gap s) o = let r = find-index s o in (rw (ne_eqb 0 (suc i) (omega arith)) (ap suc r.0), omega arith)
    find-index (full {a} {t} j g s) o = go (eqb i j) refl o (λ z. find-index s z)
      where
        go : (e : Bool) → eqb i j ≡ e → 0 < bit (eq_bond (f i) (f j)) + count (eq_bond (f i)) (open_of t) → (Open t → (index_of (suc i) a ≡ find (f i) t) × (find (f i) t < length a))
            → (pick (eqb (suc j) (suc i)) 0 (suc (index_of (suc i) a)) ≡ cond (eq_bond (f i) (f j)) 0 (suc (find (f i) t))) × (cond (eq_bond (f i) (f j)) 0 (suc (find (f i) t)) < suc (length a))
        go true e o r = let q = eqb-true i j e in (rw (same i j h g, e, eq-eqb (suc j) (suc i) (omega arith)), rw (same i j h g, e) (omega arith))
        go false e o r =
            let q = eqb-false i j e in
            let z : bit (eq_bond (f i) (f j)) ≡ 0 = ap bit (same i j h g ∙ e) in
            let w = r (omega arith) in
            (rw (same i j h g, e, ne_eqb (suc j) (suc i) (omega arith)) (ap suc w.0), rw (same i j h g, e) (omega arith))

    pub slots-release : {a : List ℕ} {t : List Slot} → Slots f k a t → Open t → Slots f k (set a (find (f i) t) 0) (release (f i) t)
    slots-release end o = absurd (omega arith)
    slots-release (rest s) o = absurd (omega arith)
    slots-release (gap s) o = gap (slots-release s o)
    slots-release (full {a} {t} j g s) o = go (eqb i j) refl o (λ z. slots-release s z)
      where
        go : (e : Bool) → eqb i j ≡ e → 0 < bit (eq_bond (f i) (f j)) + count (eq_bond (f i)) (open_of t) → (Open t → Slots f k (set a (find (f i) t) 0) (release (f i) t))
            → Slots f k (set (suc j ∷ a) (cond (eq_bond (f i) (f j)) 0 (suc (find (f i) t))) 0) (cond (eq_bond (f i) (f j)) (free ∷ t) (held (f j) ∷ release (f i) t))
        go true e o r = rw (same i j h g, e) (gap s)
        go false e o r =
            let z : bit (eq_bond (f i) (f j)) ≡ 0 = ap bit (same i j h g ∙ e) in
            rw (same i j h g, e) (full j g (r (omega arith)))
