-- A row is a matching by sums over the bonds that it chooses; so it stays one under a renumbering of the atoms that keeps their flags. Assumes nothing.
use mathlib.Core.Path.{◌≡◌, refl, sym, ap, ◌∙◌}
use mathlib.Core.Bool.{Bool, true, false, ◌&&◌, ◌||◌, not, cond}
use mathlib.Core.List.{List, [], ◌∷◌, map}
use Prim.Native.Nat.{ℕ, zero, suc, ◌+◌, ◌<◌}
use native.Mathlib.Omega.{arith}
use native.Mathlib.Nat.{zero-add}
use lib.Dec.{eqb, ltb}
use lib.ListN.{length, take, get_or, drop, get_or-eq_default}
use lib.Seq.{split_at, length-take-le}
use borrow.Author.Tests.{ne_eqb, eq-eqb, eqb-true, ltb-true, ltb-false}
use Rattle.kinds.specs.Kind.{turned}
use Rattle.kinds.proofs.Kind.{turned-elided}
use Rattle.loops.specs.Loop.{pick}
use Rattle.loops.proofs.Loops.{and_left, and_right}
use Rattle.matching.specs.Enumeration.{Row}
use Rattle.matching.specs.Graph.{flagged, induced, chosen_induced, count_if, degree, each_once, is_matching}
use Rattle.matching.specs.Graph.{Bond as Edge}
use Rattle.matching.proofs.Graph.{and_intro, once-at, at_once}
use Rattle.writing_walk.specs.Token.{Bond, bond}
use Rattle.writing_walk.specs.Walk.{place, renumber}
use Rattle.writing_walk.proofs.Count.{All, none, more}
use Rattle.writing_walk.proofs.Walk.{Inside}
use Rattle.writing_walk.proofs.Trip.{Renumbering, placed}
use Rattle.writing_walk.proofs.Sums.{weight_at, weight-place}
use Rattle.roundtrip_matchings.proofs.Chosen.{chosen_sum, Carried, sum-renamed}

-- a bond of the walk as matchings see it
abbrev pub edge : Bond → Edge
edge b = record { end1 = b.lo; end2 = b.hi; elided = eqb b.kind 0 }

-- 1 for a bond that no matching chooses
abbrev pub barred : List ℕ → Bond → ℕ
barred flags b = pick (induced flags (edge b)) 0 1

-- 1 for a bond at v
abbrev pub at_end : ℕ → Bond → ℕ
at_end v = weight_at (λ k. 1) v

-- a matching, by sums over the chosen bonds
pub record Matched (flags : List ℕ) (bs : List Bond) (r : Row) : Type 0 where
  pub allowed : chosen_sum (barred flags) bs r ≡ 0
  pub once_each : (v : ℕ) → flagged flags v ≡ true → chosen_sum (at_end v) bs r ≡ 1

induced-sum : (flags : List ℕ) (bs : List Bond) (r : Row) → chosen_induced flags (map edge bs) r ≡ eqb (chosen_sum (barred flags) bs r) 0
unfolding chosen_induced chosen_sum
induced-sum flags [] r = refl
induced-sum flags (b ∷ bs) [] = refl
induced-sum flags (b ∷ bs) (x ∷ r) = go (eqb x 0) (induced flags (edge b)) (chosen_sum (barred flags) bs r) (induced-sum flags bs r)
  where
    go : (z i : Bool) (s : ℕ) → chosen_induced flags (map edge bs) r ≡ eqb s 0 → ((z || i) && chosen_induced flags (map edge bs) r) ≡ eqb (pick z 0 (pick i 0 1) + s) 0
    go true i s e = e ∙ ap (λ (k : ℕ). eqb k 0) (sym (zero-add s))
    go false true s e = e ∙ ap (λ (k : ℕ). eqb k 0) (sym (zero-add s))
    go false false s e = sym (ne_eqb (1 + s) 0 (λ q. omega arith))

degree-sum : (bs : List Bond) (r : Row) (v : ℕ) → degree (map edge bs) r v ≡ chosen_sum (at_end v) bs r
unfolding degree chosen_sum
degree-sum [] r v = refl
degree-sum (b ∷ bs) [] v = refl
degree-sum (b ∷ bs) (x ∷ r) v = go (eqb x 0) (eqb b.lo v || eqb b.hi v) (degree-sum bs r v)
  where
    go : (z t : Bool) → degree (map edge bs) r v ≡ chosen_sum (at_end v) bs r → count_if (not z && t) (degree (map edge bs) r v) ≡ pick z 0 (cond t 1 0) + chosen_sum (at_end v) bs r
    go true t e = omega arith
    go false true e = omega arith
    go false false e = omega arith

pub matched : (flags : List ℕ) (bs : List Bond) (r : Row) → is_matching flags (map edge bs) r ≡ true → Matched flags bs r
unfolding is_matching
matched flags bs r h =
    let i = and_left (chosen_induced flags (map edge bs) r) (each_once (map edge bs) r flags 0) h in
    let o = and_right (chosen_induced flags (map edge bs) r) (each_once (map edge bs) r flags 0) h in
    record {
      allowed = eqb-true (chosen_sum (barred flags) bs r) 0 (sym (induced-sum flags bs r) ∙ i);
      once_each = λ v e. sym (degree-sum bs r v) ∙ ap (degree (map edge bs) r) (sym (zero-add v)) ∙ once-at (map edge bs) r flags 0 o v e;
    }

pub matching : (flags : List ℕ) (bs : List Bond) (r : Row) → Matched flags bs r → is_matching flags (map edge bs) r ≡ true
unfolding is_matching
matching flags bs r m =
    and_intro (chosen_induced flags (map edge bs) r) (each_once (map edge bs) r flags 0) (induced-sum flags bs r ∙ eq-eqb (chosen_sum (barred flags) bs r) 0 m.allowed)
    (at_once (map edge bs) r flags 0 (λ v e. ap (degree (map edge bs) r) (zero-add v) ∙ degree-sum bs r v ∙ m.once_each v e))

-- the atom with a walk number
pub record Source (n : ℕ) (order : List ℕ) (k : ℕ) : Type 0 where
  pub atom : ℕ
  pub below : atom < n
  pub there : place order atom ≡ k

all-at : (P : ℕ → Type 0) (l : List ℕ) → All P l → (k : ℕ) → k < length l → P (get_or l k 0)
all-at P [] none k h = absurd (omega arith)
all-at P (x ∷ l) (more p a) zero h = p
all-at P (x ∷ l) (more p a) (suc k) h = all-at P l a k (omega arith)

pub source : (n : ℕ) (order : List ℕ) → Renumbering n order → (k : ℕ) → k < n → Source n order k
source n order ren k h =
    let l : k < length order = omega (arith, ren.long) in
    record {
      atom = get_or order k 0;
      below = all-at (λ v. v < n) order ren.inside k l;
      there = placed order ren.once (get_or order k 0) (take k order) (drop (suc k) order) (split_at order k 0 l) ∙ length-take-le k order (omega arith);
    }

flag-below : (flags : List ℕ) (v : ℕ) → flagged flags v ≡ true → v < length flags
flag-below flags v h = go (ltb v (length flags)) refl
  where
    go : (x : Bool) → ltb v (length flags) ≡ x → v < length flags
    go true e = ltb-true v (length flags) e
    go false e =
        let g : get_or flags v 0 ≡ 1 = eqb-true (get_or flags v 0) 1 h in
        let d : get_or flags v 0 ≡ 0 = get_or-eq_default flags 0 (ltb-false v (length flags) e) in
        absurd (omega arith)

-- flags of n atoms, and the same under the walk numbers
pub record Followed (n : ℕ) (order flags flags' : List ℕ) : Type 0 where
  pub order_is : Renumbering n order
  pub size : length flags ≡ n
  pub size' : length flags' ≡ n
  pub same : (v : ℕ) → v < n → get_or flags' (place order v) 0 ≡ get_or flags v 0

module _ {n : ℕ} {order flags flags' : List ℕ} (w : Followed n order flags flags') where
  barred-place : (b : Bond) → (b.lo < b.hi) × (b.hi < n) → barred flags' (renumber order b) ≡ barred flags b
  barred-place b i = go (ltb (place order b.lo) (place order b.hi))
    where
      e1 : flagged flags' (place order b.lo) ≡ flagged flags b.lo
      e1 = ap (λ (k : ℕ). eqb k 1) (w.same b.lo (omega arith))

      e2 : flagged flags' (place order b.hi) ≡ flagged flags b.hi
      e2 = ap (λ (k : ℕ). eqb k 1) (w.same b.hi i.1)

      turn : (x y z : Bool) → ((x && z) && y) ≡ ((x && y) && z)
      turn true true true = refl
      turn true true false = refl
      turn true false true = refl
      turn true false false = refl
      turn false y z = refl

      go : (x : Bool) → barred flags' (cond x (bond (place order b.lo) (place order b.hi) b.kind) (bond (place order b.hi) (place order b.lo) (turned b.kind))) ≡ barred flags b
      go true = λ j. pick ((eqb b.kind 0 && e1 j) && e2 j) 0 1
      go false = (λ j. pick ((turned-elided b.kind j && e2 j) && e1 j) 0 1) ∙ ap (λ (x : Bool). pick x 0 1) (turn (eqb b.kind 0) (flagged flags b.lo) (flagged flags b.hi))

  module _ (bs : List Bond) (inside : Inside n bs) (r : Row) where
    barred-kept : chosen_sum (barred flags') (map (renumber order) bs) r ≡ chosen_sum (barred flags) bs r
    barred-kept = sum-renamed (λ b. (b.lo < b.hi) × (b.hi < n)) (renumber order) (barred flags) (barred flags') barred-place bs inside r

    ends-kept : (v : ℕ) → v < n → chosen_sum (at_end (place order v)) (map (renumber order) bs) r ≡ chosen_sum (at_end v) bs r
    ends-kept v h =
        sum-renamed (λ b. (b.lo < b.hi) × (b.hi < n)) (renumber order) (at_end v) (at_end (place order v))
        (weight-place n order w.order_is.every (λ k. 1) (λ k. refl) v h) bs inside r

    -- a matching stays one under the renumbering, and comes from one
    pub forth : Matched flags bs r → Matched flags' (map (renumber order) bs) r
    forth m =
        record {
          allowed = barred-kept ∙ m.allowed;
          once_each =
              λ k e.
              let l : k < n = omega (arith, flag-below flags' k e, w.size') in
              let s = source n order w.order_is k l in
              let f : flagged flags s.atom ≡ true = ap (λ (x : ℕ). eqb x 1) (sym (w.same s.atom s.below)) ∙ ap (flagged flags') s.there ∙ e in
              ap (λ (v : ℕ). chosen_sum (at_end v) (map (renumber order) bs) r) (sym s.there) ∙ ends-kept s.atom s.below ∙ m.once_each s.atom f;
        }

    pub back : Matched flags' (map (renumber order) bs) r → Matched flags bs r
    back m =
        record {
          allowed = sym barred-kept ∙ m.allowed;
          once_each =
              λ v e.
              let l : v < n = omega (arith, flag-below flags v e, w.size) in
              sym (ends-kept v l) ∙ m.once_each (place order v) (ap (λ (x : ℕ). eqb x 1) (w.same v l) ∙ e);
        }

-- a matching goes along a permutation of the bonds
pub carried-matched : {flags : List ℕ} {l m : List Bond} {r : Row} (c : Carried l m r) → Matched flags l r → Matched flags m c.row
carried-matched {flags} c h = record { allowed = c.same (barred flags) ∙ h.allowed; once_each = λ v e. c.same (at_end v) ∙ h.once_each v e }
