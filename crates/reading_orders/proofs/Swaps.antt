-- Swaps of lists: how they carry over to more items, to images, and that any listing of the same items is reached by some. Assumes nothing.
use Prim.Native.Nat.{ℕ, zero, suc, ◌<◌}
use native.Mathlib.Omega.{arith}
use mathlib.Core.Path.{◌≡◌, refl, sym, ap, subst, ◌∙◌}
use mathlib.Core.List.{List, [], ◌∷◌, map}
use lib.ListN.{length, get_or, set}
use Rattle.parity.specs.Parity.{swapped, Swaps, none, more, Perm, nil, cons, swap, trans}

-- ---- one more item in front
ahead : (x : ℕ) {p q : List ℕ} {k : ℕ} → Swaps p q k → Swaps (x ∷ p) (x ∷ q) k
ahead x none = none
ahead x (more {q = q} i j n h g s) = more {q = x ∷ q} (suc i) (suc j) (λ e. n (omega arith)) (omega arith) (omega arith) (ahead x s)

-- ---- the same items in any order
pub record Reached (p q : List ℕ) : Type 0 where
  pub number : ℕ
  pub swaps : Swaps p q number

-- one after the other
onward : {p q r : List ℕ} {k : ℕ} → Reached p q → Swaps q r k → Reached p r
onward s none = s
onward s (more i j n h g t) = let r = onward s t in record { number = suc r.number; swaps = more i j n h g r.swaps }

pub perm-swaps : {p q : List ℕ} → Perm p q → Reached p q
perm-swaps nil = record { number = 0; swaps = none }
perm-swaps (cons {x} w) = let r = perm-swaps w in record { number = r.number; swaps = ahead x r.swaps }
perm-swaps (swap {x} {y} {l} {m} w) =
    let r = perm-swaps w in
    record { number = suc r.number; swaps = more {q = x ∷ y ∷ m} 0 1 (λ e. omega arith) (omega arith) (omega arith) (ahead x (ahead y r.swaps)) }
perm-swaps (trans v w) = onward (perm-swaps v) (perm-swaps w).swaps

-- ---- images
module _ (f : ℕ → ℕ) where
  map-length : (l : List ℕ) → length (map f l) ≡ length l
  map-length [] = refl
  map-length (x ∷ l) = ap suc (map-length l)

  map_at : (l : List ℕ) (i : ℕ) → i < length l → get_or (map f l) i 0 ≡ f (get_or l i 0)
  map_at [] i h = absurd (omega arith)
  map_at (x ∷ l) zero h = refl
  map_at (x ∷ l) (suc i) h = map_at l i (omega arith)

  map-set : (l : List ℕ) (i v : ℕ) → map f (set l i v) ≡ set (map f l) i (f v)
  map-set [] i v = refl
  map-set (x ∷ l) zero v = refl
  map-set (x ∷ l) (suc i) v = ap (λ (r : List ℕ). f x ∷ r) (map-set l i v)

  map_swapped : (l : List ℕ) (i j : ℕ) → i < length l → j < length l → map f (swapped l i j) ≡ swapped (map f l) i j
  map_swapped l i j h g =
      map-set (set l i (get_or l j 0)) j (get_or l i 0)
      ∙ ap (λ (r : List ℕ). set r j (f (get_or l i 0))) (map-set l i (get_or l j 0))
      ∙ (λ v. set (set (map f l) i (sym (map_at l j g) v)) j (sym (map_at l i h) v))

  pub swaps-map : {p q : List ℕ} {k : ℕ} → Swaps p q k → Swaps (map f p) (map f q) k
  swaps-map none = none
  swaps-map (more {p} {q} {k} i j n h g s) =
      subst (λ (r : List ℕ). Swaps (map f p) r (suc k)) (sym (map_swapped q i j h g))
      (more i j n (subst (λ (x : ℕ). i < x) (sym (map-length q)) h) (subst (λ (x : ℕ). j < x) (sym (map-length q)) g) (swaps-map s))
