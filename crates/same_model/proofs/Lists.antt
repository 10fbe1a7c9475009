-- What stands in a list, and what holds of all that stands there, through append, map, flat_map and passing. Assumes nothing.
use mathlib.Core.Path.{◌≡◌, refl, sym, subst}
use mathlib.Core.Bool.{Bool, true, false}
use mathlib.Core.List.{List, [], ◌∷◌, ◌++◌, map, flat_map}
use Prim.Native.Nat.{ℕ, zero, suc, ◌+◌, ◌<◌, ◌≤◌}
use native.Mathlib.Omega.{arith}
use lib.Dec.{eqb}
use lib.ListN.{length, get_or}
use borrow.Author.Tests.{eqb-true, eqb-false}
use Rattle.loops.specs.Loop.{up_to}
use Rattle.matching.specs.Enumeration.{Row, cons_if, passing}
use Rattle.matching.specs.Model.{some?, head_or}
use Rattle.matching.proofs.Graph.{never}

module _ {A : Type 0} where
  -- x stands in the list
  pub data In (x : A) : List A → Type 0 where
    here : {l : List A} → In x (x ∷ l)
    there : {y : A} {l : List A} → In x l → In x (y ∷ l)

  -- P holds of each
  pub data All (P : A → Type 0) : List A → Type 0 where
    none : All P []
    more : {b : A} {l : List A} → P b → All P l → All P (b ∷ l)

  pub in_left : {x : A} {l : List A} (m : List A) → In x l → In x (l ++ m)
  in_left m here = here
  in_left m (there i) = there (in_left m i)

  pub in_right : {x : A} (l : List A) {m : List A} → In x m → In x (l ++ m)
  in_right [] i = i
  in_right (y ∷ l) i = there (in_right l i)

  pub in-at : (d : A) (l : List A) (i : ℕ) → i < length l → In (get_or l i d) l
  in-at d [] i h = absurd (omega arith)
  in-at d (x ∷ l) zero h = here
  in-at d (x ∷ l) (suc i) h = there (in-at d l i (omega arith))

  pub all_append : {P : A → Type 0} {l m : List A} → All P l → All P m → All P (l ++ m)
  all_append none q = q
  all_append (more h a) q = more h (all_append a q)

  pub all-imp : {P Q : A → Type 0} {l : List A} → ((x : A) → P x → Q x) → All P l → All Q l
  all-imp f none = none
  all-imp f (more {b = x} h a) = more (f x h) (all-imp f a)

  pub all-at : {P : A → Type 0} (d : A) {l : List A} → All P l → (i : ℕ) → i < length l → P (get_or l i d)
  all-at d none i h = absurd (omega arith)
  all-at d (more p a) zero h = p
  all-at d (more p a) (suc i) h = all-at d a i (omega arith)

  pub at_all : (P : A → Type 0) (d : A) (l : List A) → ((i : ℕ) → i < length l → P (get_or l i d)) → All P l
  at_all P d [] h = none
  at_all P d (x ∷ l) h = more (h 0 (omega arith)) (at_all P d l (λ i k. h (suc i) (omega arith)))

module _ {A B : Type 0} where
  pub in_map : (f : A → B) {x : A} {l : List A} → In x l → In (f x) (map f l)
  in_map f here = here
  in_map f (there i) = there (in_map f i)

  pub all_map : {P : A → Type 0} {Q : B → Type 0} (f : A → B) {l : List A} → All P l → ((x : A) → P x → Q (f x)) → All Q (map f l)
  all_map f none g = none
  all_map f (more {b = x} h a) g = more (g x h) (all_map f a g)

  pub in-flat_map : (f : A → List B) {a : A} {b : B} {l : List A} → In a l → In b (f a) → In b (flat_map f l)
  unfolding flat_map
  in-flat_map f (here {l = l}) i = in_left (flat_map f l) i
  in-flat_map f (there {y = y} j) i = in_right (f y) (in-flat_map f j i)

  pub all-flat_map : {P : A → Type 0} {Q : B → Type 0} (f : A → List B) {l : List A} → All P l → ((a : A) → P a → All Q (f a)) → All Q (flat_map f l)
  unfolding flat_map
  all-flat_map f none g = none
  all-flat_map f (more {b = x} h a) g = all_append (g x h) (all-flat_map f a g)

-- the numbers k, k + 1, ..
pub in-up_to : (k n d : ℕ) → k ≤ d → d < k + n → In d (up_to (λ (e : ℕ). e) k n)
unfolding up_to
in-up_to k zero d l h = absurd (omega arith)
in-up_to k (suc n) d l h = go (eqb k d) refl (λ i. in-up_to (suc k) n d i (omega arith))
  where
    go : (z : Bool) → eqb k d ≡ z → (suc k ≤ d → In d (up_to (λ (e : ℕ). e) (suc k) n)) → In d (k ∷ up_to (λ (e : ℕ). e) (suc k) n)
    go true e ih = subst (λ (z : ℕ). In d (z ∷ up_to (λ (e : ℕ). e) (suc k) n)) (sym (eqb-true k d e)) here
    go false e ih = let q = eqb-false k d e in there (ih (omega arith))

pub all-up_to : (k n m : ℕ) → k + n ≤ m → All (λ d. d < m) (up_to (λ (e : ℕ). e) k n)
unfolding up_to
all-up_to k zero m h = none
all-up_to k (suc n) m h = more {b = k} (omega arith) (all-up_to (suc k) n m (omega arith))

-- those that pass a test
in-cons_if : {t : Row} (b : Bool) (r : Row) {l : List Row} → In t l → In t (cons_if b r l)
in-cons_if true r i = there i
in-cons_if false r i = i

pub in-passing : (p : Row → Bool) {t : Row} {l : List Row} → In t l → p t ≡ true → In t (passing p l)
unfolding passing
in-passing p {t} (here {l = l}) h = rw h here
in-passing p (there {y = y} i) h = in-cons_if (p y) y (in-passing p i h)

pub all-passing : {P : Row → Type 0} (p : Row → Bool) {l : List Row} → All P l → All (λ r. P r × (p r ≡ true)) (passing p l)
unfolding passing
all-passing p none = none
all-passing {P} p (more {b = r} {l = l} h a) = go (p r) refl (all-passing p a)
  where
    go : (z : Bool) → p r ≡ z → All (λ r. P r × (p r ≡ true)) (passing p l) → All (λ r. P r × (p r ≡ true)) (cons_if z r (passing p l))
    go true e k = more (h, e) k
    go false e k = k

pub in_some : {t : Row} {l : List Row} → In t l → some? l ≡ true
in_some here = refl
in_some (there i) = refl

pub all_head : {P : Row → Type 0} (z : Row) {l : List Row} → All P l → some? l ≡ true → P (head_or z l)
all_head z none h = absurd (never false h refl)
all_head z (more p a) h = p
