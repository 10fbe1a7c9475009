-- Checks of one atom after the other, and what a checked list is. Assumes nothing.
use mathlib.Core.Path.{◌≡◌, refl, sym, ap, subst, ◌∙◌}
use mathlib.Core.Bool.{Bool, true, false, ◌&&◌}
use mathlib.Core.List.{List}
use Prim.Native.Nat.{ℕ, ◌+◌, ◌-◌, ◌*◌, ◌%◌, ◌/◌, ◌^◌, ◌<◌, ◌≤◌}
use native.Mathlib.Omega.{arith}
use lib.Dec.{eqb, ltb}
use lib.ListN.{get_or}
use borrow.Author.Tests.{eqb-true, ltb-true, ltb-false}
use Rattle.loops.proofs.Loops.{and_left, and_right}
use Rattle.matching.proofs.Graph.{never}
use Rattle.same_model.specs.Same.{max_same, image}
use Rattle.same_open.specs.Open.{bit}
use Rattle.same_open.proofs.Laws.{cases}
use Rattle.same_open.proofs.Masks.{by_equal}
use Rattle.same_mirror.specs.Mirror.{Onto, SameFaces, Repeated, Carries, FacedAfter}

-- all before i passed
pub record All (P : ℕ → Type 0) (n i : ℕ) : Type 0 where
  pub within : i ≤ n
  pub all : (x : ℕ) → x < i → P x

module _ {P : ℕ → Type 0} {n : ℕ} where
  pub all_start : All P n 0
  all_start = record { within = omega arith; all = λ x i. absurd (omega arith) }

  module _ {i : ℕ} (w : All P n i) where
    pub all-step : i < n → P i → All P n (i + 1)
    all-step h p = record { within = omega arith; all = λ x k. by_equal x i (λ e. rw e p) (λ e. w.all x (omega (arith, e))) }

    pub all_end : n ≤ i → (x : ℕ) → x < n → P x
    all_end h x k = w.all x (omega arith)

-- a check that failed says nothing
pub refused : {A : Type 0} → false ≡ true → A
refused e = absurd (never false e refl)

-- the last of some tests
pub last-test : (a : Bool) (i n : ℕ) → (a && ltb i n) ≡ true → i < n
last-test a i n h = ltb-true i n (and_right a (ltb i n) h)

-- none before d goes where d goes
abbrev pub Own : List ℕ → ℕ → Type 0
Own l d = (e : ℕ) → e < d → image l e ≡ image l d → ⊥

pub own-onto : {l : List ℕ} {n : ℕ} → ((d : ℕ) → d < n → Own l d) → ((e : ℕ) → e < n → image l e < n) → Onto n l
own-onto f g =
    record {
      below = g;
      one = λ d e i j h. cases (ltb d e) (λ q. absurd (f e j d (ltb-true d e q) h)) (λ q. cases (ltb e d) (λ r. absurd (f d i e (ltb-true e d r) (sym h))) (λ r. omega (arith, ltb-false d e q, ltb-false e d r)));
    }

-- the digits of a number go to those of another
abbrev pub Carried : List ℕ → ℕ → ℕ → ℕ → Type 0
Carried l x y e = bit x e ≡ bit y (image l e)

pub carried : (l : List ℕ) (x y e : ℕ) → x / 2 ^ e % 2 ≡ y / 2 ^ image l e % 2 → Carried l x y e
unfolding bit
carried l x y e h = h

-- the masks of what is allowed, one after the other
abbrev pub Faced : List ℕ → ℕ → List ℕ → ℕ → Type 0
Faced allowed n l i = i % max_same < n → (e : ℕ) → e < n → Carried l (get_or allowed i 0) (get_or allowed (i - i % max_same + image l (i % max_same)) 0) e

-- masks that are those of the class before
pub repeated : (allowed : List ℕ) (i j : ℕ) → max_same ≤ i → max_same ≤ j → (eqb (get_or allowed i 0) (get_or allowed (i - max_same) 0) && eqb (get_or allowed j 0) (get_or allowed (j - max_same) 0)) ≡ true → Repeated allowed i j
repeated allowed i j f g h =
    let a = eqb (get_or allowed i 0) (get_or allowed (i - max_same) 0) in
    let b = eqb (get_or allowed j 0) (get_or allowed (j - max_same) 0) in
    record {
      later = (f, g);
      first = eqb-true (get_or allowed i 0) (get_or allowed (i - max_same) 0) (and_left a b h);
      second = eqb-true (get_or allowed j 0) (get_or allowed (j - max_same) 0) (and_right a b h);
    }

-- go where these go
pub faced-again : {allowed : List ℕ} {n i j : ℕ} (l : List ℕ) → Repeated allowed i j → FacedAfter allowed n l i j
faced-again l r f e k = ap (λ (x : ℕ). bit x e) r.first ∙ f r.later.0 r.later.1 e k ∙ sym (ap (λ (x : ℕ). bit x (image l e)) r.second)

-- one mask more, from those before it
pub faced-next : (allowed : List ℕ) {n : ℕ} (l : List ℕ) {i : ℕ} → All (Faced allowed n l) 384 i → i % max_same < n → FacedAfter allowed n l i (i - i % max_same + image l (i % max_same)) → Faced allowed n l i
faced-next allowed {n} l {i} w h f k =
    f
    (λ a b.
    let s : (i - max_same) % max_same ≡ i % max_same = omega arith in
    let r : i - max_same - i % max_same + image l (i % max_same) ≡ i - i % max_same + image l (i % max_same) - max_same = omega arith in
    let g : (d : ℕ) → d ≡ i % max_same → d < n → Carries n l (get_or allowed (i - max_same) 0) (get_or allowed (i - max_same - d + image l d) 0) → Carries n l (get_or allowed (i - max_same) 0) (get_or allowed (i - max_same - i % max_same + image l (i % max_same)) 0) = λ d q j c. subst (λ (x : ℕ). Carries n l (get_or allowed (i - max_same) 0) (get_or allowed (i - max_same - x + image l x) 0)) q c in
    subst (λ (x : ℕ). Carries n l (get_or allowed (i - max_same) 0) (get_or allowed x 0)) r (g ((i - max_same) % max_same) s (rw s h) (w.all (i - max_same) (omega arith) (rw s h))))

pub faced-all : (allowed : List ℕ) {n : ℕ} (l : List ℕ) → n ≤ max_same → ((i : ℕ) → i < 384 → Faced allowed n l i) → SameFaces allowed n l
faced-all allowed l f g c d e i j k =
    let s : (max_same * c + d) % max_same ≡ d = omega arith in
    let r : max_same * c + d - d ≡ max_same * c = omega arith in
    let h = g (max_same * c + d) (omega arith) (omega arith) e k in
    subst (λ (x : ℕ). Carried l (get_or allowed (max_same * c + d) 0) (get_or allowed (x + image l d) 0) e) r (subst (λ (x : ℕ). Carried l (get_or allowed (max_same * c + d) 0) (get_or allowed (max_same * c + d - x + image l x) 0) e) s h)
