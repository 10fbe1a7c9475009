-- Counting: two lists hold the same if every test counts the same in both
use mathlib.Core.Path.{◌≡◌, refl, ap}
use mathlib.Core.Bool.{Bool, true, false, ◌&&◌, not}
use mathlib.Core.List.{List, [], ◌∷◌, ◌++◌}
use Prim.Native.Nat.{ℕ, zero, suc, ◌+◌, ◌<◌}
use native.Mathlib.Omega.{arith}
use lib.Dec.{eqb}
use lib.ListN.{length, get_or}
use borrow.Author.Tests.{eq-eqb, eqb-true}
use Rattle.writing_walk.specs.Token.{Bond, eq_bond}
pub use Rattle.writing_walk.specs.Same.{bit, count, All, none, more}

module _ {A : Type 0} where
  pub count-append : (p : A → Bool) (l m : List A) → count p (l ++ m) ≡ count p l + count p m
  count-append p [] m = omega arith
  count-append p (x ∷ l) m = omega (arith, count-append p l m)

  pub all_map : (P Q : A → Type 0) → ((b : A) → P b → Q b) → (l : List A) → All P l → All Q l
  all_map P Q f [] none = none
  all_map P Q f (b ∷ l) (more h a) = more (f b h) (all_map P Q f l a)

  pub all_append : (P : A → Type 0) (l m : List A) → All P l → All P m → All P (l ++ m)
  all_append P [] m none b = b
  all_append P (x ∷ l) m (more h a) b = more h (all_append P l m a b)

  -- what holds of each holds at each place
  pub all-at : (P : A → Type 0) (d : A) (l : List A) (i : ℕ) → All P l → i < length l → P (get_or l i d)
  all-at P d [] i none h = absurd (omega arith)
  all-at P d (x ∷ l) zero (more g a) h = g
  all-at P d (x ∷ l) (suc i) (more g a) h = all-at P d l i a (omega arith)

  -- a test that counts nobody
  pub nobody : (p q : A → Bool) (N : List A) → All (λ b. (p b && q b) ≡ false) N → count (λ b. p b && q b) N ≡ 0
  nobody p q [] none = refl
  nobody p q (b ∷ N) (more h a) = omega (arith, ap bit h, nobody p q N a)

  pub all-of : (p : A → Bool) (l : List A) → count (λ b. not (p b)) l ≡ 0 → All (λ b. p b ≡ true) l
  all-of p [] h = none
  all-of p (b ∷ l) h = more (go (p b) h) (all-of p l (omega arith))
    where
      go : (x : Bool) → bit (not x) + count (λ b. not (p b)) l ≡ 0 → x ≡ true
      go true h = refl
      go false h = absurd (omega arith)

pub and_left : (a b : Bool) → (a && b) ≡ true → a ≡ true
and_left true b h = refl
and_left false b h = cc

pub and_right : (a b : Bool) → (a && b) ≡ true → b ≡ true
and_right true b h = h
and_right false b h = cc

pub never : (a : Bool) → a ≡ true → a ≡ false → ⊥
never a h k = let z : ◌≡◌ {A = ℕ} 0 1 = cc in omega arith

pub eqb_same : (n : ℕ) → eqb n n ≡ true
eqb_same n = eq-eqb n n refl

pub bond-same : (b : Bond) → eq_bond b b ≡ true
bond-same b = rw (eqb_same b.lo, eqb_same b.hi, eqb_same b.kind)

pub bond-eq : (a b : Bond) → eq_bond a b ≡ true → a ≡ b
bond-eq a b h =
    let r = and_right (eqb a.lo b.lo) (eqb a.hi b.hi && eqb a.kind b.kind) h in
    let e1 = eqb-true a.lo b.lo (and_left (eqb a.lo b.lo) (eqb a.hi b.hi && eqb a.kind b.kind) h) in
    let e2 = eqb-true a.hi b.hi (and_left (eqb a.hi b.hi) (eqb a.kind b.kind) r) in
    let e3 = eqb-true a.kind b.kind (and_right (eqb a.hi b.hi) (eqb a.kind b.kind) r) in
    λ i. record { lo = e1 i; hi = e2 i; kind = e3 i }
