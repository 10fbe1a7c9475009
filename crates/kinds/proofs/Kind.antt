-- Laws of the kinds of bonds. Assumes nothing.
use mathlib.Core.Path.{◌≡◌, refl, sym, ap, ◌∙◌}
use Rattle.std.specs.Option.{unwrap_or}
use Rattle.std.specs.Prelude.{Option, Some, None}
use mathlib.Core.Bool.{Bool, true, false, ◌&&◌, ◌||◌, not}
use Prim.Native.Nat.{ℕ, ◌≤◌}
use native.Mathlib.Omega.{arith}
use lib.Dec.{eqb, leb}
use borrow.Author.Tests.{eqb-true, eqb-false, leb-true}
use Rattle.loops.specs.Loop.{pick}
use Rattle.kinds.specs.Kind.{elided, single, double, triple, up, down, max_kind, is_mark, mark_of, given, order, symbol_kind, turned, meet, clash}

-- a bond adds at most 3
pub order_small : (k : ℕ) → order k ≤ 3
unfolding order
order_small k = go (eqb k elided) (leb k triple) refl (leb k max_kind)
  where
    go : (x y : Bool) → leb k triple ≡ y → (z : Bool) → pick x 1 (pick y k (pick z 1 0)) ≤ 3
    go true y e z = omega arith
    go false true e z = leb-true k triple e
    go false false e true = omega arith
    go false false e false = omega arith

-- what is read is a kind
pub symbol-small : (b : ℕ) → symbol_kind b ≤ max_kind
unfolding symbol_kind
symbol-small b = go (eqb b 45) (eqb b 61) (eqb b 35) (eqb b 47) (eqb b 92)
  where
    go : (x y z v w : Bool) → pick x single (pick y double (pick z triple (pick v up (pick w down elided)))) ≤ max_kind
    go true y z v w = omega arith
    go false true z v w = omega arith
    go false false true v w = omega arith
    go false false false true w = omega arith
    go false false false false true = omega arith
    go false false false false false = omega arith

-- what an Option says of the number that it stands for
module _ {r : Option ℕ} {k : ℕ} (e : r ≡ given k) where
  pub none-given : r ≡ None → k ≡ 0
  none-given n = go (eqb k 0) refl (sym e ∙ n)
    where
      go : (y : Bool) → eqb k 0 ≡ y → pick y None (Some k) ≡ None → k ≡ 0
      go true f h = eqb-true k 0 f
      go false f h = absurd (cc)

  pub some-given : {x : ℕ} → r ≡ Some x → (x ≡ k) × (k ≡ 0 → ⊥)
  some-given {x} n = go (eqb k 0) refl (sym e ∙ n)
    where
      go : (y : Bool) → eqb k 0 ≡ y → pick y None (Some k) ≡ Some x → (x ≡ k) × (k ≡ 0 → ⊥)
      go true f h = absurd (cc)
      go false f h = (cc, eqb-false k 0 f)

pub unwrapped : {r : Option ℕ} (k : ℕ) → r ≡ given k → unwrap_or r 0 ≡ k
unwrapped k e = ap (λ (o : Option ℕ). unwrap_or o 0) e ∙ go (eqb k 0) refl
  where
    go : (y : Bool) → eqb k 0 ≡ y → unwrap_or (pick y None (Some k)) 0 ≡ k
    go true h = sym (eqb-true k 0 h)
    go false h = refl

-- a kind is a mark exactly if it has one
module _ (k : ℕ) where
  pub mark-none : mark_of k ≡ 0 → is_mark k ≡ false
  unfolding mark_of
  mark-none = go (eqb k up) refl (eqb k down) refl
    where
      go : (x : Bool) → eqb k up ≡ x → (y : Bool) → eqb k down ≡ y → pick (x || y) k elided ≡ 0 → (x || y) ≡ false
      go true e y f z = absurd (omega (arith, eqb-true k up e))
      go false e true f z = absurd (omega (arith, eqb-true k down f))
      go false e false f z = refl

  pub mark-some : (mark_of k ≡ 0 → ⊥) → is_mark k ≡ true
  unfolding mark_of
  mark-some = go (is_mark k)
    where
      go : (x : Bool) → (pick x k elided ≡ 0 → ⊥) → x ≡ true
      go true n = refl
      go false n = absurd (n refl)

-- ---- a kind seen from the other end
module _ (k : ℕ) where
  by-mark : (P : ℕ → ℕ → Type 0) → P up down → P down up → ((eqb k up ≡ false) → (eqb k down ≡ false) → P k k) → P k (turned k)
  unfolding turned
  by-mark P a b c = go (eqb k up) refl (eqb k down) refl
    where
      go : (x : Bool) → eqb k up ≡ x → (y : Bool) → eqb k down ≡ y → P k (pick x down (pick y up k))
      go true e y f = rw (eqb-true k up e) a
      go false e true f = rw (eqb-true k down f) b
      go false e false f = c e f

  pub turned-twice : turned (turned k) ≡ k
  unfolding turned
  turned-twice = by-mark (λ x y. turned y ≡ x) refl refl (λ e f. rw (e, f))

  pub turned-small : k ≤ max_kind → turned k ≤ max_kind
  turned-small h = by-mark (λ x y. y ≤ max_kind) (omega arith) (omega arith) (λ e f. h)

  -- an elided bond is elided from both ends, a double bond double, a mark a mark
  pub turned-elided : eqb (turned k) elided ≡ eqb k elided
  turned-elided = by-mark (λ x y. eqb y elided ≡ eqb x elided) refl refl (λ e f. refl)

  pub turned-double : eqb (turned k) double ≡ eqb k double
  turned-double = by-mark (λ x y. eqb y double ≡ eqb x double) refl refl (λ e f. refl)

  pub turned-mark : is_mark (turned k) ≡ is_mark k
  turned-mark = by-mark (λ x y. is_mark y ≡ is_mark x) refl refl (λ e f. refl)

  -- turning a kind turns its mark
  pub turned-mark_of : mark_of (turned k) ≡ turned (mark_of k)
  unfolding mark_of turned
  turned-mark_of = by-mark (λ x y. mark_of y ≡ turned (mark_of x)) refl refl (λ e f. rw (e, f))

  -- a bond adds the same seen from either end
  pub order-turned : order (turned k) ≡ order k
  unfolding order
  order-turned = by-mark (λ x y. order y ≡ order x) refl refl (λ e f. refl)

-- ---- two at a bridge
pub meet-small : (j k : ℕ) → j ≤ max_kind → k ≤ max_kind → meet j k ≤ max_kind
meet-small j k a b = go (eqb k elided)
  where
    go : (x : Bool) → pick x j (turned k) ≤ max_kind
    go true = a
    go false = turned-small k b

-- a closing without a symbol clashes with none
pub clash-none : (j : ℕ) → clash j elided ≡ false
clash-none j = go (not (eqb j elided))
  where
    go : (x : Bool) → (x && false && not (eqb j (turned elided))) ≡ false
    go true = refl
    go false = refl
