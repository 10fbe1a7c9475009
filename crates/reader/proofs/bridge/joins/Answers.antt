use Prim.Native.Nat.{ℕ}
use mathlib.Core.Path.{◌≡◌, refl, sym, ap, ◌∙◌}
use mathlib.Core.Bool.{Bool, true, false, ◌&&◌, ◌||◌}
use mathlib.Core.List.{List}
use lib.IntN.{ℤ}
use lib.Dec.{eqb}
use borrow.Author.Tests.{eq-eqb, ne_eqb, eqb-true}
use Rattle.table.specs.Cells.{end1, end2}
use Rattle.reading.specs.Memory.{joins}
use Rattle.reader.proofs.bridge.joins.Goals as goal

second-step : (p q t : Bool) → (t ≡ true → q ≡ p) → p ≡ ((p && true) || (q && t))
second-step true q t h = refl
second-step false false t h = refl
second-step false true false h = refl
second-step false true true h = sym (h refl)

first_step : (p q : Bool) → q ≡ ((p && false) || (q && true))
first_step true true = refl
first_step true false = refl
first_step false true = refl
first_step false false = refl

apart-step : (p q : Bool) → false ≡ ((p && false) || (q && false))
apart-step true true = refl
apart-step true false = refl
apart-step false true = refl
apart-step false false = refl

module _ (bonds : List ℤ) (a b i y : ℕ) (f : y ≡ end2 bonds i) where
  apart : (y ≡ b → ⊥) → (y ≡ a → ⊥) → false ≡ joins bonds a b i
  unfolding joins
  apart h k = simp (← f, ne_eqb y b h, ne_eqb y a k) (apart-step (eqb (end1 bonds i) a) (eqb (end1 bonds i) b))

  module _ (x : ℕ) (e : x ≡ end1 bonds i) where
    at_second : y ≡ b → eqb x a ≡ joins bonds a b i
    unfolding joins
    at_second h = simp (← e, ← f, eq-eqb y b h) (second-step (eqb x a) (eqb x b) (eqb y a) (λ t. ap (eqb x) (sym h ∙ eqb-true y a t)))

    at_first : (y ≡ b → ⊥) → y ≡ a → eqb x b ≡ joins bonds a b i
    unfolding joins
    at_first h k = simp (← e, ← f, ne_eqb y b h, eq-eqb y a k) (first_step (eqb x a) (eqb x b))

pub returns-then-y-b : goal.returns-then-y-b
returns-then-y-b c = let x = c.bond_number in
    let y = c.bond_number-y in
    at_second c.args.bonds.now c.args.a.0 c.args.b.0 c.args.i.0 y.result y.ensures x.result x.ensures c.if-y-b.true

pub returns-then-y-a : goal.returns-then-y-a
returns-then-y-a c = let x = c.bond_number-then-y-a in
    let y = c.bond_number-y in
    at_first c.args.bonds.now c.args.a.0 c.args.b.0 c.args.i.0 y.result y.ensures x.result x.ensures c.if-y-b.false c.if-y-a.true

pub returns : goal.returns
returns c = let y = c.bond_number-y in
    apart c.args.bonds.now c.args.a.0 c.args.b.0 c.args.i.0 y.result y.ensures c.if-y-b.false c.if-y-a.false
