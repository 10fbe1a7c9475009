-- The tests of the definition against 01's words: to be bonded, two atoms that have a bond, symbols that differ. Assumes nothing.
use Prim.Native.Nat.{ℕ, zero, suc, ◌+◌, ◌≤◌, ◌<◌}
use native.Mathlib.Omega.{arith}
use mathlib.Core.Path.{◌≡◌, refl, sym, ◌∙◌}
use mathlib.Core.Bool.{Bool, true, false, ◌&&◌, ◌||◌, not}
use mathlib.Core.Logic.{◌⊎◌, inl, inr, ◌≢◌}
use mathlib.Core.List.{List}
use lib.IntN.{ℤ}
use lib.Dec.{eqb}
use borrow.Author.Tests.{eqb-true, eqb-false, eq-eqb, ne_eqb, not-true, not-false}
use Rattle.loops.specs.Loop.{each}
use Rattle.loops.proofs.Loops.{and_left, and_right, each_at}
use Rattle.reading_grammar.proofs.Ends.{never}
use Rattle.table.specs.Cells.{end1, end2}
use Rattle.kinds.specs.Kind.{turned, clash}
use Rattle.reading.specs.Memory.{Memory, Pending, nothing, dotted, symbol, after_dot, bonded, joins, joined_already}
use Rattle.reading.specs.Conditions.{ToBeBonded, HaveBond, Differ}

not-dotted : (q : Pending) → not (after_dot q) ≡ true → q ≢ dotted
not-dotted nothing h e = let z : ◌≡◌ {A = ℕ} 0 1 = cc in omega arith
not-dotted dotted h e = never h
not-dotted (symbol k) h e = let z : ◌≡◌ {A = ℕ} 0 1 = cc in omega arith

dotted-not : (q : Pending) → q ≢ dotted → not (after_dot q) ≡ true
dotted-not nothing h = refl
dotted-not dotted h = absurd (h refl)
dotted-not (symbol k) h = refl

pub to-be-bonded : (μ : Memory) → bonded μ ≡ true → ToBeBonded μ
to-be-bonded μ h =
    let n = eqb-false μ.st.atoms 0 (not-true (eqb μ.st.atoms 0) (and_left (not (eqb μ.st.atoms 0)) (not (after_dot μ.pending)) h)) in
    record { not_first = omega arith; no_dot = not-dotted μ.pending (and_right (not (eqb μ.st.atoms 0)) (not (after_dot μ.pending)) h) }

pub bonded-so : (μ : Memory) → ToBeBonded μ → bonded μ ≡ true
bonded-so μ w = rw (ne_eqb μ.st.atoms 0 (λ e. omega (arith, w.not_first)), dotted-not μ.pending w.no_dot)

pub differ : (j k : ℕ) → clash j k ≡ true → Differ j k
differ j k h =
    let r = and_left (not (eqb j 0) && not (eqb k 0)) (not (eqb j (turned k))) h in
    let a = eqb-false j 0 (not-true (eqb j 0) (and_left (not (eqb j 0)) (not (eqb k 0)) r)) in
    let b = eqb-false k 0 (not-true (eqb k 0) (and_right (not (eqb j 0)) (not (eqb k 0)) r)) in
    record { at_opening = omega arith; at_closing = omega arith; unequal = eqb-false j (turned k) (not-true (eqb j (turned k)) (and_right (not (eqb j 0) && not (eqb k 0)) (not (eqb j (turned k))) h)) }

pub clashes : (j k : ℕ) → Differ j k → clash j k ≡ true
clashes j k w = rw (ne_eqb j 0 (λ e. omega (arith, w.at_opening)), ne_eqb k 0 (λ e. omega (arith, w.at_closing)), ne_eqb j (turned k) w.unequal)

-- a loop that does not pass stops at a number
record Stops (p : ℕ → Bool) (k m : ℕ) : Type 0 where
  pub number : ℕ
  pub from : k ≤ number
  pub below : number < k + m
  pub fails : p number ≡ false

stops : (p : ℕ → Bool) (k m : ℕ) → each p k m ≡ false → Stops p k m
unfolding each
stops p k zero h = never (sym h)
stops p k (suc m) h = split (p k) refl h (stops p (suc k) m)
  where
    split : (t : Bool) → p k ≡ t → (t && each p (suc k) m) ≡ false → (each p (suc k) m ≡ false → Stops p (suc k) m) → Stops p k (suc m)
    split true e g f = let r = f g in record { number = r.number; from = omega (arith, r.from); below = omega (arith, r.below); fails = r.fails }
    split false e g f = record { number = k; from = omega arith; below = omega arith; fails = e }

stopped : (p : ℕ → Bool) (m i : ℕ) → i < m → p i ≡ false → each p 0 m ≡ false
stopped p m i l h = split (each p 0 m) refl
  where
    split : (t : Bool) → each p 0 m ≡ t → t ≡ false
    split true e = never (sym h ∙ each_at p m i e l)
    split false e = refl

ends_of : (bonds : List ℤ) (a b i : ℕ) → joins bonds a b i ≡ true → ((end1 bonds i ≡ a) × (end2 bonds i ≡ b)) ⊎ ((end1 bonds i ≡ b) × (end2 bonds i ≡ a))
unfolding joins
ends_of bonds a b i = split (eqb (end1 bonds i) a && eqb (end2 bonds i) b) refl
  where
    both : (x y u v : ℕ) → (eqb x u && eqb y v) ≡ true → (x ≡ u) × (y ≡ v)
    both x y u v h = (eqb-true x u (and_left (eqb x u) (eqb y v) h), eqb-true y v (and_right (eqb x u) (eqb y v) h))

    split : (t : Bool) → (eqb (end1 bonds i) a && eqb (end2 bonds i) b) ≡ t → (t || (eqb (end1 bonds i) b && eqb (end2 bonds i) a)) ≡ true
        → ((end1 bonds i ≡ a) × (end2 bonds i ≡ b)) ⊎ ((end1 bonds i ≡ b) × (end2 bonds i ≡ a))
    split true e h = inl (both (end1 bonds i) (end2 bonds i) a b e)
    split false e h = inr (both (end1 bonds i) (end2 bonds i) b a h)

joins-so : (bonds : List ℤ) (a b i : ℕ) → ((end1 bonds i ≡ a) × (end2 bonds i ≡ b)) ⊎ ((end1 bonds i ≡ b) × (end2 bonds i ≡ a)) → joins bonds a b i ≡ true
unfolding joins
joins-so bonds a b i (inl e) = rw (eq-eqb (end1 bonds i) a e.0, eq-eqb (end2 bonds i) b e.1)
joins-so bonds a b i (inr e) = rw (eq-eqb (end1 bonds i) b e.0, eq-eqb (end2 bonds i) a e.1) (or-true (eqb (end1 bonds i) a && eqb (end2 bonds i) b))
  where
    or-true : (t : Bool) → (t || true) ≡ true
    or-true true = refl
    or-true false = refl

pub have-bond : (bonds : List ℤ) (m a b : ℕ) → joined_already bonds m a b ≡ true → HaveBond bonds m a b
unfolding joined_already
have-bond bonds m a b h =
    let r = stops (λ i. not (joins bonds a b i)) 0 m (not-true (each (λ i. not (joins bonds a b i)) 0 m) h) in
    record { number = r.number; stands = omega (arith, r.below); ends = ends_of bonds a b r.number (not-false (joins bonds a b r.number) r.fails) }

pub bond-had : (bonds : List ℤ) (m a b : ℕ) → HaveBond bonds m a b → joined_already bonds m a b ≡ true
unfolding joined_already
bond-had bonds m a b w =
    let e = joins-so bonds a b w.number w.ends in
    rw (stopped (λ i. not (joins bonds a b i)) m w.number w.stands (rw e))
