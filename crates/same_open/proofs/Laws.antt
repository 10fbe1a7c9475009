-- Cells that agree, and what a way from one matrix to another is allowed. Assumes nothing.
use mathlib.Core.Path.{◌≡◌, refl, sym, ap, ◌∙◌}
use mathlib.Core.Bool.{Bool, true, false, ◌&&◌, not}
use mathlib.Core.List.{List}
use Prim.Native.Nat.{ℕ, ◌<◌, ◌≤◌}
use native.Mathlib.Omega.{arith}
use lib.Dec.{eqb, ltb}
use borrow.Author.Tests.{ltb-true, ltb-false, eqb-true, eqb-false, not-true, lt-ltb, le-ltb, eq-eqb, ne_eqb}
use Rattle.matching.proofs.Graph.{never}
use Rattle.same_model.specs.Same.{image}
use Rattle.same_place.specs.Place.{entry}
use Rattle.same_open.specs.Open.{open_from, agree, Draws, Way, classes, class_of, may_face, Allowed, Faces}

-- a flag is true or false
pub cases : {A : Type 0} (b : Bool) → (b ≡ true → A) → (b ≡ false → A) → A
cases true f g = f refl
cases false f g = g refl

-- a cell is closed or open
by-cell : {A : Type 0} (u : ℕ) → (u < open_from → A) → (open_from ≤ u → A) → A
by-cell u f g = cases (ltb u open_from) (λ e. f (ltb-true u open_from e)) (λ e. g (ltb-false u open_from e))

and-turned : (a b : Bool) → (a && b) ≡ (b && a)
and-turned true true = refl
and-turned true false = refl
and-turned false true = refl
and-turned false false = refl

eqb-turned : (u w : ℕ) → eqb u w ≡ eqb w u
eqb-turned u w =
    cases
    (eqb w u)
    (λ e. eq-eqb u w (sym (eqb-true w u e)) ∙ sym e)
    (λ e. ne_eqb u w (λ q. eqb-false w u e (sym q)) ∙ sym e)

pub agree-turned : (u w : ℕ) → agree u w ≡ agree w u
unfolding agree
agree-turned u w = rw (and-turned (ltb u open_from) (ltb w open_from), eqb-turned u w, and-turned (not (eqb u 0)) (not (eqb w 0)))

-- the tests of the code
pub told-closed : (u w : ℕ) → (ltb u open_from && ltb w open_from) ≡ true → eqb u w ≡ agree u w
unfolding agree
told-closed u w h = rw h

pub told-open : (u w : ℕ) → (ltb u open_from && ltb w open_from) ≡ false → (not (eqb u 0) && not (eqb w 0)) ≡ agree u w
unfolding agree
told-open u w h = rw h

-- closed cells agree where they are equal
agree-closed : (u w : ℕ) → u < open_from → w < open_from → agree u w ≡ eqb u w
unfolding agree
agree-closed u w i j = rw (lt-ltb u open_from i, lt-ltb w open_from j)

-- an open one agrees with any bond
agree-open : (u w : ℕ) → open_from ≤ u → agree u w ≡ not (eqb w 0)
unfolding agree
agree-open u w i = rw (le-ltb u open_from i, ne_eqb u 0 (λ e. omega arith))

-- a cell is a bond where it is not 0
some-bond : (w : ℕ) → not (eqb w 0) ≡ true → 0 < w
some-bond w h = let f = eqb-false w 0 (not-true (eqb w 0) h) in omega (arith, f)

bond-told : (w : ℕ) → 0 < w → not (eqb w 0) ≡ true
bond-told w h = ap not (ne_eqb w 0 (λ e. omega arith))

pub agree_same : (u w : ℕ) → u ≡ w → u < open_from → agree u w ≡ true
agree_same u w e i = agree-closed u w i (omega arith) ∙ eq-eqb u w e

-- where cells agree and one is a bond, so is the other
agree-bond : (o w : ℕ) → agree o w ≡ true → 0 < o → 0 < w
agree-bond o w h i =
    by-cell o
    (λ j. by-cell w (λ k. let e : o ≡ w = eqb-true o w (sym (agree-closed o w j k) ∙ h) in omega arith) (λ k. omega arith))
    (λ j. some-bond w (sym (agree-open o w j) ∙ h))

pub agree-drawn : (o u w : ℕ) → Draws o u → agree o w ≡ true → agree u w ≡ true
agree-drawn o u w d h =
    by-cell u
    (λ i. rw (d.closed i) h)
    (λ i. agree-open u w i ∙ bond-told w (agree-bond o w h (d.opened i)))

-- the class of a cell, by what the cell is
pub class-few : (u : ℕ) → u < 4 → class_of u ≡ u
unfolding class_of
class-few u i = rw (lt-ltb u 4 i)

pub class-other : (u : ℕ) → 4 ≤ u → u < open_from → class_of u ≡ 5
unfolding class_of
class-other u i j = rw (le-ltb u 4 i, lt-ltb u open_from j)

pub class-open : (u : ℕ) → open_from ≤ u → class_of u ≡ 4
unfolding class_of
class-open u i = rw (le-ltb u 4 (omega arith), le-ltb u open_from i)

by-class : {A : Type 0} (u : ℕ) → (u < 4 → A) → (4 ≤ u → u < open_from → A) → (open_from ≤ u → A) → A
by-class u f g h = cases (ltb u 4) (λ e. f (ltb-true u 4 e)) (λ e. by-cell u (g (ltb-false u 4 e)) h)

pub class_low : (u : ℕ) → class_of u < classes
class_low u = by-class u (λ i. rw (class-few u i) (omega arith)) (λ i j. rw (class-other u i j) (omega arith)) (λ i. rw (class-open u i) (omega arith))

pub class-told : (k u : ℕ) → k ≡ class_of u → k < classes
class-told k u e = rw e (class_low u)

-- what a class may face, by the class
pub face-other : (c w : ℕ) → c ≡ 5 → true ≡ may_face c w
unfolding may_face
face-other c w e = rw (eq-eqb c 5 e)

pub face-open : (c w : ℕ) → c ≡ 4 → not (eqb w 0) ≡ may_face c w
unfolding may_face
face-open c w e = rw (ne_eqb c 5 (λ h. omega arith), eq-eqb c 4 e)

pub face-few : (c w : ℕ) → (c ≡ 5 → ⊥) → (c ≡ 4 → ⊥) → agree c w ≡ may_face c w
unfolding may_face
face-few c w h k = rw (ne_eqb c 5 h, ne_eqb c 4 k)

-- what a cell agrees with, its class may face
pub agree-faces : (u w : ℕ) → agree u w ≡ true → may_face (class_of u) w ≡ true
agree-faces u w h =
    by-class u
    (λ i. rw (class-few u i) (sym (face-few u w (λ e. omega arith) (λ e. omega arith)) ∙ h))
    (λ i j. sym (face-other (class_of u) w (class-other u i j)))
    (λ i. sym (face-open (class_of u) w (class-open u i)) ∙ sym (agree-open u w i) ∙ h)

pub faces : {p q allowed : List ℕ} {n : ℕ} {t : List ℕ} → Allowed q n allowed → Way p q n t → Faces p allowed n t
faces {p} {q} {allowed} {n} {t} l w a b i j e = l.at (class_of (entry p a b)) (image t a) (image t b) (class_low (entry p a b)) (w.below a i) (w.below b j) (λ k. e (w.one a b i j (sym k))) (agree-faces (entry p a b) (entry q (image t a) (image t b)) (w.cells a b i j e))

-- where the code passes a cell over, it may not be faced
pub unfaced : (e d c w : ℕ) {r : Bool} → r ≡ may_face c w → (not (eqb e d) && r) ≡ false → (e ≡ d → ⊥) × (may_face c w ≡ true) → ⊥
unfaced e d c w {r} g h k = never (not (eqb e d) && r) (rw (ne_eqb e d k.0) (g ∙ k.1)) h
