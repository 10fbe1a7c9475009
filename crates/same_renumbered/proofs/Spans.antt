-- The order between two atoms, before and after settling, is a sum over the list of bonds: a renumbering keeps it. Assumes nothing.
use mathlib.Core.Path.{◌≡◌, refl, sym, ap, ◌∙◌}
use mathlib.Core.Bool.{Bool, true, false, ◌&&◌, ◌||◌, cond}
use mathlib.Core.List.{List, [], ◌∷◌, map}
use Prim.Native.Nat.{ℕ, zero, suc, ◌+◌, ◌<◌}
use native.Mathlib.Omega.{arith}
use native.Mathlib.Nat.{zero-add, add-zero}
use lib.Dec.{eqb, ltb, leb}
use lib.IntN.{ℤ}
use borrow.Author.Tests.{eqb-true, eqb-false, eq-eqb, ne_eqb, leb-true}
use Rattle.loops.specs.Loop.{pick, run, up_to}
use Rattle.loops.proofs.Loops.{and_left, and_right}
use Rattle.kinds.specs.Kind.{order, turned}
use Rattle.kinds.proofs.Kind.{order-turned}
use Rattle.matching.specs.Enumeration.{Row, is_row}
use Rattle.matching.specs.Graph.{set_of}
use Rattle.matching.proofs.Graph.{never}
use Rattle.writing_walk.specs.Token.{Bond, bond}
use Rattle.writing_walk.specs.Same.{none, more}
use Rattle.writing_walk.proofs.Walk.{Inside}
use Rattle.writing_walk.proofs.Sums.{total}
use Rattle.writing.specs.Write.{walk_bond, bond_list}
use Rattle.roundtrip_matchings.proofs.Chosen.{chosen_sum}
use Rattle.same_model.specs.Same.{Molecule, joins, add_order, order_between, image}
use Rattle.same_model.specs.Redrawing.{Renumbering}
use Rattle.same_model.proofs.Totals as totals
use Rattle.same_renumbered.specs.Renumbered.{moved}

-- the bond joins a and b; its order between them; 1 if it does
abbrev pub spans : ℕ → ℕ → Bond → Bool
spans a b c = (eqb c.lo a && eqb c.hi b) || (eqb c.lo b && eqb c.hi a)

abbrev pub span_order : ℕ → ℕ → Bond → ℕ
span_order a b c = pick (spans a b c) (order c.kind) 0

abbrev pub span_one : ℕ → ℕ → Bond → ℕ
span_one a b c = pick (spans a b c) 1 0

-- a loop that adds up is a sum over the list
order_from : (x : Molecule) (a b k m s : ℕ) → run (add_order x a b) k m s ≡ s + total (span_order a b) (up_to (walk_bond x.bonds) k m)
unfolding run up_to joins
order_from x a b k zero s = sym (add-zero s)
order_from x a b k (suc m) s = omega (arith, order_from x a b (suc k) m (s + span_order a b (walk_bond x.bonds k)))

pub order-list : (x : Molecule) (a b : ℕ) → order_between x a b ≡ total (span_order a b) (bond_list x.bonds x.m)
unfolding order_between
order-list x a b = order_from x a b 0 x.m 0 ∙ zero-add (total (span_order a b) (bond_list x.bonds x.m))

-- and so is one over the chosen bonds
bit-chosen : (c : ℕ) (p : Bool) → leb c 1 ≡ true → pick {A = ℕ} (eqb c 1 && p) 1 0 ≡ pick (eqb c 0) 0 (pick p 1 0)
bit-chosen c p h = go (eqb c 0) refl
  where
    go : (z : Bool) → eqb c 0 ≡ z → pick {A = ℕ} (eqb c 1 && p) 1 0 ≡ pick z 0 (pick p 1 0)
    go true e = rw (eqb-true c 0 e)
    go false e = let q : c ≡ 1 = (let w = eqb-false c 0 e in let u = leb-true c 1 h in omega arith) in rw q

chosen-from : (bonds : List ℤ) (p : Bond → Bool) (g : ℕ → ℕ) (k m s : ℕ) (r : Row) → is_row m r ≡ true → ((j : ℕ) → j < m → g (k + j) ≡ pick (set_of r j && p (walk_bond bonds (k + j))) 1 0)
    → run (λ (j s : ℕ). s + g j) k m s ≡ s + chosen_sum (λ c. pick (p c) 1 0) (up_to (walk_bond bonds) k m) r
unfolding run up_to chosen_sum is_row
chosen-from bonds p g k zero s [] i h = sym (add-zero s)
chosen-from bonds p g k zero s (c ∷ r) i h = absurd (never false i refl)
chosen-from bonds p g k (suc m) s [] i h = absurd (never false i refl)
chosen-from bonds p g k (suc m) s (c ∷ r) i h =
    let z : k + 0 ≡ k = add-zero k in
    let e : g k ≡ pick (eqb c 1 && p (walk_bond bonds k)) 1 0 = rw z at (h 0 (omega arith)) in
    let f = bit-chosen c (p (walk_bond bonds k)) (and_left (leb c 1) (is_row m r) i) in
    let w = chosen-from bonds p g (suc k) m (s + g k) r (and_right (leb c 1) (is_row m r) i) (λ j l. let q : k + suc j ≡ suc k + j = omega arith in rw q at (h (suc j) (omega arith))) in
    omega arith

pub chosen-list : (x : Molecule) (r : Row) (a b : ℕ) → is_row x.m r ≡ true → totals.total (λ k. pick (set_of r k && joins x a b k) 1 0) x.m ≡ chosen_sum (span_one a b) (bond_list x.bonds x.m) r
unfolding joins
chosen-list x r a b i =
    let g : ℕ → ℕ = λ k. pick (set_of r k && joins x a b k) 1 0 in
    sym (totals.run-total g x.m)
    ∙ chosen-from x.bonds (spans a b) g 0 x.m 0 r i (λ j l. let q : 0 + j ≡ j = omega arith in rw q)
    ∙ zero-add (chosen_sum (span_one a b) (bond_list x.bonds x.m) r)

-- a renumbering keeps which bonds join which atoms
module _ {n : ℕ} {t : List ℕ} (r : Renumbering n t) where
  eqb-image : (u v : ℕ) → u < n → v < n → eqb (image t u) (image t v) ≡ eqb u v
  eqb-image u v l k = go (eqb u v) refl
    where
      go : (z : Bool) → eqb u v ≡ z → eqb (image t u) (image t v) ≡ z
      go true e = eq-eqb (image t u) (image t v) (ap (image t) (eqb-true u v e))
      go false e = ne_eqb (image t u) (image t v) (λ q. eqb-false u v e (r.one u v l k q))

  module _ (a b : ℕ) (l : a < n) (k : b < n) where
    and-turn : (x y : Bool) → (x && y) ≡ (y && x)
    and-turn true true = refl
    and-turn true false = refl
    and-turn false true = refl
    and-turn false false = refl

    or_turn : (x y : Bool) → (x || y) ≡ (y || x)
    or_turn true true = refl
    or_turn true false = refl
    or_turn false true = refl
    or_turn false false = refl

    -- the ends the other way round
    turn : (p q u w : Bool) → ((p && q) || (u && w)) ≡ ((w && u) || (q && p))
    turn p q u w = or_turn (p && q) (u && w) ∙ (λ i. and-turn u w i || and-turn p q i)

    ends : (c : Bond) → (c.lo < c.hi) × (c.hi < n) → spans (image t a) (image t b) (bond (image t c.lo) (image t c.hi) c.kind) ≡ spans a b c
    ends c i =
        let h : c.lo < n = omega (arith, i.0, i.1) in
        λ j. (eqb-image c.lo a h l j && eqb-image c.hi b i.1 k j) || (eqb-image c.lo b h k j && eqb-image c.hi a i.1 l j)

    turned-ends : (c : Bond) → (c.lo < c.hi) × (c.hi < n) → spans (image t a) (image t b) (bond (image t c.hi) (image t c.lo) (turned c.kind)) ≡ spans a b c
    turned-ends c i =
        let A = image t a in
        let B = image t b in
        let L = image t c.lo in
        let H = image t c.hi in
        turn (eqb H A) (eqb L B) (eqb H B) (eqb L A) ∙ ends c i

    module _ (f : ℕ → ℕ) (same : (o : ℕ) → f (turned o) ≡ f o) where
      pub span-moved : (c : Bond) → (c.lo < c.hi) × (c.hi < n) → pick (spans (image t a) (image t b) (moved t c)) (f (moved t c).kind) 0 ≡ pick (spans a b c) (f c.kind) 0
      span-moved c i = go (ltb (image t c.lo) (image t c.hi))
        where
          go : (z : Bool) → (let d = cond z (bond (image t c.lo) (image t c.hi) c.kind) (bond (image t c.hi) (image t c.lo) (turned c.kind)) in pick (spans (image t a) (image t b) d) (f d.kind) 0) ≡ pick (spans a b c) (f c.kind) 0
          go true = ap (λ (z : Bool). pick z (f c.kind) 0) (ends c i)
          go false = λ j. pick (turned-ends c i j) (same c.kind j) 0

    pub order-moved : (bs : List Bond) → Inside n bs → total (span_order (image t a) (image t b)) (map (moved t) bs) ≡ total (span_order a b) bs
    order-moved [] none = refl
    order-moved (c ∷ bs) (more h q) = λ j. span-moved order order-turned c h j + order-moved bs q j

    pub one-moved : (c : Bond) → (c.lo < c.hi) × (c.hi < n) → span_one (image t a) (image t b) (moved t c) ≡ span_one a b c
    one-moved c i = span-moved (λ o. 1) (λ o. refl) c i
