-- Plain hydrogens, and the atoms after some turns: every cell but the hydrogens of heavy atoms is as it was, and these grow by 1 with each atom that goes. Assumes nothing.
use mathlib.Core.Path.{◌≡◌, refl, sym, ap, ◌∙◌}
use mathlib.Core.Bool.{Bool, true, false, ◌&&◌, not}
use mathlib.Core.List.{List}
use Prim.Native.Nat.{ℕ, zero, suc, ◌+◌, ◌<◌, ◌≤◌}
use native.Mathlib.Omega.{arith}
use lib.Dec.{eqb, leb, ltb}
use lib.ListN.{length, length-set}
use lib.Seq.{get_or-set_same, get_or-set_other}
use lib.IntN.{ℤ, pos, negsuc}
use borrow.Author.Tests.{eqb-true, eqb-false, eq-eqb, leb-true, le-leb, ltb-true, not-true}
use Rattle.loops.specs.Loop.{pick, run}
use Rattle.loops.proofs.Loops.{and_left, and_right}
use Rattle.table.specs.Limits.{atom_cells, ELEMENT, SELECTED, ISOTOPE, HYDROGENS, CHARGE}
use Rattle.table.specs.Cells.{number, atom_place, atom_cell, hydrogens}
use Rattle.table.specs.Sound.{bond_degree}
use Rattle.table.proofs.Valid.{atom-row, range-pos, hydrogens-small}
use Rattle.table.proofs.Sound.{run-last}
use Rattle.matching.proofs.Graph.{never, and_intro}
use Rattle.table_graph.specs.Graph.{bond_sum}
use Rattle.same_model.specs.Same.{Molecule, eq_z}
use Rattle.same_model.proofs.Totals.{total}
use Rattle.folding.specs.Folding.{is_cell, neighbour, plain_row, plain_hydrogen, folds, one_more, fold_into, folded_to, goes, Complete}

-- ---- a cell that has a number
is-equal : (u : ℤ) (v : ℕ) → eq_z u (pos v) ≡ true → u ≡ pos v
is-equal (pos a) v h = ap pos (let p = leb-true v a (and_left (leb v a) (leb a v) h) in let q = leb-true a v (and_right (leb v a) (leb a v) h) in omega arith)
is-equal (negsuc a) v h = absurd (never false h refl)

pub is-cell : (t : List ℤ) (a f v : ℕ) → is_cell t a f v ≡ true → atom_cell t a f ≡ pos v
is-cell t a f v h = is-equal (atom_cell t a f) v h

pub cell-is : (t : List ℤ) (a f v : ℕ) → atom_cell t a f ≡ pos v → is_cell t a f v ≡ true
cell-is t a f v e = rw e (and_intro (leb v v) (leb v v) (le-leb v v (omega arith)) (le-leb v v (omega arith)))

-- ---- a plain hydrogen, as facts
pub record Plain (t bonds : List ℤ) (m a : ℕ) : Type 0 where
  pub element : atom_cell t a ELEMENT ≡ pos 1
  pub isotope : atom_cell t a ISOTOPE ≡ pos 0
  pub charge : atom_cell t a CHARGE ≡ pos 0
  pub hydrogens : atom_cell t a HYDROGENS ≡ pos 0
  pub selected : atom_cell t a SELECTED ≡ pos 0
  pub degree : bond_degree bonds m a ≡ 1
  pub sum : bond_sum bonds m a ≡ 1
  pub heavy : is_cell t (neighbour bonds m a) ELEMENT 1 ≡ false

module _ (t bonds : List ℤ) (m a : ℕ) where
  abbrev e : Bool
  e = is_cell t a ELEMENT 1

  abbrev i : Bool
  i = is_cell t a ISOTOPE 0

  abbrev c : Bool
  c = is_cell t a CHARGE 0

  abbrev h : Bool
  h = is_cell t a HYDROGENS 0

  abbrev s : Bool
  s = is_cell t a SELECTED 0

  abbrev d : Bool
  d = eqb (bond_degree bonds m a) 1

  abbrev u : Bool
  u = eqb (bond_sum bonds m a) 1

  abbrev w : Bool
  w = not (is_cell t (neighbour bonds m a) ELEMENT 1)

  pub plain-facts : plain_hydrogen t bonds m a ≡ true → Plain t bonds m a
  unfolding plain_hydrogen plain_row
  plain-facts k =
      let r = e && i && c && h && s in
      let k2 = and_left (r && d && u) w k in
      let k1 = and_left (r && d) u k2 in
      let k0 = and_left r d k1 in
      let h3 = and_left (e && i && c && h) s k0 in
      let h2 = and_left (e && i && c) h h3 in
      let h1 = and_left (e && i) c h2 in
      record {
        element = is-cell t a ELEMENT 1 (and_left e i h1);
        isotope = is-cell t a ISOTOPE 0 (and_right e i h1);
        charge = is-cell t a CHARGE 0 (and_right (e && i) c h2);
        hydrogens = is-cell t a HYDROGENS 0 (and_right (e && i && c) h h3);
        selected = is-cell t a SELECTED 0 (and_right (e && i && c && h) s k0);
        degree = eqb-true (bond_degree bonds m a) 1 (and_right r d k1);
        sum = eqb-true (bond_sum bonds m a) 1 (and_right (r && d) u k2);
        heavy = not-true (is_cell t (neighbour bonds m a) ELEMENT 1) (and_right (r && d && u) w k);
      }

  pub plain-test : Plain t bonds m a → plain_hydrogen t bonds m a ≡ true
  unfolding plain_hydrogen plain_row
  plain-test p =
      rw (
        cell-is t a ELEMENT 1 p.element,
        cell-is t a ISOTOPE 0 p.isotope,
        cell-is t a CHARGE 0 p.charge,
        cell-is t a HYDROGENS 0 p.hydrogens,
        cell-is t a SELECTED 0 p.selected,
        eq-eqb (bond_degree bonds m a) 1 p.degree,
        eq-eqb (bond_sum bonds m a) 1 p.sum,
        p.heavy,
      )

  -- an atom of another element is none
  pub heavy-row : is_cell t a ELEMENT 1 ≡ false → plain_row t a ≡ false
  unfolding plain_row
  heavy-row k = rw k

  pub heavy-plain : is_cell t a ELEMENT 1 ≡ false → plain_hydrogen t bonds m a ≡ false
  unfolding plain_hydrogen
  heavy-plain k = rw (heavy-row k)

-- ---- the atoms after some turns
module _ (x : Molecule) where
  abbrev nb : ℕ → ℕ
  nb a = neighbour x.bonds x.m a

  pub to_none : folded_to x 0 ≡ x.atoms
  unfolding folded_to run
  to_none = refl

  pub to-more : (a : ℕ) → folded_to x (suc a) ≡ fold_into x.bonds x.m a (folded_to x a)
  unfolding folded_to
  to-more a = let e : 0 + a ≡ a = omega arith in rw e at (run-last (fold_into x.bonds x.m) 0 a x.atoms)

  pub to_step : (a : ℕ) → folded_to x (suc a) ≡ pick (goes x a) (one_more (nb a) (folded_to x a)) (folded_to x a)
  unfolding fold_into goes
  to_step a = to-more a

  pub to-length : (a : ℕ) → length (folded_to x a) ≡ length x.atoms
  to-length zero = ap length to_none
  to-length (suc a) = ap length (to_step a) ∙ go (goes x a) ∙ to-length a
    where
      go : (z : Bool) → length (pick z (one_more (nb a) (folded_to x a)) (folded_to x a)) ≡ length (folded_to x a)
      go true = length-set (folded_to x a) (atom_place (nb a) HYDROGENS) _
      go false = refl

  -- every other field stays
  pub to-field : (a b f : ℕ) → f < atom_cells → (f ≡ HYDROGENS → ⊥) → atom_cell (folded_to x a) b f ≡ atom_cell x.atoms b f
  to-field zero b f l h = ap (λ (t : List ℤ). atom_cell t b f) to_none
  to-field (suc a) b f l h = ap (λ (t : List ℤ). atom_cell t b f) (to_step a) ∙ go (goes x a) ∙ to-field a b f l h
    where
      go : (z : Bool) → atom_cell (pick z (one_more (nb a) (folded_to x a)) (folded_to x a)) b f ≡ atom_cell (folded_to x a) b f
      go true = get_or-set_other (folded_to x a) (atom_place (nb a) HYDROGENS) (atom_place b f) _ (pos 0) (λ q. h (omega arith))
      go false = refl

  pub to-element : (a b : ℕ) → is_cell (folded_to x a) b ELEMENT 1 ≡ is_cell x.atoms b ELEMENT 1
  to-element a b = ap (λ (u : ℤ). eq_z u (pos 1)) (to-field a b ELEMENT (omega arith) (λ q. omega arith))

  -- an atom that goes has a heavy neighbour, with room
  goes-plain-then : (a : ℕ) → goes x a ≡ true → plain_hydrogen (folded_to x a) x.bonds x.m a ≡ true
  unfolding goes folds
  goes-plain-then a h = and_left (plain_hydrogen (folded_to x a) x.bonds x.m a) (ltb (hydrogens (folded_to x a) (nb a)) 9) h

  pub goes-room : (a : ℕ) → goes x a ≡ true → hydrogens (folded_to x a) (nb a) < 9
  unfolding goes folds
  goes-room a h = ltb-true (hydrogens (folded_to x a) (nb a)) 9 (and_right (plain_hydrogen (folded_to x a) x.bonds x.m a) (ltb (hydrogens (folded_to x a) (nb a)) 9) h)

  pub goes-heavy : (a : ℕ) → goes x a ≡ true → is_cell x.atoms (nb a) ELEMENT 1 ≡ false
  goes-heavy a h = sym (to-element a (nb a)) ∙ (plain-facts (folded_to x a) x.bonds x.m a (goes-plain-then a h)).heavy

  -- so the hydrogens of a hydrogen stay
  to-own : (a b : ℕ) → is_cell x.atoms b ELEMENT 1 ≡ true → atom_cell (folded_to x a) b HYDROGENS ≡ atom_cell x.atoms b HYDROGENS
  to-own zero b e = ap (λ (t : List ℤ). atom_cell t b HYDROGENS) to_none
  to-own (suc a) b e = ap (λ (t : List ℤ). atom_cell t b HYDROGENS) (to_step a) ∙ go (goes x a) refl ∙ to-own a b e
    where
      go : (z : Bool) → goes x a ≡ z → atom_cell (pick z (one_more (nb a) (folded_to x a)) (folded_to x a)) b HYDROGENS ≡ atom_cell (folded_to x a) b HYDROGENS
      go true g =
          get_or-set_other (folded_to x a) (atom_place (nb a) HYDROGENS) (atom_place b HYDROGENS) _ (pos 0)
          (λ q. let k : b ≡ nb a = omega arith in never (is_cell x.atoms b ELEMENT 1) e (ap (λ (p : ℕ). is_cell x.atoms p ELEMENT 1) k ∙ goes-heavy a g))
      go false g = refl

  -- and whether an atom is a plain hydrogen
  row_same : (a b : ℕ) → plain_row (folded_to x a) b ≡ plain_row x.atoms b
  row_same a b = go (is_cell x.atoms b ELEMENT 1) refl
    where
      go : (z : Bool) → is_cell x.atoms b ELEMENT 1 ≡ z → plain_row (folded_to x a) b ≡ plain_row x.atoms b
      go true e = same e
        where
          same : is_cell x.atoms b ELEMENT 1 ≡ true → plain_row (folded_to x a) b ≡ plain_row x.atoms b
          same e = unfold plain_row in rw (
            to-field a b ELEMENT (omega arith) (λ q. omega arith),
            to-field a b ISOTOPE (omega arith) (λ q. omega arith),
            to-field a b CHARGE (omega arith) (λ q. omega arith),
            to-field a b SELECTED (omega arith) (λ q. omega arith),
            to-own a b e,
          )
      go false e = heavy-row (folded_to x a) x.bonds x.m b (to-element a b ∙ e) ∙ sym (heavy-row x.atoms x.bonds x.m b e)

  pub plain-same : (a b : ℕ) → plain_hydrogen (folded_to x a) x.bonds x.m b ≡ plain_hydrogen x.atoms x.bonds x.m b
  unfolding plain_hydrogen
  plain-same a b = rw (row_same a b, to-element a (nb b))

  -- who goes
  pub goes-when : (a : ℕ) → goes x a ≡ (plain_hydrogen x.atoms x.bonds x.m a && ltb (hydrogens (folded_to x a) (nb a)) 9)
  unfolding goes folds
  goes-when a = ap (λ (z : Bool). z && ltb (hydrogens (folded_to x a) (nb a)) 9) (plain-same a a)

  pub goes-plain : (a : ℕ) → goes x a ≡ true → Plain x.atoms x.bonds x.m a
  goes-plain a h = plain-facts x.atoms x.bonds x.m a (sym (plain-same a a) ∙ goes-plain-then a h)

  pub heavy-stays : (a : ℕ) → is_cell x.atoms a ELEMENT 1 ≡ false → goes x a ≡ false
  heavy-stays a h = goes-when a ∙ rw (heavy-plain x.atoms x.bonds x.m a h)

  -- what an atom p gains by the turn of a
  abbrev pub gained : ℕ → ℕ → ℕ
  gained p a = pick (goes x a && eqb (nb a) p) 1 0

  module _ (c : Complete x) where
    inside : (a p : ℕ) → p < x.n → atom_place p HYDROGENS < length (folded_to x a)
    inside a p l = omega (arith, c.atoms_room, to-length a)

    pub to-hydrogens : (a p : ℕ) → p < x.n → atom_cell (folded_to x a) p HYDROGENS ≡ pos (hydrogens x.atoms p + total (gained p) a)
    unfolding total
    to-hydrogens zero p l =
        ap (λ (t : List ℤ). atom_cell t p HYDROGENS) to_none
        ∙ range-pos (atom_cell x.atoms p HYDROGENS) 9 (atom-row c.valid p l).hydrogens
        ∙ ap pos (let e : hydrogens x.atoms p ≡ hydrogens x.atoms p + 0 = omega arith in e)
    to-hydrogens (suc a) p l = ap (λ (t : List ℤ). atom_cell t p HYDROGENS) (to_step a) ∙ go (goes x a) (eqb (nb a) p) refl (to-hydrogens a p l)
      where
        h : ℕ
        h = hydrogens x.atoms p + total (gained p) a

        T : List ℤ
        T = folded_to x a

        go : (y z : Bool) → eqb (nb a) p ≡ z → atom_cell T p HYDROGENS ≡ pos h → atom_cell (pick y (one_more (nb a) T) T) p HYDROGENS ≡ pos (hydrogens x.atoms p + (total (gained p) a + pick (y && z) 1 0))
        go true true e ih =
            let q = eqb-true (nb a) p e in
            let k : hydrogens T p ≡ h = unfold number in ap number ih in
            rw q (get_or-set_same T (atom_place p HYDROGENS) (pos (hydrogens T p + 1)) (pos 0) (inside a p l) ∙ ap pos (let e : hydrogens T p + 1 ≡ hydrogens x.atoms p + (total (gained p) a + 1) = omega arith in e))
        go true false e ih =
            let q = eqb-false (nb a) p e in
            get_or-set_other T (atom_place (nb a) HYDROGENS) (atom_place p HYDROGENS) _ (pos 0) (λ k. q (omega arith)) ∙ ih ∙ ap pos (let e : h ≡ hydrogens x.atoms p + (total (gained p) a + 0) = omega arith in e)
        go false z e ih = ih ∙ ap pos (let e : h ≡ hydrogens x.atoms p + (total (gained p) a + 0) = omega arith in e)

    pub to-count : (a p : ℕ) → p < x.n → hydrogens (folded_to x a) p ≡ hydrogens x.atoms p + total (gained p) a
    unfolding number
    to-count a p l = ap number (to-hydrogens a p l)

    -- never over 9
    to-grown : (a p : ℕ) (z : Bool) → p < x.n → (goes x a && eqb (nb a) p) ≡ z → hydrogens (folded_to x (suc a)) p ≡ hydrogens (folded_to x a) p + pick z 1 0
    unfolding total
    to-grown a p z l e =
        let r = to-count (suc a) p l in
        let s = to-count a p l in
        let k : ◌≡◌ {A = ℕ} (gained p a) (pick z 1 0) = ap (λ (z : Bool). pick {A = ℕ} z 1 0) e in
        omega arith

    pub to-small : (a p : ℕ) → p < x.n → hydrogens (folded_to x a) p ≤ 9
    to-small zero p l = rw to_none (hydrogens-small c.valid p l)
    to-small (suc a) p l = go (goes x a) refl (eqb (nb a) p) refl (to-small a p l)
      where
        go : (y : Bool) → goes x a ≡ y → (z : Bool) → eqb (nb a) p ≡ z → hydrogens (folded_to x a) p ≤ 9 → hydrogens (folded_to x (suc a)) p ≤ 9
        go true e true q ih =
            let r = goes-room a e in
            let s : hydrogens (folded_to x a) (nb a) ≡ hydrogens (folded_to x a) p = ap (hydrogens (folded_to x a)) (eqb-true (nb a) p q) in
            omega (arith, to-grown a p true l (rw (e, q)))
        go true e false q ih = omega (arith, to-grown a p false l (rw (e, q)))
        go false e z q ih = omega (arith, to-grown a p false l (rw e))
