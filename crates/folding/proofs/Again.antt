-- Where no atom folds, nothing changes; and of what was folded no atom folds. Assumes nothing.
use mathlib.Core.Path.{◌≡◌, refl, sym, ap, ◌∙◌}
use mathlib.Core.Bool.{Bool, true, false, ◌&&◌}
use Prim.Native.Nat.{ℕ, zero, suc, ◌+◌, ◌*◌, ◌<◌, ◌≤◌}
use native.Mathlib.Omega.{arith}
use lib.Dec.{eqb, ltb}
use lib.ListN.{get_or}
use lib.IntN.{ℤ, pos}
use borrow.Author.Tests.{eqb-true, eqb-false, eq-eqb, ltb-true, ltb-false, not-true}
use Rattle.loops.specs.Loop.{pick}
use Rattle.kinds.specs.Kind.{is_mark}
use Rattle.table.specs.Limits.{atom_cells, bond_cells, ELEMENT, SELECTED, ISOTOPE, HYDROGENS, CHARGE, EXTENSION, MARK}
use Rattle.table.specs.Cells.{number, atom_cell, hydrogens, end1, end2, kind}
use Rattle.table.specs.Rows.{atom_row, cells_of, bond_cells_of}
use Rattle.table.proofs.Valid.{atom-row, bond-row, bond-fine-back, range-pos, first-end, second-end}
use Rattle.table.proofs.Keys.{bond-ends}
use Rattle.matching.proofs.Graph.{and_intro}
use Rattle.table_graph.specs.Graph.{bond_sum}
use Rattle.same_model.specs.Same.{Molecule, order_between}
use Rattle.same_model.proofs.Totals.{total}
use Rattle.folding.specs.Folding.{bared, is_cell, neighbour, plain_hydrogen, folds, fold_into, folded_to, goes, stays, new_atom, bond_stays, new_bond, moved_bond, merged, Complete}
use Rattle.folding.proofs.Ranks.{rank-all}
use Rattle.folding.proofs.Packed.{packed-same}
use Rattle.folding.proofs.Bared.{atoms-same, bonds-same, atoms-extension, atoms-mark, bonds-unmarked}
use Rattle.folding.proofs.Neighbours.{sum-degree, neighbour-below, lone-order}
use Rattle.folding.proofs.Plain.{Plain, plain-facts, plain-test, to_none, to-more, gained, to-count, goes-when}
use Rattle.folding.proofs.Merged.{row-cell, old, old_bond, old-at, old-bond, merged-field, merged-hydrogens, merged-kind, merged-complete, merged-order}
use Rattle.folding.proofs.Sums.{merged-sum}

-- ---- no atom folds: nothing changes
module _ (x : Molecule) (c : Complete x) (none : (a : ℕ) → a < x.n → folds x.bonds x.m a x.atoms ≡ false) where
  to-still : (a : ℕ) → a ≤ x.n → folded_to x a ≡ x.atoms
  unfolding fold_into
  to-still zero l = to_none x
  to-still (suc a) l = to-more x a ∙ ap (fold_into x.bonds x.m a) (to-still a (omega arith)) ∙ rw (none a (omega arith))

  all_stay : (a : ℕ) → a < x.n → stays x a ≡ true
  unfolding goes
  all_stay a l = rw (to-still a (omega arith), none a l)

  new-same : (a : ℕ) → a ≤ x.n → new_atom x a ≡ a
  new-same a l = rank-all (stays x) a (λ b k. all_stay b (omega arith))

  bonds-stay : (b : ℕ) → b < x.m → bond_stays x b ≡ true
  unfolding bond_stays
  bonds-stay b l =
      and_intro (stays x (end1 x.bonds b)) (stays x (end2 x.bonds b))
      (all_stay (end1 x.bonds b) (first-end c.valid b l))
      (all_stay (end2 x.bonds b) (second-end c.valid b l))

  bond-row-same : (b f : ℕ) → b < x.m → f < bond_cells → get_or (bond_cells_of (moved_bond x b)) f (pos 0) ≡ get_or x.bonds (bond_cells * b + f) (pos 0)
  bond-row-same b zero l h =
      let w = bond-ends x.bonds x.n b (bond-fine-back (bond-row c.valid b l)) in
      let k = first-end c.valid b l in
      ap pos (new-same (end1 x.bonds b) (omega arith)) ∙ sym w.first
  bond-row-same b (suc zero) l h =
      let w = bond-ends x.bonds x.n b (bond-fine-back (bond-row c.valid b l)) in
      let k = second-end c.valid b l in
      ap pos (new-same (end2 x.bonds b) (omega arith)) ∙ sym w.second
  bond-row-same b (suc (suc zero)) l h = refl
  bond-row-same b (suc (suc (suc f))) l h = absurd (omega arith)

  pub merged-still : merged x ≡ x
  unfolding merged
  merged-still =
      let t = folded_to x x.n in
      let p : (merged x).atoms ≡ x.atoms = packed-same atom_cells (stays x) (λ a. cells_of (atom_row t a)) x.n t all_stay (λ a f l h. row-cell t a f h) ∙ to-still x.n (omega arith) in
      let q : (merged x).bonds ≡ x.bonds = packed-same bond_cells (bond_stays x) (λ b. bond_cells_of (moved_bond x b)) x.m x.bonds bonds-stay (λ b f l h. bond-row-same b f l h) in
      let r : new_atom x x.n ≡ x.n = new-same x.n (omega arith) in
      let s : new_bond x x.m ≡ x.m = rank-all (bond_stays x) x.m bonds-stay in
      λ i. record { atoms = p i; bonds = q i; n = r i; m = s i }

-- ---- of what was folded no atom folds
total_mono : (f : ℕ → ℕ) (a b : ℕ) → a ≤ b → total f a ≤ total f b
unfolding total
total_mono f a zero l = let e : a ≡ 0 = omega arith in rw e (omega arith)
total_mono f a (suc b) l = go (eqb a (suc b)) refl (λ k. total_mono f a b k)
  where
    go : (z : Bool) → eqb a (suc b) ≡ z → (a ≤ b → total f a ≤ total f b) → total f a ≤ total f b + f b
    go true e ih = rw (eqb-true a (suc b) e) (omega arith)
    go false e ih = let q = eqb-false a (suc b) e in let r = ih (omega arith) in omega arith

module _ (x : Molecule) (c : Complete x) (k : ℕ) (l : k < (merged x).n) (p : Plain (merged x).atoms (merged x).bonds (merged x).m k) where
  abbrev a : ℕ
  a = old x k

  abbrev q : ℕ
  q = neighbour (merged x).bonds (merged x).m k

  below : a < x.n
  below = (old-at x k l).below

  near-below : q < (merged x).n
  near-below = neighbour-below (merged x) (merged-complete x c).valid k p.degree

  -- it was plain before
  no-hydrogens : hydrogens x.atoms a ≡ 0
  unfolding number
  no-hydrogens = let e = merged-hydrogens x c k l in let f : hydrogens (merged x).atoms k ≡ 0 = ap number p.hydrogens in omega arith

  one-bond : bond_sum x.bonds x.m a ≡ 1
  unfolding number
  one-bond = let e = merged-sum x c k l in let f : hydrogens (merged x).atoms k ≡ 0 = ap number p.hydrogens in let g = p.sum in let h = no-hydrogens in omega arith

  one-neighbour : neighbour x.bonds x.m a ≡ old x q
  one-neighbour = go (eqb (neighbour x.bonds x.m a) (old x q)) refl
    where
      go : (z : Bool) → eqb (neighbour x.bonds x.m a) (old x q) ≡ z → neighbour x.bonds x.m a ≡ old x q
      go true e = eqb-true (neighbour x.bonds x.m a) (old x q) e
      go false e =
          let r = lone-order (merged x) (merged-complete x c).valid k p.degree p.sum q near-below in
          let s : order_between (merged x) k q ≡ 1 = r ∙ ap (λ (z : Bool). pick {A = ℕ} z 1 0) (eq-eqb q q refl) in
          let t = merged-order x c k q l near-below in
          let u = lone-order x c.valid a (sum-degree x c.valid a one-bond) one-bond (old x q) (old-at x q near-below).below in
          let w : order_between x a (old x q) ≡ 0 = u ∙ ap (λ (z : Bool). pick {A = ℕ} z 1 0) e in
          absurd (omega arith)

  field : (f : ℕ) → f < atom_cells → (f ≡ HYDROGENS → ⊥) → atom_cell x.atoms a f ≡ atom_cell (merged x).atoms k f
  field f h n = sym (merged-field x c k f l h n)

  still-heavy : is_cell x.atoms (neighbour x.bonds x.m a) ELEMENT 1 ≡ false
  still-heavy = rw (one-neighbour, sym (merged-field x c q ELEMENT near-below (omega arith) (λ e. omega arith))) p.heavy

  plain-before : plain_hydrogen x.atoms x.bonds x.m a ≡ true
  plain-before =
      plain-test x.atoms x.bonds x.m a
      (record {
        element = field ELEMENT (omega arith) (λ e. omega arith) ∙ p.element;
        isotope = field ISOTOPE (omega arith) (λ e. omega arith) ∙ p.isotope;
        charge = field CHARGE (omega arith) (λ e. omega arith) ∙ p.charge;
        hydrogens = range-pos (atom_cell x.atoms a HYDROGENS) 9 (atom-row c.valid a below).hydrogens ∙ ap pos no-hydrogens;
        selected = field SELECTED (omega arith) (λ e. omega arith) ∙ p.selected;
        degree = sum-degree x c.valid a one-bond;
        sum = one-bond;
        heavy = still-heavy;
      })

  -- it did not go, so its neighbour is full
  full-then : 9 ≤ hydrogens (folded_to x a) (old x q)
  full-then =
      let e : goes x a ≡ false = not-true (goes x a) (old-at x k l).passes in
      let f : ltb (hydrogens (folded_to x a) (neighbour x.bonds x.m a)) 9 ≡ false = rw plain-before at (sym (goes-when x a) ∙ e) in
      rw one-neighbour at (ltb-false (hydrogens (folded_to x a) (neighbour x.bonds x.m a)) 9 f)

  pub full : 9 ≤ hydrogens (merged x).atoms q
  full =
      let w = (old-at x q near-below).below in
      let r = merged-hydrogens x c q near-below in
      let s = to-count x c a (old x q) w in
      let t = total_mono (gained x (old x q)) a x.n (let b = below in omega arith) in
      let u = full-then in
      omega arith

module _ (x : Molecule) (c : Complete x) where
  rests : (k : ℕ) → k < (merged x).n → folds (merged x).bonds (merged x).m k (merged x).atoms ≡ false
  unfolding folds
  rests k l = go (plain_hydrogen (merged x).atoms (merged x).bonds (merged x).m k) refl (ltb (hydrogens (merged x).atoms (neighbour (merged x).bonds (merged x).m k)) 9) refl
    where
      go : (y : Bool) → plain_hydrogen (merged x).atoms (merged x).bonds (merged x).m k ≡ y → (z : Bool) → ltb (hydrogens (merged x).atoms (neighbour (merged x).bonds (merged x).m k)) 9 ≡ z → (y && z) ≡ false
      go true e true f = absurd (let s = full x c k l (plain-facts (merged x).atoms (merged x).bonds (merged x).m k e) in let t = ltb-true (hydrogens (merged x).atoms (neighbour (merged x).bonds (merged x).m k)) 9 f in omega arith)
      go true e false f = refl
      go false e z f = refl

  pub merged-twice : merged (merged x) ≡ merged x
  merged-twice = merged-still (merged x) (merged-complete x c) rests

-- what is bare stays bare
pub bare-same : (x : Molecule) → ((a : ℕ) → a < x.n → atom_cell x.atoms a EXTENSION ≡ pos 0) → ((a : ℕ) → a < x.n → atom_cell x.atoms a MARK ≡ pos 0) → ((b : ℕ) → b < x.m → is_mark (kind x.bonds b) ≡ false) → bared x ≡ x
bare-same x h k g =
    let p = atoms-same x.n x.atoms h k in
    let q = bonds-same x.m x.bonds g in
    λ i. record { atoms = p i; bonds = q i; n = x.n; m = x.m }

module _ (x : Molecule) (c : Complete (bared x)) where
  pub bare-merged : bared (merged (bared x)) ≡ merged (bared x)
  bare-merged =
      let y = bared x in
      bare-same (merged y)
      (λ k l. merged-field y c k EXTENSION l (omega arith) (λ e. omega arith) ∙ atoms-extension x.n (old y k) x.atoms (old-at y k l).below)
      (λ k l. merged-field y c k MARK l (omega arith) (λ e. omega arith) ∙ atoms-mark x.n (old y k) x.atoms (old-at y k l).below)
      (λ j l. ap (λ (z : ℤ). is_mark (number z)) (merged-kind y c j l) ∙ bonds-unmarked x.m (old_bond y j) x.bonds (old-bond y j l).below)
