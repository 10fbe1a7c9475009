-- One law for each way out of the code's functions. Assumes nothing.
use mathlib.Core.Path.{◌≡◌, refl, sym, ap, ◌∙◌}
use mathlib.Core.Bool.{Bool, true, false, ◌&&◌, not}
use mathlib.Core.List.{List, [], ◌∷◌}
use Prim.Native.Nat.{ℕ, zero, suc, ◌+◌, ◌-◌, ◌<◌, ◌≤◌}
use native.Mathlib.Omega.{arith}
use native.Mathlib.Numerals.{add-one}
use lib.Dec.{eqb, leb, ltb}
use lib.ListN.{length, get_or, set, get_or-eq_default}
use lib.IntN.{ℤ, pos}
use borrow.Author.Tests.{ne_eqb, le-leb, lt-leb, lt-ltb, le-ltb, eqb-false, leb-true, ltb-true, not-true}
use mir.Syntax.{w32}
use mir.Val.{SFits, to_z, of_z}
use mir.Facts.{to_z-of_z, to_z_pos}
use Rattle.loops.specs.Loop.{pick}
use Rattle.loops.proofs.Loops.{and_left, and_right}
use Rattle.kinds.specs.Kind.{single, is_mark}
use Rattle.table.specs.Limits.{max_atoms, max_bonds, ELEMENT, HYDROGENS, KIND}
use Rattle.table.specs.Cells.{in_range, atom_place, bond_place, atom_cell, bond_cell, hydrogens, end1, end2, kind}
use Rattle.table.specs.declared.Atom.{Atom}
use Rattle.table.specs.declared.Bond.{Bond}
use Rattle.table.specs.Rows.{atom_at, bond_row, bond_at, BondFits, put_atom, with_bond, put_bond}
use Rattle.same_model.specs.Same.{Molecule, molecule}
use Rattle.folding.specs.Folding.{bared_atoms, bare_bond, bared_bonds, bared, is_cell, plain_row, merged, folded, Complete}
use Rattle.folding.specs.Links.{none, no_hydrogen, takes_one, folds_by, fold_by, move_atom, kept_by, moved_by, Placing, placing, move_bond, move_bonds}
use Rattle.folding.proofs.Bared.{bared-complete}
use Rattle.folding.proofs.Links.{heavy-merged, bonds-none, bonds-more}

-- ---- bond_of
pub bond-row : (a b : ℕ) (c : ℤ) → a < max_atoms → b < max_atoms → SFits w32 c → ◌≡◌ {A = Bond} (record { first = to_z w32 a; second = to_z w32 b; kind = to_z w32 (of_z w32 c) }) (record { first = pos a; second = pos b; kind = c })
bond-row a b c ha hb hc = simp (to_z_pos w32 {n = a} (omega arith), to_z_pos w32 {n = b} (omega arith), to_z-of_z hc)

-- ---- bare_bond
module _ (t : List ℤ) (b : ℕ) where
  pub bare-no : is_mark (kind t b) ≡ false → t ≡ bare_bond b t
  unfolding bare_bond
  bare-no e = rw e

  pub bare-yes : is_mark (kind t b) ≡ true → {u : List ℤ} → u ≡ set t (bond_place b KIND) (pos single) → u ≡ bare_bond b t
  unfolding bare_bond
  bare-yes n e = rw n e

-- ---- takes
module _ (t : List ℤ) (p : ℕ) where
  pub takes-no : in_range (atom_cell t p ELEMENT) (pos 1) (pos 1) ≡ true → false ≡ takes_one t p
  unfolding in_range takes_one
  takes-no e = rw e

  pub takes-yes : in_range (atom_cell t p ELEMENT) (pos 1) (pos 1) ≡ false → {h : ℕ} → h ≡ hydrogens t p → ltb h 9 ≡ takes_one t p
  unfolding in_range takes_one
  takes-yes e f = rw (e, f)

-- ---- folds, fold_atom
module _ (x a : ℕ) (t : List ℤ) where
  pub folds-row : plain_row t a ≡ false → false ≡ folds_by x a t
  unfolding folds_by
  folds-row e = rw e

  pub folds-zero : plain_row t a ≡ true → x ≡ 0 → false ≡ folds_by x a t
  unfolding folds_by
  folds-zero e f = rw (e, f)

  pub folds-high : plain_row t a ≡ true → (x ≡ 0 → ⊥) → max_atoms < x → false ≡ folds_by x a t
  unfolding folds_by
  folds-high e n l = rw (e, ne_eqb x 0 n, lt-leb x max_atoms l)

  pub folds-takes : plain_row t a ≡ true → (x ≡ 0 → ⊥) → x ≤ max_atoms → {r : Bool} → r ≡ takes_one t (x - 1) → r ≡ folds_by x a t
  unfolding folds_by
  folds-takes e n l f = f ∙ rw (e, ne_eqb x 0 n, le-leb x max_atoms l)

  pub fold-no : folds_by x a t ≡ false → (false ≡ folds_by x a t) × (t ≡ fold_by x a t)
  fold-no e = (sym e, rw e)

  -- what is known of one that goes
  pub record Going : Type 0 where
    pub linked : 0 < x
    pub limit : x ≤ max_atoms
    pub room : hydrogens t (x - 1) < 9

  pub going : folds_by x a t ≡ true → Going
  unfolding folds_by takes_one
  going h =
      let s = not (is_cell t (x - 1) ELEMENT 1) in
      let u = ltb (hydrogens t (x - 1)) 9 in
      let h1 = and_right (plain_row t a) (not (eqb x 0) && (leb x max_atoms && (s && u))) h in
      let h2 = and_right (not (eqb x 0)) (leb x max_atoms && (s && u)) h1 in
      record {
        linked = let n = eqb-false x 0 (not-true (eqb x 0) (and_left (not (eqb x 0)) (leb x max_atoms && (s && u)) h1)) in omega arith;
        limit = leb-true x max_atoms (and_left (leb x max_atoms) (s && u) h2);
        room = ltb-true (hydrogens t (x - 1)) 9 (and_right s u (and_right (leb x max_atoms) (s && u) h2));
      }

  pub fold-yes : folds_by x a t ≡ true → {h : ℕ} → h ≡ hydrogens t (x - 1) → {v : ℤ} → v ≡ pos (h + 1) → {u : List ℤ} → u ≡ set t (atom_place (x - 1) HYDROGENS) v → (true ≡ folds_by x a t) × (u ≡ fold_by x a t)
  fold-yes e f q g = (sym e, g ∙ rw (e, q, f))

-- ---- new_end
default : (l : List ℕ) (i d e : ℕ) → i < length l → get_or l i d ≡ get_or l i e
default [] i d e h = absurd (omega arith)
default (x ∷ l) zero d e h = refl
default (x ∷ l) (suc i) d e h = default l i d e (omega arith)

module _ (l : List ℕ) (i : ℕ) where
  pub end_none : {a : ℕ} → a ≡ i → length l ≤ a → none ≡ get_or l i none
  end_none e h = sym (get_or-eq_default l none (omega arith))

  pub end-at : {a : ℕ} → a ≡ i → a < length l → get_or l a 0 ≡ get_or l i none
  end-at {a} e h = rw e (default l i 0 none (omega arith))

-- ---- move_atom
module _ (t : List ℤ) (k a : ℕ) where
  pub move-no : max_atoms ≤ k → t ≡ move_atom k a t
  move-no h = rw (le-ltb k max_atoms h)

  pub move_row : k < max_atoms → a < max_atoms → {r : Atom} → r ≡ atom_at t a → {u : List ℤ} → u ≡ put_atom t k r → u ≡ move_atom k a t
  unfolding atom_at put_atom
  move_row h l e f = f ∙ rw (lt-ltb k max_atoms h, e, lt-ltb a max_atoms l)

-- ---- move_bond
pub row-kind : (t : List ℤ) (b : ℕ) (x : Bond) → (x ≡ bond_at t b) × BondFits x → b < max_bonds → to_z w32 (of_z w32 x.kind) ≡ bond_cell t b KIND
unfolding bond_at
row-kind t b x e h =
    let f : x ≡ bond_row t b = e.0 ∙ simp (lt-ltb b max_bonds h) in
    to_z-of_z e.1.kind ∙ ap (λ (y : Bond). y.kind) f

module _ (l : List ℕ) (b : ℕ) (t : List ℤ) (k : ℕ) {e f : ℕ} (pe : e ≡ get_or l (end1 t b) none) (pf : f ≡ get_or l (end2 t b) none) where
  pub bond-first : max_atoms ≤ e → placing t k ≡ move_bond l b (placing t k)
  unfolding move_bond kept_by
  bond-first h = rw (sym pe, le-ltb e max_atoms h)

  pub bond-second : e < max_atoms → max_atoms ≤ f → placing t k ≡ move_bond l b (placing t k)
  unfolding move_bond kept_by
  bond-second g h = rw (sym pe, sym pf, lt-ltb e max_atoms g, le-ltb f max_atoms h)

  pub bond-moved : e < max_atoms → f < max_atoms → k < max_bonds → {c : ℤ} → c ≡ bond_cell t b KIND → {r : Bond} → r ≡ record { first = pos e; second = pos f; kind = c } → {u : List ℤ} → u ≡ put_bond t k r → placing u (k + 1) ≡ move_bond l b (placing t k)
  unfolding move_bond kept_by put_bond
  bond-moved g h i q z {u} w =
      rw (sym pe, sym pf, lt-ltb e max_atoms g, lt-ltb f max_atoms h)
      (let p : u ≡ with_bond t k (record { first = pos e; second = pos f; kind = bond_cell t b KIND }) = w ∙ rw (lt-ltb k max_bonds i, z, q) in λ j. placing (p j) (k + 1))

-- ---- move_bonds: the loop stands at i
pub record Placed (l : List ℕ) (t₀ : List ℤ) (m i : ℕ) (t : List ℤ) (k : ℕ) : Type 0 where
  pub within : i ≤ m
  pub low : k ≤ i
  pub long : length t ≡ length t₀
  pub state : placing t k ≡ move_bonds l i t₀

pub placed-start : {l : List ℕ} {t : List ℤ} {m : ℕ} → Placed l t m 0 t 0
placed-start {l} {t} = record { within = omega arith; low = omega arith; long = refl; state = sym (bonds-none l t) }

next_low : (l : List ℕ) (b : ℕ) (s : Placing) → (move_bond l b s).next ≤ s.next + 1
unfolding move_bond
next_low l b s = go (kept_by l b s.table)
  where
    go : (z : Bool) → (pick z (placing (with_bond s.table s.next (moved_by l b s.table)) (s.next + 1)) s).next ≤ s.next + 1
    go true = omega arith
    go false = omega arith

module _ {l : List ℕ} {t₀ t : List ℤ} {m i k : ℕ} (w : Placed l t₀ m i t k) where
  pub placed-step : {u : List ℤ} {j : ℕ} → i < m → placing u j ≡ move_bond l i (placing t k) → length u ≡ length t → Placed l t₀ m (i + 1) u j
  placed-step {u} {j} h e f =
      let q : j ≡ (move_bond l i (placing t k)).next = ap (λ (s : Placing). s.next) e in
      record {
        within = omega arith;
        low = let p = next_low l i (placing t k) in let g = w.low in omega arith;
        long = f ∙ w.long;
        state = rw (add-one i) (e ∙ ap (move_bond l i) w.state ∙ sym (bonds-more l i t₀));
      }

  pub placed_end : m ≤ i → placing t k ≡ move_bonds l m t₀
  placed_end h = let q : i ≡ m = let g = w.within in omega arith in rw q at w.state

-- ---- fold
module _ (atoms bonds : List ℤ) (n m : ℕ) (c : Complete (molecule atoms bonds n m)) {t u : List ℤ} (p : t ≡ bared_atoms n atoms) (q : u ≡ bared_bonds m bonds) where
  bare-tables : molecule t u n m ≡ bared (molecule atoms bonds n m)
  bare-tables = λ i. molecule (p i) (q i) n m

  pub bare-room : Complete (molecule t u n m)
  bare-room = rw bare-tables (bared-complete c)

  pub fold-none : no_hydrogen t n ≡ true → molecule t u n m ≡ folded (molecule atoms bonds n m)
  fold-none h = bare-tables ∙ sym (heavy-merged (bared (molecule atoms bonds n m)) (bared-complete c) (ap (λ (s : List ℤ). no_hydrogen s n) (sym p) ∙ h))

  pub fold-some : {y : Molecule} → y ≡ merged (molecule t u n m) → y ≡ folded (molecule atoms bonds n m)
  fold-some e = e ∙ ap merged bare-tables
