-- Bare tables: extensions and marks are 0, no bond is marked, and all else is as it was. Assumes nothing.
use mathlib.Core.Path.{◌≡◌, refl, sym, ap, ◌∙◌}
use mathlib.Core.Bool.{Bool, true, false, ◌||◌, not}
use mathlib.Core.List.{List}
use Prim.Native.Nat.{ℕ, zero, suc, ◌+◌, ◌<◌, ◌≤◌}
use native.Mathlib.Omega.{arith}
use lib.Dec.{eqb, ltb}
use lib.ListN.{length, get_or, set, length-set, get_or-eq_default}
use lib.Seq.{get_or-set_same, get_or-set_other, set-get_or}
use lib.IntN.{ℤ, pos}
use borrow.Author.Tests.{eqb-true, eqb-false, ltb-true, ltb-false}
use Rattle.loops.specs.Loop.{pick, run}
use Rattle.loops.proofs.Loops.{each_all, each_same}
use Rattle.kinds.specs.Kind.{elided, single, max_kind, is_mark, order}
use Rattle.table.specs.Limits.{atom_cells, bond_cells, ELEMENT, SELECTED, ISOTOPE, HYDROGENS, CHARGE, EXTENSION, MARK, FIRST, SECOND, KIND}
use Rattle.table.specs.Cells.{number, in_range, atom_place, bond_place, atom_cell, bond_cell, end1, end2, kind, touches}
use Rattle.table.specs.Valid.{selected_ok, same_ends, fresh, distinct, atom_ok, bond_ok, Valid}
use Rattle.table.specs.Sound.{bond_degree}
use Rattle.table.proofs.Valid.{range-of, AtomFine, atom-row, atom-fine-back, BondFine, bond-row, bond-fine-back}
use Rattle.table.proofs.Sound.{run-last, degree-same}
use Rattle.table_graph.specs.Graph.{share, bond_sum, delocalized_at, flag}
use Rattle.same_model.specs.Same.{Molecule, joins, order_between}
use Rattle.same_model.specs.Redrawing.{settled_sum, joined}
use Rattle.same_model.proofs.Totals.{total-same}
use Rattle.same_model.proofs.Orders.{between, order-total, sum-total}
use Rattle.folding.specs.Folding.{bare_atom, bared_atoms, bare_bond, bared_bonds, bared, Complete}

-- ---- atoms
atoms-more : (n : ℕ) (t : List ℤ) → bared_atoms (suc n) t ≡ bare_atom n (bared_atoms n t)
unfolding bared_atoms
atoms-more n t = let e : 0 + n ≡ n = omega arith in rw e at (run-last bare_atom 0 n t)

atoms-none : (t : List ℤ) → bared_atoms 0 t ≡ t
unfolding bared_atoms run
atoms-none t = refl

-- a cell set to 0 is 0, in the table or past its end
set-zero : (l : List ℤ) (i : ℕ) → get_or (set l i (pos 0)) i (pos 0) ≡ pos 0
set-zero l i = go (ltb i (length l)) refl
  where
    go : (z : Bool) → ltb i (length l) ≡ z → get_or (set l i (pos 0)) i (pos 0) ≡ pos 0
    go true e = get_or-set_same l i (pos 0) (pos 0) (ltb-true i (length l) e)
    go false e = get_or-eq_default (set l i (pos 0)) (pos 0) (rw length-set (ltb-false i (length l) e))

pub atoms-length : (n : ℕ) (t : List ℤ) → length (bared_atoms n t) ≡ length t
atoms-length zero t = ap length (atoms-none t)
atoms-length (suc n) t = ap length (atoms-more n t) ∙ simp length-set (atoms-length n t)

pub atoms-field : (n a f : ℕ) (t : List ℤ) → f < atom_cells → (f ≡ EXTENSION → ⊥) → (f ≡ MARK → ⊥) → atom_cell (bared_atoms n t) a f ≡ atom_cell t a f
atoms-field zero a f t l h k = ap (λ (u : List ℤ). atom_cell u a f) (atoms-none t)
atoms-field (suc n) a f t l h k =
    let u = bared_atoms n t in
    ap (λ (u : List ℤ). atom_cell u a f) (atoms-more n t)
    ∙ get_or-set_other (set u (atom_place n EXTENSION) (pos 0)) (atom_place n MARK) (atom_place a f) (pos 0) (pos 0) (λ q. k (omega arith))
    ∙ get_or-set_other u (atom_place n EXTENSION) (atom_place a f) (pos 0) (pos 0) (λ q. h (omega arith))
    ∙ atoms-field n a f t l h k

pub atoms-extension : (n a : ℕ) (t : List ℤ) → a < n → atom_cell (bared_atoms n t) a EXTENSION ≡ pos 0
atoms-extension zero a t l = absurd (omega arith)
atoms-extension (suc n) a t l = ap (λ (u : List ℤ). atom_cell u a EXTENSION) (atoms-more n t) ∙ get_or-set_other (set u (atom_place n EXTENSION) (pos 0)) (atom_place n MARK) (atom_place a EXTENSION) (pos 0) (pos 0) (λ q. omega arith) ∙ go (eqb a n) refl (λ i. atoms-extension n a t i)
  where
    u : List ℤ
    u = bared_atoms n t

    go : (z : Bool) → eqb a n ≡ z → (a < n → atom_cell u a EXTENSION ≡ pos 0) → get_or (set u (atom_place n EXTENSION) (pos 0)) (atom_place a EXTENSION) (pos 0) ≡ pos 0
    go true e ih = rw (eqb-true a n e) (set-zero u (atom_place n EXTENSION))
    go false e ih = let q = eqb-false a n e in get_or-set_other u (atom_place n EXTENSION) (atom_place a EXTENSION) (pos 0) (pos 0) (λ w. omega arith) ∙ ih (omega arith)

pub atoms-mark : (n a : ℕ) (t : List ℤ) → a < n → atom_cell (bared_atoms n t) a MARK ≡ pos 0
atoms-mark zero a t l = absurd (omega arith)
atoms-mark (suc n) a t l = ap (λ (u : List ℤ). atom_cell u a MARK) (atoms-more n t) ∙ go (eqb a n) refl (λ i. atoms-mark n a t i)
  where
    u : List ℤ
    u = bared_atoms n t

    w : List ℤ
    w = set u (atom_place n EXTENSION) (pos 0)

    go : (z : Bool) → eqb a n ≡ z → (a < n → atom_cell u a MARK ≡ pos 0) → get_or (set w (atom_place n MARK) (pos 0)) (atom_place a MARK) (pos 0) ≡ pos 0
    go true e ih = rw (eqb-true a n e) (set-zero w (atom_place n MARK))
    go false e ih =
        let q = eqb-false a n e in
        get_or-set_other w (atom_place n MARK) (atom_place a MARK) (pos 0) (pos 0) (λ k. omega arith)
        ∙ get_or-set_other u (atom_place n EXTENSION) (atom_place a MARK) (pos 0) (pos 0) (λ k. omega arith)
        ∙ ih (omega arith)

-- what is bare stays as it is
set_same : (l : List ℤ) (i : ℕ) (v : ℤ) → get_or l i (pos 0) ≡ v → set l i v ≡ l
set_same l i v e = rw (sym e) (set-get_or l i (pos 0))

pub atoms-same : (n : ℕ) (t : List ℤ) → ((a : ℕ) → a < n → atom_cell t a EXTENSION ≡ pos 0) → ((a : ℕ) → a < n → atom_cell t a MARK ≡ pos 0) → bared_atoms n t ≡ t
atoms-same zero t h k = atoms-none t
atoms-same (suc n) t h k =
    atoms-more n t
    ∙ ap (bare_atom n) (atoms-same n t (λ a l. h a (omega arith)) (λ a l. k a (omega arith)))
    ∙ rw (set_same t (atom_place n EXTENSION) (pos 0) (h n (omega arith))) (set_same t (atom_place n MARK) (pos 0) (k n (omega arith)))

-- ---- bonds
bonds-more : (m : ℕ) (t : List ℤ) → bared_bonds (suc m) t ≡ bare_bond m (bared_bonds m t)
unfolding bared_bonds
bonds-more m t = let e : 0 + m ≡ m = omega arith in rw e at (run-last bare_bond 0 m t)

bonds-none : (t : List ℤ) → bared_bonds 0 t ≡ t
unfolding bared_bonds run
bonds-none t = refl

-- a mark is no 0, so it stands in the table
mark-inside : (t : List ℤ) (b : ℕ) → is_mark (kind t b) ≡ true → bond_place b KIND < length t
unfolding number
mark-inside t b h = go (ltb (bond_place b KIND) (length t)) refl
  where
    go : (z : Bool) → ltb (bond_place b KIND) (length t) ≡ z → bond_place b KIND < length t
    go true e = ltb-true (bond_place b KIND) (length t) e
    go false e =
        let z : kind t b ≡ 0 = ap number (get_or-eq_default t (pos 0) (ltb-false (bond_place b KIND) (length t) e)) in
        let q : false ≡ true = rw z at h in
        absurd (let z : ◌≡◌ {A = ℕ} 0 1 = cc in omega arith)

step-length : (b : ℕ) (t : List ℤ) → length (bare_bond b t) ≡ length t
unfolding bare_bond
step-length b t = go (is_mark (kind t b))
  where
    go : (z : Bool) → length (pick z (set t (bond_place b KIND) (pos single)) t) ≡ length t
    go true = length-set t (bond_place b KIND) (pos single)
    go false = refl

step_other : (b i : ℕ) (t : List ℤ) → (i ≡ bond_place b KIND → ⊥) → get_or (bare_bond b t) i (pos 0) ≡ get_or t i (pos 0)
unfolding bare_bond
step_other b i t h = go (is_mark (kind t b))
  where
    go : (z : Bool) → get_or (pick z (set t (bond_place b KIND) (pos single)) t) i (pos 0) ≡ get_or t i (pos 0)
    go true = get_or-set_other t (bond_place b KIND) i (pos single) (pos 0) h
    go false = refl

step-kind : (b : ℕ) (t : List ℤ) → bond_cell (bare_bond b t) b KIND ≡ pick (is_mark (kind t b)) (pos single) (bond_cell t b KIND)
unfolding bare_bond
step-kind b t = go (is_mark (kind t b)) refl
  where
    go : (z : Bool) → is_mark (kind t b) ≡ z → bond_cell (pick z (set t (bond_place b KIND) (pos single)) t) b KIND ≡ pick z (pos single) (bond_cell t b KIND)
    go true e = get_or-set_same t (bond_place b KIND) (pos single) (pos 0) (mark-inside t b e)
    go false e = refl

pub bonds-length : (m : ℕ) (t : List ℤ) → length (bared_bonds m t) ≡ length t
bonds-length zero t = ap length (bonds-none t)
bonds-length (suc m) t = ap length (bonds-more m t) ∙ step-length m (bared_bonds m t) ∙ bonds-length m t

-- the ends stay
pub bonds-field : (m b f : ℕ) (t : List ℤ) → f < bond_cells → (f ≡ KIND → ⊥) → bond_cell (bared_bonds m t) b f ≡ bond_cell t b f
bonds-field zero b f t l h = ap (λ (u : List ℤ). bond_cell u b f) (bonds-none t)
bonds-field (suc m) b f t l h = ap (λ (u : List ℤ). bond_cell u b f) (bonds-more m t) ∙ step_other m (bond_place b f) (bared_bonds m t) (λ q. h (omega arith)) ∙ bonds-field m b f t l h

-- the kinds of later bonds stay for now
later-kind : (m b : ℕ) (t : List ℤ) → m ≤ b → bond_cell (bared_bonds m t) b KIND ≡ bond_cell t b KIND
later-kind zero b t l = ap (λ (u : List ℤ). bond_cell u b KIND) (bonds-none t)
later-kind (suc m) b t l = ap (λ (u : List ℤ). bond_cell u b KIND) (bonds-more m t) ∙ step_other m (bond_place b KIND) (bared_bonds m t) (λ q. omega arith) ∙ later-kind m b t (omega arith)

-- a marked bond becomes single
pub bonds-kind : (m b : ℕ) (t : List ℤ) → b < m → bond_cell (bared_bonds m t) b KIND ≡ pick (is_mark (kind t b)) (pos single) (bond_cell t b KIND)
bonds-kind zero b t l = absurd (omega arith)
bonds-kind (suc m) b t l = ap (λ (u : List ℤ). bond_cell u b KIND) (bonds-more m t) ∙ go (eqb b m) refl (λ i. bonds-kind m b t i)
  where
    go : (z : Bool) → eqb b m ≡ z → (b < m → bond_cell (bared_bonds m t) b KIND ≡ pick (is_mark (kind t b)) (pos single) (bond_cell t b KIND))
        → bond_cell (bare_bond m (bared_bonds m t)) b KIND ≡ pick (is_mark (kind t b)) (pos single) (bond_cell t b KIND)
    go true e ih =
        let q = later-kind m m t (omega arith) in
        rw (eqb-true b m e) (step-kind m (bared_bonds m t) ∙ ap (λ (c : ℤ). pick (is_mark (number c)) (pos single) c) q)
    go false e ih = let q = eqb-false b m e in step_other m (bond_place b KIND) (bared_bonds m t) (λ w. omega arith) ∙ ih (omega arith)

pub bonds-same : (m : ℕ) (t : List ℤ) → ((b : ℕ) → b < m → is_mark (kind t b) ≡ false) → bared_bonds m t ≡ t
unfolding bare_bond
bonds-same zero t h = bonds-none t
bonds-same (suc m) t h = bonds-more m t ∙ ap (bare_bond m) (bonds-same m t (λ b l. h b (omega arith))) ∙ rw (h m (omega arith))

-- no bond is marked then
single-unmarked : (c : ℤ) → is_mark (number (pick (is_mark (number c)) (pos single) c)) ≡ false
unfolding number
single-unmarked c = go (is_mark (number c)) refl
  where
    go : (z : Bool) → is_mark (number c) ≡ z → is_mark (number (pick z (pos single) c)) ≡ false
    go true e = refl
    go false e = e

pub bonds-unmarked : (m b : ℕ) (t : List ℤ) → b < m → is_mark (kind (bared_bonds m t) b) ≡ false
bonds-unmarked m b t l = ap (λ (c : ℤ). is_mark (number c)) (bonds-kind m b t l) ∙ single-unmarked (bond_cell t b KIND)

-- a mark is of order 1, as a single bond is
same-order : (c : ℤ) → order (number (pick (is_mark (number c)) (pos single) c)) ≡ order (number c)
unfolding order number
same-order c = go (eqb (number c) 4) refl (eqb (number c) 5) refl
  where
    go : (y : Bool) → eqb (number c) 4 ≡ y → (z : Bool) → eqb (number c) 5 ≡ z → order (number (pick (y || z) (pos single) c)) ≡ order (number c)
    go true e z f = rw (eqb-true (number c) 4 e)
    go false e true f = rw (eqb-true (number c) 5 f)
    go false e false f = refl

-- ---- the molecule
module _ (x : Molecule) where
  abbrev y : Molecule
  y = bared x

  pub bared-cell : (a f : ℕ) → f < atom_cells → (f ≡ EXTENSION → ⊥) → (f ≡ MARK → ⊥) → atom_cell y.atoms a f ≡ atom_cell x.atoms a f
  bared-cell a f l h k = atoms-field x.n a f x.atoms l h k

  pub bared-first : (b : ℕ) → end1 y.bonds b ≡ end1 x.bonds b
  bared-first b = ap number (bonds-field x.m b FIRST x.bonds (omega arith) (λ e. omega arith))

  pub bared-second : (b : ℕ) → end2 y.bonds b ≡ end2 x.bonds b
  bared-second b = ap number (bonds-field x.m b SECOND x.bonds (omega arith) (λ e. omega arith))

  pub bared-order : (b : ℕ) → b < x.m → order (kind y.bonds b) ≡ order (kind x.bonds b)
  bared-order b l = ap (λ (c : ℤ). order (number c)) (bonds-kind x.m b x.bonds l) ∙ same-order (bond_cell x.bonds b KIND)

  pub bared-touches : (a b : ℕ) → touches y.bonds a b ≡ touches x.bonds a b
  unfolding touches
  bared-touches a b = rw (bared-first b, bared-second b)

  bared-joins : (a b k : ℕ) → joins y a b k ≡ joins x a b k
  unfolding joins
  bared-joins a b k = rw (bared-first k, bared-second k)

  pub bared-sum : (a : ℕ) → bond_sum y.bonds x.m a ≡ bond_sum x.bonds x.m a
  unfolding share
  bared-sum a =
      sum-total y.bonds x.m a
      ∙ total-same (share y.bonds a) (share x.bonds a) x.m (λ b l. rw (bared-touches a b, bared-order b l))
      ∙ sym (sum-total x.bonds x.m a)

  pub bared-degree : (a : ℕ) → bond_degree y.bonds x.m a ≡ bond_degree x.bonds x.m a
  bared-degree a = degree-same y.bonds x.bonds x.m a (λ b l. bared-touches a b)

  pub bared-between : (a b : ℕ) → order_between y a b ≡ order_between x a b
  bared-between a b =
      order-total y a b
      ∙ total-same (between y a b) (between x a b) x.m (λ k l. rw (bared-joins a b k, bared-order k l))
      ∙ sym (order-total x a b)

  pub bared-joined : (a b : ℕ) → joined y a b ≡ joined x a b
  bared-joined a b = ap (λ (o : ℕ). not (eqb o 0)) (bared-between a b)

  -- the same atoms are delocalized ("kept")
  pub bared-delocalized : (a : ℕ) → delocalized_at y.atoms y.bonds x.m a ≡ delocalized_at x.atoms x.bonds x.m a
  bared-delocalized a = rw (
    bared-cell a ELEMENT (omega arith) (λ e. omega arith) (λ e. omega arith),
    bared-cell a SELECTED (omega arith) (λ e. omega arith) (λ e. omega arith),
    bared-cell a CHARGE (omega arith) (λ e. omega arith) (λ e. omega arith),
    bared-cell a HYDROGENS (omega arith) (λ e. omega arith) (λ e. omega arith),
    bared-sum a,
  )

  pub bared-settled : (a : ℕ) → settled_sum y a ≡ settled_sum x a
  bared-settled a = let e = bared-sum a in let f = ap flag (bared-delocalized a) in omega arith

  -- bare tables are valid
  module _ (v : Valid x.atoms x.bonds x.n x.m) where
    selected-ok : (a : ℕ) → a < x.n → selected_ok y.atoms a ≡ true
    unfolding selected_ok
    selected-ok a l =
        rw (bared-cell a SELECTED (omega arith) (λ e. omega arith) (λ e. omega arith), bared-cell a ELEMENT (omega arith) (λ e. omega arith) (λ e. omega arith)) (atom-row v a l).selected

    zero_ok : (c : ℤ) (b : ℕ) → c ≡ pos 0 → in_range c (pos 0) (pos b) ≡ true
    zero_ok c b e = rw e (range-of 0 b (omega arith))

    atom-ok : (a : ℕ) → a < x.n → atom_ok y.atoms a ≡ true
    atom-ok a l =
        let f = atom-row v a l in
        let fine : AtomFine y.atoms a =
        record {
          element = rw (bared-cell a ELEMENT (omega arith) (λ e. omega arith) (λ e. omega arith)) f.element;
          isotope = rw (bared-cell a ISOTOPE (omega arith) (λ e. omega arith) (λ e. omega arith)) f.isotope;
          hydrogens = rw (bared-cell a HYDROGENS (omega arith) (λ e. omega arith) (λ e. omega arith)) f.hydrogens;
          charge = rw (bared-cell a CHARGE (omega arith) (λ e. omega arith) (λ e. omega arith)) f.charge;
          extension = zero_ok _ _ (atoms-extension x.n a x.atoms l);
          mark = zero_ok _ _ (atoms-mark x.n a x.atoms l);
          selected = selected-ok a l;
        } in
        atom-fine-back fine

    kind_ok : (z : ℤ) (c : Bool) → in_range z (pos elided) (pos max_kind) ≡ true → in_range (pick c (pos single) z) (pos elided) (pos max_kind) ≡ true
    unfolding in_range
    kind_ok z true h = refl
    kind_ok z false h = h

    bond-ok : (b : ℕ) → b < x.m → bond_ok y.bonds x.n b ≡ true
    bond-ok b l =
        let f = bond-row v b l in
        let fine : BondFine y.bonds x.n b =
        record {
          kind = rw (bonds-kind x.m b x.bonds l) (kind_ok (bond_cell x.bonds b KIND) (is_mark (kind x.bonds b)) f.kind);
          natural = rw (bonds-field x.m b FIRST x.bonds (omega arith) (λ e. omega arith)) f.natural;
          order = rw (bared-first b, bared-second b) f.order;
          second = rw (bared-second b) f.second;
        } in
        bond-fine-back fine

    same_ends_lem : (i j : ℕ) → same_ends y.bonds i j ≡ same_ends x.bonds i j
    unfolding same_ends
    same_ends_lem i j = rw (bared-first i, bared-first j, bared-second i, bared-second j)

    same-distinct : distinct y.bonds x.m ≡ distinct x.bonds x.m
    unfolding distinct fresh
    same-distinct = each_same (fresh y.bonds) (fresh x.bonds) x.m (λ i l. each_same (λ j. not (same_ends y.bonds i j)) (λ j. not (same_ends x.bonds i j)) i (λ j k. ap not (same_ends_lem i j)))

    pub bared-valid : Valid y.atoms y.bonds x.n x.m
    bared-valid =
        record {
          atoms_few = v.atoms_few;
          bonds_few = v.bonds_few;
          atom_rows = each_all (atom_ok y.atoms) x.n atom-ok;
          bond_rows = each_all (bond_ok y.bonds x.n) x.m bond-ok;
          apart = same-distinct ∙ v.apart;
        }

pub bared-complete : {x : Molecule} → Complete x → Complete (bared x)
bared-complete {x} c =
    record {
      valid = bared-valid x c.valid;
      atoms_room = rw (atoms-length x.n x.atoms) c.atoms_room;
      bonds_room = rw (bonds-length x.m x.bonds) c.bonds_room;
    }
