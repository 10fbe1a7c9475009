-- Molecules whose used rows agree are redrawings of one another, and one is valid if the other is. Assumes nothing.
use Prim.Native.Nat.{ℕ, ◌*◌, ◌<◌}
use native.Mathlib.Omega.{arith}
use mathlib.Core.Path.{◌≡◌, refl, sym, ap, ◌∙◌}
use mathlib.Core.Bool.{not}
use mathlib.Core.List.{List}
use lib.ListN.{take}
use lib.Seq.{get_or-take, length-take-le}
use lib.IntN.{ℤ, pos}
use lib.Dec.{eqb}
use Rattle.loops.specs.Loop.{each}
use Rattle.loops.proofs.Loops.{each_same}
use Rattle.table.specs.Limits.{atom_cells, bond_cells, ELEMENT, SELECTED, ISOTOPE, HYDROGENS, CHARGE, EXTENSION, MARK, FIRST, SECOND, KIND}
use Rattle.table.specs.Cells.{atom_place, bond_place, bond_cell, touches}
use Rattle.table.specs.Valid.{same_ends, fresh, distinct, selected_ok, atom_ok, bond_ok, Valid}
use Rattle.table_graph.specs.Graph.{share, bond_sum}
use Rattle.same_model.specs.Same.{Molecule, molecule, joins, order_between}
use Rattle.same_model.specs.Redrawing.{settled_sum, Redrawing}
use Rattle.same_model.proofs.Totals.{total, total-same}
use Rattle.same_model.proofs.Orders.{between, order-total, sum-total}
use Rattle.same_model.proofs.Cells.{Alike, cells-alike}
use Rattle.same_model.proofs.Relation.{identity, identity-renumbers, identity-at}
use Rattle.folding.specs.Folding.{Complete}
use Rattle.molecule_key.specs.Keyed.{Agree}

module _ {x y : Molecule} (w : Agree x y) where
  -- ---- rows
  atom-row : (a : ℕ) → a < x.n → atom_ok x.atoms a ≡ atom_ok y.atoms a
  unfolding atom_ok selected_ok
  atom-row a l =
      rw (w.atoms_cells a ELEMENT l (omega arith), w.atoms_cells a SELECTED l (omega arith), w.atoms_cells a ISOTOPE l (omega arith), w.atoms_cells a HYDROGENS l (omega arith), w.atoms_cells a CHARGE l (omega arith), w.atoms_cells a EXTENSION l (omega arith), w.atoms_cells a MARK l (omega arith))

  module _ (b : ℕ) (l : b < x.m) where
    first : bond_cell x.bonds b FIRST ≡ bond_cell y.bonds b FIRST
    first = w.bonds_cells b FIRST l (omega arith)

    second : bond_cell x.bonds b SECOND ≡ bond_cell y.bonds b SECOND
    second = w.bonds_cells b SECOND l (omega arith)

    kinds : bond_cell x.bonds b KIND ≡ bond_cell y.bonds b KIND
    kinds = w.bonds_cells b KIND l (omega arith)

    bond-row : bond_ok x.bonds x.n b ≡ bond_ok y.bonds y.n b
    unfolding bond_ok
    bond-row = rw (first, second, kinds, w.atoms_count)

    shared : (a : ℕ) → share x.bonds a b ≡ share y.bonds a b
    unfolding share touches
    shared a = rw (first, second, kinds)

    ordered : (a c : ℕ) → between x a c b ≡ between y a c b
    unfolding joins
    ordered a c = rw (first, second, kinds)

    same_ends_lem : (j : ℕ) → j < b → same_ends x.bonds b j ≡ same_ends y.bonds b j
    unfolding same_ends
    same_ends_lem j i = rw (first, second, w.bonds_cells j FIRST (omega arith) (omega arith), w.bonds_cells j SECOND (omega arith) (omega arith))

    same-fresh : fresh x.bonds b ≡ fresh y.bonds b
    unfolding fresh
    same-fresh = each_same (λ j. not (same_ends x.bonds b j)) (λ j. not (same_ends y.bonds b j)) b (λ j i. ap not (same_ends_lem j i))

  -- ---- validity
  pub agree-valid : Valid x.atoms x.bonds x.n x.m → Valid y.atoms y.bonds y.n y.m
  unfolding distinct
  agree-valid v =
      record {
        atoms_few = rw w.atoms_count at v.atoms_few;
        bonds_few = rw w.bonds_count at v.bonds_few;
        atom_rows = ap (each (atom_ok y.atoms) 0) (sym w.atoms_count) ∙ sym (each_same (atom_ok x.atoms) (atom_ok y.atoms) x.n atom-row) ∙ v.atom_rows;
        bond_rows = ap (each (bond_ok y.bonds y.n) 0) (sym w.bonds_count) ∙ sym (each_same (bond_ok x.bonds x.n) (bond_ok y.bonds y.n) x.m bond-row) ∙ v.bond_rows;
        apart = ap (each (fresh y.bonds) 0) (sym w.bonds_count) ∙ sym (each_same (fresh x.bonds) (fresh y.bonds) x.m same-fresh) ∙ v.apart;
      }

  -- ---- what a redrawing keeps
  same_sum : (a : ℕ) → bond_sum x.bonds x.m a ≡ bond_sum y.bonds y.m a
  same_sum a =
      sum-total x.bonds x.m a
      ∙ total-same (share x.bonds a) (share y.bonds a) x.m (λ b l. shared b l a)
      ∙ ap (total (share y.bonds a)) w.bonds_count
      ∙ sym (sum-total y.bonds y.m a)

  same-order : (a c : ℕ) → order_between x a c ≡ order_between y a c
  same-order a c =
      order-total x a c
      ∙ total-same (between x a c) (between y a c) x.m (λ b l. ordered b l a c)
      ∙ ap (total (between y a c)) w.bonds_count
      ∙ sym (order-total y a c)

  same-settled : (a : ℕ) → a < x.n → settled_sum x a ≡ settled_sum y a
  same-settled a l = rw (same_sum a, w.atoms_cells a ELEMENT l (omega arith), w.atoms_cells a SELECTED l (omega arith), w.atoms_cells a HYDROGENS l (omega arith), w.atoms_cells a CHARGE l (omega arith))

  same-cells : (a : ℕ) → a < x.n → Alike x y a a
  same-cells a l =
      record {
        element = w.atoms_cells a ELEMENT l (omega arith);
        isotope = w.atoms_cells a ISOTOPE l (omega arith);
        hydrogens = w.atoms_cells a HYDROGENS l (omega arith);
        charge = w.atoms_cells a CHARGE l (omega arith);
        extension = w.atoms_cells a EXTENSION l (omega arith);
      }

  pub agree-redrawing : Redrawing x y
  agree-redrawing =
      record {
        renumbering = identity x.n;
        counts = w.atoms_count;
        renumbers = identity-renumbers x.n;
        cells = λ a l. rw (identity-at x.n a l) (cells-alike x y a a (same-cells a l));
        bonds = λ a b l k. rw (identity-at x.n a l, identity-at x.n b k) (ap (λ (o : ℕ). not (eqb o 0)) (same-order a b));
        sums = λ a l. rw (identity-at x.n a l) (same-settled a l);
      }

-- tables cut after their used rows agree with the whole tables
pub taken-agree : (atoms bonds : List ℤ) (n m : ℕ) → Agree (molecule atoms bonds n m) (molecule (take (atom_cells * n) atoms) (take (bond_cells * m) bonds) n m)
taken-agree atoms bonds n m =
    record {
      atoms_count = refl;
      bonds_count = refl;
      atoms_cells = λ a f l i. sym (get_or-take (atom_cells * n) atoms (atom_place a f) (pos 0) (omega arith));
      bonds_cells = λ b f l i. sym (get_or-take (bond_cells * m) bonds (bond_place b f) (pos 0) (omega arith));
    }

-- and are complete
pub taken-complete : {atoms bonds : List ℤ} {n m : ℕ} → Complete (molecule atoms bonds n m) → Complete (molecule (take (atom_cells * n) atoms) (take (bond_cells * m) bonds) n m)
taken-complete {atoms} {bonds} {n} {m} c =
    let p = length-take-le (atom_cells * n) atoms c.atoms_room in
    let q = length-take-le (bond_cells * m) bonds c.bonds_room in
    record { valid = agree-valid (taken-agree atoms bonds n m) c.valid; atoms_room = omega arith; bonds_room = omega arith }
