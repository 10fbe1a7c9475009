-- THE LAWS of folding. Assumes nothing.
use mathlib.Core.Path.{◌≡◌, ap, ◌∙◌}
use mathlib.Core.Bool.{true, false}
use Prim.Native.Nat.{ℕ, ◌+◌, ◌<◌}
use native.Mathlib.Omega.{arith}
use lib.ListN.{length}
use lib.IntN.{pos}
use Rattle.kinds.specs.Kind.{is_mark}
use Rattle.table.specs.Limits.{atom_cells, HYDROGENS, EXTENSION, MARK}
use Rattle.table.specs.Cells.{number, atom_cell, hydrogens, kind}
use Rattle.table_graph.specs.Graph.{bond_sum, delocalized_at}
use Rattle.same_model.specs.Same.{Molecule, order_between}
use Rattle.folding.specs.Folding.{bared, plain_hydrogen, folds, stays, new_atom, merged, folded, Complete}
use Rattle.folding.proofs.Bared.{atoms-length as bared-atoms, bonds-length as bared-bonds, atoms-extension, atoms-mark, bared-cell, bared-sum, bared-between, bared-delocalized, bared-complete}
use Rattle.folding.proofs.Merged.{atoms-length as merged-atoms, bonds-length as merged-bonds, old, new-below, old-new, merged-field, merged-complete, merged-order}
use Rattle.folding.proofs.Sums.{merged-sum, merged-delocalized}
use Rattle.folding.proofs.Again.{merged-still, merged-twice, bare-same, bare-merged}

module _ (x : Molecule) (c : Complete x) where
  -- the new number of an atom
  abbrev pub number_of : ℕ → ℕ
  number_of a = new_atom (bared x) a

  module _ (a : ℕ) (below : a < x.n) (stay : stays (bared x) a ≡ true) where
    k : number_of a < (folded x).n
    k = new-below (bared x) a below stay

    back : old (bared x) (number_of a) ≡ a
    back = old-new (bared x) a below stay

    hydrogens-same : hydrogens (bared x).atoms a ≡ hydrogens x.atoms a
    hydrogens-same = ap number (bared-cell x a HYDROGENS (omega arith) (λ e. omega arith) (λ e. omega arith))

    -- element, selected, isotope and charge stay
    pub folded-field : (f : ℕ) → f < atom_cells → (f ≡ HYDROGENS → ⊥) → (f ≡ EXTENSION → ⊥) → (f ≡ MARK → ⊥) → atom_cell (folded x).atoms (number_of a) f ≡ atom_cell x.atoms a f
    folded-field f l h e m = merged-field (bared x) (bared-complete c) (number_of a) f k l h ∙ ap (λ (i : ℕ). atom_cell (bared x).atoms i f) back ∙ bared-cell x a f l e m

    -- extension and mark are 0
    pub folded-bare : (atom_cell (folded x).atoms (number_of a) EXTENSION ≡ pos 0) × (atom_cell (folded x).atoms (number_of a) MARK ≡ pos 0)
    folded-bare = (
      merged-field (bared x) (bared-complete c) (number_of a) EXTENSION k (omega arith) (λ e. omega arith) ∙ atoms-extension x.n (old (bared x) (number_of a)) x.atoms (rw back below),
      merged-field (bared x) (bared-complete c) (number_of a) MARK k (omega arith) (λ e. omega arith) ∙ atoms-mark x.n (old (bared x) (number_of a)) x.atoms (rw back below),
    )

    -- "bond sum and hydrogens together stay at every other atom"
    pub folded-sum : bond_sum (folded x).bonds (folded x).m (number_of a) + hydrogens (folded x).atoms (number_of a) ≡ bond_sum x.bonds x.m a + hydrogens x.atoms a
    folded-sum =
        let p = merged-sum (bared x) (bared-complete c) (number_of a) k in
        let q : bond_sum (bared x).bonds x.m (old (bared x) (number_of a)) ≡ bond_sum x.bonds x.m a = ap (bond_sum (bared x).bonds x.m) back ∙ bared-sum x a in
        let r : hydrogens (bared x).atoms (old (bared x) (number_of a)) ≡ hydrogens x.atoms a = ap (hydrogens (bared x).atoms) back ∙ hydrogens-same in
        omega arith

    -- "so the same atoms are kept"
    pub folded-delocalized : delocalized_at (folded x).atoms (folded x).bonds (folded x).m (number_of a) ≡ delocalized_at x.atoms x.bonds x.m a
    folded-delocalized =
        merged-delocalized (bared x) (bared-complete c) (number_of a) k ∙ ap (delocalized_at (bared x).atoms (bared x).bonds x.m) back ∙ bared-delocalized x a

    -- the order between two atoms that stay is what it was
    pub folded-order : (b : ℕ) → b < x.n → stays (bared x) b ≡ true → order_between (folded x) (number_of a) (number_of b) ≡ order_between x a b
    folded-order b l h =
        merged-order (bared x) (bared-complete c) (number_of a) (number_of b) k (new-below (bared x) b l h)
        ∙ rw (back, old-new (bared x) b l h) (bared-between x a b)

  -- "what holds of tables between bytes still holds"
  pub folded-complete : Complete (folded x)
  folded-complete = merged-complete (bared x) (bared-complete c)

  -- tables keep their lengths
  pub folded-lengths : (length (folded x).atoms ≡ length x.atoms) × (length (folded x).bonds ≡ length x.bonds)
  folded-lengths = (merged-atoms (bared x) ∙ bared-atoms x.n x.atoms, merged-bonds (bared x) ∙ bared-bonds x.m x.bonds)

  -- "folding twice is folding once"
  pub folded-twice : folded (folded x) ≡ folded x
  folded-twice = ap merged (bare-merged x (bared-complete c)) ∙ merged-twice (bared x) (bared-complete c)

  -- a molecule without extensions, marks, marked bonds and plain hydrogens folds to itself
  pub folded-itself : ((a : ℕ) → a < x.n → atom_cell x.atoms a EXTENSION ≡ pos 0) → ((a : ℕ) → a < x.n → atom_cell x.atoms a MARK ≡ pos 0) → ((b : ℕ) → b < x.m → is_mark (kind x.bonds b) ≡ false)
      → ((a : ℕ) → a < x.n → plain_hydrogen x.atoms x.bonds x.m a ≡ false) → folded x ≡ x
  unfolding folds
  folded-itself h k g e = ap merged (bare-same x h k g) ∙ merged-still x c (λ a l. rw (e a l))
