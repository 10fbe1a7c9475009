-- A kekulized molecule: sound tables, no selected atom, no delocalized atom. Assumes nothing.
use Prim.Native.Nat.{ℕ, zero, suc, ◌+◌, ◌<◌}
use native.Mathlib.Omega.{arith}
use mathlib.Core.Path.{◌≡◌, refl, ap, ◌∙◌}
use mathlib.Core.Bool.{Bool, true, false, not}
use mathlib.Core.List.{List, [], ◌∷◌}
use lib.ListN.{length, get_or, replicate}
use lib.IntN.{ℤ, pos}
use lib.Dec.{eqb, leb}
use Rattle.kinds.specs.Kind.{elided, double, max_kind}
use Rattle.loops.specs.Loop.{pick, up_to}
use Rattle.loops.proofs.Loops.{and_right, each_all, each_same, length-up_to}
use Rattle.table.specs.Limits.{max_bonds, atom_cells, ELEMENT, SELECTED, ISOTOPE, HYDROGENS, CHARGE, EXTENSION, MARK, FIRST, SECOND, KIND}
use Rattle.table.specs.Cells.{number, in_range, bond_place, atom_cell, bond_cell, touches}
use Rattle.table.specs.Valid.{selected_ok, same_ends, fresh, distinct, atom_ok, bond_ok, Valid, enough}
use Rattle.table.specs.Sound.{bond_degree, unfit, none_unfit, late_code, sound}
use Rattle.table.specs.Marks.{none_crowded}
use Rattle.table.specs.Edits.{unselected_atoms, doubled_bonds}
use Rattle.table.proofs.Sound.{sound-valid, sound-late, sound_back, late-fine, late-none, unselected-tight, none-unfit, not-unfit, degree-same}
use Rattle.table.proofs.Valid.{enough-facts, Enough, AtomFine, atom-row, atom-fine-back, BondFine, bond-row, bond-fine-back}
use Rattle.table.proofs.Edits.{unselected-cell, unselected-field, doubled-kind, doubled-field}
use Rattle.valence.specs.Valence.{delocalized}
use Rattle.matching.specs.Enumeration.{matchings}
use Rattle.matching.specs.Graph.{none_flagged}
use Rattle.matching.proofs.Graph.{only-zeros, matching-pairs}
use Rattle.table_graph.specs.Graph.{delocalized_at, delocalized_flag, delocalized_flags, flag, bond_of, graph_of, matching_of}
use Rattle.kekule.proofs.Crowding.{still-touching}
use Rattle.kekule.specs.Kekule.{roomy, is_matching_of, kekulize_reply, kekulized, kekulized_of}

-- flags that are all 0
zero_flags : (f : ℕ → ℕ) (k n : ℕ) → ((j : ℕ) → j < k + n → f j ≡ 0) → none_flagged (up_to f k n) ≡ true
unfolding none_flagged up_to
zero_flags f k zero h = refl
zero_flags f k (suc n) h = simp (h k (omega arith), zero_flags f (suc k) n (λ j l. h j (omega arith)))

module _ {atoms bonds : List ℤ} {n m : ℕ} (v : Valid atoms bonds n m) (r : Enough atoms bonds) (row : List ℕ) where
  abbrev atoms' : List ℤ
  atoms' = unselected_atoms n atoms

  abbrev bonds' : List ℤ
  bonds' = doubled_bonds row m bonds

  -- no atom is selected
  pub none-selected : (a : ℕ) → a < n → atom_cell atoms' a SELECTED ≡ pos 0
  none-selected a l = unselected-cell n a atoms l (omega (arith, v.atoms_few, r.atoms_room))

  same : (a f : ℕ) → f < atom_cells → (f ≡ SELECTED → ⊥) → atom_cell atoms' a f ≡ atom_cell atoms a f
  same a f l h = unselected-field n a f atoms l h

  selected-ok : (a : ℕ) → a < n → selected_ok atoms' a ≡ true
  unfolding selected_ok in_range number
  selected-ok a l = simp (none-selected a l)

  atom-ok : (a : ℕ) → a < n → atom_ok atoms' a ≡ true
  atom-ok a l =
      let f = atom-row v a l in
      let fine : AtomFine atoms' a =
      record {
        element = rw (same a ELEMENT (omega arith) (λ e. omega arith)) f.element;
        isotope = rw (same a ISOTOPE (omega arith) (λ e. omega arith)) f.isotope;
        hydrogens = rw (same a HYDROGENS (omega arith) (λ e. omega arith)) f.hydrogens;
        charge = rw (same a CHARGE (omega arith) (λ e. omega arith)) f.charge;
        extension = rw (same a EXTENSION (omega arith) (λ e. omega arith)) f.extension;
        mark = rw (same a MARK (omega arith) (λ e. omega arith)) f.mark;
        selected = selected-ok a l;
      } in
      atom-fine-back fine

  -- the ends stay
  first : (b : ℕ) → bond_cell bonds' b FIRST ≡ bond_cell bonds b FIRST
  first b = doubled-field row m b FIRST bonds (omega arith) (λ e. omega arith)

  second : (b : ℕ) → bond_cell bonds' b SECOND ≡ bond_cell bonds b SECOND
  second b = doubled-field row m b SECOND bonds (omega arith) (λ e. omega arith)

  kind_ok : (z : ℤ) (x : Bool) → in_range z (pos elided) (pos max_kind) ≡ true → in_range (pick x (pos double) z) (pos elided) (pos max_kind) ≡ true
  unfolding in_range
  kind_ok z true h = refl
  kind_ok z false h = h

  bond-ok : (b : ℕ) → b < m → bond_ok bonds' n b ≡ true
  bond-ok b l =
      let f = bond-row v b l in
      let w : bond_place b KIND < length bonds = omega (arith, v.bonds_few, r.bonds_room) in
      let fine : BondFine bonds' n b =
      record {
        kind = rw (doubled-kind row m b bonds l w) (kind_ok (bond_cell bonds b KIND) (eqb (get_or row b 0) 1) f.kind);
        natural = rw (first b) f.natural;
        order = rw (first b, second b) f.order;
        second = rw (second b) f.second;
      } in
      bond-fine-back fine

  same_ends_lem : (i j : ℕ) → same_ends bonds' i j ≡ same_ends bonds i j
  unfolding same_ends
  same_ends_lem i j = simp (first i, first j, second i, second j)

  same-distinct : distinct bonds' m ≡ distinct bonds m
  unfolding distinct fresh
  same-distinct = each_same (fresh bonds') (fresh bonds) m (λ i l. each_same (λ j. not (same_ends bonds' i j)) (λ j. not (same_ends bonds i j)) i (λ j k. ap not (same_ends_lem i j)))

  -- 02, P8: the marks stay, and so do the neighbours of each atom
  pub kekulized-mark : (a : ℕ) → atom_cell atoms' a MARK ≡ atom_cell atoms a MARK
  kekulized-mark a = same a MARK (omega arith) (λ e. omega arith)

  same-degree : (a : ℕ) → bond_degree bonds' m a ≡ bond_degree bonds m a
  unfolding touches
  same-degree a = degree-same bonds' bonds m a (λ b l. simp (first b, second b))

  same-unfit : (a : ℕ) → unfit atoms' bonds' m a ≡ unfit atoms bonds m a
  same-unfit a = rw (kekulized-mark a, same-degree a, same a HYDROGENS (omega arith) (λ e. omega arith))

  still-fit : none_unfit atoms bonds n m ≡ true → none_unfit atoms' bonds' n m ≡ true
  still-fit h = none-unfit atoms' bonds' n m (λ a l. same-unfit a ∙ not-unfit atoms bonds n m h a l)

  -- the kekulized tables are valid
  pub kekulized-valid : Valid atoms' bonds' n m
  kekulized-valid =
      record {
        atoms_few = v.atoms_few;
        bonds_few = v.bonds_few;
        atom_rows = each_all (atom_ok atoms') n atom-ok;
        bond_rows = each_all (bond_ok bonds' n) m bond-ok;
        apart = same-distinct ∙ v.apart;
      }

  -- and sound, where 20 is not given over the new double bonds
  pub kekulized-sound : late_code atoms bonds n m ≡ 0 → none_crowded bonds' m ≡ true → sound atoms' bonds' n m ≡ true
  unfolding number
  kekulized-sound h e =
      sound_back atoms' bonds' n m kekulized-valid
      (late-fine atoms' bonds' n m e (still-touching bonds m row (λ b l. omega (arith, v.bonds_few, r.bonds_room)) (late-none atoms bonds n m h).touching) (unselected-tight atoms' bonds' n m (λ a l. ap number (none-selected a l))) (still-fit (late-none atoms bonds n m h).fit))

  -- no atom is delocalized
  pub none-delocalized : (a : ℕ) → a < n → delocalized_at atoms' bonds' m a ≡ false
  unfolding delocalized number
  none-delocalized a l = simp (none-selected a l)

  flag-none : (a : ℕ) → a < n → delocalized_flag atoms' bonds' m a ≡ 0
  flag-none a l = ap flag (none-delocalized a l)

  -- its one matching is the row of zeros
  pub kekulized-matchings : matchings (matching_of atoms' bonds' n m) m ≡ replicate m 0 ∷ []
  kekulized-matchings =
      let flags = delocalized_flags atoms' bonds' n m in
      let bs = graph_of bonds' m in
      let l : length bs ≡ m = length-up_to (bond_of bonds') 0 m in
      let z : none_flagged flags ≡ true = zero_flags (delocalized_flag atoms' bonds' m) 0 n (λ j h. flag-none j (omega arith)) in
      rw (matching-pairs flags bs) (rw l at (only-zeros bs flags z))

-- kekulizing that is not refused leaves sound tables without a selected or a delocalized atom
pub record Settled (atoms bonds : List ℤ) (n m : ℕ) : Type 0 where
  pub still_sound : sound atoms bonds n m ≡ true
  pub unselected : (a : ℕ) → a < n → atom_cell atoms a SELECTED ≡ pos 0
  pub localized : (a : ℕ) → a < n → delocalized_at atoms bonds m a ≡ false

pub kekulize-settles : (atoms bonds : List ℤ) (n m : ℕ) (row : List ℕ) → (kekulized_of atoms bonds n m row).code ≡ 0 → Settled (kekulized_of atoms bonds n m row).atoms (kekulized_of atoms bonds n m row).bonds n m
unfolding kekulized_of
kekulize-settles atoms bonds n m row = go (roomy atoms bonds (length row)) (sound atoms bonds n m) (is_matching_of atoms bonds n m row) (none_crowded (doubled_bonds row m bonds) m) refl refl refl
  where
    go : (x y z w : Bool) → roomy atoms bonds (length row) ≡ x → sound atoms bonds n m ≡ y → none_crowded (doubled_bonds row m bonds) m ≡ w
        → let o = pick x (pick y (pick z (pick w (kekulized atoms bonds n m row) (kekulize_reply 20 atoms bonds)) (kekulize_reply 12 atoms bonds)) (kekulize_reply 13 atoms bonds)) (kekulize_reply 1 atoms bonds) in o.code ≡ 0 → Settled o.atoms o.bonds n m
    go false y z w e f g h = absurd (omega arith)
    go true false z w e f g h = absurd (omega arith)
    go true true false w e f g h = absurd (omega arith)
    go true true true false e f g h = absurd (omega arith)
    go true true true true e f g h =
        let v = sound-valid atoms bonds n m f in
        let r = enough-facts atoms bonds (and_right (leb max_bonds (length row)) (enough atoms bonds) e) in
        record { still_sound = kekulized-sound v r row (sound-late atoms bonds n m f) g; unselected = none-selected v r row; localized = none-delocalized v r row }
