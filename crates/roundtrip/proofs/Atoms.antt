-- Reading the bytes of an atom of valid tables: with or without brackets, its row before its hydrogens. Assumes nothing.
use mathlib.Core.Path.{◌≡◌, refl, ap, ◌∙◌}
use mathlib.Core.Bool.{Bool, true, false, ◌&&◌, ◌||◌}
use mathlib.Core.List.{List}
use mathlib.Core.Logic.{◌⊎◌, inl, inr}
use Prim.Native.Nat.{ℕ, zero, suc, ◌≤◌}
use native.Mathlib.Omega.{arith}
use lib.Dec.{eqb, leb}
use lib.IntN.{ℤ, pos, negsuc}
use lib.Signed.{le_z}
use borrow.Author.Tests.{eqb-true, leb-true}
use Rattle.loops.specs.Loop.{pick}
use Rattle.loops.proofs.Loops.{and_left, and_right}
use Rattle.element.specs.Symbols.{among, letters}
use Rattle.element.specs.Lookup.{selected_of, letter_of, bare}
use Rattle.reading_grammar.specs.declared.Last.TheVariants.{Plain as plain}
use Rattle.reading_grammar.specs.declared.MachineState.{MachineState}
use Rattle.reading_grammar.specs.Machine.{atom_or}
use Rattle.valence.specs.Valence.{implied}
use Rattle.table_graph.specs.Graph.{bond_sum}
use Rattle.table.specs.declared.Atom.{Atom}
use Rattle.reading_state.specs.declared.Fields.{Fields}
use Rattle.table.specs.Limits.{ELEMENT, SELECTED, ISOTOPE, HYDROGENS, CHARGE, EXTENSION, MARK}
use Rattle.table.specs.Cells.{number, in_range, atom_cell, element, selected, hydrogens, mark}
use Rattle.table.specs.Valid.{max_mark, selectable, selected_ok}
use Rattle.table.proofs.Valid.{AtomFine, range-high}
use Rattle.reading.specs.Memory.{Memory, bare_row, row_of, begun}
use Rattle.writing.specs.Spell.{symbol_bytes, bracket_bytes, unbracketed, atom_bytes, without_brackets, spelled_atom}
use Rattle.roundtrip.proofs.Feed.{byte}
use Rattle.roundtrip.proofs.Bracketed.{fields, Slight}
use Rattle.roundtrip.proofs.Named.{Symbolic, takes-bracket}
use Rattle.roundtrip.proofs.Letters.{Begins, Room, Atomed, first, takes-letters}

slight-of : (c : ℤ) → in_range c (negsuc 8) (pos 9) ≡ true → Slight c
unfolding in_range
slight-of (pos n) h = let q = leb-true n 9 (and_right (le_z (negsuc 8) (pos n)) (leb n 9) h) in omega arith
slight-of (negsuc n) h = let q = leb-true n 8 (and_left (leb n 8) (le_z (negsuc n) (pos 9)) h) in omega arith

symbolic-of : (t : List ℤ) (v : ℕ) → AtomFine t v → Symbolic (element t v) (selected t v)
unfolding selected_ok
symbolic-of t v f =
    let r = in_range (atom_cell t v SELECTED) (pos 0) (pos 1) in
    let l = range-high (atom_cell t v ELEMENT) 118 f.element in
    record { known = omega arith; either = go (selected t v) (range-high (atom_cell t v SELECTED) 1 (and_left r _ f.selected)) (and_right r _ f.selected) }
  where
    go : (s : ℕ) → s ≤ 1 → (eqb s 0 || selectable (element t v)) ≡ true → (s ≡ 0) ⊎ ((s ≡ 1) × (selectable (element t v) ≡ true))
    go zero l h = inl refl
    go (suc zero) l h = inr (refl, h)
    go (suc (suc s)) l h = absurd (omega arith)

module _ (atoms bonds : List ℤ) (m v : ℕ) where
  -- the fields of the atom v
  abbrev pub fields_at : Fields
  fields_at = fields (element atoms v) (selected atoms v) (number (atom_cell atoms v ISOTOPE)) (mark atoms v) (hydrogens atoms v) (atom_cell atoms v CHARGE) (number (atom_cell atoms v EXTENSION))

  -- the row that its bytes leave, and whether it stands outside brackets
  abbrev pub row_by : Bool → Atom
  row_by x = pick x (bare_row (element atoms v) (selected atoms v)) (row_of fields_at)

  unfoldable pub draft_row : Atom
  draft_row = row_by (unbracketed atoms bonds m v)

  unfoldable pub outside_flag : ℕ
  outside_flag = pick (unbracketed atoms bonds m v) 1 0

  -- what stands outside brackets
  pub record Bare : Type 0 where
    pub isotope : number (atom_cell atoms v ISOTOPE) ≡ 0
    pub charge : atom_cell atoms v CHARGE ≡ pos 0
    pub extension : number (atom_cell atoms v EXTENSION) ≡ 0
    pub unmarked : mark atoms v ≡ 0
    pub letter : bare (element atoms v) ≡ true
    pub implied : implied (element atoms v) (selected atoms v) (bond_sum bonds m v) ≡ hydrogens atoms v

  pub bare_of : unbracketed atoms bonds m v ≡ true → Bare
  unfolding without_brackets
  bare_of h = go (atom_cell atoms v CHARGE) refl
    where
      i : Bool
      i = eqb (number (atom_cell atoms v ISOTOPE)) 0

      x : Bool
      x = eqb (number (atom_cell atoms v EXTENSION)) 0

      z : Bool
      z = eqb (mark atoms v) 0

      b : Bool
      b = bare (element atoms v)

      y : Bool
      y = eqb (implied (element atoms v) (selected atoms v) (bond_sum bonds m v)) (hydrogens atoms v)

      go : (c : ℤ) → atom_cell atoms v CHARGE ≡ c → Bare
      go (pos k) e =
          let g : (i && eqb k 0 && x && z && b && y) ≡ true = rw e at h in
          let h4 = and_left (i && eqb k 0 && x && z && b) y g in
          let h3 = and_left (i && eqb k 0 && x && z) b h4 in
          let h2 = and_left (i && eqb k 0 && x) z h3 in
          let h1 = and_left (i && eqb k 0) x h2 in
          record {
            isotope = eqb-true (number (atom_cell atoms v ISOTOPE)) 0 (and_left i (eqb k 0) h1);
            charge = e ∙ ap pos (eqb-true k 0 (and_right i (eqb k 0) h1));
            extension = eqb-true (number (atom_cell atoms v EXTENSION)) 0 (and_right (i && eqb k 0) x h2);
            unmarked = eqb-true (mark atoms v) 0 (and_right (i && eqb k 0 && x) z h3);
            letter = and_right (i && eqb k 0 && x && z) b h4;
            implied = eqb-true (implied (element atoms v) (selected atoms v) (bond_sum bonds m v)) (hydrogens atoms v) (and_right (i && eqb k 0 && x && z && b) y g);
          }
      go (negsuc k) e =
          let g : (i && false && x && z && b && y) ≡ true = rw e at h in
          let w : ◌≡◌ {A = Bool} false true = and_right i false (and_left (i && false) x (and_left (i && false && x) z (and_left (i && false && x && z) b (and_left (i && false && x && z && b) y g)))) in
          absurd (let z : ◌≡◌ {A = ℕ} 0 1 = cc in omega arith)

  takes-brackets : AtomFine atoms v → (i : ℕ) (σ : MachineState) (d : ℕ) (μ : Memory) → Begins σ d → Room μ
      → Atomed i σ d μ (bracket_bytes atoms v (mark atoms v)) (row_of fields_at) 0
  unfolding bracket_bytes begun atom_or among letters letter_of selected_of
  takes-brackets f i σ d μ g r =
      let li = range-high (atom_cell atoms v ISOTOPE) 999 f.isotope in
      let lh = range-high (atom_cell atoms v HYDROGENS) 9 f.hydrogens in
      let lk = range-high (atom_cell atoms v MARK) max_mark f.mark in
      let lx = range-high (atom_cell atoms v EXTENSION) 9999 f.extension in
      let w = takes-bracket (element atoms v) (selected atoms v) (number (atom_cell atoms v ISOTOPE)) (mark atoms v) (hydrogens atoms v) (atom_cell atoms v CHARGE) (number (atom_cell atoms v EXTENSION)) (symbolic-of atoms v f) (omega arith) (omega arith) (omega arith) (slight-of (atom_cell atoms v CHARGE) f.charge) (omega arith) in
      record { last = plain; draft = fields_at; is = byte 91 _ (g.goes 91).1 refl (g.does 91 i μ refl ∙ first 91 i μ r) (w.is (suc i) d (begun 0 μ)) }

  -- THE ATOM
  pub takes-atom : AtomFine atoms v → (i : ℕ) (σ : MachineState) (d : ℕ) (μ : Memory) → Begins σ d → Room μ → Atomed i σ d μ (atom_bytes atoms bonds m v) draft_row outside_flag
  unfolding spelled_atom draft_row outside_flag
  takes-atom f i σ d μ g r = go (unbracketed atoms bonds m v) refl
    where
      go : (x : Bool) → unbracketed atoms bonds m v ≡ x
          → Atomed i σ d μ (pick x (symbol_bytes (element atoms v) (selected atoms v)) (bracket_bytes atoms v (mark atoms v))) (row_by x) (pick x 1 0)
      go true e = takes-letters (element atoms v) (selected atoms v) (symbolic-of atoms v f) (bare_of e).letter i σ d μ g r
      go false e = takes-brackets f i σ d μ g r
