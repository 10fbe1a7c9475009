-- What is claimed of reading beside when it refuses: an accepted text, row by row, and reading against the grammar
use Rattle.std.specs.Prelude.{ℕ, ◌*◌, ◌≤◌, ◌<◌, ◌≡◌, true, ◌⊎◌, List, length, get_or, ℤ, pos}
use Rattle.valence.specs.Valence.{implied}
use Rattle.reading_grammar.specs.Grammar.{Text}
use Rattle.reading_grammar.specs.Place.{Place}
use Rattle.reading_grammar.specs.declared.MachineState.{MachineState}
use Rattle.reading_grammar.specs.Machine.{accepting}
use Rattle.reading_grammar.specs.Fold.{going}
use Rattle.table.specs.declared.Atom.{Atom}
use Rattle.table.specs.Limits.{atom_cells, bond_cells}
use Rattle.parity.specs.Mark.{mark_if}
use Rattle.table.specs.Cells.{element, selected, mark}
use Rattle.table.specs.Rows.{atom_row}
use Rattle.table.specs.Sound.{late_code}
use Rattle.table.specs.Orders.{turns}
use Rattle.table_graph.specs.Graph.{bond_sum, matchable}
use Rattle.reading.specs.Memory.{Memory}
use Rattle.reading.specs.Read.{ReadResult, text_rank, overfull_atoms}
use Rattle.reading.specs.Conditions.{bytes_read, Fits}

-- the row with another count of hydrogens
abbrev pub with_hydrogens : Atom → ℤ → Atom
with_hydrogens x h = record { element = x.element; selected = x.selected; isotope = x.isotope; hydrogens = h; charge = x.charge; extension = x.extension; mark = x.mark }

-- the row with another mark
abbrev pub with_mark : Atom → ℤ → Atom
with_mark x k = record { element = x.element; selected = x.selected; isotope = x.isotope; hydrogens = x.hydrogens; charge = x.charge; extension = x.extension; mark = k }

-- the hydrogens that an atom outside brackets gets: by its element, its selection and its bonds
abbrev pub implied_at : ReadResult → ℕ → ℤ
implied_at t a = pos (implied (element t.atoms a) (selected t.atoms a) (bond_sum t.bonds t.bond_count a))

-- the mark k of the atom a as it is stored: turned where the order of the atom's neighbours in the text and the stored order differ by an odd number of swaps
abbrev pub stored_mark : List ℕ → ReadResult → ℕ → ℕ → ℤ
stored_mark keys t a k = pos (mark_if (turns (text_rank keys t.bonds a) t.atoms t.bonds t.bond_count a) k)

-- the row of the atom a of an accepted text whose bonds have these keys, given what stood in the table after it was read
pub record Given (μ : Memory) (keys : List ℕ) (t : ReadResult) (a : ℕ) : Type 0 where
  pub outside : get_or μ.st.outside a 0 ≡ 1 → atom_row t.atoms a ≡ with_mark (with_hydrogens (atom_row μ.atoms a) (implied_at t a)) (stored_mark keys t a (mark μ.atoms a))
  pub bracket : (get_or μ.st.outside a 0 ≡ 1 → ⊥) → atom_row t.atoms a ≡ with_mark (atom_row μ.atoms a) (stored_mark keys t a (mark μ.atoms a))

module _ (s : List ℕ) (atoms bonds : List ℤ) where
  -- an accepted text, the memory after its last byte, and the rows
  pub record Accepted (t : ReadResult) : Type 0 where
    pub fits : Fits s atoms bonds
    pub state : MachineState
    pub memory : Memory
    pub reached : bytes_read s atoms bonds ≡ going state memory
    pub ends : accepting state ≡ true
    pub counts : (t.atom_count ≡ memory.st.atoms) × (t.bond_count ≡ memory.st.bonds) × (t.bonds ≡ memory.bonds)
    pub rows : (a : ℕ) → a < t.atom_count → Given memory memory.st.keys t a
    pub overfull_counted : t.overfull ≡ overfull_atoms memory.st.outside t.bonds t.bond_count t.atom_count t.atoms
    pub lengths : (length t.atoms ≡ length atoms) × (length t.bonds ≡ length bonds)
    pub unused_atoms : (k : ℕ) → atom_cells * t.atom_count ≤ k → get_or t.atoms k (pos 0) ≡ pos 0
    pub unused_bonds : (k : ℕ) → bond_cells * t.bond_count ≤ k → get_or t.bonds k (pos 0) ≡ pos 0
    pub no_open_bridge : (r : ℕ) → get_or memory.st.opener r 0 ≡ 0
    pub late_checks : late_code t.atoms t.bonds t.atom_count t.bond_count ≡ 0
    pub matched : matchable t.atoms t.bonds t.atom_count t.bond_count ≡ true

  pub record ReadsTexts (t : ReadResult) : Type 0 where
    -- what passed 3 to 9 is a text
    pub text : (t.code ≡ 0) ⊎ (10 ≤ t.code) → Text s
    -- a text is not refused with 3
    pub not_3 : Text s → t.code ≡ 3 → ⊥
    -- 3 stands at the place of the grammar
    pub place : t.code ≡ 3 → Place s t.offset
    -- where no text can continue: 3 there, or one of 4 to 9 before
    pub refused : (p : ℕ) → Place s p → ((t.code ≡ 3) × (t.offset ≡ p)) ⊎ ((4 ≤ t.code) × (t.code ≤ 9) × (t.offset < p))
