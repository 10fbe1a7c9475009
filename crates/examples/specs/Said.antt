-- What the definitions say of a text: how reading it ends, how many atoms are kept, the molecule's cells, all its matchings in order, and the text that writing gives
use Rattle.std.specs.Prelude.{ℕ, ◌+◌, ◌*◌, List, [], take, replicate, ℤ, pos, eqb}
use Rattle.loops.specs.Loop.{pick, run}
use Rattle.matching.specs.Enumeration.{Row, matchings}
use Rattle.table.specs.Limits.{max_atoms, max_bonds, atom_cells, bond_cells}
use Rattle.table_graph.specs.Graph.{delocalized_flag, matching_of}
use Rattle.reading_grammar.specs.Fold.{Reading, going, halted}
use Rattle.reading.specs.Memory.{Memory}
use Rattle.reading.specs.Read.{ReadResult, read_of}
use Rattle.reading.specs.Conditions.{bytes_read, atoms_of}
use Rattle.writing.specs.Write.{text_of}

pub record Said : Type 0 where
  pub code : ℕ
  pub offset : ℕ
  pub kept : ℕ
  pub atoms : List ℤ
  pub bonds : List ℤ
  pub rows : List Row
  pub text : List ℕ

-- a code at an offset, k atoms being kept
abbrev pub refused : ℕ → ℕ → ℕ → Said
refused c p k = record { code = c; offset = p; kept = k; atoms = []; bonds = []; rows = []; text = [] }

abbrev pub accepted : ℕ → List ℤ → List ℤ → List Row → List ℕ → Said
accepted k atoms bonds rows text = record { code = 0; offset = 0; kept = k; atoms = atoms; bonds = bonds; rows = rows; text = text }

-- the number of kept (delocalized) atoms of the molecule read, before 11 is told; 0 where a byte was refused
abbrev pub kept_of : Reading Memory → ℕ
kept_of (going σ μ) = run (λ a k. k + delocalized_flag (atoms_of μ) μ.bonds μ.st.bonds a) 0 μ.st.atoms 0
kept_of (halted c p) = 0

abbrev pub view : ℕ → ReadResult → Said
view k t =
    pick (eqb t.code 0)
    (accepted k (take (atom_cells * t.atom_count) t.atoms) (take (bond_cells * t.bond_count) t.bonds)
    (matchings (matching_of t.atoms t.bonds t.atom_count t.bond_count) t.bond_count)
    (text_of t.atoms t.bonds t.atom_count t.bond_count))
    (refused t.code t.offset k)

-- the text is read into tables that hold rubbish
abbrev pub atom_rubbish : List ℤ
atom_rubbish = replicate (atom_cells * max_atoms) (pos 7)

abbrev pub bond_rubbish : List ℤ
bond_rubbish = replicate (bond_cells * max_bonds) (pos 9)

abbrev pub said : List ℕ → Said
said s = view (kept_of (bytes_read s atom_rubbish bond_rubbish)) (read_of s atom_rubbish bond_rubbish)
