-- auxiliary: tables with a row for each byte of a text, and reading into them
use Rattle.std.specs.Prelude.{ℕ, ◌*◌, ◌≤◌, ◌≡◌, List, length, take, ℤ, leb}
use Rattle.loops.specs.Loop.{pick}
use Rattle.table.specs.Limits.{atom_cells, bond_cells}
use Rattle.ids.specs.Limits.{max_text}
use Rattle.table_alike.specs.Alike.{Alike}
use Rattle.reading_grammar.specs.Fold.{Reading, going, halted}
use Rattle.reading.specs.Memory.{Memory}
use Rattle.reading.specs.Read.{ReadResult, refused, read_from}

-- a row for each byte: no text of that length has more atoms or more bonds
pub record Short (s : List ℕ) (atoms bonds : List ℤ) : Type 0 where
  pub atoms_long : atom_cells * length s ≤ length atoms
  pub bonds_long : bond_cells * length s ≤ length bonds

-- `read_of` without its first test, for the length of the tables
unfoldable pub read_into : List ℕ → List ℤ → List ℤ → ReadResult
read_into s atoms bonds = pick (leb (length s) max_text) (read_from s atoms bonds) (refused 2 max_text atoms bonds)

-- a memory whose tables end after p and after q cells
abbrev pub cut : ℕ → ℕ → Memory → Memory
cut p q μ =
    record {
      st = μ.st;
      atoms = take p μ.atoms;
      bonds = take q μ.bonds;
      pending = μ.pending;
      tens = μ.tens;
      draft = μ.draft;
    }

abbrev pub cut_reading : ℕ → ℕ → Reading Memory → Reading Memory
cut_reading p q (going σ μ) = going σ (cut p q μ)
cut_reading p q (halted c k) = halted c k

-- two results that differ in nothing but the length of their tables
pub record Agree (r t : ReadResult) : Type 0 where
  pub code : r.code ≡ t.code
  pub offset : r.offset ≡ t.offset
  pub atoms_count : r.atom_count ≡ t.atom_count
  pub bonds_count : r.bond_count ≡ t.bond_count
  pub overfull : r.overfull ≡ t.overfull
  pub atoms : Alike r.atoms t.atoms
  pub bonds : Alike r.bonds t.bonds
