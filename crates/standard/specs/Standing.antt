-- auxiliary: what an accepted text leaves in the tables, for a `requires`; and the definitions for tables of any length
use Rattle.std.specs.Prelude.{ℕ, ◌*◌, ◌≤◌, ◌≡◌, List, true, length, replicate, ℤ, pos, eqb, Result, Ok}
use Rattle.loops.specs.Loop.{pick}
use Rattle.table.specs.Limits.{max_atoms, max_bonds, atom_cells, bond_cells}
use Rattle.table.specs.Valid.{enough}
use Rattle.table.specs.Sound.{sound}
use Rattle.table.specs.Marks.{none_crowded}
use Rattle.table.specs.Edits.{doubled_bonds}
use Rattle.refusal.specs.declared.Refusal.{Refusal}
use Rattle.table_graph.specs.Graph.{matchable}
use Rattle.kekule.specs.First.{first_in}
use Rattle.kekule.specs.Kekule.{KekulizeReply, kekulize_reply, tables, kekulized}
use Rattle.reading.specs.Read.{read_of}
use Rattle.reading_short.specs.Short.{read_into, Agree}
use Rattle.reader.specs.Ending.{Ready}
use Rattle.writing.specs.Write.{write_valid}
use Rattle.standard.specs.Standard.{StandardOut, zeroed, first_row, kekule_of, of_written}

-- tables that are long enough and sound
pub record Writable (atoms bonds : List ℤ) (n m : ℕ) : Type 0 where
  pub room : enough atoms bonds ≡ true
  pub is_sound : sound atoms bonds n m ≡ true

-- and that have a matching
pub record Standing (atoms bonds : List ℤ) (n m : ℕ) : Type 0 where
  pub room : enough atoms bonds ≡ true
  pub is_sound : sound atoms bonds n m ≡ true
  pub matched : matchable atoms bonds n m ≡ true

-- the row has their first matching; the answer, and the tables kekulized by it
pub record Settled (atoms bonds : List ℤ) (n m : ℕ) (r : Result (Unit {0}) Refusal) (atoms' bonds' : List ℤ) (row : List ℕ) : Type 0 where
  pub first : row ≡ first_row atoms bonds n m
  pub done : tables r atoms' bonds' ≡ kekule_of atoms bonds n m
  pub writable : r ≡ Ok tt → Writable atoms' bonds' n m

-- ---- tables of any length

-- zeroed tables that a text can be read into, with what it gives on tables of the sizes that 01 asks
pub record Readable (s : List ℕ) (atoms bonds : List ℤ) : Type 0 where
  pub ready : Ready s atoms bonds
  pub agrees : Agree (read_into s atoms bonds) (read_of s (replicate (atom_cells * max_atoms) (pos 0)) (replicate (bond_cells * max_bonds) (pos 0)))

-- a row for each atom and each bond; sound, and with a matching
pub record Held (atoms bonds : List ℤ) (n m : ℕ) : Type 0 where
  pub atom_rows : atom_cells * n ≤ length atoms
  pub bond_rows : bond_cells * m ≤ length bonds
  pub is_sound : sound atoms bonds n m ≡ true
  pub matched : matchable atoms bonds n m ≡ true

-- the row of their first matching
abbrev pub first_of : List ℤ → List ℤ → ℕ → ℕ → List ℕ
first_of atoms bonds n m = first_in atoms bonds n m (replicate max_bonds 0)

pub record HasFirst (atoms bonds : List ℤ) (n m : ℕ) (row : List ℕ) : Type 0 where
  pub long : length row ≡ max_bonds
  pub first : row ≡ first_of atoms bonds n m

-- `kekulized_of` of sound tables by a row that is a matching
unfoldable pub kekule_by : List ℤ → List ℤ → ℕ → ℕ → List ℕ → KekulizeReply
kekule_by atoms bonds n m row = pick (none_crowded (doubled_bonds row m bonds) m) (kekulized atoms bonds n m row) (kekulize_reply 20 atoms bonds)

-- the answer, and the tables kekulized by the row
pub record KekulizedBy (atoms bonds : List ℤ) (n m : ℕ) (row : List ℕ) (r : Result (Unit {0}) Refusal) (atoms' bonds' : List ℤ) : Type 0 where
  pub done : tables r atoms' bonds' ≡ kekule_by atoms bonds n m row
  pub still_sound : r ≡ Ok tt → sound atoms' bonds' n m ≡ true

-- `of_molecule` by what kekulizing hands back
abbrev pub by_tables : ℕ → ℕ → ℕ → List ℕ → KekulizeReply → StandardOut
by_tables n m k out t = pick (eqb t.code 0) (of_written n m k (write_valid t.atoms t.bonds n m out (replicate max_atoms 0))) (zeroed t.code 0 out)

unfoldable pub molecule_of : List ℤ → List ℤ → ℕ → ℕ → ℕ → List ℕ → StandardOut
molecule_of atoms bonds n m k out = by_tables n m k out (kekule_by atoms bonds n m (first_of atoms bonds n m))
