-- 02, P11: the three calls: what each answers and leaves, for any state and any tables
use Rattle.std.specs.Prelude.{ℕ, ◌+◌, ◌*◌, List, ◌++◌, length, take, drop, ℤ}
use Rattle.loops.specs.Loop.{pick}
use Rattle.table.specs.Limits.{atom_cells, bond_cells}
use Rattle.table.specs.Valid.{enough}
use Rattle.reading_grammar.specs.Fold.{Reading, going, halted}
use Rattle.reading.specs.Memory.{Memory}
use Rattle.reading.specs.Read.{ReadResult, zeros, finished}
use Rattle.reading_pieces.specs.declared.Paused.{Paused}
use Rattle.reading_pieces.specs.Bounded.{read_on}
use Rattle.reading_pieces.specs.State.{machine_of, memory_of, paused_at, blank_state, ended_code, goes_on, has_ended}
use Rattle.reading_pieces.specs.Broken.{broken_of}

-- what a call hands back: reading's answer and tables, and the state
pub record Fed : Type 0 where
  pub result : ReadResult
  pub state : Paused

-- a code with its offset, counts of 0, and tables
abbrev pub answers : ℕ → ℕ → List ℤ → List ℤ → ReadResult
answers c q atoms bonds = record { code = c; offset = q; atom_count = 0; bond_count = 0; overfull = 0; atoms = atoms; bonds = bonds }

-- the state stays, and so do the tables: 1, 24 and 25
abbrev pub unchanged : ℕ → Paused → List ℤ → List ℤ → Fed
unchanged c p atoms bonds = record { result = answers c 0 atoms bonds; state = p }

-- a refusal zeroes the tables
abbrev pub refused_in : ℕ → ℕ → Paused → List ℤ → List ℤ → Fed
refused_in c q p atoms bonds = record { result = answers c q (zeros atoms) (zeros bonds); state = p }

-- "1 comes before it, 24 after"; else k
abbrev pub guarded : Paused → List ℤ → List ℤ → Fed → Fed
guarded p atoms bonds k =
    pick (enough atoms bonds)
    (pick (broken_of p atoms bonds) (unchanged 25 p atoms bonds)
    (pick (has_ended p) (unchanged ended_code p atoms bonds) k))
    (unchanged 1 p atoms bonds)

-- ---- start
unfoldable pub start_of : List ℤ → List ℤ → Fed
start_of atoms bonds =
    pick (enough atoms bonds) (record { result = answers 0 0 (zeros atoms) (zeros bonds); state = blank_state 0 0 }) (unchanged 1 (blank_state 0 0) atoms bonds)

-- ---- feed

-- after i bytes in all: "A refusal at a byte is told as soon as that byte is known to be refused"
abbrev pub fed_to : ℕ → List ℤ → List ℤ → Reading Memory → Fed
fed_to i atoms bonds (going σ μ) = record { result = answers 0 0 μ.atoms μ.bonds; state = paused_at i σ μ }
fed_to i atoms bonds (halted c q) = refused_in c q (blank_state c q) atoms bonds

-- ".. and later pieces repeat it"
unfoldable pub fed_of : Paused → List ℕ → List ℤ → List ℤ → Fed
fed_of p s atoms bonds =
    guarded p atoms bonds
    (pick (goes_on p)
    (fed_to (p.read + length s) atoms bonds (read_on p.read (going (machine_of p) (memory_of p atoms bonds)) s))
    (refused_in p.told p.place p atoms bonds))

-- ---- end

-- "An acceptance zeroes the unused rest"
abbrev pub cleared_from : ℕ → List ℤ → List ℤ
cleared_from k t = take k t ++ zeros (drop k t)

abbrev pub rest_cleared : ReadResult → ReadResult
rest_cleared t =
    record {
      code = t.code;
      offset = t.offset;
      atom_count = t.atom_count;
      bond_count = t.bond_count;
      overfull = t.overfull;
      atoms = cleared_from (atom_cells * t.atom_count) t.atoms;
      bonds = cleared_from (bond_cells * t.bond_count) t.bonds;
    }

-- "3 at the length, 10 and later checks come only when the caller says the text has ended"
unfoldable pub end_of : Paused → List ℤ → List ℤ → Fed
end_of p atoms bonds =
    guarded p atoms bonds
    (pick (goes_on p)
    (record { result = rest_cleared (finished p.read atoms bonds (going (machine_of p) (memory_of p atoms bonds))); state = blank_state ended_code 0 })
    (refused_in p.told p.place (blank_state ended_code 0) atoms bonds))
