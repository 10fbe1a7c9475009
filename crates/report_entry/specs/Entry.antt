-- Entry of the report (01, the program): what it says of a line, by the definitions of the public calls on zeroed buffers of the sizes that 01 asks
use Rattle.std.specs.Prelude.{ℕ, ◌*◌, List, Bool, true, false, take, replicate, ℤ, pos, eqb}
use Rattle.loops.specs.Loop.{pick}
use Rattle.table.specs.Limits.{max_atoms, max_bonds, atom_cells, bond_cells}
use Rattle.ids.specs.Limits.{max_text}
use Rattle.reading.specs.Read as read
use Rattle.writing.specs.Write as write
use Rattle.standard.specs.Standard.{first_row, kekule_of, written_of}
use Rattle.report_lines.specs.Format.{accepted_line, refused_line}

-- a refusal's code and offset; or the counts of atoms, bonds and over-full atoms, the first matching ("placement") and the kekulized ("settled") text
pub data Entry : Type 0 where
  refused_as : ℕ → ℕ → Entry
  accepted_as : ℕ → ℕ → ℕ → List ℕ → List ℕ → Entry

-- ---- a molecule that was read: n atoms and m bonds, k atoms being over-full

-- "A writing refusal is reported with place 0 and counted as refused"
abbrev pub of_written : ℕ → ℕ → ℕ → List ℕ → write.WriteResult → Entry
of_written n m k row w = pick (eqb w.code 0) (accepted_as n m k (take m row) (take w.size w.output)) (refused_as w.code 0)

-- kekulizing that gives 20: "the program reports that as it does a writing refusal" (02, P5)
unfoldable pub of_molecule : List ℤ → List ℤ → ℕ → ℕ → ℕ → Entry
of_molecule atoms bonds n m k =
    pick (eqb (kekule_of atoms bonds n m).code 0) (of_written n m k (first_row atoms bonds n m) (written_of atoms bonds n m (replicate max_text 0))) (refused_as (kekule_of atoms bonds n m).code 0)

-- ---- a line

abbrev pub of_read : read.ReadResult → Entry
of_read t = pick (eqb t.code 0) (of_molecule t.atoms t.bonds t.atom_count t.bond_count t.overfull) (refused_as t.code t.offset)

unfoldable pub entry_of : List ℕ → Entry
entry_of s = of_read (read.read_of s (replicate (atom_cells * max_atoms) (pos 0)) (replicate (bond_cells * max_bonds) (pos 0)))

-- the line of the report, with its number
abbrev pub line_for : ℕ → Entry → List ℕ
line_for k (refused_as code offset) = refused_line k code offset
line_for k (accepted_as atoms bonds overfull row text) = accepted_line k atoms bonds overfull row text

abbrev pub is_accepted : Entry → Bool
is_accepted (refused_as code offset) = false
is_accepted (accepted_as atoms bonds overfull row text) = true

-- "reports the first placement and the settled text": line number k of the report is a function of that line alone
unfoldable pub line_of : ℕ → List ℕ → List ℕ
line_of k s = line_for k (entry_of s)

unfoldable pub accepted_of : List ℕ → Bool
accepted_of s = is_accepted (entry_of s)
