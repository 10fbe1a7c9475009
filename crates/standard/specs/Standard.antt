-- One call from a text to the text kekulized: 01's reading, first placement, settling and writing, by the definitions of these calls on zeroed tables of the sizes that 01 asks
use Rattle.std.specs.Prelude.{ℕ, ◌*◌, List, length, replicate, ℤ, pos, eqb, leb, Result, Ok, Err}
use Rattle.loops.specs.Loop.{pick}
use Rattle.refusal.specs.Code.{code_of}
use Rattle.table.specs.Limits.{max_atoms, max_bonds, atom_cells, bond_cells}
use Rattle.ids.specs.Limits.{max_text}
use Rattle.matching.specs.declared.Call.TheVariants.{First}
use Rattle.reading.specs.Read as read
use Rattle.kekule.specs.Kekule.{KekulizeReply, call_on, kekulized_of}
use Rattle.writing.specs.Write as write
use Rattle.reader.specs.declared.answer.TextRefusal.{TextRefusal}
use Rattle.standard.specs.declared.Written.{Written}

-- what the call hands back: 0 with the counts of atoms, bonds and over-full atoms and the length of the text, or a code with its place, the counts and the length being 0; and the output as it is then
pub record StandardOut : Type 0 where
  pub code : ℕ
  pub place : ℕ
  pub atoms : ℕ
  pub bonds : ℕ
  pub overfull : ℕ
  pub size : ℕ
  pub output : List ℕ

abbrev pub refused_as : ℕ → ℕ → List ℕ → StandardOut
refused_as c p out = record { code = c; place = p; atoms = 0; bonds = 0; overfull = 0; size = 0; output = out }

-- "any other zeroes every cell and byte lent for output"
abbrev pub zeroed : ℕ → ℕ → List ℕ → StandardOut
zeroed c p out = refused_as c p (replicate (length out) 0)

-- ---- a molecule that was read: n atoms and m bonds, k atoms being over-full

-- the row of its first matching, which there is: 11 comes with reading
unfoldable pub first_row : List ℤ → List ℤ → ℕ → ℕ → List ℕ
first_row atoms bonds n m = (call_on First atoms bonds n m (replicate max_bonds 0)).row

-- the tables kekulized by it
unfoldable pub kekule_of : List ℤ → List ℤ → ℕ → ℕ → KekulizeReply
kekule_of atoms bonds n m = kekulized_of atoms bonds n m (first_row atoms bonds n m)

-- their text
unfoldable pub written_of : List ℤ → List ℤ → ℕ → ℕ → List ℕ → write.WriteResult
written_of atoms bonds n m out =
    write.write_of (kekule_of atoms bonds n m).atoms (kekule_of atoms bonds n m).bonds n m out (replicate max_atoms 0)

-- what writing leaves, with the counts of the molecule
abbrev pub of_written : ℕ → ℕ → ℕ → write.WriteResult → StandardOut
of_written n m k w =
    pick (eqb w.code 0)
    (record { code = 0; place = 0; atoms = n; bonds = m; overfull = k; size = w.size; output = w.output })
    (refused_as w.code 0 w.output)

-- kekulizing's refusal (20) or writing's (14, 15, 16), at place 0, or the text
unfoldable pub of_molecule : List ℤ → List ℤ → ℕ → ℕ → ℕ → List ℕ → StandardOut
of_molecule atoms bonds n m k out =
    pick (eqb (kekule_of atoms bonds n m).code 0) (of_written n m k (written_of atoms bonds n m out)) (zeroed (kekule_of atoms bonds n m).code 0 out)

-- ---- a text

-- reading's refusal at its place, or what comes after it
abbrev pub of_read : read.ReadResult → List ℕ → StandardOut
of_read t out =
    pick (eqb t.code 0) (of_molecule t.atoms t.bonds t.atom_count t.bond_count t.overfull out) (zeroed t.code t.offset out)

-- 1 where the output is too short: "Refusal 1 changes nothing"
unfoldable pub standard_of : List ℕ → List ℕ → StandardOut
standard_of s out =
    pick (leb max_text (length out))
    (of_read (read.read_of s (replicate (atom_cells * max_atoms) (pos 0)) (replicate (bond_cells * max_bonds) (pos 0))) out)
    (refused_as 1 0 out)

-- an answer with the output as it is then
abbrev pub told : Result Written TextRefusal → List ℕ → StandardOut
told (Ok w) out = record { code = 0; place = 0; atoms = w.counts.atoms; bonds = w.counts.bonds; overfull = w.counts.overfull; size = w.length; output = out }
told (Err e) out = refused_as (code_of e.refusal) e.at out
