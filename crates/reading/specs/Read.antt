-- 01, When a call says no: reading a text into two tables: the refusals in the stated order, and what every answer leaves behind
use Rattle.std.specs.Prelude.{ℕ, ◌+◌, List, length, get_or, set, replicate, ℤ, pos, eqb, leb, ltb}
use Rattle.loops.specs.Loop.{pick, run}
use Rattle.valence.specs.Valence.{implied, overfull}
use Rattle.table.specs.Limits.{HYDROGENS}
use Rattle.table.specs.Cells.{atom_place, element, selected, end2}
use Rattle.table.specs.Valid.{enough}
use Rattle.table.specs.Sound.{late_code}
use Rattle.table.specs.Orders.{turn_marks, at_end}
use Rattle.table_graph.specs.Graph.{bond_sum, matchable}
use Rattle.ids.specs.Limits.{max_text, bridges}
use Rattle.reading_state.specs.State.{started}
use Rattle.reading_grammar.specs.Fold.{Reading, going, halted, read}
use Rattle.reading_grammar.specs.Machine.{accepting}
use Rattle.reading_grammar.specs.declared.MachineState.TheVariants.{Start as start}
use Rattle.reading.specs.Memory.{Memory, nothing, blank}
use Rattle.reading.specs.Act.{act}

-- what reading hands back: 0 with the counts of atoms and bonds and, by 02's P10, of over-full atoms, or a code with its offset, the counts being 0; and both tables
pub record ReadResult : Type 0 where
  pub code : ℕ
  pub offset : ℕ
  pub atom_count : ℕ
  pub bond_count : ℕ
  pub overfull : ℕ
  pub atoms : List ℤ
  pub bonds : List ℤ

abbrev pub zeros : List ℤ → List ℤ
zeros t = replicate (length t) (pos 0)

-- "any other zeroes every cell and byte lent for output, and counts and lengths handed back are 0"
abbrev pub refused : ℕ → ℕ → List ℤ → List ℤ → ReadResult
refused c p atoms bonds = record { code = c; offset = p; atom_count = 0; bond_count = 0; overfull = 0; atoms = zeros atoms; bonds = zeros bonds }

-- "Refusal 1 changes nothing"
abbrev pub short : List ℤ → List ℤ → ReadResult
short atoms bonds = record { code = 1; offset = 0; atom_count = 0; bond_count = 0; overfull = 0; atoms = atoms; bonds = bonds }

-- the memory before the first byte, over zeroed tables
abbrev pub beginning : List ℤ → List ℤ → Memory
beginning atoms bonds = record { st = started; atoms = atoms; bonds = bonds; pending = nothing; tens = 0; draft = blank }

-- ---- after the last byte

-- an atom outside brackets gets its hydrogens; m bonds stand
abbrev pub hydrogenate : List ℕ → List ℤ → ℕ → ℕ → List ℤ → List ℤ
hydrogenate outside bonds m a t =
    pick (eqb (get_or outside a 0) 1) (set t (atom_place a HYDROGENS) (pos (implied (element t a) (selected t a) (bond_sum bonds m a)))) t

unfoldable pub hydrogenated : List ℕ → List ℤ → ℕ → ℕ → List ℤ → List ℤ
hydrogenated outside bonds m n t = run (hydrogenate outside bonds m) 0 n t

-- 02, P10: "the number of such over-full atoms outside brackets"; "Brackets don't take part"
abbrev pub overfull_at : List ℕ → List ℤ → ℕ → List ℤ → ℕ → ℕ
overfull_at outside bonds m t a = pick (eqb (get_or outside a 0) 1) (overfull (element t a) (selected t a) (bond_sum bonds m a)) 0

unfoldable pub overfull_atoms : List ℕ → List ℤ → ℕ → ℕ → List ℤ → ℕ
overfull_atoms outside bonds m n t = run (λ a k. k + overfull_at outside bonds m t a) 0 n 0

-- 02, P8: "In text the neighbours are ordered: the preceding atom, the virtual hydrogen, bridges as their digits stand in the text at this atom, then children; with no preceding atom the hydrogen is first":
-- the rank of the bond b at the atom a: 0 for the bond to the preceding atom, 1 being the hydrogen's; that of a bridge is its key there and one; that of a child lies above all of these, by its number
abbrev pub rank_by : ℕ → ℕ → ℕ → ℕ
rank_by key second a = pick (eqb key 0) (pick (eqb second a) 0 (max_text + 2 + second)) (key + 1)

unfoldable pub text_rank : List ℕ → List ℤ → ℕ → ℕ → ℕ
text_rank keys bonds a b = rank_by (at_end keys bonds a b) (end2 bonds b) a

-- the atoms that were read, with the hydrogens of those outside brackets; "The stored mark refers to the hydrogen first and then bonds by ascending number, so reading turns it when the two orders differ by an odd number of swaps"
abbrev pub atoms_of : Memory → List ℤ
atoms_of μ = turn_marks (text_rank μ.st.keys μ.bonds) μ.bonds μ.st.bonds μ.st.atoms (hydrogenated μ.st.outside μ.bonds μ.st.bonds μ.st.atoms μ.atoms)

-- the lower of two offsets of openings, of which the second is told by its opener (0: not open)
abbrev pub earlier : ℕ → ℕ → ℕ → ℕ
earlier p u q = pick (eqb u 0) p (pick (ltb q p) q p)

-- "place: the leftmost opening"; max_text where no bridge is open. Offsets are below max_text
unfoldable pub leftmost : List ℕ → List ℕ → ℕ
leftmost opener offset = run (λ r p. earlier p (get_or opener r 0) (get_or offset r 0)) 0 bridges max_text

-- "11 exactly when the book of the molecule read has no entry", or the molecule with k over-full atoms
abbrev pub placed : List ℤ → List ℤ → ℕ → ℕ → ℕ → ReadResult
placed atoms bonds n m k =
    pick (matchable atoms bonds n m) (record { code = 0; offset = 0; atom_count = n; bond_count = m; overfull = k; atoms = atoms; bonds = bonds }) (refused 11 0 atoms bonds)

-- the late checks in their order, "after 10 and before 11, at place 0"
abbrev pub checked : List ℤ → List ℤ → ℕ → ℕ → ℕ → ReadResult
checked atoms bonds n m k = pick (eqb (late_code atoms bonds n m) 0) (placed atoms bonds n m k) (refused (late_code atoms bonds n m) 0 atoms bonds)

-- 10: "a bridge is open at the end"; then the late checks; then 11
unfoldable pub ended : Memory → ReadResult
ended μ =
    let p : ℕ = leftmost μ.st.opener μ.st.offset in
    pick (ltb p max_text) (refused 10 p μ.atoms μ.bonds)
    (checked (atoms_of μ) μ.bonds μ.st.atoms μ.st.bonds
    (overfull_atoms μ.st.outside μ.bonds μ.st.bonds μ.st.atoms μ.atoms))

-- 3 to 9 at their byte, 3 at the length, then what comes at the end; n: the length of the text
abbrev pub finished : ℕ → List ℤ → List ℤ → Reading Memory → ReadResult
finished n atoms bonds (going σ μ) = pick (accepting σ) (ended μ) (refused 3 n atoms bonds)
finished n atoms bonds (halted c p) = refused c p atoms bonds

-- reading the bytes of a text into zeroed tables
unfoldable pub read_from : List ℕ → List ℤ → List ℤ → ReadResult
read_from s atoms bonds = finished (length s) atoms bonds (read act 0 (going start (beginning (zeros atoms) (zeros bonds))) s)

-- "Reading checks 1, 2, then 3 to 9 by smallest place and there by smallest number, then 10," the late checks and 11
unfoldable pub read_of : List ℕ → List ℤ → List ℤ → ReadResult
read_of s atoms bonds =
    pick (enough atoms bonds) (pick (leb (length s) max_text) (read_from s atoms bonds) (refused 2 max_text atoms bonds)) (short atoms bonds)
