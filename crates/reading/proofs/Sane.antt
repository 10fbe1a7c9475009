-- What holds of a reading's memory before each byte: the tables are valid so far, the state steers within them, and a half-read field is in range.
use Prim.Native.Nat.{ℕ, zero, suc, ◌*◌, ◌≤◌, ◌<◌}
use mathlib.Core.Path.{◌≡◌}
use mathlib.Core.Bool.{true, ◌||◌}
use mathlib.Core.List.{List}
use lib.ListN.{length, get_or}
use lib.IntN.{ℤ, pos, negsuc}
use lib.Signed.{le_z}
use lib.Dec.{eqb}
use Rattle.kinds.specs.Kind.{max_kind}
use Rattle.reading_grammar.specs.declared.Mode.{Mode}
use Rattle.reading_grammar.specs.declared.Mode.TheVariants.{Seq as seq, Bond as bond, AtomNext as atomNext, Inside as inside, Percent as percent, Percent1 as percent1, LetterA as letterA, LetterT as letterT, Bracket as bracket, Isotope as isotope, Symbol1 as symbol1, Symbolled as symbolled, At1 as at1, At2 as at2, Hydrogen as hydrogen, Hydrogens as hydrogens, Sign as sign, Charged as charged, Colon as colon, Extension as extension}
use Rattle.reading_grammar.specs.declared.MachineState.{MachineState}
use Rattle.reading_grammar.specs.declared.MachineState.TheVariants.{Dead as dead, Start as start, At as at}
use Rattle.reading_grammar.specs.Fold.{Reading, going, halted, Act, keeps, refuses}
use Rattle.table.specs.Limits.{max_atoms, max_bonds, atom_cells, bond_cells, FIRST}
use Rattle.table.specs.Cells.{in_range, bond_cell, end1, end2}
use Rattle.table.specs.Valid.{atom_ok, kind_ok, max_mark, selectable}
use Rattle.ids.specs.Limits.{max_depth, bridges}
use Rattle.reading_state.specs.State.{Steering, key_count}
use Rattle.reading_state.specs.declared.Fields.{Fields}
use Rattle.reading.specs.Memory.{Memory, kind_of}

-- ---- the tables

-- a bond's row is valid, with n atoms
pub record BondRow (t : List ℤ) (n b : ℕ) : Type 0 where
  pub kind : kind_ok t b ≡ true
  pub natural : le_z (pos 0) (bond_cell t b FIRST) ≡ true
  pub order : end1 t b < end2 t b
  pub second : end2 t b < n

-- n atoms and m bonds stand in tables of p and q cells: the rows are valid, no two bonds join the same two atoms, and the cells after them are 0
pub record Tables (p q n m : ℕ) (atoms bonds : List ℤ) : Type 0 where
  pub atoms_few : n ≤ max_atoms
  pub bonds_few : m ≤ max_bonds
  pub atom-length : length atoms ≡ p
  pub bond-length : length bonds ≡ q
  pub atom-room : atom_cells * max_atoms ≤ p
  pub bond-room : bond_cells * max_bonds ≤ q
  pub atom_rows : (a : ℕ) → a < n → atom_ok atoms a ≡ true
  pub bond_rows : (b : ℕ) → b < m → BondRow bonds n b
  pub apart : (i j : ℕ) → j < i → i < m → end1 bonds i ≡ end1 bonds j → end2 bonds i ≡ end2 bonds j → ⊥
  pub atoms-clear : (k : ℕ) → atom_cells * n ≤ k → get_or atoms k (pos 0) ≡ pos 0
  pub bonds-clear : (k : ℕ) → bond_cells * m ≤ k → get_or bonds k (pos 0) ≡ pos 0

-- ---- the state

-- the open branches and the open bridges name atoms that were read, i bytes of the text being behind
pub record Steers (i : ℕ) (s : Steering) : Type 0 where
  pub stack-length : length s.stack ≡ max_depth
  pub opener-length : length s.opener ≡ bridges
  pub symbol-length : length s.symbol ≡ bridges
  pub offset-length : length s.offset ≡ bridges
  pub outside-length : length s.outside ≡ max_atoms
  pub keys_length : length s.keys ≡ key_count
  pub depth : s.depth ≤ max_depth
  pub stack : (k : ℕ) → k < s.depth → get_or s.stack k 0 < s.atoms
  pub opener : (r : ℕ) → get_or s.opener r 0 ≤ s.atoms
  pub symbol : (r : ℕ) → get_or s.symbol r 0 ≤ max_kind
  pub offset : (r : ℕ) → 0 < get_or s.opener r 0 → get_or s.offset r 0 < i
  pub keys : (k : ℕ) → get_or s.keys k 0 ≤ i

-- ---- the bracket being read

-- the fields read so far make a valid row; the isotope and the extension are at most these
pub record InRange (most-isotope most-extension : ℕ) (f : Fields) : Type 0 where
  pub element : f.element ≤ 118
  pub selected : f.selected ≤ 1
  pub selectable : (eqb f.selected 0 || selectable f.element) ≡ true
  pub isotope : f.isotope ≤ most-isotope
  pub hydrogens : f.hydrogens ≤ 9
  pub charge : in_range f.charge (negsuc 8) (pos 9) ≡ true
  pub extension : f.extension ≤ most-extension
  pub mark : f.mark ≤ max_mark

-- the largest isotope and extension while k more digits may come
abbrev pub isotope_most : ℕ → ℕ
isotope_most zero = 999
isotope_most (suc zero) = 99
isotope_most (suc (suc k)) = 9

abbrev pub extension_most : ℕ → ℕ
extension_most zero = 9999
extension_most (suc zero) = 999
extension_most (suc (suc zero)) = 99
extension_most (suc (suc (suc k))) = 9

-- what the item that a mode is in has left behind so far
abbrev pub HalfRead : Mode → Memory → Type 0
HalfRead (seq x) μ = Unit {0}
HalfRead bond μ = Unit {0}
HalfRead atomNext μ = Unit {0}
HalfRead inside μ = Unit {0}
HalfRead percent μ = Unit {0}
HalfRead percent1 μ = (1 ≤ μ.tens) × (μ.tens ≤ 9)
HalfRead letterA μ = Unit {0}
HalfRead letterT μ = Unit {0}
HalfRead bracket μ = InRange 0 0 μ.draft
HalfRead (isotope k) μ = (k ≤ 2) × InRange (isotope_most k) 0 μ.draft
HalfRead (symbol1 a) μ = InRange 999 0 μ.draft
HalfRead symbolled μ = InRange 999 0 μ.draft
HalfRead at1 μ = InRange 999 0 μ.draft
HalfRead at2 μ = InRange 999 0 μ.draft
HalfRead hydrogen μ = InRange 999 0 μ.draft
HalfRead hydrogens μ = InRange 999 0 μ.draft
HalfRead sign μ = InRange 999 0 μ.draft
HalfRead charged μ = InRange 999 0 μ.draft
HalfRead colon μ = InRange 999 0 μ.draft
HalfRead (extension k) μ = (k ≤ 3) × InRange 999 (extension_most k) μ.draft

-- ---- the machine's state

-- nothing is read yet
pub record Unread (s : Steering) : Type 0 where
  pub atoms : s.atoms ≡ 0
  pub bonds : s.bonds ≡ 0
  pub depth : s.depth ≡ 0

-- an atom was read: the hub is one, and the machine counts the same open branches
pub record Standing (m : Mode) (d : ℕ) (μ : Memory) : Type 0 where
  pub hub : μ.st.hub.0 < μ.st.atoms
  pub depth : μ.st.depth ≡ d
  pub half : HalfRead m μ

abbrev pub Stands : MachineState → Memory → Type 0
Stands dead μ = ⊥
Stands start μ = Unread μ.st
Stands (at m d) μ = Standing m d μ

-- ---- together

-- i bytes are read, the machine is in the state σ, the tables have p and q cells
pub record Sane (p q : ℕ) (σ : MachineState) (i : ℕ) (μ : Memory) : Type 0 where
  pub tables : Tables p q μ.st.atoms μ.st.bonds μ.atoms μ.bonds
  pub steering : Steers i μ.st
  pub kind : kind_of μ.pending ≤ max_kind
  pub stands : Stands σ μ

-- a reading that goes on does so with a sane memory
abbrev pub SaneReading : ℕ → ℕ → ℕ → Reading Memory → Type 0
SaneReading p q i (going σ μ) = Sane p q σ i μ
SaneReading p q i (halted c k) = Unit {0}

-- what a byte does keeps it so, in the state τ
abbrev pub SaneAct : ℕ → ℕ → MachineState → ℕ → Act Memory → Type 0
SaneAct p q τ i (keeps μ) = Sane p q τ i μ
SaneAct p q τ i (refuses c k) = Unit {0}
