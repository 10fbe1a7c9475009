-- 01, "When a call says no", and 02: the refusals of reading one after the other: when each holds of a text, and which is told where several hold
use Rattle.std.specs.Prelude.{ℕ, ◌+◌, ◌-◌, ◌*◌, ◌≤◌, ◌<◌, ◌≡◌, true, false, ◌⊎◌, ◌≢◌, List, length, get_or, take, ℤ}
use Rattle.kinds.specs.Kind.{turned}
use Rattle.element.specs.declared.Letter.TheVariants.{Nothing}
use Rattle.element.specs.Symbols.{among}
use Rattle.element.specs.Lookup.{letter_of}
use Rattle.reading_grammar.specs.Grammar.{nonzero, digits}
use Rattle.reading_grammar.specs.Place.{Place}
use Rattle.reading_grammar.specs.declared.Last.{Last}
use Rattle.reading_grammar.specs.declared.Mode.TheVariants.{Seq as seq, Bond as bond, AtomNext as atomNext, Inside as inside}
use Rattle.reading_grammar.specs.declared.MachineState.{MachineState}
use Rattle.reading_grammar.specs.declared.MachineState.TheVariants.{Start as start, At as at}
use Rattle.reading_grammar.specs.Machine.{accepting}
use Rattle.reading_grammar.specs.Fold.{Reading, going, read}
use Rattle.table.specs.Limits.{max_atoms, max_bonds}
use Rattle.table.specs.Cells.{end1, end2}
use Rattle.table.specs.Valid.{enough}
use Rattle.table.specs.Sound.{late_code}
use Rattle.table_graph.specs.Graph.{matchable}
use Rattle.ids.specs.Limits.{max_depth, max_text}
use Rattle.reading.specs.Memory.{Memory, dotted, kind_of}
use Rattle.reading.specs.Bracket.{digit}
use Rattle.reading.specs.Act.{act}
use Rattle.reading.specs.Read.{zeros, beginning, overfull_atoms}
pub use Rattle.reading.specs.Read.{atoms_of}

-- ---- what was read

-- the bytes of a text, read into zeroed tables
abbrev pub bytes_read : List ℕ → List ℤ → List ℤ → Reading Memory
bytes_read s atoms bonds = read act 0 (going start (beginning (zeros atoms) (zeros bonds))) s

-- how many of those outside brackets are over-full (02, P10)
abbrev pub overfull_of : Memory → ℕ
overfull_of μ = overfull_atoms μ.st.outside μ.bonds μ.st.bonds μ.st.atoms μ.atoms

-- where an atom may begin: at the start, in a sequence, after a bond symbol, after a dot (or a symbol in a branch), in a branch
pub data AtomMayBegin : MachineState → Type 0 where
  at_start : AtomMayBegin start
  in_sequence : {x : Last} {d : ℕ} → AtomMayBegin (at (seq x) d)
  after_symbol : {d : ℕ} → AtomMayBegin (at bond d)
  after_dot : {d : ℕ} → AtomMayBegin (at atomNext d)
  in_branch : {d : ℕ} → AtomMayBegin (at inside d)

-- where a bridge may stand: in a sequence, and after a bond symbol there
pub data BridgeMayStand : MachineState → Type 0 where
  in_sequence : {x : Last} {d : ℕ} → BridgeMayStand (at (seq x) d)
  after_symbol : {d : ℕ} → BridgeMayStand (at bond d)

-- "another atom is to be bonded": it is not the first, and no dot stands before it
pub record ToBeBonded (μ : Memory) : Type 0 where
  pub not_first : 0 < μ.st.atoms
  pub no_dot : μ.pending ≢ dotted

-- a bridge number is open, at its opening atom and one
abbrev pub Open : List ℕ → ℕ → Type 0
Open opener r = 0 < get_or opener r 0

abbrev pub opener_of : Memory → ℕ → ℕ
opener_of μ r = get_or μ.st.opener r 0 - 1

-- one of m bonds joins the atoms a and b
pub record HaveBond (bonds : List ℤ) (m a b : ℕ) : Type 0 where
  pub number : ℕ
  pub stands : number < m
  pub ends : ((end1 bonds number ≡ a) × (end2 bonds number ≡ b)) ⊎ ((end1 bonds number ≡ b) × (end2 bonds number ≡ a))

-- "at both ends they must be equal", and marks opposite: the kinds j and k of symbols (0: none)
pub record Differ (j k : ℕ) : Type 0 where
  pub at_opening : 0 < j
  pub at_closing : 0 < k
  pub unequal : j ≢ turned k

-- p is the smallest offset of a bridge that is open
pub record LeftmostOpening (opener offset : List ℕ) (p : ℕ) : Type 0 where
  pub number : ℕ
  pub still_open : Open opener number
  pub opening : get_or offset number 0 ≡ p
  pub least : (r : ℕ) → Open opener r → p ≤ get_or offset r 0

-- the text, and the tables lent
module _ (s : List ℕ) (atoms bonds : List ℤ) where
  -- 1 and 2 do not apply
  pub record Fits : Type 0 where
    pub room : enough atoms bonds ≡ true
    pub short : length s ≤ max_text

  -- the bytes before p were read, and there is one at p
  pub record Before (p : ℕ) (σ : MachineState) (μ : Memory) : Type 0 where
    pub within : p < length s
    pub reached : bytes_read (take p s) atoms bonds ≡ going σ μ

  -- an atom begins at p, "its first byte"
  pub record AtomBegins (p : ℕ) (μ : Memory) : Type 0 where
    pub state : MachineState
    pub before : Before p state μ
    pub place : AtomMayBegin state
    pub first_byte : letter_of (get_or s p 0) ≢ Nothing

  -- "a digit 1 to 9, or `%` and two digits 10 to 99", the digit or `%` at p; "a bridge counts only when complete"
  pub data Numbered (p : ℕ) : ℕ → Type 0 where
    by_digit : among (get_or s p 0) nonzero ≡ true → Numbered p (digit (get_or s p 0))
    by_percent : get_or s p 0 ≡ 37 → among (get_or s (p + 1) 0) nonzero ≡ true → among (get_or s (p + 2) 0) digits ≡ true → p + 2 < length s
        → Numbered p (10 * digit (get_or s (p + 1) 0) + digit (get_or s (p + 2) 0))

  -- the bridge r closes at p
  pub record BridgeCloses (p r : ℕ) (μ : Memory) : Type 0 where
    pub state : MachineState
    pub before : Before p state μ
    pub place : BridgeMayStand state
    pub complete : Numbered p r
    pub opened : Open μ.st.opener r

  -- a branch opens at p, its `(`
  pub record BranchOpens (p : ℕ) (μ : Memory) : Type 0 where
    pub last : Last
    pub depth : ℕ
    pub before : Before p (at (seq last) depth) μ
    pub byte : get_or s p 0 ≡ 40

  -- the code's condition holds at the place
  pub data Holds : ℕ → ℕ → Type 0 where
    -- 3: "grammar: place is the first byte at which no accepted text can continue, taking the grammar alone, or the length if the text ends too soon"
    grammar : {p : ℕ} → Place s p → Holds 3 p
    -- 4: "a 1,001st atom begins (place: its first byte)" (P7)
    atom_over : {p : ℕ} {μ : Memory} → AtomBegins p μ → max_atoms ≤ μ.st.atoms → Holds 4 p
    -- 5: "1,100 bonds stand and another atom is to be bonded, or a bridge closes" (P7)
    child_over : {p : ℕ} {μ : Memory} → AtomBegins p μ → ToBeBonded μ → max_bonds ≤ μ.st.bonds → Holds 5 p
    bridge_over : {p r : ℕ} {μ : Memory} → BridgeCloses p r μ → max_bonds ≤ μ.st.bonds → Holds 5 p
    -- 6: "a 65th branch opens inside 64"
    branch_65 : {p : ℕ} {μ : Memory} → BranchOpens p μ → max_depth ≤ μ.st.depth → Holds 6 p
    -- 7: "a bridge joins an atom to itself"
    to_itself : {p r : ℕ} {μ : Memory} → BridgeCloses p r μ → opener_of μ r ≡ μ.st.hub.0 → Holds 7 p
    -- 8: "a bridge joins two atoms that have a bond"
    joined_twice : {p r : ℕ} {μ : Memory} → BridgeCloses p r μ → HaveBond μ.bonds μ.st.bonds (opener_of μ r) μ.st.hub.0 → Holds 8 p
    -- 9: "the symbols at a bridge's ends differ"
    symbols_differ : {p r : ℕ} {μ : Memory} → BridgeCloses p r μ → Differ (get_or μ.st.symbol r 0) (kind_of μ.pending) → Holds 9 p

  -- "3 to 9 by smallest place and there by smallest number"
  pub record First (c p : ℕ) : Type 0 where
    pub holds : Holds c p
    pub smallest_place : (d q : ℕ) → q < p → Holds d q → ⊥
    pub smallest_number : (d : ℕ) → d < c → Holds d p → ⊥

  -- the text was read to its end
  pub record Read (σ : MachineState) (μ : Memory) : Type 0 where
    pub fits : Fits
    pub reached : bytes_read s atoms bonds ≡ going σ μ
    pub ends : accepting σ ≡ true

  -- 10: "a bridge is open at the end (place: the leftmost opening)"
  pub record Unclosed (p : ℕ) : Type 0 where
    pub state : MachineState
    pub memory : Memory
    pub reads : Read state memory
    pub leftmost : LeftmostOpening memory.st.opener memory.st.offset p

  -- a late check (02, P5: 20, 21; P6: 22; P8: 23): the code of the first that the molecule read fails, no bridge being open
  pub record Late (c : ℕ) : Type 0 where
    pub state : MachineState
    pub memory : Memory
    pub reads : Read state memory
    pub no_open_bridge : (r : ℕ) → get_or memory.st.opener r 0 ≡ 0
    pub fails : late_code (atoms_of memory) memory.bonds memory.st.atoms memory.st.bonds ≡ c
    pub some : 0 < c

  -- 11: "no placement exists", no bridge being open and no late check failing
  pub record Unmatched : Type 0 where
    pub state : MachineState
    pub memory : Memory
    pub reads : Read state memory
    pub no_open_bridge : (r : ℕ) → get_or memory.st.opener r 0 ≡ 0
    pub passes : late_code (atoms_of memory) memory.bonds memory.st.atoms memory.st.bonds ≡ 0
    pub none : matchable (atoms_of memory) memory.bonds memory.st.atoms memory.st.bonds ≡ false

  -- "Reading checks 1, 2, then 3 to 9 by smallest place and there by smallest number, then 10," the late checks and 11: the code, and its offset
  pub data Refused : ℕ → ℕ → Type 0 where
    too_short : enough atoms bonds ≡ false → Refused 1 0
    too_long : enough atoms bonds ≡ true → max_text < length s → Refused 2 max_text
    first : {c p : ℕ} → Fits → First c p → Refused c p
    unclosed : {p : ℕ} → Unclosed p → Refused 10 p
    late : {c : ℕ} → Late c → Refused c 0
    unmatched : Unmatched → Refused 11 0
