-- auxiliary: what adding an atom promises
use Rattle.std.specs.Prelude.{Result, Ok, Err, ℕ, ◌+◌, ◌≤◌, ◌<◌, ◌≡◌, List, Bool, true, ◌&&◌, not, length, ℤ, eqb}
use Rattle.loops.specs.Loop.{pick}
use Rattle.element.specs.Lookup.{letter_of}
use Rattle.refusal.specs.declared.Refusal.{Refusal}
use Rattle.refusal.specs.Code.{code_of}
use Rattle.reading_grammar.specs.declared.Last.TheVariants.{Plain as plain}
use Rattle.reading_grammar.specs.declared.Mode.{Mode}
use Rattle.reading_grammar.specs.declared.Mode.TheVariants.{Seq as seq, AtomNext as atomNext}
use Rattle.reading_grammar.specs.Fold.{Verdict, bad, keeps, refuses}
use Rattle.table.specs.Limits.{max_atoms, max_bonds}
use Rattle.reading_state.specs.State.{Steering, with_next_atom}
use Rattle.reading_state.specs.declared.Fields.{Fields}
use Rattle.reading.specs.Memory.{Memory, Pending, nothing, after_dot, bonded}
use Rattle.reading.specs.Act.{atom_act, first_byte_of}
use Rattle.reading_fields.specs.Rest.{rest, memory}
use Rattle.reader.specs.declared.piece.Joint.{Joint}
use Rattle.reader.specs.declared.answer.TextRefusal.{TextRefusal}
use Rattle.reader.specs.declared.atom.AddedAtom.{AddedAtom}
use Rattle.reader.specs.Piece.{pending_of}

-- the atom n after a joint is bonded to the hub
abbrev pub bonded_by : ℕ → Joint → Bool
bonded_by n j = not (eqb n 0) && not (after_dot (pending_of j))

-- in every memory in which n and m are the numbers that the next atom and the next bond get, and w tells whether the atom is bonded
pub record Next (μ : Memory) (n m : ℕ) (w : Bool) : Type 0 where
  pub atom : μ.st.atoms ≡ n
  pub bond : μ.st.bonds ≡ m
  pub bonds : bonded μ ≡ w

pub record HasRoom (n m : ℕ) (w : Bool) : Type 0 where
  pub atom : n < max_atoms
  pub bond : w ≡ true → m < max_bonds
  pub is : (μ : Memory) → Next μ n m w → (x i : ℕ) → atom_act x i μ ≡ keeps (first_byte_of (letter_of x) μ)

-- an atom begins, or is refused as 01 refuses it, at the offset p
abbrev pub Admits : ℕ → ℕ → Bool → ℕ → Result (Unit {0}) TextRefusal → Type 0
Admits n m w p (Ok u) = HasRoom n m w
Admits n m w p (Err e) = (e.at ≡ p) × ((μ : Memory) → Next μ n m w → (x i : ℕ) → atom_act x i μ ≡ refuses (code_of e.refusal) i)

-- a reading x goes on at an offset, in a mode, with a joint, a state and tables; what it remembers of a `%` or a bracket may be anything
pub record Reaches (s : List ℕ) (x : Verdict Memory) (p : ℕ) (m : Mode) (k : Pending) (t : Steering) (a b : List ℤ) : Type 0 where
  pub tens : ℕ
  pub draft : Fields
  pub is : x ≡ rest s p m (memory t a b k tens draft)

-- the bonds after an atom
abbrev pub bonds_after : Steering → Bool → ℕ
bonds_after t w = pick w (t.bonds + 1) t.bonds

pub record AddsAtom (s : List ℕ) (at : ℕ) (j : Joint) (t : Steering) (a b a' b' : List ℤ) (o : ℕ) (w : Bool) (p : ℕ) : Type 0 where
  pub within : p ≤ length s
  pub later : at < p
  pub atoms : t.atoms < max_atoms
  pub bonds : t.bonds ≤ max_bonds → bonds_after t w ≤ max_bonds
  pub is : (i : ℕ) (f : Fields) → Reaches s (rest s at atomNext (memory t a b (pending_of j) i f)) p (seq plain) nothing (with_next_atom t o (bonds_after t w)) a' b'

pub record AddsNot (s : List ℕ) (at : ℕ) (j : Joint) (t : Steering) (a b : List ℤ) (r : Refusal) (p : ℕ) : Type 0 where
  pub is : (i : ℕ) (f : Fields) → rest s at atomNext (memory t a b (pending_of j) i f) ≡ bad (code_of r) p

abbrev pub Adds : List ℕ → ℕ → Joint → Steering → List ℤ → List ℤ → List ℤ → List ℤ → Result AddedAtom TextRefusal → Type 0
Adds s at j t a b a' b' (Ok d) = AddsAtom s at j t a b a' b' d.outside d.bonded d.at
Adds s at j t a b a' b' (Err e) = AddsNot s at j t a b e.refusal e.at
