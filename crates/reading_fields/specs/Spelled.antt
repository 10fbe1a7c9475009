-- auxiliary: what reading an atom's spelling promises: the reading goes on after it, with the atom begun and described
use Rattle.std.specs.Prelude.{ℕ, ◌≤◌, ◌<◌, ◌≡◌, List, length, get_or, Result, Ok, Err}
use Rattle.loops.specs.Loop.{pick}
use Rattle.element.specs.Lookup.{letter_of}
use Rattle.reading_grammar.specs.declared.Last.TheVariants.{Plain as plain}
use Rattle.reading_grammar.specs.declared.Mode.{Mode}
use Rattle.reading_grammar.specs.declared.Mode.TheVariants.{Seq as seq, AtomNext as atomNext}
use Rattle.reading_grammar.specs.declared.Move.TheVariants.{To as to}
use Rattle.reading_grammar.specs.Machine.{next}
use Rattle.reading_grammar.specs.Fold.{keeps, bad}
use Rattle.table.specs.declared.Atom.{Atom}
use Rattle.reading_state.specs.declared.Fields.{Fields}
use Rattle.reading.specs.Memory.{Memory, begun, described, drafted}
use Rattle.reading.specs.Act.{atom_act, first_byte_of}
use Rattle.reading_fields.specs.Rest.{rest}
use Rattle.reading_fields.specs.declared.spelled.Spelled.{Spelled}
use Rattle.reading_fields.specs.declared.spelled.Unspelled.{Unspelled}

-- the byte at an offset begins an atom
pub record Begins (s : List ℕ) (at : ℕ) : Type 0 where
  pub within : at < length s
  pub mode : Mode
  pub goes : next atomNext (get_or s at 0) ≡ to mode

-- neither 4 nor 5 is met where the atom begins
abbrev pub Admitted : List ℕ → ℕ → Memory → Type 0
Admitted s at μ = atom_act (get_or s at 0) at μ ≡ keeps (first_byte_of (letter_of (get_or s at 0)) μ)

pub record SpellsRow (s : List ℕ) (at : ℕ) (y : Atom) (o p : ℕ) : Type 0 where
  pub begins : Begins s at
  pub within : p ≤ length s
  pub later : at < p
  pub is : (μ : Memory) → Admitted s at μ → (f : Fields) × (rest s at atomNext μ ≡ rest s p (seq plain) (drafted f (described y (begun o μ))))

pub record SpellsNothing (s : List ℕ) (at : ℕ) : Type 0 where
  pub is : (μ : Memory) → rest s at atomNext μ ≡ bad 3 at

pub record SpellsNot (s : List ℕ) (at p : ℕ) : Type 0 where
  pub begins : Begins s at
  pub is : (μ : Memory) → Admitted s at μ → rest s at atomNext μ ≡ bad 3 p

-- an atom is read, none begins, or none goes on; of one that is read, 1 where it stands outside brackets
abbrev pub Spells : List ℕ → ℕ → Result Spelled Unspelled → Type 0
Spells s at (Ok r) = SpellsRow s at r.row (pick r.outside 1 0) r.at
Spells s at (Err Unspelled.Nothing) = SpellsNothing s at
Spells s at (Err (Unspelled.Broken p)) = SpellsNot s at p
