-- auxiliary: what one byte of a piece promises: reading's fold makes the same step
use Rattle.std.specs.Prelude.{Result, Ok, Err, ℕ, ◌≤◌, ◌≡◌, List, ℤ, eqb}
use Rattle.loops.specs.Loop.{pick}
use Rattle.refusal.specs.Code.{code_of}
use Rattle.reading_grammar.specs.declared.Mode.TheVariants.{AtomNext}
use Rattle.reading_grammar.specs.declared.MachineState.{MachineState}
use Rattle.reading_grammar.specs.declared.MachineState.TheVariants.{Start as start, At as at}
use Rattle.reading_grammar.specs.Fold.{Reading, going, halted, feed}
use Rattle.reading_state.specs.State.{Steering}
use Rattle.reading.specs.Memory.{Memory}
use Rattle.reading.specs.Act.{act}
use Rattle.reading_pieces.specs.State.{pending_of}
use Rattle.reading_pieces.specs.Safe.{Safe}
use Rattle.reader_bytes.specs.declared.Head.{Head}
use Rattle.reader.specs.declared.answer.TextRefusal.{TextRefusal}

-- the arrays that are lent beside the numbers
pub record Lent : Type 0 where
  pub hubs : List ℕ
  pub openers : List ℕ
  pub symbols : List ℕ
  pub offsets : List ℕ
  pub outsides : List ℕ
  pub keys : List ℕ
  pub atoms : List ℤ
  pub bonds : List ℤ

abbrev pub lent : List ℕ → List ℕ → List ℕ → List ℕ → List ℕ → List ℕ → List ℤ → List ℤ → Lent
lent hubs openers symbols offsets outsides keys atoms bonds =
    record { hubs = hubs; openers = openers; symbols = symbols; offsets = offsets; outsides = outsides; keys = keys; atoms = atoms; bonds = bonds }

-- what steers the reading, and the memory, that the numbers and the arrays stand for
abbrev pub steering_in : Head → Lent → Steering
steering_in h l =
    record {
      hub = h.hub;
      atoms = h.atoms;
      bonds = h.bonds;
      depth = h.depth;
      stack = l.hubs;
      opener = l.openers;
      symbol = l.symbols;
      offset = l.offsets;
      outside = l.outsides;
      keys = l.keys;
    }

abbrev pub memory_in : Head → Lent → Memory
memory_in h l =
    record {
      st = steering_in h l;
      atoms = l.atoms;
      bonds = l.bonds;
      pending = pending_of h.pending;
      tens = h.tens;
      draft = h.draft;
    }

-- no atoms yet is the start
abbrev pub machine_in : Head → MachineState
machine_in h = pick (eqb h.atoms 0) start (at h.mode h.depth)

abbrev pub reading_in : Head → Lent → Reading Memory
reading_in h l = going (machine_in h) (memory_in h l)

-- what holds between bytes: the reading is safe, and before the first atom it waits for one, with no branch open
pub record Ready (h : Head) (l : Lent) : Type 0 where
  pub safe : Safe h.mode h.depth (memory_in h l)
  pub waits : h.atoms ≡ 0 → h.mode ≡ AtomNext
  pub shallow : h.atoms ≡ 0 → h.depth ≡ 0

-- the byte b at an offset of the reading x was taken, or refused at its own offset or before
pub record Takes (p b : ℕ) (x : Reading Memory) (g : Head) (l : Lent) : Type 0 where
  pub is : feed act p x b ≡ reading_in g l
  pub ready : Ready g l

pub record RefusesAt (p b : ℕ) (x : Reading Memory) (c q : ℕ) : Type 0 where
  pub is : feed act p x b ≡ halted c q
  pub early : q ≤ p

-- l: the arrays then, of no meaning after a refusal
abbrev pub Steps : ℕ → ℕ → Reading Memory → Lent → Result Head TextRefusal → Type 0
Steps p b x l (Ok g) = Takes p b x g l
Steps p b x l (Err e) = RefusesAt p b x (code_of e.refusal) e.at
