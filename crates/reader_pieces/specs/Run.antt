-- auxiliary: what reading the bytes of a piece promises
use Rattle.std.specs.Prelude.{Result, Ok, Err, ℕ, ◌+◌, ◌≤◌, ◌≡◌, List, length, eqb, ℤ}
use Rattle.loops.specs.Loop.{pick}
use Rattle.refusal.specs.Code.{code_of}
use Rattle.ids.specs.Limits.{max_text, bridges}
use Rattle.reading_grammar.specs.declared.Mode.{Mode}
use Rattle.reading_grammar.specs.declared.Mode.TheVariants.{AtomNext}
use Rattle.reading_grammar.specs.Fold.{Reading, going, halted}
use Rattle.reading_state.specs.State.{key_count}
use Rattle.reading.specs.Memory.{Memory}
use Rattle.reading_pieces.specs.declared.Paused.{Paused}
use Rattle.reading_pieces.specs.Bounded.{read_on}
use Rattle.reading_pieces.specs.State.{mode_of, machine_of, memory_of, fields_of, capped}
use Rattle.reading_pieces.specs.Calls.{Fed, fed_to}
use Rattle.reader_bytes.specs.declared.Head.{Head}
use Rattle.reader.specs.declared.answer.TextRefusal.{TextRefusal}
use Rattle.reader_bytes.specs.Step.{Lent, lent, reading_in, Ready}

-- the numbers of a state that goes on; before the first atom it waits for one
abbrev pub mode_in : Paused → Mode
mode_in p = pick (eqb p.atoms 0) AtomNext (mode_of p.mode p.letter p.isotope p.extension)

abbrev pub head_of : Paused → Head
head_of p =
    record {
      mode = mode_in p;
      pending = p.pending;
      tens = p.tens;
      draft = fields_of p;
      hub = record { 0 = p.hub };
      atoms = p.atoms;
      bonds = p.bonds;
      depth = p.depth;
    }

-- its arrays, with the tables beside them
abbrev pub lent_of : Paused → List ℤ → List ℤ → Lent
lent_of p atoms bonds = lent p.hubs p.openers p.symbols (capped bridges p.offsets) p.outsides (capped key_count p.keys) atoms bonds

-- the piece s of the reading x was taken, i bytes being read before it, or refused
pub record TakesAll (i : ℕ) (s : List ℕ) (x : Reading Memory) (g : Head) (l : Lent) : Type 0 where
  pub is : read_on i x s ≡ reading_in g l
  pub ready : Ready g l
  pub short : i + length s ≤ max_text

pub record RefusesOne (i : ℕ) (s : List ℕ) (x : Reading Memory) (c q : ℕ) : Type 0 where
  pub is : read_on i x s ≡ halted c q
  pub early : q ≤ max_text

-- l: the arrays then, of no meaning after a refusal
abbrev pub Reads : ℕ → List ℕ → Reading Memory → Lent → Result Head TextRefusal → Type 0
Reads i s x l (Ok g) = TakesAll i s x g l
Reads i s x l (Err e) = RefusesOne i s x (code_of e.refusal) e.at

-- a piece of a reading that goes on
abbrev pub fed_on : Paused → List ℕ → List ℤ → List ℤ → Fed
fed_on p s atoms bonds = fed_to (p.read + length s) atoms bonds (read_on p.read (going (machine_of p) (memory_of p atoms bonds)) s)
