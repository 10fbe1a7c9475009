-- auxiliary: what the parts of a byte's step promise
use Rattle.std.specs.Prelude.{Option, Some, None, Result, Ok, Err, ℕ, ◌≤◌, ◌≡◌, Bool, ◌&&◌, not, eqb}
use Rattle.refusal.specs.Code.{code_of}
use Rattle.reading_grammar.specs.declared.Mode.{Mode}
use Rattle.reading_grammar.specs.declared.Move.{Move}
use Rattle.reading_grammar.specs.declared.MachineState.TheVariants.{Dead as dead, At as at}
use Rattle.reading_grammar.specs.Machine.{turn}
use Rattle.reading_grammar.specs.Fold.{keeps, refuses}
use Rattle.reading_state.specs.State.{closed}
use Rattle.reading.specs.Memory.{Memory, after_dot, moved}
use Rattle.reading.specs.Act.{Acts}
use Rattle.reading_pieces.specs.State.{pending_of}
use Rattle.reader_bytes.specs.declared.Head.{Head}
use Rattle.reader.specs.declared.answer.TextRefusal.{TextRefusal}
use Rattle.reader_bytes.specs.Step.{Lent, memory_in}

-- the numbers in another mode
abbrev pub in_mode : Head → Mode → Head
in_mode h m = record { mode = m; pending = h.pending; tens = h.tens; draft = h.draft; hub = h.hub; atoms = h.atoms; bonds = h.bonds; depth = h.depth }

-- the next atom is bonded to the hub
abbrev pub bonded_in : Head → Bool
bonded_in h = not (eqb h.atoms 0) && not (after_dot (pending_of h.pending))

-- `)`
abbrev pub closing : Memory → Acts
closing μ = keeps (moved (closed μ.st) μ)

-- the act a leaves the numbers g with these arrays, in the mode of h
pub record Leaves (h : Head) (a : Acts) (g : Head) (l : Lent) : Type 0 where
  pub is : a ≡ keeps (memory_in g l)
  pub mode : g.mode ≡ h.mode

-- the same, or it refuses, at the offset p or before
abbrev pub Went : Head → Acts → ℕ → Lent → Result Head TextRefusal → Type 0
Went h a p l (Ok g) = Leaves h a g l
Went h a p l (Err e) = (a ≡ refuses (code_of e.refusal) e.at) × (e.at ≤ p)

pub record Performs (h : Head) (a : Acts) (p : ℕ) (l : Lent) (x : Result Head TextRefusal) : Type 0 where
  pub went : Went h a p l x

-- where a move leads with d branches open
abbrev pub Leads : Move → ℕ → Option Mode → Type 0
Leads o d None = turn o d ≡ dead
Leads o d (Some m) = (e : ℕ) × (turn o d ≡ at m e)
