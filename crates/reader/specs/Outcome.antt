-- auxiliary: what reading a sequence and a branch promises: the work that remained at the start is the work that remains at the end
use Rattle.std.specs.Prelude.{Result, Ok, Err, ℕ, ◌+◌, ◌≤◌, ◌<◌, ◌≡◌, List, length, get_or, ℤ, eqb}
use Rattle.loops.specs.Loop.{pick}
use Rattle.refusal.specs.declared.Refusal.{Refusal}
use Rattle.refusal.specs.declared.Refusal.TheVariants.{Grammar}
use Rattle.refusal.specs.Code.{code_of}
use Rattle.reading_grammar.specs.declared.Last.TheVariants.{Plain as plain}
use Rattle.reading_grammar.specs.declared.Mode.{Mode}
use Rattle.reading_grammar.specs.declared.Mode.TheVariants.{Seq as seq, AtomNext as atomNext}
use Rattle.reading_grammar.specs.Fold.{Verdict, bad}
use Rattle.table.specs.Limits.{max_atoms, max_bonds}
use Rattle.reading_state.specs.State.{Steering, steering, closed}
use Rattle.reading_state.specs.declared.Fields.{Fields}
use Rattle.ids.specs.Limits.{max_depth, max_text}
use Rattle.reading.specs.Memory.{Memory, Pending, nothing}
use Rattle.reading_fields.specs.Rest.{rest, memory}
use Rattle.reader.specs.declared.piece.Joint.{Joint}
use Rattle.reader.specs.declared.answer.TextRefusal.{TextRefusal}
use Rattle.reader.specs.declared.sequence.PartRead.{PartRead}
use Rattle.reader.specs.Piece.{pending_of}
use Rattle.reader.specs.Added.{Reaches}

-- the counts are within the limits, the atoms that the state holds are numbers of atoms, and the offsets lie in a text
pub record Bounded (t : Steering) : Type 0 where
  pub atoms : t.atoms ≤ max_atoms
  pub bonds : t.bonds ≤ max_bonds
  pub depth : t.depth ≤ max_depth
  pub hub : t.hub.0 ≤ max_atoms
  pub stack : (i : ℕ) → get_or t.stack i 0 ≤ max_atoms
  pub opener : (i : ℕ) → get_or t.opener i 0 ≤ max_atoms + 1
  pub offset : (i : ℕ) → get_or t.offset i 0 ≤ max_text

-- where a part of a text ends: the next offset, and what steers the reading from there
pub record Reached : Type 0 where
  pub at : ℕ
  pub st : Steering

-- that, or the refusal
abbrev pub Outcome : Type 0
Outcome = Result Reached TextRefusal

-- what the code hands back, and the three arrays that are lent beside its state
abbrev pub reached : PartRead → List ℕ → List ℕ → List ℕ → Reached
reached o p x y = record { at = o.at; st = steering o.st p x y }

abbrev pub outcome : Result PartRead TextRefusal → List ℕ → List ℕ → List ℕ → Outcome
outcome (Ok o) p x y = Ok (reached o p x y)
outcome (Err e) p x y = Err e

-- a refusal, at its offset
abbrev pub refused_at : Refusal → ℕ → Outcome
refused_at r p = Err (record { refusal = r; at = p })

-- a reading x goes on as it went
abbrev pub GoesOn : List ℕ → Verdict Memory → Outcome → List ℤ → List ℤ → Type 0
GoesOn s x (Ok o) a b = Reaches s x o.at (seq plain) nothing o.st a b
GoesOn s x (Err e) a b = x ≡ bad (code_of e.refusal) e.at

-- from p in the mode m with the joint k, the state t and the tables a, b, the reading goes on as it went
abbrev pub Goes : List ℕ → ℕ → Mode → Pending → Steering → List ℤ → List ℤ → Outcome → List ℤ → List ℤ → Type 0
Goes s p m k t a b o a' b' = (i : ℕ) (f : Fields) → GoesOn s (rest s p m (memory t a b k i f)) o a' b'

-- after a part that was read from p in t: it lies after p and within the text, and the state is bounded and as deep
pub record PastFine (s : List ℕ) (p : ℕ) (t : Steering) (q : ℕ) (u : Steering) : Type 0 where
  pub later : p < q
  pub within : q ≤ length s
  pub bounded : Bounded u
  pub deep : u.depth ≡ t.depth

abbrev pub Past : List ℕ → ℕ → Steering → Outcome → Type 0
Past s p t (Ok o) = PastFine s p t o.at o.st
Past s p t (Err e) = Unit {0}

-- the sequence ends at a `)` or at the end of the text
abbrev pub Stops : List ℕ → Outcome → Type 0
Stops s (Ok o) = (get_or s o.at 0 ≡ 41 → ⊥) → o.at ≡ length s
Stops s (Err e) = Unit {0}

pub record Sequenced (s : List ℕ) (p : ℕ) (j : Joint) (t : Steering) (a b a' b' : List ℤ) (o : Outcome) : Type 0 where
  pub goes : Goes s p atomNext (pending_of j) t a b o a' b'
  pub past : Past s p t o
  pub stops : Stops s o

pub record Branched (s : List ℕ) (p : ℕ) (t : Steering) (a b a' b' : List ℤ) (o : Outcome) : Type 0 where
  pub goes : Goes s p (seq plain) nothing t a b o a' b'
  pub past : Past s p t o

-- where the sequence of a branch was read, the branch is open
abbrev pub Closable : Steering → Type 0
Closable t = (0 < t.depth) × Bounded t

-- a branch after its sequence: it closes at a `)`, and is refused elsewhere
abbrev pub branch_ended : List ℕ → Reached → Outcome
branch_ended s o = pick (eqb (get_or s o.at 0) 41) (Ok (record { at = o.at + 1; st = closed o.st })) (refused_at Grammar o.at)
