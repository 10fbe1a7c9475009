-- auxiliary: what looking at bytes promises of the next piece
use Rattle.std.specs.Prelude.{ℕ, ◌≤◌, ◌<◌, ◌≡◌, List, Bool, false, length, get_or, ℤ, eqb}
use Rattle.loops.specs.Loop.{pick}
use Rattle.element.specs.Symbols.{among}
use Rattle.reading_grammar.specs.Grammar.{bond_symbols}
use Rattle.reading_grammar.specs.declared.Last.TheVariants.{Plain as plain}
use Rattle.reading_grammar.specs.declared.Mode.{Mode}
use Rattle.reading_grammar.specs.declared.Mode.TheVariants.{Seq as seq, Bond as bond, AtomNext as atomNext, Inside as inside}
use Rattle.reading_grammar.specs.Fold.{Verdict, bad, keeps, refuses}
use Rattle.reading_state.specs.State.{Steering}
use Rattle.reading_state.specs.declared.Fields.{Fields}
use Rattle.ids.specs.Limits.{bridges}
use Rattle.reading.specs.Memory.{Memory, Pending, nothing, dotted, symbol}
use Rattle.reading.specs.Act.{Acts, bridge_act}
use Rattle.reading_fields.specs.Rest.{rest, memory}
use Rattle.reader.specs.declared.piece.Joint.{Joint}
use Rattle.reader.specs.declared.piece.Start.{Start}
use Rattle.reader.specs.declared.piece.Piece.{Piece}

-- a joint, as the memory holds it
abbrev pub pending_of : Joint → Pending
pending_of Joint.Elided = nothing
pending_of Joint.Dot = dotted
pending_of (Joint.Symbol k) = symbol k

-- the joint of a kind, 0 for none; and where the machine stands after it
abbrev pub joint_of : ℕ → Joint
joint_of k = pick (eqb k 0) Joint.Elided (Joint.Symbol k)

abbrev pub kind_mode : ℕ → Mode
kind_mode k = pick (eqb k 0) (seq plain) bond

abbrev pub kind_pending : ℕ → Pending
kind_pending k = pick (eqb k 0) nothing (symbol k)

-- where the machine stands before a piece: before an atom after a joint where fresh, else before any piece of a sequence
abbrev pub start_mode : Bool → Mode
start_mode fresh = pick fresh atomNext (seq plain)

abbrev pub start_pending : Bool → Joint → Pending
start_pending fresh j = pick fresh (pending_of j) nothing

-- a byte that is no bond symbol, dot or bracket of a branch, and lies within the text
pub record Loose (s : List ℕ) (at : ℕ) : Type 0 where
  pub within : at < length s
  pub no_symbol : among (get_or s at 0) bond_symbols ≡ false
  pub no_dot : eqb (get_or s at 0) 46 ≡ false
  pub no_open : eqb (get_or s at 0) 40 ≡ false
  pub no_close : eqb (get_or s at 0) 41 ≡ false

-- where no symbol came before
abbrev pub Free : List ℕ → ℕ → ℕ → Type 0
Free s at k = k ≡ 0 → Loose s at

-- the reading after a bridge that ends before p
abbrev pub after_bridge : List ℕ → ℕ → Acts → Verdict Memory
after_bridge s p (keeps μ) = rest s p (seq plain) μ
after_bridge s p (refuses c q) = bad c q

-- ---- a reading stands at p in the mode m with the joint k: what it is after the next piece was seen
pub record SeenAtom (s : List ℕ) (p : ℕ) (m : Mode) (k : Pending) (j : Joint) (q : ℕ) : Type 0 where
  pub within : q ≤ length s
  pub later : p ≤ q
  pub is : (t : Steering) (a b : List ℤ) (n : ℕ) (f : Fields) → rest s p m (memory t a b k n f) ≡ rest s q atomNext (memory t a b (pending_of j) n f)

pub record SeenBridge (s : List ℕ) (p : ℕ) (m : Mode) (k : Pending) (r x q e : ℕ) : Type 0 where
  pub number : r < bridges
  pub within : e ≤ length s
  pub later : p ≤ q
  pub long : q < e
  pub is : (t : Steering) (a b : List ℤ) (n : ℕ) (f : Fields) → (i : ℕ) × (rest s p m (memory t a b k n f) ≡ after_bridge s e (bridge_act r q (memory t a b (kind_pending x) i f)))

pub record SeenBranch (s : List ℕ) (p : ℕ) (m : Mode) (k : Pending) (q : ℕ) : Type 0 where
  pub here : q ≡ p
  pub mode : m ≡ seq plain
  pub joint : k ≡ nothing
  pub within : p < length s
  pub byte : get_or s p 0 ≡ 40

pub record SeenEnd (s : List ℕ) (p : ℕ) (m : Mode) (k : Pending) (q : ℕ) : Type 0 where
  pub here : q ≡ p
  pub mode : m ≡ seq plain
  pub joint : k ≡ nothing
  pub within : p ≤ length s
  pub stops : (get_or s p 0 ≡ 41 → ⊥) → p ≡ length s

pub record SeenWrong (s : List ℕ) (p : ℕ) (m : Mode) (k : Pending) (q : ℕ) : Type 0 where
  pub later : p ≤ q
  pub is : (t : Steering) (a b : List ℤ) (n : ℕ) (f : Fields) → rest s p m (memory t a b k n f) ≡ bad 3 q

abbrev pub Seen : List ℕ → ℕ → Mode → Pending → Piece → Type 0
Seen s p m k (Piece.Atom j q) = SeenAtom s p m k j q
Seen s p m k (Piece.Bridge r x q e) = SeenBridge s p m k r x q e
Seen s p m k (Piece.Branch q) = SeenBranch s p m k q
Seen s p m k (Piece.End q) = SeenEnd s p m k q
Seen s p m k (Piece.Wrong q) = SeenWrong s p m k q

-- the joint at the start of a branch was read
pub record Joined (s : List ℕ) (p : ℕ) (r : Start) : Type 0 where
  pub within : r.at ≤ length s
  pub later : p ≤ r.at
  pub is : (t : Steering) (a b : List ℤ) (n : ℕ) (f : Fields) → rest s p inside (memory t a b nothing n f) ≡ rest s r.at atomNext (memory t a b (pending_of r.joint) n f)
