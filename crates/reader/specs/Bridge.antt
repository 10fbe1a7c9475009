-- auxiliary: what a bridge promises
use Rattle.std.specs.Prelude.{Result, Ok, Err, ℕ, ◌≤◌, ◌<◌, ◌≡◌, Bool, false, ◌||◌, List, get_or, set, ℤ, eqb}
use Rattle.loops.specs.Loop.{pick}
use Rattle.refusal.specs.Code.{code_of}
use Rattle.reading_grammar.specs.Fold.{keeps, refuses}
use Rattle.table.specs.Limits.{max_bonds}
use Rattle.table.specs.Cells.{end2}
use Rattle.reading_state.specs.State.{Steering, keys_then, joined}
use Rattle.reading_state.specs.declared.Fields.{Fields}
use Rattle.kinds.specs.Kind.{meet}
use Rattle.reading.specs.Memory.{Memory, nothing, between, close_refusal}
use Rattle.reading.specs.Act.{or_refuse, bridge_act}
use Rattle.reading_fields.specs.Rest.{memory}
use Rattle.table.specs.declared.Bond.{Bond}
use Rattle.reader.specs.declared.answer.TextRefusal.{TextRefusal}
use Rattle.reader.specs.Piece.{kind_pending}

-- where `near` is false, none of the first n bonds has one of the atoms a and b as its second end
pub record Away (bonds : List ℤ) (a b n : ℕ) (near : Bool) : Type 0 where
  pub all : near ≡ false → (k : ℕ) → k < n → (eqb (end2 bonds k) a || eqb (end2 bonds k) b) ≡ false

-- a bridge that closes is refused as 01 refuses it, at the offset i, or has its bond, and there is room
abbrev pub Closes : List ℤ → ℕ → ℕ → ℕ → ℕ → ℕ → ℕ → Result Bond TextRefusal → Type 0
Closes bonds m u h j k i (Ok x) = (close_refusal bonds m u h j k ≡ 0) × (m < max_bonds) × (x ≡ between u h (meet j k))
Closes bonds m u h j k i (Err e) = (e.at ≡ i) × ((p : ℕ) (μ : Memory) → or_refuse (close_refusal bonds m u h j k) p μ ≡ refuses (code_of e.refusal) p)

-- the bridge joins as the action says, whatever the atom table and the half-read fields are; o', y': the offsets and the keys then
pub record BridgeJoins (t : Steering) (r k p : ℕ) (b b' : List ℤ) (o' y' : List ℕ) : Type 0 where
  pub is : (a : List ℤ) (i : ℕ) (f : Fields) → bridge_act r p (memory t a b (kind_pending k) i f) ≡ keeps (memory (joined t r k p) a b' nothing i f)
  pub offsets : o' ≡ set t.offset r (pick (eqb (get_or t.opener r 0) 0) p 0)
  pub keys : y' ≡ keys_then t r p
  pub bonds : t.bonds ≤ max_bonds → (joined t r k p).bonds ≤ max_bonds

abbrev pub Bridges : Steering → ℕ → ℕ → ℕ → List ℤ → List ℤ → List ℕ → List ℕ → Result (Unit {0}) TextRefusal → Type 0
Bridges t r k p b b' o' y' (Ok u) = BridgeJoins t r k p b b' o' y'
Bridges t r k p b b' o' y' (Err e) = (a : List ℤ) (i : ℕ) (f : Fields) → bridge_act r p (memory t a b (kind_pending k) i f) ≡ refuses (code_of e.refusal) e.at
