-- 01, When a call says no: the code and the values of each answer of writing
use Rattle.std.specs.Prelude.{◌≡◌, Bool, true, false, ◌&&◌, Result, Ok, Err, List, ℕ, suc, ◌<◌, ◌≤◌, length, get_or, ℤ}
use Rattle.loops.specs.Loop.{pick, up_to}
use Rattle.refusal.specs.Code.{code_of}
use Rattle.refusal.specs.declared.Refusal.{Refusal}
use Rattle.table.specs.Valid.{Valid}
use Rattle.table_graph.specs.Graph.{bond_sum}
use Rattle.writing_walk.specs.Emit.{pre}
use Rattle.writing_walk.specs.Walk.{forest_of, place}
use Rattle.buffer.specs.Buffer.{BufferAt, buffer_at, Wrote}
use Rattle.writing.specs.Write.{WriteResult, bond_list, tokens, text_of, few_bridges, shallow}
use Rattle.writing_visit.specs.Visit.{Room, Walked}
use Rattle.writing_visit.specs.Wires.{Wired}
use Rattle.writing_marks.specs.Marks.{Turned}

-- an answer with the output and the renumbering as they are then
abbrev pub told : Result ℕ Refusal → List ℕ → List ℕ → WriteResult
told (Ok n) out ren = record { code = 0; size = n; output = out; numbers = ren }
told (Err r) out ren = record { code = code_of r; size = 0; output = out; numbers = ren }

-- the walk of a molecule was written: whether the bridge numbers sufficed, whether the branches nest within the limit, and if the numbers did the text
pub record Said (atoms bonds : List ℤ) (n m : ℕ) (few flat : Bool) (p q : BufferAt) : Type 0 where
  pub numbers : few ≡ few_bridges (tokens bonds n m)
  pub depth : flat ≡ shallow (tokens bonds n m)
  pub text : few ≡ true → Wrote (text_of atoms bonds n m) p q

-- it was not: the bridge numbers do not suffice, or else the branches nest too deep
pub record Unsaid (bonds : List ℤ) (n m : ℕ) (r : Refusal) : Type 0 where
  pub refused : few_bridges (tokens bonds n m) && shallow (tokens bonds n m) ≡ false
  pub code : code_of r ≡ pick (few_bridges (tokens bonds n m)) 15 14

-- the length of the text that was written; or the refusal
abbrev pub Drawn : List ℤ → List ℤ → ℕ → ℕ → Result ℕ Refusal → BufferAt → List ℕ → Type 0
Drawn atoms bonds n m (Ok at) p out = Said atoms bonds n m true true p (buffer_at out at)
Drawn atoms bonds n m (Err r) p out = Unsaid bonds n m r

-- arrays hold the walk of a molecule, its bonds, its bond sums and its marks as they are written
pub record Held (atoms bonds : List ℤ) (n m : ℕ) (order number up kind ea eb ks sums written : List ℕ) : Type 0 where
  pub valid : Valid atoms bonds n m
  pub room : Room n order number up kind
  pub walked : Walked (bond_list bonds m) n order number up kind
  pub wired : Wired bonds m 0 ea eb ks
  pub firsts : m ≤ length ea
  pub seconds : m ≤ length eb
  pub kinds : m ≤ length ks
  pub summed : sums ≡ up_to (bond_sum bonds m) 0 (length sums)
  pub sums_long : n ≤ length sums
  pub turned : Turned atoms bonds n m written

-- an array holds each atom's walk number plus 1
pub record Counted (bonds : List ℤ) (n m : ℕ) (number : List ℕ) : Type 0 where
  pub long : n ≤ length number
  pub place_at : (a : ℕ) → a < n → get_or number a 0 ≡ suc (place (pre (forest_of n (bond_list bonds m))) a)
