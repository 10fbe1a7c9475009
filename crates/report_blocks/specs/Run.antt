-- Run of the program: the calls that it makes on the blocks of its input, by their contracts, and the bytes that it writes
use Rattle.std.specs.Prelude.{ℕ, ◌≤◌, List, [], ◌∷◌, ◌++◌, length, take}
use Rattle.buffer.specs.Buffer.{buffer_at, Wrote}
use Rattle.report_lines.specs.Format.{header}
use Rattle.report_blocks.specs.declared.Progress.{Progress}
use Rattle.report_blocks.specs.declared.Report.{Report}
use Rattle.report_blocks.specs.Blocks.{remaining, Begins, Advances}

-- the blocks one after the other
unfoldable pub whole : List (List ℕ) → List ℕ
whole [] = []
whole (b ∷ bs) = b ++ whole bs

-- calls on a block until it is taken to its end; each lays bytes into some buffer, which are written
pub data Turns : Progress → List ℕ → ℕ → List ℕ → Progress → Type 0 where
  over : {g : Progress} {s : List ℕ} {from : ℕ} → length s ≤ from → Turns g s from [] g
  turn : {g h : Progress} {s out w : List ℕ} {from : ℕ} {r : Report} → Advances g s from r out → Turns r.progress s r.at w h → Turns g s from (take r.used out ++ w) h

-- the blocks in their order
pub data Blocks : Progress → List (List ℕ) → List ℕ → Progress → Type 0 where
  none : {g : Progress} → Blocks g [] [] g
  block : {g h k : Progress} {s w v : List ℕ} {bs : List (List ℕ)} → Turns g s 0 w h → Blocks h bs v k → Blocks g (s ∷ bs) (w ++ v) k

-- a whole run: the header, the blocks, and what is left at the end
pub data Run : List (List ℕ) → List ℕ → Type 0 where
  ran : {g h : Progress} {bs : List (List ℕ)} {w out after : List ℕ} {r : ℕ} → Begins g → Blocks g bs w h → length (remaining h []) ≤ length out → Wrote (remaining h []) (buffer_at out 0) (buffer_at after r) → Run bs (header ++ (w ++ take r after))
