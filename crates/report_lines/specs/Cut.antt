-- auxiliary: the lines of an input gathered from blocks, and the end of a line in an input, for the contracts of `input`
use Rattle.std.specs.Prelude.{ℕ, ◌+◌, ◌-◌, ◌≤◌, ◌<◌, ◌≡◌, List, [], ◌∷◌, ◌++◌, Bool, true, false, length, take, drop, ltb, eqb}
use Rattle.loops.specs.Loop.{pick}
use Rattle.ids.specs.Limits.{max_text}
use Rattle.report_lines.specs.Lines.{lines_after}
use Rattle.report_lines.specs.declared.input.Line.{Line}
use Rattle.report_lines.specs.declared.input.Filled.{Filled}

-- the most bytes of a line that are gathered: one more than a text may have
abbrev pub max_line : ℕ
max_line = max_text + 1

-- the first bytes of each line
unfoldable pub clipped : List (List ℕ) → List (List ℕ)
clipped [] = []
clipped (l ∷ ls) = take max_line l ∷ clipped ls

-- the lines that ended in a block, and the bytes of the one that did not
pub record Cut : Type 0 where
  pub lines : List (List ℕ)
  pub rest : List ℕ

abbrev pub no_lines : List ℕ → Cut
no_lines p = record { lines = []; rest = p }

abbrev pub line_then : List ℕ → Cut → Cut
line_then p c = record { lines = p ∷ c.lines; rest = c.rest }

-- the line with one byte more, as long as it has room
unfoldable pub push : List ℕ → ℕ → List ℕ
push p b = pick (ltb (length p) max_line) (p ++ (b ∷ [])) p

-- the cut of s after the bytes p of a line
unfoldable pub cut_of : List ℕ → List ℕ → Cut
cut_of p [] = no_lines p
cut_of p (b ∷ s) =
    let ended : Cut = line_then p (cut_of [] s) in
    let longer : Cut = cut_of (push p b) s in
    pick (eqb b 10) ended longer

-- one block's lines, and then those of the next
abbrev pub cut_then : Cut → Cut → Cut
cut_then c d = record { lines = c.lines ++ d.lines; rest = d.rest }

abbrev pub gathered : Line → List ℕ
gathered l = take l.len l.bytes

-- a line's length is within its buffer
pub record Bounded (l : Line) : Type 0 where
  pub short : l.len ≤ max_line
  pub whole : length l.bytes ≡ max_line

-- the cut that remains after a call: the line ended, or the block did
abbrev pub cut_after : Bool → List ℕ → List ℕ → Cut
cut_after true p s = line_then p (cut_of [] s)
cut_after false p s = no_lines p

-- the place that a call reached in a block of n bytes
abbrev pub Reached : Bool → ℕ → ℕ → ℕ → Type 0
Reached true n from at = (from < at) × (at ≤ n)
Reached false n from at = (n ≤ at) × (from ≤ n → at ≤ n)

pub record Fills (l : Line) (s : List ℕ) (from : ℕ) (r : Filled) : Type 0 where
  pub is : cut_of (gathered l) (drop from s) ≡ cut_after r.done (gathered r.line) (drop r.at s)
  pub reached : Reached r.done (length s) from r.at
  pub bounded : Bounded r.line

-- the line from a place on ends before r: at a byte 10, or with the input
pub record Ends (s : List ℕ) (from r : ℕ) : Type 0 where
  pub line : lines_after [] (drop from s) ≡ take (r - from) (drop from s) ∷ lines_after [] (drop (r + 1) s)
  pub forth : from ≤ r
  pub within : r ≤ length s
