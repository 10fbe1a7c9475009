-- auxiliary: the report of an input that comes in blocks, for the contracts of the calls that the program makes
use Rattle.std.specs.Prelude.{ℕ, ◌≤◌, ◌<◌, ◌≡◌, List, ◌++◌, length, take, drop}
use Rattle.report_lines.specs.Lines.{lines_after}
use Rattle.report_lines.specs.Cut.{gathered, Bounded}
use Rattle.report_lines.specs.Format.{header}
use Rattle.report_entry.specs.Laid.{line_room}
use Rattle.report_blocks.specs.declared.Progress.{Progress}
use Rattle.report_blocks.specs.declared.Report.{Report}
use Rattle.report_blocks.specs.Report.{report_from, report_of}

-- what a report has still to say where the bytes `input` are still to come
abbrev pub remaining : Progress → List ℕ → List ℕ
remaining g input = report_from g.tally (lines_after (gathered g.line) input)

-- before the first byte all that follows the header remains
pub record Begins (g : Progress) : Type 0 where
  pub text : (input : List ℕ) → report_of input ≡ header ++ remaining g input
  pub bounded : Bounded g.line

-- a block's call: whatever follows the block, what remained is what was laid and then what remains
pub record Advances (g : Progress) (s : List ℕ) (from : ℕ) (r : Report) (out : List ℕ) : Type 0 where
  pub text : (more : List ℕ) → remaining g (drop from s ++ more) ≡ take r.used out ++ remaining r.progress (drop r.at s ++ more)
  pub forth : line_room ≤ length out → from < length s → from < r.at
  pub within : r.used ≤ length out
  pub bounded : Bounded r.progress.line
