-- auxiliary: what the program knows of a turn and of a step, for the contracts of `report_turn` and `read_block`
use Rattle.std.specs.Prelude.{ℕ, ◌<◌, List, length}
use Rattle.report_lines.specs.Cut.{Bounded}
use Rattle.report.specs.declared.Turn.{Turn}
use Rattle.report.specs.declared.Step.{Step}
use Rattle.report.specs.declared.Step.TheVariants.{More, End}

-- something of the block is taken, and the line so far fits
pub record Turned (s : List ℕ) (from : ℕ) (r : Turn) : Type 0 where
  pub forth : from < length s → from < r.at
  pub bounded : Bounded r.progress.line

-- the line so far fits, at the end too
abbrev pub Stepped : Step → Type 0
Stepped (More g) = Bounded g.line
Stepped (End g) = Bounded g.line
