-- Report (01, the program): the header, a line for each line of the input, and the totals
use Rattle.std.specs.Prelude.{ℕ, List, [], ◌∷◌, ◌++◌, Bool, true, false}
use Rattle.buffer.specs.Buffer.{following}
use Rattle.report_lines.specs.Lines.{lines_after}
use Rattle.report_lines.specs.Format.{header, totals_line}
use Rattle.report_entry.specs.Entry.{line_of, accepted_of}
use Rattle.report_blocks.specs.declared.Tally.{Tally}

-- lines are numbered from 1
abbrev pub start : Tally
start = record { number = 1; accepted = 0; refused = 0 }

-- the counts after a line that was accepted, or refused
abbrev pub counted : Bool → Tally → Tally
counted true t = record { number = following t.number; accepted = following t.accepted; refused = t.refused }
counted false t = record { number = following t.number; accepted = t.accepted; refused = following t.refused }

-- the lines one after the other, each with its number, and then the totals
unfoldable pub report_from : Tally → List (List ℕ) → List ℕ
report_from t [] = totals_line t.accepted t.refused
report_from t (l ∷ ls) = line_of t.number l ++ report_from (counted (accepted_of l) t) ls

-- "A program reads lines from standard input and reports"
unfoldable pub report_of : List ℕ → List ℕ
report_of input = header ++ report_from start (lines_after [] input)
