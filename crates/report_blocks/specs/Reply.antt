-- Report as a call: an input in memory and an output that is lent. "Refusal 1 changes nothing", "an acceptance zeroes the unused rest" (01)
use Rattle.std.specs.Prelude.{ℕ, List, length, leb, Result, Ok, Err}
use Rattle.loops.specs.Loop.{pick}
use Rattle.refusal.specs.Code.{code_of}
use Rattle.writing.specs.Write.{filled}
use Rattle.refusal.specs.declared.Refusal.{Refusal}
use Rattle.report_blocks.specs.Report.{report_of}

-- what the call hands back: 0 with the number of bytes, or 1 with 0 bytes; the output as it is then
pub record ReportReply : Type 0 where
  pub code : ℕ
  pub size : ℕ
  pub output : List ℕ

-- the number and the values of each answer
abbrev pub printed : Result ℕ Refusal → List ℕ → ReportReply
printed (Ok n) out = record { code = 0; size = n; output = out }
printed (Err r) out = record { code = code_of r; size = 0; output = out }

-- the report where it fits the output
unfoldable pub reply_of : List ℕ → List ℕ → ReportReply
reply_of input out =
    let fits : ReportReply = record { code = 0; size = length (report_of input); output = filled (report_of input) (length out) } in
    let short : ReportReply = record { code = 1; size = 0; output = out } in
    pick (leb (length (report_of input)) (length out)) fits short
