-- Report as an exported call: what it hands back, with the output as it is then
use Rattle.std.specs.Prelude.{ℕ, List}
use Rattle.report_blocks.specs.Reply as reply
use Rattle.balsa.specs.declared.reporting.ReportReply.{ReportReply}

abbrev pub report_out : ReportReply → List ℕ → reply.ReportReply
report_out r out = record { code = r.code; size = r.length; output = out }
