-- What the call from a text to the text kekulized hands back to C: its answer in plain numbers, with the output as it is then
use Rattle.std.specs.Prelude.{ℕ, List, Result, Ok, Err}
use Rattle.refusal.specs.Code.{code_of}
use Rattle.reader.specs.declared.answer.TextRefusal.{TextRefusal}
use Rattle.standard.specs.declared.Written.{Written}
use Rattle.standard.specs.Standard.{StandardOut}
use Rattle.balsa.specs.declared.standard_call.StandardReply.{StandardReply}

-- an answer in plain numbers
abbrev pub standard_reply_of : Result Written TextRefusal → StandardReply
standard_reply_of (Ok w) = record { code = 0; place = 0; atoms = w.counts.atoms; bonds = w.counts.bonds; overfull = w.counts.overfull; length = w.length }
standard_reply_of (Err e) = record { code = code_of e.refusal; place = e.at; atoms = 0; bonds = 0; overfull = 0; length = 0 }

-- the same with the output, as the definition tells it
abbrev pub standard_out : StandardReply → List ℕ → StandardOut
standard_out r out = record { code = r.code; place = r.place; atoms = r.atoms; bonds = r.bonds; overfull = r.overfull; size = r.length; output = out }
