-- What reading and writing hand back to C: each answer in plain numbers, with the buffers as they are then
use Rattle.std.specs.Prelude.{ℕ, List, ℤ, Result, Ok, Err}
use Rattle.refusal.specs.Code.{code_of}
use Rattle.refusal.specs.declared.Refusal.{Refusal}
use Rattle.reader.specs.declared.answer.Counts.{Counts}
use Rattle.reader.specs.declared.answer.TextRefusal.{TextRefusal}
use Rattle.reading.specs.Read.{ReadResult}
use Rattle.writing.specs.Write as write
use Rattle.balsa.specs.declared.ReadReply.{ReadReply}
use Rattle.balsa.specs.declared.WriteReply.{WriteReply}

-- an answer of the reader in plain numbers
abbrev pub read_reply_of : Result Counts TextRefusal → ReadReply
read_reply_of (Ok t) = record { code = 0; place = 0; atoms = t.atoms; bonds = t.bonds; overfull = t.overfull }
read_reply_of (Err e) = record { code = code_of e.refusal; place = e.at; atoms = 0; bonds = 0; overfull = 0 }

-- the same with both tables, as the definition of reading tells it
abbrev pub read_out : ReadReply → List ℤ → List ℤ → ReadResult
read_out r atoms bonds = record { code = r.code; offset = r.place; atom_count = r.atoms; bond_count = r.bonds; overfull = r.overfull; atoms = atoms; bonds = bonds }

-- an answer of the writer in plain numbers
abbrev pub write_reply_of : Result ℕ Refusal → WriteReply
write_reply_of (Ok k) = record { code = 0; length = k }
write_reply_of (Err r) = record { code = code_of r; length = 0 }

-- the same with the output and the renumbering, as the definition of writing tells it
abbrev pub write_out : WriteReply → List ℕ → List ℕ → write.WriteResult
write_out r out ren = record { code = r.code; size = r.length; output = out; numbers = ren }
