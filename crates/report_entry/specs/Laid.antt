-- auxiliary: an entry laid into a buffer, for the contracts of `report_entry`, and the room that it takes
use Rattle.std.specs.Prelude.{ℕ, ◌+◌, ◌≡◌, List}
use Rattle.table.specs.Limits.{max_bonds}
use Rattle.ids.specs.Limits.{max_text}
use Rattle.buffer.specs.Buffer.{BufferAt, buffer_at, Wrote}
use Rattle.report_entry.specs.Entry.{Entry, line_for, is_accepted, line_of, accepted_of}
use Rattle.report_entry.specs.declared.Reported.{Reported}

-- room that is enough for a line
abbrev pub line_room : ℕ
line_room = 91 + (max_bonds + max_text)

-- the line of an entry is laid, and whether it is an accepted one is told
pub record Says (k : ℕ) (o : Entry) (r : Reported) (p : BufferAt) (out : List ℕ) : Type 0 where
  pub text : Wrote (line_for k o) p (buffer_at out r.at)
  pub flag : r.accepted ≡ is_accepted o

-- the same of a line of the input
pub record Reports (k : ℕ) (s : List ℕ) (r : Reported) (p : BufferAt) (out : List ℕ) : Type 0 where
  pub text : Wrote (line_of k s) p (buffer_at out r.at)
  pub flag : r.accepted ≡ accepted_of s
