-- What the exported calls on a register hand back
use Rattle.register.specs.Answers.{FoundOut}
use Rattle.register_walk.specs.Walk.{WalkOut}
use Rattle.balsa.specs.declared.register_calls.EntryReply.{EntryReply}
use Rattle.balsa.specs.declared.register_calls.WalkReply.{WalkReply}

-- the numbers of an answer to reading, as the struct of the header
abbrev pub entry_reply : FoundOut → EntryReply
entry_reply f = record { code = f.code; found = f.found; tag = f.tag; start = f.start; length = f.size }

-- the numbers of a step of a walk
abbrev pub walk_reply : WalkOut → WalkReply
walk_reply w = record { code = w.code; tag = w.tag; start = w.start; length = w.size; next = w.next }
