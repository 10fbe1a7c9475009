-- 02, P9: the calls of the second engine on tables, refusals in the order of 01
use Rattle.std.specs.Prelude.{ℕ, ◌-◌, List, ◌++◌, Bool, ◌&&◌, length, replicate, ℤ, leb}
use Rattle.loops.specs.Loop.{pick}
use Rattle.table.specs.Limits.{max_bonds}
use Rattle.table.specs.Sound.{sound}
use Rattle.matching.specs.Enumeration.{Reply, row_call}
use Rattle.matching.specs.declared.Call.{Call}
use Rattle.matching.specs.declared.Call.TheVariants.{First, Next}
use Rattle.table_graph.specs.Graph.{delocalized_flags, graph_of, matching_of}
use Rattle.matching_forced.specs.Forced.{forced_list}
use Rattle.kekule_answers.specs.Answers.{found_of, found_code}
use Rattle.kekule.specs.Kekule.{CallReply, call_reply, roomy, call_on}

-- P9: "the list of pairs forced before any choice (bond numbers in turn)"; empty where there is no matching
abbrev pub forced_of : List ℤ → List ℤ → ℕ → ℕ → List ℕ
forced_of atoms bonds n m = forced_list (graph_of bonds m) (delocalized_flags atoms bonds n m)

-- what the call for the first hands back: 01's number for its answer, the row, and the list with its number as they are then
pub record ForcedCallReply : Type 0 where
  pub code : ℕ
  pub row : List ℕ
  pub count : ℕ
  pub pairs : List ℕ

abbrev pub forced_call_reply : ℕ → List ℕ → ℕ → List ℕ → ForcedCallReply
forced_call_reply c row k pairs = record { code = c; row = row; count = k; pairs = pairs }

-- a reply, with the list F in a buffer of len cells: the rest of it is zeroed
abbrev pub with_list : Reply → List ℕ → ℕ → ForcedCallReply
with_list g F len = forced_call_reply (found_code (found_of g.answer)) g.row (length F) (F ++ replicate (len - length F) 0)

-- 1 is given exactly when this fails; the list is "lent as long as a row"
abbrev pub roomy_list : List ℤ → List ℤ → ℕ → ℕ → Bool
roomy_list atoms bonds len listed = roomy atoms bonds len && leb max_bonds listed

-- asked for the first: 1 changes nothing, and the number handed back is 0; 13 zeroes the row, the list and its number, and so does 11
unfoldable pub first_forced_on : List ℤ → List ℤ → ℕ → ℕ → List ℕ → List ℕ → ForcedCallReply
first_forced_on atoms bonds n m row pairs =
    pick (roomy_list atoms bonds (length row) (length pairs))
    (pick (sound atoms bonds n m)
    (with_list (row_call (matching_of atoms bonds n m) m First row) (forced_of atoms bonds n m) (length pairs))
    (forced_call_reply 13 (replicate (length row) 0) 0 (replicate (length pairs) 0)))
    (forced_call_reply 1 row 0 pairs)

-- the two calls of the second engine, by their answers and rows, whatever list is lent; the next has none, and is `call_on Next`
unfoldable pub forced_on : List ℕ → Call → List ℤ → List ℤ → ℕ → ℕ → List ℕ → CallReply
forced_on pairs First atoms bonds n m row = let o = first_forced_on atoms bonds n m row pairs in call_reply o.code o.row
forced_on pairs Next atoms bonds n m row = call_on Next atoms bonds n m row
