-- 01, The book: what a list of calls on tables and a row gives, from the enumeration of the molecule
use Rattle.std.specs.Prelude.{ℕ, ◌-◌, ◌≡◌, List, [], ◌∷◌, ◌++◌, map, length, get_or, set, replicate, ℤ, leb, Result}
use Rattle.loops.specs.Loop.{pick, run}
use Rattle.table.specs.Valid.{check_code}
use Rattle.table.specs.Sound.{sound}
use Rattle.refusal.specs.declared.Refusal.{Refusal}
use Rattle.matching.specs.Graph.{enumeration}
use Rattle.matching.specs.declared.Call.{Call}
use Rattle.table_graph.specs.Graph.{delocalized_flags, graph_of}
use Rattle.kekule_answers.specs.Answers.{call_of}
use Rattle.kekule.specs.Kekule.{CallReply, call_reply, call_reply_of, roomy, call_on}

-- what the enumeration of the molecule gives to the calls; each call gives 1 where a buffer is too short, 13 on tables that are not valid
unfoldable pub replies_of : List Call → List ℤ → List ℤ → ℕ → ℕ → List ℕ → List CallReply
replies_of cs atoms bonds n m row =
    pick (roomy atoms bonds (length row))
    (pick (sound atoms bonds n m)
    (map call_reply_of (enumeration (delocalized_flags atoms bonds n m) (graph_of bonds m) cs row))
    (map (λ c. call_reply 13 (replicate (length row) 0)) cs))
    (map (λ c. call_reply 1 row) cs)

-- the calls one after the other, each seeing its row alone, as f answers them: every answer, and the row after it
unfoldable pub turns : (Call → List ℕ → CallReply) → List Call → List ℕ → List CallReply
turns f [] row = []
turns f (c ∷ cs) row = let o = f c row in o ∷ turns f cs o.row

-- the codes of the answers, and the row after the last call
abbrev pub codes_of : List CallReply → List ℕ
codes_of = map (λ o. o.code)

unfoldable pub last_row : List ℕ → List CallReply → List ℕ
last_row row [] = row
last_row row (o ∷ os) = last_row o.row os

-- what a list of calls hands back: 01's number for its answer, the row and the codes of the calls as they are then
pub record Replayed : Type 0 where
  pub code : ℕ
  pub row : List ℕ
  pub codes : List ℕ

abbrev pub replay_out : ℕ → List ℕ → List ℕ → Replayed
replay_out c row codes = record { code = c; row = row; codes = codes }

abbrev pub replayed : Result (Unit {0}) Refusal → List ℕ → List ℕ → Replayed
replayed a row codes = replay_out (check_code a) row codes

-- the calls by their bytes, run on the tables; 1 and nothing changes where there is no cell for each code; cells past the codes are zeroed
unfoldable pub replayed_of : List ℕ → List ℤ → List ℤ → ℕ → ℕ → List ℕ → List ℕ → Replayed
replayed_of calls atoms bonds n m row codes =
    let os = replies_of (map call_of calls) atoms bonds n m row in
    pick (leb (length calls) (length codes))
    (replay_out 0 (last_row row os) (codes_of os ++ replicate (length codes - length calls) 0))
    (replay_out 1 row codes)

-- DEMAND 3, for every list of calls, row and tables: each call, seeing its row alone, gives the answer and leaves the row that the enumeration gives;
-- and what a replay t hands back is their codes and the row after the last
pub record Replays (calls : List ℕ) (atoms bonds : List ℤ) (n m : ℕ) (row codes : List ℕ) (t : Replayed) : Type 0 where
  pub each : turns (λ c r. call_on c atoms bonds n m r) (map call_of calls) row ≡ replies_of (map call_of calls) atoms bonds n m row
  pub handed : t ≡ replayed_of calls atoms bonds n m row codes

-- auxiliary, for the contract of the loop: what it computes

pub record CallsState : Type 0 where
  pub row : List ℕ
  pub codes : List ℕ

abbrev pub calls_state : List ℕ → List ℕ → CallsState
calls_state row codes = record { row = row; codes = codes }

-- the call i: f answers it, its code is stored, and its row is handed on
abbrev pub call_step : (Call → List ℕ → CallReply) → List ℕ → ℕ → CallsState → CallsState
call_step f calls i s =
    let o = f (call_of (get_or calls i 0)) s.row in
    calls_state o.row (set s.codes i o.code)

unfoldable pub ran_of : List ℕ → List ℤ → List ℤ → ℕ → ℕ → List ℕ → List ℕ → CallsState
ran_of calls atoms bonds n m row codes = run (call_step (λ c r. call_on c atoms bonds n m r) calls) 0 (length calls) (calls_state row codes)
