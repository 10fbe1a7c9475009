-- A list of calls: made one after the other they give what the enumeration of the molecule gives. Assumes nothing.
use Prim.Native.Nat.{ℕ, suc, ◌+◌, ◌-◌, ◌≤◌, ◌<◌}
use native.Mathlib.Omega.{arith}
use native.Mathlib.Nat.{add-zero}
use mathlib.Core.Path.{◌≡◌, refl, sym, ap, ap₂, ◌∙◌}
use mathlib.Core.Bool.{Bool, true, false, ◌&&◌}
use mathlib.Core.List.{List, [], ◌∷◌, ◌++◌, map, append_assoc}
use lib.ListN.{length, take, drop, get_or, set, replicate, length-set, length-append, length-map, length-replicate, take-append-drop}
use lib.Seq.{take_at, take-suc-set, drop-set-lt}
use borrow.Author.Tests.{le-leb, lt-leb}
use lib.IntN.{ℤ}
use Rattle.loops.specs.Loop.{pick, run}
use Rattle.loops.proofs.Loops.{and_left, length-up_to, Ran, ran-start, ran-step}
use Rattle.table.specs.Sound.{sound}
use Rattle.table.proofs.Sound.{sound-valid}
use Rattle.matching.specs.Enumeration.{Row, matchings, is_row, or_zeroed, zeroed, row_call, row_replies}
use Rattle.matching.specs.Graph.{enumeration}
use Rattle.matching.specs.declared.MatchingAnswer.{MatchingAnswer}
use Rattle.matching.specs.declared.MatchingAnswer.TheVariants.{Refused as answerRefused, Absent, Ended}
use Rattle.matching.specs.declared.Call.{Call}
use Rattle.matching.specs.declared.Call.TheVariants.{First, Next}
use Rattle.matching.proofs.Enumeration.{first-matching, row-length, after}
use Rattle.matching.proofs.Graph.{enumeration-agrees}
use Rattle.table_graph.specs.Graph.{delocalized_flags, bond_of, graph_of, matching_of}
use Rattle.kekule_answers.specs.Answers.{call_of}
use Rattle.kekule.specs.Kekule.{CallReply, call_reply, call_reply_of, roomy, call_on}
use Rattle.kekule.specs.Calls.{replies_of, turns, codes_of, last_row, CallsState, calls_state, call_step, ran_of, replay_out, replayed_of, Replays}
use Rattle.kekule.proofs.Kekule.{row_room}

length-turns : (f : Call → List ℕ → CallReply) (cs : List Call) (row : List ℕ) → length (turns f cs row) ≡ length cs
unfolding turns
length-turns f [] row = refl
length-turns f (c ∷ cs) row = ap suc (length-turns f cs (f c row).row)

-- the loop over the calls from k on, where cs are the calls left
module _ (f : Call → List ℕ → CallReply) (calls : List ℕ) where
  from : (cs : List ℕ) (k : ℕ) (row codes : List ℕ) → ((j : ℕ) → j < length cs → get_or calls (k + j) 0 ≡ get_or cs j 0) → k + length cs ≤ length codes
      → run (call_step f calls) k (length cs) (calls_state row codes) ≡ calls_state (last_row row (turns f (map call_of cs) row)) (take k codes ++ (codes_of (turns f (map call_of cs) row) ++ drop (k + length cs) codes))
  unfolding run turns last_row
  from [] k row codes e h = rw (add-zero k) (ap (calls_state row) (sym (take-append-drop k codes)))
  from (c ∷ cs) k row codes e h =
      let q : get_or calls k 0 ≡ c = rw (add-zero k) at (e 0 (omega arith)) in
      let o = f (call_of c) row in
      let v = o.code in
      let h2 : suc k + length cs ≤ length (set codes k v) = simp length-set (omega arith) in
      let i : k < length codes = omega arith in
      let j : k < suc k + length cs = omega arith in
      let d : suc k + length cs ≡ k + suc (length cs) = omega arith in
      let s : call_step f calls k (calls_state row codes) ≡ calls_state o.row (set codes k v) = rw q in
      ap (run (call_step f calls) (suc k) (length cs)) s
      ∙ (from cs (suc k) o.row (set codes k v) (λ j l. let w : suc k + j ≡ k + suc j = omega arith in rw w (e (suc j) (omega arith))) h2
      ∙ rw (take-suc-set codes k v i, drop-set-lt (suc k + length cs) codes k v j, append_assoc, d))

  pub ran-turns : (row codes : List ℕ) → length calls ≤ length codes
      → run (call_step f calls) 0 (length calls) (calls_state row codes) ≡ calls_state (last_row row (turns f (map call_of calls) row)) (codes_of (turns f (map call_of calls) row) ++ drop (length calls) codes)
  ran-turns row codes h =
      let z : 0 + length calls ≡ length calls = omega arith in
      rw z at (from calls 0 row codes (λ j l. let w : 0 + j ≡ j = omega arith in rw w) (omega arith))

-- a reply's row is as long as the row handed in
first-length : (p : Row → Bool) (m n : ℕ) (a : MatchingAnswer) (es : List Row) → m ≤ n → matchings p m ≡ es → length (or_zeroed n a es).row ≡ n
first-length p m n a [] h e = length-replicate n 0
first-length p m n a (r ∷ es) h e =
    let l : length r ≡ m = row-length m r (and_left (is_row m r) (p r) (first-matching p m r es e).0) in
    length-append r (replicate (n - length r) 0) ∙ rw length-replicate (omega arith)

reply-length : (p : Row → Bool) (m : ℕ) (c : Call) (row : Row) → m ≤ length row → length (row_call p m c row).row ≡ length row
unfolding row_call
reply-length p m First row h = first-length p m (length row) Absent (matchings p m) h refl
reply-length p m Next row h = go (length row) (is_row m (take m row) && p (take m row)) h
  where
    go : (n : ℕ) (b : Bool) → m ≤ n → length (pick b (or_zeroed n Ended (matchings (after p (take m row)) m)) (zeroed n answerRefused)).row ≡ n
    go n true l = first-length (after p (take m row)) m n Ended (matchings (after p (take m row)) m) l refl
    go n false l = length-replicate n 0

module _ (atoms bonds : List ℤ) (n m : ℕ) where
  abbrev on : Call → List ℕ → CallReply
  on c row = call_on c atoms bonds n m row

  -- too short: every call gives 1, and nothing changes
  short-turns : (cs : List Call) (row : List ℕ) → roomy atoms bonds (length row) ≡ false → turns on cs row ≡ map (λ c. call_reply 1 row) cs
  unfolding turns call_on
  short-turns [] row e = refl
  short-turns (c ∷ cs) row e = rw e (ap (λ (os : List CallReply). call_reply 1 row ∷ os) (short-turns cs row e))

  -- not valid: every call gives 13 and a zeroed row
  invalid-turns : (cs : List Call) (len : ℕ) (row : List ℕ) → length row ≡ len → roomy atoms bonds len ≡ true → sound atoms bonds n m ≡ false → turns on cs row ≡ map (λ c. call_reply 13 (replicate len 0)) cs
  unfolding turns call_on
  invalid-turns [] len row l e f = refl
  invalid-turns (c ∷ cs) len row l e f = rw (l, e, f) (ap (λ (os : List CallReply). call_reply 13 (replicate len 0) ∷ os) (invalid-turns cs len (replicate len 0) (length-replicate len 0) e f))

  -- valid: the answers of the row machine
  valid-turns : (cs : List Call) (len : ℕ) (row : List ℕ) → length row ≡ len → m ≤ len → roomy atoms bonds len ≡ true → sound atoms bonds n m ≡ true → turns on cs row ≡ map call_reply_of (row_replies (matching_of atoms bonds n m) m cs row)
  unfolding turns call_on row_replies
  valid-turns [] len row l r e f = refl
  valid-turns (c ∷ cs) len row l r e f =
      let p = matching_of atoms bonds n m in
      let g = row_call p m c row in
      let w : m ≤ length row = omega arith in
      rw (l, e, f) (ap (λ (os : List CallReply). call_reply_of g ∷ os) (valid-turns cs len g.row (reply-length p m c row w ∙ l) r e f))

-- THE STATEMENT on tables: for every molecule, row and list of calls, the calls give what the enumeration of the molecule gives
pub calls-enumerated : (cs : List Call) (atoms bonds : List ℤ) (n m : ℕ) (row : List ℕ) → turns (λ c r. call_on c atoms bonds n m r) cs row ≡ replies_of cs atoms bonds n m row
unfolding replies_of
calls-enumerated cs atoms bonds n m row = go (roomy atoms bonds (length row)) (sound atoms bonds n m) refl refl
  where
    flags : List ℕ
    flags = delocalized_flags atoms bonds n m

    go : (x y : Bool) → roomy atoms bonds (length row) ≡ x → sound atoms bonds n m ≡ y
        → turns (λ c r. call_on c atoms bonds n m r) cs row ≡ pick x (pick y (map call_reply_of (enumeration flags (graph_of bonds m) cs row)) (map (λ c. call_reply 13 (replicate (length row) 0)) cs)) (map (λ c. call_reply 1 row) cs)
    go false y e q = short-turns atoms bonds n m cs row e
    go true false e q = invalid-turns atoms bonds n m cs (length row) row refl e q
    go true true e q =
        let r : m ≤ length row = row_room atoms bonds n m (length row) e (sound-valid atoms bonds n m q) in
        let l : length (graph_of bonds m) ≡ m = length-up_to (bond_of bonds) 0 m in
        valid-turns atoms bonds n m cs (length row) row refl r e q
        ∙ ap (map call_reply_of) (ap (λ (k : ℕ). row_replies (matching_of atoms bonds n m) k cs row) (sym l) ∙ enumeration-agrees flags (graph_of bonds m) cs row (omega arith))

-- a turn of the loop over the calls
pub record Calling (f : Call → List ℕ → CallReply) (calls row₀ codes₀ : List ℕ) (i : ℕ) (row codes : List ℕ) : Type 0 where
  pub ran : Ran (call_step f calls) (calls_state row₀ codes₀) (length calls) i (calls_state row codes)
  pub row_same : length row ≡ length row₀
  pub codes_same : length codes ≡ length codes₀

pub calling-start : {f : Call → List ℕ → CallReply} {calls row codes : List ℕ} → Calling f calls row codes 0 row codes
calling-start = record { ran = ran-start; row_same = refl; codes_same = refl }

pub calling-step : {f : Call → List ℕ → CallReply} {calls row₀ codes₀ : List ℕ} {i : ℕ} {row codes row' : List ℕ} {c : Call} {a k : ℕ} → Calling f calls row₀ codes₀ i row codes → i < length calls
    → c ≡ call_of (get_or calls i 0) → call_reply a row' ≡ f c row → length row' ≡ length row → k ≡ a → Calling f calls row₀ codes₀ (i + 1) row' (set codes i k)
calling-step {f} {calls} {i = i} {row} {codes} {row'} {c} {k = k} w h e g l q =
    let s : calls_state row' (set codes i k) ≡ call_step f calls i (calls_state row codes) =
    ap (λ (x : ℕ). calls_state row' (set codes i x)) q ∙ ap (λ (o : CallReply). calls_state o.row (set codes i o.code)) (g ∙ ap (λ (d : Call). f d row) e) in
    record { ran = ran-step w.ran (calls_state row' (set codes i k)) h s; row_same = l ∙ w.row_same; codes_same = length-set codes i k ∙ w.codes_same }

-- the two return paths of a list of calls
module _ (calls : List ℕ) (atoms bonds : List ℤ) (n m : ℕ) (row codes : List ℕ) where
  pub replay-short : length codes < length calls → Replays calls atoms bonds n m row codes (replay_out 1 row codes)
  unfolding replayed_of
  replay-short h = record { each = calls-enumerated (map call_of calls) atoms bonds n m row; handed = simp (lt-leb (length calls) (length codes) h) }

  pub replay-done : {row' codes₁ codes₂ : List ℕ} → length calls ≤ length codes → calls_state row' codes₁ ≡ ran_of calls atoms bonds n m row codes → length codes₁ ≡ length codes
      → codes₂ ≡ take (length calls) codes₁ ++ replicate (length codes₁ - length calls) 0 → Replays calls atoms bonds n m row codes (replay_out 0 row' codes₂)
  unfolding replayed_of ran_of
  replay-done {row'} {codes₁} {codes₂} h e l z =
      let os = turns (λ c r. call_on c atoms bonds n m r) (map call_of calls) row in
      let t = e ∙ ran-turns (λ c r. call_on c atoms bonds n m r) calls row codes h in
      let c1 : codes₁ ≡ codes_of os ++ drop (length calls) codes = ap (λ (s : CallsState). s.codes) t in
      let k : length (codes_of os) ≡ length calls = length-map os _ ∙ length-turns (λ c r. call_on c atoms bonds n m r) (map call_of calls) row ∙ length-map calls call_of in
      let c2 : codes₂ ≡ codes_of os ++ replicate (length codes - length calls) 0 = z ∙ rw l (ap (λ (x : List ℕ). x ++ replicate (length codes - length calls) 0) (ap (take (length calls)) c1 ∙ take_at (codes_of os) (drop (length calls) codes) (length calls) k)) in
      let q = calls-enumerated (map call_of calls) atoms bonds n m row in
      record { each = q; handed = simp (le-leb (length calls) (length codes) h, ← q) (ap₂ (replay_out 0) (ap (λ (s : CallsState). s.row) t) c2) }

  -- 01: "If a table or the row is too short, every call gives 1 and nothing changes"
  pub short-codes : roomy atoms bonds (length row) ≡ false → length calls ≤ length codes
      → replayed_of calls atoms bonds n m row codes ≡ replay_out 0 row (replicate (length calls) 1 ++ replicate (length codes - length calls) 0)
  unfolding replayed_of replies_of last_row
  short-codes e h = simp (e, le-leb (length calls) (length codes) h) (ap₂ (replay_out 0) (same calls) (ap (λ (l : List ℕ). l ++ replicate (length codes - length calls) 0) (ones calls)))
    where
      same : (cs : List ℕ) → last_row row (map (λ c. call_reply 1 row) (map call_of cs)) ≡ row
      same [] = refl
      same (c ∷ cs) = same cs

      ones : (cs : List ℕ) → codes_of (map (λ c. call_reply 1 row) (map call_of cs)) ≡ replicate (length cs) 1
      ones [] = refl
      ones (c ∷ cs) = ap (λ (l : List ℕ). 1 ∷ l) (ones cs)
