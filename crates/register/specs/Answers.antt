-- P2: what each call answers, in the paper's numbers, and the register as it is then
use Rattle.std.specs.Prelude.{ℕ, ◌+◌, ◌≤◌, ◌<◌, ◌≡◌, true, List, [], length, set, ltb, Result, Ok, Err, Option, None, Some}
use Rattle.loops.specs.Loop.{pick}
use Rattle.register.specs.declared.RegisterError.{RegisterError}
use Rattle.register.specs.declared.RegisterError.TheVariants.{Short, Invalid, Full}
use Rattle.register.specs.declared.Found.{Found}
use Rattle.register.specs.Layout.{size, max_entries, max_body, count, start_of, length_of, tag_of, body_of, valid, used}
use Rattle.register.specs.Adding.{fits, steps, step_of, added_after}

-- the number of each refusal
abbrev pub error_code : RegisterError → ℕ
error_code Short = 1  -- "a register lent too short gives 1, before 17"
error_code Invalid = 17  -- "a layout that breaks these rules is refused as 17"
error_code Full = 18  -- "adding is refused as 18", after 17

-- the number of each answer
abbrev pub code_of : Result (Unit {0}) RegisterError → ℕ
code_of (Ok _) = 0
code_of (Err e) = error_code e

-- 1, then 17, then what a valid register of full length gives
unfoldable pub refusing : {A : Type 0} → List ℕ → A → A → A → A
refusing r short bad a = pick (ltb (length r) size) short (pick (valid r) a bad)

-- a register in order: full length, and a layout that keeps the rules
abbrev pub ready_of : List ℕ → Result (Unit {0}) RegisterError
ready_of r = refusing r (Err Short) (Err Invalid) (Ok tt)

-- and what it then is
pub record Ready (r : List ℕ) : Type 0 where
  pub full : size ≤ length r
  pub sound : valid r ≡ true
  pub few : count r ≤ max_entries

-- the same, with room for a body of m bytes
abbrev pub room_of : List ℕ → ℕ → Result (Unit {0}) RegisterError
room_of r m = refusing r (Err Short) (Err Invalid) (pick (fits r m) (Ok tt) (Err Full))

pub record Room (r : List ℕ) (m : ℕ) : Type 0 where
  pub ready : Ready r
  pub fitting : fits r m ≡ true
  pub few : count r < max_entries
  pub short : m ≤ max_body
  pub within : used r + m ≤ size

-- an answer's number, and the register as it is then
pub record RegisterResult : Type 0 where
  pub code : ℕ
  pub register : List ℕ

abbrev pub told : ℕ → List ℕ → RegisterResult
told c r = record { code = c; register = r }

abbrev pub out : Result (Unit {0}) RegisterError → List ℕ → RegisterResult
out a r = told (code_of a) r

-- emptying "stores 1 and 0 in the first two bytes, no more"; byte 1 goes first
abbrev pub emptied : List ℕ → List ℕ
emptied r = set (set r 1 0) 0 1

-- "emptying takes any register of full length, bad layout included"
unfoldable pub emptied_of : List ℕ → RegisterResult
emptied_of r = pick (ltb (length r) size) (out (Err Short) r) (out (Ok tt) (emptied r))

-- adding a body of m bytes that leaves q; "the register is unchanged on refusal"
unfoldable pub adding_of : List ℕ → ℕ → List ℕ → RegisterResult
adding_of r m q = refusing r (out (Err Short) r) (out (Err Invalid) r) (pick (fits r m) (out (Ok tt) q) (out (Err Full) r))

-- step k of adding, and adding, which is every step
unfoldable pub stepped_of : List ℕ → ℕ → List ℕ → ℕ → RegisterResult
stepped_of r t b k = adding_of r (length b) (step_of t b k r)

unfoldable pub added_of : List ℕ → ℕ → List ℕ → RegisterResult
added_of r t b = adding_of r (length b) (added_after r t b (steps (length b)))

-- the numbers of an answer to reading: where an entry is found its tag and where its body stands
pub record FoundOut : Type 0 where
  pub code : ℕ
  pub found : ℕ
  pub tag : ℕ
  pub start : ℕ
  pub size : ℕ

abbrev pub none : ℕ → FoundOut
none c = record { code = c; found = 0; tag = 0; start = 0; size = 0 }

abbrev pub found_at : ℕ → ℕ → ℕ → FoundOut
found_at t s n = record { code = 0; found = 1; tag = t; start = s; size = n }

abbrev pub found_out : Result (Option Found) RegisterError → FoundOut
found_out (Err e) = none (error_code e)
found_out (Ok None) = none 0  -- "a missing entry is an answer"
found_out (Ok (Some e)) = found_at e.tag e.start e.length

-- "reading the entry at a place counted from 0 (its tag, and the body as a part of the register)"
unfoldable pub found_of : List ℕ → ℕ → FoundOut
found_of r p =
    refusing r (found_out (Err Short)) (found_out (Err Invalid))
    (pick (ltb p (count r)) (found_at (tag_of r p) (start_of r p) (length_of r p)) (found_out (Ok None)))

-- the body: empty where there is no entry
unfoldable pub body_at : List ℕ → ℕ → List ℕ
body_at r p = refusing r [] [] (pick (ltb p (count r)) (body_of r p) [])
