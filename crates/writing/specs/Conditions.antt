-- 01, "When a call says no", the rows that writing tells (1, 13, 14, 15, 16): when each holds, and what is handed back
use Rattle.std.specs.Prelude.{◌≡◌, true, false, List, [], ◌∷◌, ◌++◌, ℕ, suc, ◌-◌, ◌<◌, ◌≤◌, length, ℤ}
use Rattle.table.specs.Sound.{sound}
use Rattle.ids.specs.Limits.{max_depth, bridges, max_text}
use Rattle.writing_walk.specs.Token.{Tok, apart, along, ring, branch, back}
use Rattle.writing_walk.specs.Walk.{unused}
use Rattle.writing_walk.specs.Same.{count, pending}
use Rattle.writing.specs.Write.{bond_list, tokens, text_of, renumbering, WriteResult, write_refused, write_short, write_accepted, lent}

-- the numbers of bridges are 1 to 99
abbrev pub most_bridges : ℕ
most_bridges = bridges - 1

-- how many bridges are open where the walk comes to its x-th atom: unused bonds that begin before it and do not end before it
abbrev pub open_at : List ℤ → ℕ → ℕ → ℕ → ℕ
open_at bonds n m x = count (pending x) (unused n (bond_list bonds m))

-- how many branches are open after the tokens, d before them
abbrev pub depth_after : List Tok → ℕ → ℕ
depth_after [] d = d
depth_after (apart w ∷ ts) d = depth_after ts d
depth_after (along k w ∷ ts) d = depth_after ts d
depth_after (ring k r ∷ ts) d = depth_after ts d
depth_after (branch ∷ ts) d = depth_after ts (suc d)
depth_after (back ∷ ts) d = depth_after ts (d - 1)

-- 14: "the walk needs over 99 bridges open at once": at a point of the walk
pub record ManyBridges (bonds : List ℤ) (n m : ℕ) : Type 0 where
  pub atom : ℕ
  pub over : most_bridges < open_at bonds n m atom

-- a branch opens inside 64 others, d of them being open before the tokens
pub record Deep (ts : List Tok) (d : ℕ) : Type 0 where
  pub before : List Tok
  pub after : List Tok
  pub cut : ts ≡ before ++ (branch ∷ after)
  pub deep : max_depth ≤ depth_after before d

-- 15: "the written branches nest over 64 deep"
abbrev pub DeepBranch : List ℤ → ℕ → ℕ → Type 0
DeepBranch bonds n m = Deep (tokens bonds n m) 0

-- 16: "the written text would be over 16,384 bytes" (P7)
abbrev pub LongText : List ℤ → List ℤ → ℕ → ℕ → Type 0
LongText atoms bonds n m = max_text < length (text_of atoms bonds n m)

-- neither 14, 15 nor 16
pub record WithinLimits (atoms bonds : List ℤ) (n m : ℕ) : Type 0 where
  pub bridges : ¬ ManyBridges bonds n m
  pub branches : ¬ DeepBranch bonds n m
  pub bytes : ¬ LongText atoms bonds n m

-- "Other calls check 1, 13, .. then 14, 15, 16 over the whole walk": what is handed back, and when
pub data Writes (atoms bonds : List ℤ) (n m : ℕ) (out ren : List ℕ) : WriteResult → Type 0 where
  too_short : lent atoms bonds out ren ≡ false → Writes atoms bonds n m out ren (write_short out ren)
  not_valid : lent atoms bonds out ren ≡ true → sound atoms bonds n m ≡ false → Writes atoms bonds n m out ren (write_refused 13 out ren)
  many_bridges : lent atoms bonds out ren ≡ true → sound atoms bonds n m ≡ true → ManyBridges bonds n m → Writes atoms bonds n m out ren (write_refused 14 out ren)
  deep_branch : lent atoms bonds out ren ≡ true → sound atoms bonds n m ≡ true → ¬ ManyBridges bonds n m → DeepBranch bonds n m → Writes atoms bonds n m out ren (write_refused 15 out ren)
  long_text : lent atoms bonds out ren ≡ true → sound atoms bonds n m ≡ true → ¬ ManyBridges bonds n m → ¬ DeepBranch bonds n m → LongText atoms bonds n m → Writes atoms bonds n m out ren (write_refused 16 out ren)
  writes : lent atoms bonds out ren ≡ true → sound atoms bonds n m ≡ true → WithinLimits atoms bonds n m → Writes atoms bonds n m out ren (write_accepted (text_of atoms bonds n m) (renumbering bonds n m) out ren)
