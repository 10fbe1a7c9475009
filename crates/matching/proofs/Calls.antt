-- The replies to calls: first and then next hands out the whole list; which call can answer that there is no matching. Assumes nothing.
use mathlib.Core.Path.{◌≡◌, refl, ap}
use mathlib.Core.Bool.{Bool, true, false, ◌&&◌}
use mathlib.Core.List.{List, [], ◌∷◌, ◌++◌, map}
use Prim.Native.Nat.{ℕ, zero, suc, ◌<◌}
use native.Mathlib.Omega.{arith}
use lib.ListN.{length, take, get_or, replicate}
use Rattle.loops.specs.Loop.{pick}
use Rattle.matching.specs.Enumeration.{Row, matchings, Reply, zeroed, given, enum_first, enum_next, enum_turn, enum_replies, is_row, before, or_zeroed, row_call, row_replies}
use Rattle.matching.specs.declared.MatchingAnswer.TheVariants.{Absent, Refused, Ended}
use Rattle.matching.specs.declared.Call.{Call}
use Rattle.matching.specs.declared.Call.TheVariants.{First, Next}

-- next, over and over, from the row e on
nexts : (n : ℕ) (z all : List Row) (e : Row) (es : List Row) → enum_replies n z all (replicate (suc (length es)) Next) (e ∷ es) ≡ map (given n) es ++ (zeroed n Ended ∷ [])
unfolding enum_replies enum_turn enum_next
nexts n z all e [] = refl
nexts n z all e (f ∷ es) = ap (λ (l : List Reply). given n f ∷ l) (nexts n z all f es)

-- first, and then next until the end
pub whole-list : (n : ℕ) (z : List Row) (e : Row) (es at : List Row) → enum_replies n z (e ∷ es) (First ∷ replicate (suc (length es)) Next) at ≡ map (given n) (e ∷ es) ++ (zeroed n Ended ∷ [])
unfolding enum_replies enum_turn enum_first
whole-list n z e es at = ap (λ (l : List Reply). given n e ∷ l) (nexts n z (e ∷ es) e es)

-- what stands at a place of the replies is the reply to the call there, for some row
module _ (p : Row → Bool) (m : ℕ) (P : Call → Reply → Type 0) (each : (c : Call) (row : Row) → P c (row_call p m c row)) where
  pub reply-at : (cs : List Call) (row : Row) (i : ℕ) (c : Call) (g : Reply) → i < length cs → P (get_or cs i c) (get_or (row_replies p m cs row) i g)
  unfolding row_replies
  reply-at [] row i c g l = absurd (omega arith)
  reply-at (d ∷ cs) row zero c g l = each d row
  reply-at (d ∷ cs) row (suc i) c g l = reply-at cs (row_call p m d row).row i c g (omega arith)

pub next-present : (p : Row → Bool) (m : ℕ) (row : Row) → (row_call p m Next row).answer ≡ Absent → ⊥
unfolding row_call
next-present p m row = go (is_row m (take m row) && p (take m row)) (matchings (λ s. p s && before (take m row) s) m)
  where
    go : (b : Bool) (es : List Row) → (pick b (or_zeroed (length row) Ended es) (zeroed (length row) Refused)).answer ≡ Absent → ⊥
    go true [] h = let z : ◌≡◌ {A = ℕ} 0 1 = cc in omega arith
    go true (e ∷ es) h = let z : ◌≡◌ {A = ℕ} 0 1 = cc in omega arith
    go false es h = let z : ◌≡◌ {A = ℕ} 0 1 = cc in omega arith

pub first-none : (p : Row → Bool) (m : ℕ) (row : Row) → (row_call p m First row).answer ≡ Absent → matchings p m ≡ []
unfolding row_call
first-none p m row = go (matchings p m)
  where
    go : (es : List Row) → (or_zeroed (length row) Absent es).answer ≡ Absent → es ≡ []
    go [] h = refl
    go (e ∷ es) h = absurd (let z : ◌≡◌ {A = ℕ} 0 1 = cc in omega arith)

pub none_first : (p : Row → Bool) (m : ℕ) (row : Row) → matchings p m ≡ [] → (row_call p m First row).answer ≡ Absent
unfolding row_call
none_first p m row h = rw h
