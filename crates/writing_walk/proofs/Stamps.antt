-- The stamps and keys of a reading of tokens: what a reading of bytes that keeps offsets needs of them. Assumes nothing.
use mathlib.Core.Path.{◌≡◌, refl}
use mathlib.Core.Bool.{Bool, true, false, cond}
use mathlib.Core.List.{List, [], ◌∷◌, ◌++◌}
use Prim.Native.Nat.{ℕ, zero, suc, ◌≤◌}
use native.Mathlib.Omega.{arith}
use lib.Dec.{ltb}
use lib.ListN.{get_or}
use Rattle.writing_walk.specs.Token.{Bond, Tok, apart, along, ring, branch, back}
use Rattle.writing_walk.specs.Reading.{Closure, vacant, at, closure_at, St, st, step_token}
use Rattle.writing_walk.specs.Keyed.{Keys, keys, child_keys, keys_between, set_stamp, Keyed, keyed, time_of, stamps_of, keys_of, stamp_for, bridge_keys, step_keyed, start_keyed}
use Rattle.writing_walk.proofs.Count.{All, none, more, all_map, all_append}

-- a stamp that was set, and the others
pub stamp-same : (l : List ℕ) (m y : ℕ) → get_or (set_stamp l m y) m 0 ≡ y
stamp-same [] zero y = refl
stamp-same [] (suc m) y = stamp-same [] m y
stamp-same (x ∷ l) zero y = refl
stamp-same (x ∷ l) (suc m) y = stamp-same l m y

pub stamp-other : (l : List ℕ) (m j y : ℕ) → (j ≡ m → ⊥) → get_or (set_stamp l m y) j 0 ≡ get_or l j 0
stamp-other [] zero zero y h = absurd (h refl)
stamp-other [] zero (suc j) y h = refl
stamp-other [] (suc m) zero y h = refl
stamp-other [] (suc m) (suc j) y h = stamp-other [] m j y (λ e. h (omega arith))
stamp-other (x ∷ l) zero zero y h = absurd (h refl)
stamp-other (x ∷ l) zero (suc j) y h = refl
stamp-other (x ∷ l) (suc m) zero y h = refl
stamp-other (x ∷ l) (suc m) (suc j) y h = stamp-other l m j y (λ e. h (omega arith))

-- no stamp and no key is later than the time
abbrev pub Past : ℕ → Keys → Type 0
Past z k = (k.low ≤ z) × (k.high ≤ z)

pub record InTime (x : Keyed) : Type 0 where
  pub stamps : All (λ t. t ≤ time_of x) (stamps_of x)
  pub keys : All (Past (time_of x)) (keys_of x)

stamps-set : (z : ℕ) (l : List ℕ) (m y : ℕ) → All (λ t. t ≤ z) l → y ≤ z → All (λ t. t ≤ z) (set_stamp l m y)
stamps-set z [] zero y none h = more h none
stamps-set z [] (suc m) y none h = more {b = 0} (omega arith) (stamps-set z [] m y none h)
stamps-set z (x ∷ l) zero y (more g a) h = more h a
stamps-set z (x ∷ l) (suc m) y (more g a) h = more g (stamps-set z l m y a h)

pub stamp-past : (z : ℕ) (l : List ℕ) (m : ℕ) → All (λ t. t ≤ z) l → get_or l m 0 ≤ z
stamp-past z [] m none = omega arith
stamp-past z (x ∷ l) zero (more h a) = h
stamp-past z (x ∷ l) (suc m) (more h a) = stamp-past z l m a

later : (z z' : ℕ) → z ≤ z' → (ks : List Keys) → All (Past z) ks → All (Past z') ks
later z z' h ks a = all_map (Past z) (Past z') (λ k g. (omega arith, omega arith)) ks a

between-past : (z u h p q : ℕ) → p ≤ z → q ≤ z → Past z (keys_between u h p q)
between-past z u h p q a b = go (ltb u h)
  where
    go : (x : Bool) → Past z (cond x (keys p q) (keys q p))
    go true = (a, b)
    go false = (b, a)

ring-step : (k m : ℕ) (xs : List ℕ) (bs : List Bond) (h n : ℕ) (hs : List Closure) (stk : List ℕ) (z : ℕ) (ts : List ℕ) (ks : List Keys) → InTime (keyed (st xs bs h n hs stk) z ts ks) → InTime (step_keyed (ring k m) (keyed (st xs bs h n hs stk) z ts ks))
ring-step k m xs bs h n hs stk z ts ks i = record {
  stamps = stamps-set (suc z) ts m (stamp_for (closure_at hs m) z) wider (small (closure_at hs m));
  keys = all_append (Past (suc z)) ks (bridge_keys (closure_at hs m) h (get_or ts m 0) (suc z)) (later z (suc z) (omega arith) ks i.keys) (made (closure_at hs m));
}
  where
    wider : All (λ t. t ≤ suc z) ts
    wider = all_map (λ t. t ≤ z) (λ t. t ≤ suc z) (λ t g. omega arith) ts i.stamps

    small : (x : Closure) → stamp_for x z ≤ suc z
    small vacant = omega arith
    small (at u j) = omega arith

    made : (x : Closure) → All (Past (suc z)) (bridge_keys x h (get_or ts m 0) (suc z))
    made vacant = none
    made (at u j) = more (between-past (suc z) u h (get_or ts m 0) (suc z) (stamp-past (suc z) ts m wider) (omega arith)) none

same-time : (s s' : St) (z : ℕ) (ts : List ℕ) (ks ls : List Keys) → All (Past z) ls → InTime (keyed s z ts ks) → InTime (keyed s' z ts (ks ++ ls))
same-time s s' z ts ks ls a i = record { stamps = i.stamps; keys = all_append (Past z) ks ls i.keys a }

-- THE STATEMENTS: no token makes one later, and at the start there is none
pub step-in-time : (t : Tok) (x : Keyed) → InTime x → InTime (step_keyed t x)
step-in-time (apart w) (keyed s z ts ks) i = same-time s (step_token (apart w) s) z ts ks [] none i
step-in-time (along k w) (keyed s z ts ks) i = same-time s (step_token (along k w) s) z ts ks (child_keys ∷ []) (more {b = child_keys} (omega arith, omega arith) none) i
step-in-time (ring k m) (keyed (st xs bs h n hs stk) z ts ks) i = ring-step k m xs bs h n hs stk z ts ks i
step-in-time branch (keyed s z ts ks) i = same-time s (step_token branch s) z ts ks [] none i
step-in-time back (keyed s z ts ks) i = same-time s (step_token back s) z ts ks [] none i

pub start-in-time : InTime start_keyed
start-in-time = record { stamps = none; keys = none }
