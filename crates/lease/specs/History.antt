-- The whole history of a follower, the newest event first, and what it has to show for a yes
use Rattle.std.specs.Prelude.{ℕ, ◌+◌, ◌-◌, ◌≤◌, ◌≡◌, Bool, true, false, ◌||◌, not, List, [], ◌∷◌, eqb, ltb}
use Rattle.lease.specs.declared.Lease.{Lease}
use Rattle.lease.specs.Lease.{begun, halted, heard_of, stored_of}

-- a head was heard, asked for at a time; the withdrawal of a number was stored; a fault, as of a disk
pub data Event : Type 0 where
  heard : (asked head : ℕ) → Event
  stored : (number : ℕ) → Event
  failed : Event

abbrev pub step_of : Event → Lease → Lease
step_of (heard t h) s = heard_of s t h
step_of (stored n) s = stored_of s n
step_of failed s = halted s

-- the lease after a history that began with everything up to a number
unfoldable pub after : ℕ → List Event → Lease
after start [] = begun start
after start (e ∷ past) = step_of e (after start past)

-- the last number stored
unfoldable pub last_stored : ℕ → List Event → ℕ
last_stored start [] = start
last_stored start (stored n ∷ past) = n
last_stored start (heard t h ∷ past) = last_stored start past
last_stored start (failed ∷ past) = last_stored start past

-- the last head heard, and when it was asked for
pub data Hearing : Type 0 where
  never : Hearing
  at : (asked head : ℕ) → Hearing

unfoldable pub last_heard : List Event → Hearing
last_heard [] = never
last_heard (heard t h ∷ past) = at t h
last_heard (stored n ∷ past) = last_heard past
last_heard (failed ∷ past) = last_heard past

abbrev pub head_of : Hearing → ℕ
head_of never = 0
head_of (at t h) = h

-- a fault, a gap in the numbers, or a head that went back, anywhere in the history
unfoldable pub broken : ℕ → List Event → Bool
broken start [] = false
broken start (heard t h ∷ past) = broken start past || (ltb h (head_of (last_heard past)) || ltb h (last_stored start past))
broken start (stored n ∷ past) = broken start past || not (eqb n (last_stored start past + 1))
broken start (failed ∷ past) = true

-- whether the withdrawal of a number was stored
unfoldable pub is_stored : ℕ → List Event → Bool
is_stored q [] = false
is_stored q (stored n ∷ past) = eqb q n || is_stored q past
is_stored q (heard t h ∷ past) = is_stored q past
is_stored q (failed ∷ past) = is_stored q past

-- what a yes with its two numbers says of the history
pub record Released (start : ℕ) (events : List Event) (now limit verdict held age : ℕ) : Type 0 where
  pub asked : ℕ
  pub head : ℕ
  pub clear : verdict ≡ 0
  pub unbroken : broken start events ≡ false
  pub newest : last_heard events ≡ at asked head
  pub last : held ≡ last_stored start events
  pub whole : head ≤ held
  pub past : asked ≤ now
  pub since : age ≡ now - asked
  pub young : age ≤ limit
