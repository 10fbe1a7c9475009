-- P2, "adding is the run of an inner step that changes at most one byte": the body is stored first, then the entry, and byte 1 last
use Rattle.std.specs.Prelude.{ℕ, zero, suc, ◌+◌, ◌-◌, ◌/◌, ◌%◌, Bool, ◌&&◌, List, [], ◌∷◌, length, get_or, set, ltb, leb}
use Rattle.loops.specs.Loop.{pick}
use Rattle.register.specs.Layout.{size, max_entries, max_body, count, entry_at, used, Entry}

-- room for a body of m bytes: "refused as 18 exactly when 64 entries stand, or the body is too long or would pass byte 32,767"
unfoldable pub fits : List ℕ → ℕ → Bool
fits r m = ltb (count r) max_entries && (leb m max_body && leb (used r + m) size)

-- "two bytes apiece, low byte first"
abbrev pub low : ℕ → ℕ
low x = x % 256

abbrev pub high : ℕ → ℕ
high x = x / 256 % 256

-- the bytes of an entry: start, length, tag
unfoldable pub entry_bytes : ℕ → ℕ → ℕ → List ℕ
entry_bytes s m t = low s ∷ high s ∷ low m ∷ high m ∷ low t ∷ high t ∷ []

-- the number of stores for a body of m bytes
abbrev pub steps : ℕ → ℕ
steps m = m + 7

-- n entries stand, and their bodies end at e: where step k stores for a body of m bytes
unfoldable pub place_of : ℕ → ℕ → ℕ → ℕ → ℕ
place_of n e m k = pick (ltb k m) (e + k) (pick (ltb k (m + 6)) (entry_at n + (k - m)) 1)

-- and which byte
unfoldable pub value_of : ℕ → ℕ → ℕ → List ℕ → ℕ → ℕ
value_of n e t body k =
    pick (ltb k (length body)) (get_or body k 0)
    (pick (ltb k (length body + 6)) (get_or (entry_bytes e (length body) t) (k - length body) 0) (n + 1))

-- step k; past the last one nothing is stored
unfoldable pub step_with : ℕ → ℕ → ℕ → List ℕ → ℕ → List ℕ → List ℕ
step_with n e t body k r = pick (ltb k (steps (length body))) (set r (place_of n e (length body) k) (value_of n e t body k)) r

-- k steps, from the first on
unfoldable pub after_with : ℕ → ℕ → ℕ → List ℕ → ℕ → List ℕ → List ℕ
after_with n e t body zero r = r
after_with n e t body (suc k) r = step_with n e t body k (after_with n e t body k r)

-- step k, as a function of the register as it is
abbrev pub step_of : ℕ → List ℕ → ℕ → List ℕ → List ℕ
step_of t body k r = step_with (count r) (used r) t body k r

-- the register after k steps
abbrev pub added_after : List ℕ → ℕ → List ℕ → ℕ → List ℕ
added_after r t body k = after_with (count r) (used r) t body k r

-- the entry that is added
abbrev pub new_entry : ℕ → List ℕ → Entry
new_entry t body = record { tag = t; body = body }
