-- auxiliary: bytes laid into a buffer one after the other, for the contracts of `buffer`, of the writer's parts and of the report's
use Rattle.std.specs.Prelude.{ℕ, suc, List, [], ◌∷◌, ◌≡◌, length, set, ltb}
use Rattle.loops.specs.Loop.{pick}

-- the most that a place or a count can be, in 64 bits
abbrev pub most_count : ℕ
most_count = 18446744073709551615

-- places and counts go up by one; the largest stays
abbrev pub following : ℕ → ℕ
following n = pick (ltb n most_count) (suc n) n

-- a number of bytes, as far as it can be counted
abbrev pub capped : ℕ → ℕ
capped n = pick (ltb n most_count) n most_count

-- the buffer, and the place of the next byte
pub record BufferAt : Type 0 where
  pub output : List ℕ
  pub place : ℕ

abbrev pub buffer_at : List ℕ → ℕ → BufferAt
buffer_at out at = record { output = out; place = at }

-- a byte is stored where there is room, and counted where there is none
unfoldable pub put_byte : ℕ → BufferAt → BufferAt
put_byte b p = pick (ltb p.place (length p.output)) (buffer_at (set p.output p.place b) (suc p.place)) (buffer_at p.output (following p.place))

unfoldable pub writes : List ℕ → BufferAt → BufferAt
writes [] p = p
writes (b ∷ l) p = writes l (put_byte b p)

-- the bytes lead from one state of the buffer to the next
pub record Wrote (l : List ℕ) (p q : BufferAt) : Type 0 where
  pub same : q ≡ writes l p
