-- auxiliary: 02, P8, "In text the neighbours are ordered: the preceding atom, the virtual hydrogen, bridges as their digits stand in the text at this atom, then children"; an atom's bonds by rank, where the hydrogen has the rank 1
use Rattle.std.specs.Prelude.{◌≡◌, Bool, ◌||◌, cond, List, ℕ, zero, suc, ◌+◌, ◌≤◌, ◌<◌, eqb, length, get_or}
use Rattle.writing_walk.specs.Token.{Bond}
use Rattle.writing_walk.specs.Walk.{forest_of}
use Rattle.writing_walk.specs.Parents.{ups}
pub use Rattle.writing_walk.specs.Parents.{other_end}
unfoldable pub use Rattle.writing_walk.specs.Parents.{walk_rank}
use Rattle.writing_walk.specs.Keyed.{Keys, key_of}

-- a bond at the atom x, and the time of its ring token at x
abbrev pub touches : ℕ → Bond → Bool
touches x b = eqb b.lo x || eqb b.hi x

abbrev pub key_at : ℕ → Bond → Keys → ℕ
key_at x b k = cond (eqb b.lo x) k.low k.high

-- as the reader knows it: the bond at x whose key there is p and whose higher end is h; big is at least every key
unfoldable pub text_rank : ℕ → ℕ → ℕ → ℕ → ℕ
text_rank big x p h = cond (eqb p 0) (cond (eqb h x) 0 (big + 2 + h)) (suc p)

-- the ranks of a bond at the walk number x, of n atoms with the bonds bs: as they are written
abbrev pub rank_written : ℕ → List Bond → ℕ → Bond → ℕ
rank_written n bs x b = walk_rank n (ups (forest_of n bs) 0 0) x (other_end x b)

-- and as what was written is read, with times told by clock
abbrev pub rank_read : (ℕ → ℕ) → ℕ → ℕ → List Bond → ℕ → Bond → ℕ
rank_read clock big n bs x b = text_rank big x (clock (key_at x b (key_of n bs b))) b.hi

-- times from 1 to z told in another measure: later is larger, and 0 stays
pub record Clock (clock : ℕ → ℕ) (z : ℕ) : Type 0 where
  pub zeroth : clock 0 ≡ 0
  pub rises : (a b : ℕ) → a < b → b ≤ z → clock a < clock b

-- such a measure: the offsets, and one, of the ring tokens in the text
abbrev pub offset_clock : List ℕ → ℕ → ℕ
offset_clock offsets zero = 0
offset_clock offsets (suc d) = suc (get_or offsets d 0)

abbrev pub Ascending : List ℕ → Type 0
Ascending l = (a b : ℕ) → a < b → b < length l → get_or l a 0 < get_or l b 0
