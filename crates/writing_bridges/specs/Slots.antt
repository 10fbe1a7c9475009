-- auxiliary: the bridges that are open, in an array: a slot holds 0, or the number of a bridge bond plus 1 (01, Writing)
use Rattle.std.specs.Prelude.{ℕ, suc, ◌+◌, ◌-◌, ◌<◌, ◌≤◌, ◌≡◌, Bool, true, ◌&&◌, List, [], ◌∷◌, ◌++◌, eqb, ltb, length, get_or, drop, Option, Some, None}
use Rattle.loops.specs.Loop.{pick, up_to}
use Rattle.ids.specs.Limits.{bridges}
use Rattle.writing_walk.specs.Token.{Bond, eq_bond}
use Rattle.writing_walk.specs.Emit.{Slot, free, held, find, release, lowest, insert, close_all, open_all}
use Rattle.writing_walk.specs.Walk.{keep, sweep}
use Rattle.writing_walk.specs.Same.{count, open_of, Within}
use Rattle.buffer.specs.Buffer.{BufferAt, Wrote}
use Rattle.writing.specs.Spell.{kind_bytes, bridge_bytes}

-- how many slots there are: one for each bridge number, 1 to 99
abbrev pub slot_count : ℕ
slot_count = bridges - 1

-- the first place of a number in an array; its length where it is not there
unfoldable pub index_of : ℕ → List ℕ → ℕ
index_of x [] = 0
index_of x (y ∷ l) = pick (eqb y x) 0 (suc (index_of x l))

-- a search for x in an array has passed the places before i
pub record Looked (x : ℕ) (l : List ℕ) (i : ℕ) : Type 0 where
  pub within : i ≤ length l
  pub same : index_of x l ≡ i + index_of x (drop i l)

-- the first place of x in an array was found, or x is not there
abbrev pub Found : ℕ → List ℕ → Option ℕ → Type 0
Found x l (Some i) = (i ≡ index_of x l) × (i < length l)
Found x l None = length l ≡ index_of x l

-- of k numbers that have the end x, the one with the least key from a bound on; k where there is none. j: how many were looked at
pub record Near (ends keys : List ℕ) (x from k j r : ℕ) : Type 0 where
  pub within : r ≤ k
  pub here : r < k → (get_or ends r 0 ≡ x) × (from ≤ get_or keys r 0)
  pub least : (i : ℕ) → i < j → get_or ends i 0 ≡ x → from ≤ get_or keys i 0 → (r < k) × (get_or keys r 0 ≤ get_or keys i 0)

-- k bonds between n atoms, by number: their ends stand in two arrays, and no two have the same ends
pub record Bridged (f : ℕ → Bond) (n k : ℕ) (los his : List ℕ) : Type 0 where
  pub lo : (i : ℕ) → i < k → (f i).lo ≡ get_or los i 0
  pub hi : (i : ℕ) → i < k → (f i).hi ≡ get_or his i 0
  pub ordered : (i : ℕ) → i < k → (f i).lo < (f i).hi
  pub inside : (i : ℕ) → i < k → (f i).hi < n
  pub apart : (i j : ℕ) → i < k → j < k → (f i).lo ≡ (f j).lo → (f i).hi ≡ (f j).hi → i ≡ j

-- the array holds the slots, whose bonds are among the k bonds f
pub data Slots (f : ℕ → Bond) (k : ℕ) : List ℕ → List Slot → Type 0 where
  end : Slots f k [] []
  rest : {a : List ℕ} → Slots f k a [] → Slots f k (0 ∷ a) []
  gap : {a : List ℕ} {t : List Slot} → Slots f k a t → Slots f k (0 ∷ a) (free ∷ t)
  full : {a : List ℕ} {t : List Slot} (i : ℕ) → i < k → Slots f k a t → Slots f k (suc i ∷ a) (held (f i) ∷ t)

-- the bonds that close at x, and that open at x, from the other end y on
abbrev pub closes_from : (ℕ → Bond) → ℕ → ℕ → ℕ → ℕ → List Bond
closes_from f n k x y = sweep (λ b. b.lo) (keep (λ b. eqb b.hi x) (up_to f 0 k)) y (n - y)

abbrev pub opens_from : (ℕ → Bond) → ℕ → ℕ → ℕ → ℕ → List Bond
opens_from f n k x y = sweep (λ b. b.hi) (keep (λ b. eqb b.lo x) (up_to f 0 k)) y (n - y)

-- the bytes of closings and of openings
unfoldable pub close_bytes : List Bond → List Slot → List ℕ
close_bytes [] t = []
close_bytes (b ∷ l) t = bridge_bytes (find b t) ++ close_bytes l (release b t)

unfoldable pub open_bytes : List Bond → List Slot → List ℕ
open_bytes [] t = []
open_bytes (b ∷ l) t = (kind_bytes b.kind ++ bridge_bytes (lowest t)) ++ open_bytes l (insert b t)

-- there is a free slot for each, of m
unfoldable pub fits : ℕ → List Bond → List Slot → Bool
fits m [] t = true
fits m (b ∷ l) t = ltb (lowest t) m && fits m l (insert b t)

-- the bond i was closed
pub record Released (i : ℕ) (a c : List ℕ) (p q : BufferAt) : Type 0 where
  pub told : (f : ℕ → Bond) (n k : ℕ) (los his : List ℕ) (t : List Slot) → Bridged f n k los his → i < k → Slots f k a t → 0 < count (eq_bond (f i)) (open_of t)
      → Wrote (bridge_bytes (find (f i) t)) p q × Slots f k c (release (f i) t)

-- the bond i was opened with a symbol, unless the slots did not suffice
pub record Inserted (i kind : ℕ) (a c : List ℕ) (few : Bool) (p q : BufferAt) : Type 0 where
  pub told : (f : ℕ → Bond) (k : ℕ) (t : List Slot) → i < k → Slots f k a t
      → (few ≡ ltb (lowest t) (length a)) × (few ≡ true → Wrote (kind_bytes kind ++ bridge_bytes (lowest t)) p q × Slots f k c (insert (f i) t))

-- the closings at x from y on were written
pub record Closed (los his : List ℕ) (k x y : ℕ) (a c : List ℕ) (p q : BufferAt) : Type 0 where
  pub told : (f : ℕ → Bond) (n : ℕ) (t : List Slot) → Bridged f n k los his → Slots f k a t → Within (closes_from f n k x y) (open_of t)
      → Wrote (close_bytes (closes_from f n k x y) t) p q × Slots f k c (close_all (closes_from f n k x y) t)

-- the openings at x from y on were written, unless the slots did not suffice
pub record Opened (los his kinds : List ℕ) (k x y : ℕ) (a c : List ℕ) (few : Bool) (p q : BufferAt) : Type 0 where
  pub told : (f : ℕ → Bond) (n : ℕ) (t : List Slot) → Bridged f n k los his → ((i : ℕ) → i < k → (f i).kind ≡ get_or kinds i 0) → Slots f k a t
      → (few ≡ fits (length a) (opens_from f n k x y) t)
      × (few ≡ true → Wrote (open_bytes (opens_from f n k x y) t) p q × Slots f k c (open_all (opens_from f n k x y) t))

-- the closings at x and then the openings there were written, unless the slots did not suffice
pub record Ended (los his kinds : List ℕ) (k x : ℕ) (a c : List ℕ) (few : Bool) (p q : BufferAt) : Type 0 where
  pub told : (f : ℕ → Bond) (n : ℕ) (t : List Slot) → Bridged f n k los his → ((i : ℕ) → i < k → (f i).kind ≡ get_or kinds i 0) → Slots f k a t → Within (closes_from f n k x 0) (open_of t)
      → (few ≡ fits (length a) (opens_from f n k x 0) (close_all (closes_from f n k x 0) t))
      × (few ≡ true → Wrote (close_bytes (closes_from f n k x 0) t ++ open_bytes (opens_from f n k x 0) (close_all (closes_from f n k x 0) t)) p q
      × Slots f k c (open_all (opens_from f n k x 0) (close_all (closes_from f n k x 0) t)))
