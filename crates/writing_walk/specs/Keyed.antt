-- auxiliary: reading tokens with a count of the ring tokens, which tells when the two ring tokens of each bond stood; for the order of an atom's bridges in the text (02, P8: "bridges as their digits stand in the text at this atom")
use Rattle.std.specs.Prelude.{cond, List, [], ◌∷◌, ◌++◌, ℕ, zero, suc, ◌+◌, ltb, length, get_or}
use Rattle.writing_walk.specs.Token.{Bond, eq_bond, Tok, apart, along, ring, branch, back}
use Rattle.writing_walk.specs.Reading.{Closure, vacant, at, closure_at, St, st, step_token, start_tokens}
use Rattle.writing_walk.specs.Emit.{trees}
use Rattle.writing_walk.specs.Walk.{forest_of, closing_bonds, opening_bonds, unused}
use Rattle.writing_walk.specs.Check.{some}

-- when a bond's ring tokens stood, at its lower and at its higher end (the first has the time 1); 0 and 0: a bond made with a child atom
pub record Keys : Type 0 where
  pub low : ℕ
  pub high : ℕ

abbrev pub keys : ℕ → ℕ → Keys
keys p q = record { low = p; high = q }

abbrev pub child_keys : Keys
child_keys = keys 0 0

-- a bridge opened at the atom u at the time p and closed at h at the time q
abbrev pub keys_between : ℕ → ℕ → ℕ → ℕ → Keys
keys_between u h p q = cond (ltb u h) (keys p q) (keys q p)

-- the stamp of a bridge's place: the time at which it was opened; 0 where it is not open
abbrev pub set_stamp : List ℕ → ℕ → ℕ → List ℕ
set_stamp [] zero y = y ∷ []
set_stamp [] (suc m) y = 0 ∷ set_stamp [] m y
set_stamp (x ∷ l) zero y = y ∷ l
set_stamp (x ∷ l) (suc m) y = x ∷ set_stamp l m y

-- a reading with the ring tokens read so far, the stamps, and the keys of the bonds in turn
pub data Keyed : Type 0 where
  keyed : St → ℕ → List ℕ → List Keys → Keyed

abbrev pub state_of : Keyed → St
state_of (keyed s z ts ks) = s

abbrev pub time_of : Keyed → ℕ
time_of (keyed s z ts ks) = z

abbrev pub stamps_of : Keyed → List ℕ
stamps_of (keyed s z ts ks) = ts

abbrev pub keys_of : Keyed → List Keys
keys_of (keyed s z ts ks) = ks

abbrev pub time_after : Tok → ℕ → ℕ
time_after (apart w) z = z
time_after (along k w) z = z
time_after (ring k m) z = suc z
time_after branch z = z
time_after back z = z

abbrev pub stamp_for : Closure → ℕ → ℕ
stamp_for vacant z = suc z
stamp_for (at u k) z = 0

abbrev pub stamps_after : Tok → St → ℕ → List ℕ → List ℕ
stamps_after (apart w) s z ts = ts
stamps_after (along k w) s z ts = ts
stamps_after (ring k m) (st xs bs h n hs stk) z ts = set_stamp ts m (stamp_for (closure_at hs m) z)
stamps_after branch s z ts = ts
stamps_after back s z ts = ts

abbrev pub bridge_keys : Closure → ℕ → ℕ → ℕ → List Keys
bridge_keys vacant h p q = []
bridge_keys (at u k) h p q = keys_between u h p q ∷ []

-- the keys of the bond that a token completes
abbrev pub keys_made : Tok → St → ℕ → List ℕ → List Keys
keys_made (apart w) s z ts = []
keys_made (along k w) s z ts = child_keys ∷ []
keys_made (ring k m) (st xs bs h n hs stk) z ts = bridge_keys (closure_at hs m) h (get_or ts m 0) (suc z)
keys_made branch s z ts = []
keys_made back s z ts = []

abbrev pub step_keyed : Tok → Keyed → Keyed
step_keyed t (keyed s z ts ks) = keyed (step_token t s) (time_after t z) (stamps_after t s z ts) (ks ++ keys_made t s z ts)

abbrev pub run_keyed : List Tok → Keyed → Keyed
run_keyed [] x = x
run_keyed (t ∷ ts) x = run_keyed ts (step_keyed t x)

abbrev pub start_keyed : Keyed
start_keyed = keyed start_tokens 0 [] []

-- the keys that a written text gives: c n and o n are the bonds that close and that open at the atom n
abbrev pub index_of : Bond → List Bond → ℕ
index_of b [] = 0
index_of b (x ∷ l) = cond (eq_bond b x) 0 (suc (index_of b l))

module _ (c o : ℕ → List Bond) where
  -- how many ring tokens stand before those of the atom x
  abbrev pub rings_before : ℕ → ℕ
  rings_before zero = 0
  rings_before (suc x) = rings_before x + (length (c x) + length (o x))

  abbrev pub opening_time : Bond → ℕ
  opening_time b = suc (rings_before b.lo + length (c b.lo) + index_of b (o b.lo))

  abbrev pub closing_time : Bond → ℕ
  closing_time b = suc (rings_before b.hi + index_of b (c b.hi))

-- the keys of a bond in what is written of n atoms with the bonds bs: none in the forest, the times of its two ring tokens for a bridge
unfoldable pub key_of : ℕ → List Bond → Bond → Keys
key_of n bs b =
    let c : ℕ → List Bond = closing_bonds n (unused n bs) in
    let o : ℕ → List Bond = opening_bonds n (unused n bs) in
    cond (some (eq_bond b) (trees (forest_of n bs) 0)) child_keys (keys (opening_time c o b) (closing_time c o b))
