-- auxiliary: reading tokens as a fold of a token step, for the round trip
use Rattle.std.specs.Prelude.{Bool, true, false, List, [], ◌∷◌, ◌++◌, ℕ, zero, suc}
use Rattle.kinds.specs.Kind.{meet}
use Rattle.writing_walk.specs.Token.{Bond, bond, bond_between, Tok, apart, along, ring, branch, back}

-- "A number that is not open opens at the hub; an open one joins its opening atom to the hub and is free again":
-- a bridge's place is vacant, or open at an atom, with the kind that stands there
pub data Closure : Type 0 where
  vacant : Closure
  at : ℕ → ℕ → Closure

abbrev pub closure_at : List Closure → ℕ → Closure
closure_at [] m = vacant
closure_at (x ∷ l) zero = x
closure_at (x ∷ l) (suc m) = closure_at l m

abbrev pub set_closure : List Closure → ℕ → Closure → List Closure
set_closure [] zero y = y ∷ []
set_closure [] (suc m) y = vacant ∷ set_closure [] m y
set_closure (x ∷ l) zero y = y ∷ l
set_closure (x ∷ l) (suc m) y = x ∷ set_closure l m y

-- what steers the reading: atoms, bonds, hub, number of atoms, bridges, open branches
pub data St : Type 0 where
  st : List ℕ → List Bond → ℕ → ℕ → List Closure → List ℕ → St

-- a bridge at the hub h: it opens its place, or closes it and completes a bond
abbrev pub bridge : Closure → ℕ → ℕ → List ℕ → List Bond → ℕ → ℕ → List Closure → List ℕ → St
bridge vacant k m xs bs h n hs stk = st xs bs h n (set_closure hs m (at h k)) stk
bridge (at u j) k m xs bs h n hs stk = st xs (bs ++ (bond_between u h (meet j k) ∷ [])) h n (set_closure hs m vacant) stk

-- one token; after `)` the hub "is again the atom it was before the matching `(`"
abbrev pub step_token : Tok → St → St
step_token (apart w) (st xs bs h n hs stk) = st (xs ++ (w ∷ [])) bs n (suc n) hs stk
step_token (along k w) (st xs bs h n hs stk) = st (xs ++ (w ∷ [])) (bs ++ (bond h n k ∷ [])) n (suc n) hs stk
step_token (ring k m) (st xs bs h n hs stk) = bridge (closure_at hs m) k m xs bs h n hs stk
step_token branch (st xs bs h n hs stk) = st xs bs h n hs (h ∷ stk)
step_token back (st xs bs h n hs []) = st xs bs h n hs []
step_token back (st xs bs h n hs (g ∷ stk)) = st xs bs g n hs stk

abbrev pub run_tokens : List Tok → St → St
run_tokens [] s = s
run_tokens (t ∷ ts) s = run_tokens ts (step_token t s)

-- no bridge is open
abbrev pub shut : List Closure → Bool
shut [] = true
shut (vacant ∷ l) = shut l
shut (at u k ∷ l) = false

abbrev pub start_tokens : St
start_tokens = st [] [] 0 0 [] []
