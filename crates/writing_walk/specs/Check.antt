-- auxiliary: reading tokens with the refusals 4 to 9, and the grammar of tokens (3), for the round trip
use Rattle.std.specs.Prelude.{Bool, true, false, ◌&&◌, ◌||◌, cond, not, List, [], ◌∷◌, ℕ, zero, suc, eqb, ltb, length}
use Rattle.kinds.specs.Kind.{clash}
use Rattle.writing_walk.specs.Token.{Bond, Tok, apart, along, ring, branch, back, bond_between}
use Rattle.writing_walk.specs.Reading.{Closure, vacant, at, closure_at, St, st, step_token}

abbrev pub ends : ℕ → ℕ → Bond → Bool
ends a c b = eqb b.lo a && eqb b.hi c

abbrev pub some : (Bond → Bool) → List Bond → Bool
some p [] = false
some p (b ∷ l) = p b || some p l

pub data Res : Type 0 where
  fine : St → Res
  refused : ℕ → Res

abbrev pub or_number : ℕ → Res → Res
or_number zero r = r
or_number (suc c) r = refused (suc c)

-- the most atoms, bonds and open branches
module _ (am bm dm : ℕ) where
  -- a bridge that closes: 5, 7, 8, 9 in this order
  abbrev pub refused_bridge : Closure → ℕ → List Bond → ℕ → ℕ
  refused_bridge vacant k bs h = 0
  refused_bridge (at u j) k bs h =
      cond (ltb (length bs) bm) (cond (eqb u h) 7 (cond (some (ends (bond_between u h 0).lo (bond_between u h 0).hi) bs) 8 (cond (clash j k) 9 0))) 5

  -- the refusal of a token, or 0: 4 comes before 5; 6 at a branch
  abbrev pub refusal : Tok → St → ℕ
  refusal (apart w) (st xs bs h n hs stk) = cond (ltb n am) 0 4
  refusal (along k w) (st xs bs h n hs stk) = cond (ltb n am) (cond (ltb (length bs) bm) 0 5) 4
  refusal (ring k m) (st xs bs h n hs stk) = refused_bridge (closure_at hs m) k bs h
  refusal branch (st xs bs h n hs stk) = cond (ltb (length stk) dm) 0 6
  refusal back s = 0

  abbrev pub reading : List Tok → St → Res
  reading [] s = fine s
  reading (t ∷ ts) s = let r : Res = reading ts (step_token t s) in or_number (refusal t s) r

-- the grammar: d branches are open; fresh: an atom must come (at the start, and after a branch opens)
abbrev pub grammar : List Tok → ℕ → Bool → Bool
grammar [] d fresh = eqb d 0 && not fresh
grammar (apart w ∷ ts) d fresh = grammar ts d false
grammar (along k w ∷ ts) zero true = false
grammar (along k w ∷ ts) zero false = grammar ts zero false
grammar (along k w ∷ ts) (suc d) fresh = grammar ts (suc d) false
grammar (ring k m ∷ ts) d true = false
grammar (ring k m ∷ ts) d false = grammar ts d false
grammar (branch ∷ ts) d true = false
grammar (branch ∷ ts) d false = grammar ts (suc d) true
grammar (back ∷ ts) zero fresh = false
grammar (back ∷ ts) (suc d) true = false
grammar (back ∷ ts) (suc d) false = grammar ts d false

-- a text is empty or one sequence
abbrev pub accepted_tokens : List Tok → Bool
accepted_tokens [] = true
accepted_tokens (t ∷ ts) = grammar (t ∷ ts) 0 true
