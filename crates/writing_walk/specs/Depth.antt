-- 01, When a call says no, 15: "the written branches nest over 64 deep"
use Rattle.std.specs.Prelude.{Bool, true, ◌&&◌, List, [], ◌∷◌, ℕ, zero, suc, ltb}
use Rattle.writing_walk.specs.Token.{Tok, apart, along, ring, branch, back}

-- the most open branches
module _ (dm : ℕ) where
  -- 15: no branch opens inside dm others; d branches are open
  abbrev pub nests : List Tok → ℕ → Bool
  nests [] d = true
  nests (apart w ∷ ts) d = nests ts d
  nests (along k w ∷ ts) d = nests ts d
  nests (ring k m ∷ ts) d = nests ts d
  nests (branch ∷ ts) d = ltb d dm && nests ts (suc d)
  nests (back ∷ ts) zero = nests ts zero
  nests (back ∷ ts) (suc d) = nests ts d
