-- 01, Writing, and 02, P8: each atom's parent in the walk, and the order in which the text puts an atom's neighbours
use Rattle.std.specs.Prelude.{cond, List, [], ◌∷◌, ◌++◌, ℕ, suc, ◌+◌, eqb, get_or}
use Rattle.writing_walk.specs.Token.{Bond}
use Rattle.writing_walk.specs.Emit.{Forest, leaf, node, size}

-- by walk number from n on, the parent's walk number plus 1, 0 for a root; p is that of the forest's own roots
abbrev pub ups : Forest → ℕ → ℕ → List ℕ
ups leaf p n = []
ups (node w k f g) p n = p ∷ (ups f (suc n) (suc n) ++ ups g p (suc n + size f))

-- the other end of a bond at the atom x
abbrev pub other_end : ℕ → Bond → ℕ
other_end x b = cond (eqb b.lo x) b.hi b.lo

-- "the preceding atom, the virtual hydrogen, bridges as their digits stand in the text at this atom, then children": the rank of the bond between the walk numbers x and y at x, of n atoms whose parents are us. The hydrogen's is 1; the digits at an atom stand by ascending walk number of the other end
unfoldable pub walk_rank : ℕ → List ℕ → ℕ → ℕ → ℕ
walk_rank n us x y = cond (eqb (get_or us x 0) (suc y)) 0 (cond (eqb (get_or us y 0) (suc x)) (n + 2 + y) (y + 2))
