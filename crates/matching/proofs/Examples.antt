-- Matchings of small molecules, by computation. Assumes nothing.
use mathlib.Core.Path.{◌≡◌, refl}
use mathlib.Core.Bool.{true}
use mathlib.Core.List.{List, [], ◌∷◌}
use Prim.Native.Nat.{ℕ}
use lib.ListN.{replicate}
use Rattle.matching.specs.Enumeration.{rows, passing, matchings}
use Rattle.matching.specs.Graph.{Bond, chosen_induced, degree, each_once, is_matching}

bond : ℕ → ℕ → Bond
bond a b = record { end1 = a; end2 = b; elided = true }

benzene : List Bond
benzene = bond 0 1 ∷ bond 1 2 ∷ bond 2 3 ∷ bond 3 4 ∷ bond 4 5 ∷ bond 0 5 ∷ []

naphthalene : List Bond
naphthalene = bond 0 1 ∷ bond 1 2 ∷ bond 2 3 ∷ bond 3 4 ∷ bond 4 5 ∷ bond 5 6 ∷ bond 6 7 ∷ bond 7 8 ∷ bond 3 8 ∷ bond 8 9 ∷ bond 0 9 ∷ []

-- 01: `c1ccccc1` has the rows 101010 and 010101
benzene-matchings : matchings (is_matching (replicate 6 1) benzene) 6 ≡ (1 ∷ 0 ∷ 1 ∷ 0 ∷ 1 ∷ 0 ∷ []) ∷ (0 ∷ 1 ∷ 0 ∷ 1 ∷ 0 ∷ 1 ∷ []) ∷ []
unfolding passing rows is_matching each_once degree chosen_induced bond benzene
benzene-matchings = refl

-- 01: `c1ccc2ccccc2c1` has three
naphthalene-matchings : matchings (is_matching (replicate 10 1) naphthalene) 11 ≡ (1 ∷ 0 ∷ 1 ∷ 0 ∷ 1 ∷ 0 ∷ 1 ∷ 0 ∷ 0 ∷ 1 ∷ 0 ∷ []) ∷ (0 ∷ 1 ∷ 0 ∷ 1 ∷ 0 ∷ 1 ∷ 0 ∷ 1 ∷ 0 ∷ 0 ∷ 1 ∷ []) ∷ (0 ∷ 1 ∷ 0 ∷ 0 ∷ 1 ∷ 0 ∷ 1 ∷ 0 ∷ 1 ∷ 0 ∷ 1 ∷ []) ∷ []
unfolding passing rows is_matching each_once degree chosen_induced bond naphthalene
naphthalene-matchings = refl

-- 01: `c(c)(c)c` has none, though four atoms are delocalized
star-matchings : matchings (is_matching (replicate 4 1) (bond 0 1 ∷ bond 0 2 ∷ bond 0 3 ∷ [])) 3 ≡ []
unfolding passing rows is_matching each_once degree chosen_induced bond
star-matchings = refl
