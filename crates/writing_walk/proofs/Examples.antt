-- A molecule written, by computation. Assumes nothing.
use mathlib.Core.Path.{◌≡◌, refl}
use mathlib.Core.List.{List, [], ◌∷◌}
use Rattle.kinds.specs.Kind.{turned}
use Rattle.writing_walk.specs.Token.{Bond, bond, apart, along, ring, branch, back}
use Rattle.writing_walk.specs.Walk.{forest_of, renumbered, unused, write}
use Rattle.writing_walk.specs.Keyed.{keys, keys_of, run_keyed, start_keyed}

-- two rings that share a bond, with atoms out of order
sample : List Bond
sample = bond 0 3 1 ∷ bond 1 2 0 ∷ bond 2 3 2 ∷ bond 0 1 0 ∷ bond 3 4 0 ∷ bond 0 4 3 ∷ []

sample-text : write 6 (λ v. v) sample ≡ apart 0 ∷ ring 0 0 ∷ ring 3 1 ∷ along 1 3 ∷ branch ∷ along 2 2 ∷ along 0 1 ∷ ring 0 0 ∷ back ∷ along 0 4 ∷ ring 0 1 ∷ apart 5 ∷ []
unfolding write forest_of unused renumbered sample turned
sample-text = refl

-- its bonds in the order in which they are completed, by the times of their ring tokens
sample-keys : keys_of (run_keyed (write 6 (λ v. v) sample) start_keyed) ≡ keys 0 0 ∷ keys 0 0 ∷ keys 0 0 ∷ keys 1 3 ∷ keys 0 0 ∷ keys 2 4 ∷ []
unfolding write forest_of unused renumbered sample turned
sample-keys = refl
