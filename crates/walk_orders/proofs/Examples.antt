-- The bonds at an atom, ranked by computation. Assumes nothing.
use mathlib.Core.Path.{◌≡◌, refl}
use mathlib.Core.Bool.{true}
use mathlib.Core.List.{List, [], ◌∷◌, map}
use Rattle.kinds.specs.Kind.{turned}
use Rattle.parity.specs.Parity.{odd, odd_pairs, oddly}
use Rattle.writing_walk.specs.Token.{Bond, bond}
use Rattle.writing_walk.specs.Walk.{forest_of, renumbered, unused, write}
use Rattle.writing_walk.specs.Keyed.{keys_of, run_keyed, start_keyed}
use Rattle.writing_walk.specs.Ranks.{walk_rank, text_rank}
use Rattle.writing_walk.proofs.Trip.{completed}
use Rattle.walk_orders.specs.Orders.{numbers_at, writer_rank, reader_rank, new_number}

-- two rings that share a bond: the first atom has a child and two bridges, which stand before it
rings : List Bond
rings = bond 0 3 1 ∷ bond 1 2 0 ∷ bond 2 3 2 ∷ bond 0 1 0 ∷ bond 3 4 0 ∷ bond 0 4 3 ∷ []

rings-written : map (writer_rank 6 rings 0) (numbers_at 0 rings) ≡ 9 ∷ 5 ∷ 6 ∷ []
unfolding writer_rank numbers_at walk_rank forest_of rings turned
rings-written = refl

rings-read : map (reader_rank (λ t. t) 4 (completed 6 rings) (keys_of (run_keyed (write 6 (λ v. v) rings) start_keyed)) 0) (numbers_at 0 (completed 6 rings)) ≡ 7 ∷ 2 ∷ 3 ∷ []
unfolding reader_rank numbers_at text_rank completed write forest_of unused renumbered rings turned
rings-read = refl

-- four bonds at one atom: the second by number leads to the preceding atom, and is the first bond read
star : List Bond
star = bond 1 2 0 ∷ bond 0 1 0 ∷ bond 1 3 0 ∷ bond 1 4 0 ∷ []

star-written : map (writer_rank 5 star 1) (numbers_at 1 star) ≡ 9 ∷ 0 ∷ 10 ∷ 11 ∷ []
unfolding writer_rank numbers_at walk_rank forest_of star turned
star-written = refl

star-numbers : map (new_number 5 star (completed 5 star)) (numbers_at 1 star) ≡ 1 ∷ 0 ∷ 2 ∷ 3 ∷ []
unfolding new_number numbers_at completed forest_of unused renumbered star turned
star-numbers = refl

star-turned : odd (map (new_number 5 star (completed 5 star)) (numbers_at 1 star)) ≡ true
unfolding new_number numbers_at completed forest_of unused renumbered star turned odd odd_pairs oddly
star-turned = refl
