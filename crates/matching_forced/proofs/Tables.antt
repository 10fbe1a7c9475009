-- The bonds of the tables, by number. Assumes nothing.
use mathlib.Core.Path.{◌≡◌, refl, ap}
use mathlib.Core.Bool.{◌&&◌}
use mathlib.Core.List.{List, [], ◌∷◌}
use Prim.Native.Nat.{ℕ, zero, suc, ◌<◌}
use native.Mathlib.Omega.{arith}
use lib.ListN.{length}
use Rattle.matching.specs.Graph.{Bond, touches, nth_bond}
use Rattle.matching.specs.Model.{bonds_of, table_bond, free_at, mark_at, BondTables, Ends}
use Rattle.matching_forced.specs.Forced.{free_of, pair_at}

-- the bonds of the tables, by number
pub nth-bonds : (ea eb el : List ℕ) (k : ℕ) → length eb ≡ length ea → length el ≡ length ea → k < length ea → nth_bond (bonds_of ea eb el) k ≡ table_bond ea eb el k
unfolding bonds_of
nth-bonds [] eb el k h i l = absurd (omega arith)
nth-bonds (a ∷ ea) [] el k h i l = absurd (omega arith)
nth-bonds (a ∷ ea) (b ∷ eb) [] k h i l = absurd (omega arith)
nth-bonds (a ∷ ea) (b ∷ eb) (e ∷ el) zero h i l = refl
nth-bonds (a ∷ ea) (b ∷ eb) (e ∷ el) (suc k) h i l = nth-bonds ea eb el k (omega arith) (omega arith) (omega arith)

pub many-bonds : (ea eb el : List ℕ) → length eb ≡ length ea → length el ≡ length ea → length (bonds_of ea eb el) ≡ length ea
unfolding bonds_of
many-bonds [] eb el h i = refl
many-bonds (a ∷ ea) [] el h i = absurd (omega arith)
many-bonds (a ∷ ea) (b ∷ eb) [] h i = absurd (omega arith)
many-bonds (a ∷ ea) (b ∷ eb) (e ∷ el) h i = ap suc (many-bonds ea eb el (omega arith) (omega arith))

module _ {ea eb el need : List ℕ} (t : BondTables ea eb el need 0) where
  abbrev bs : List Bond
  bs = bonds_of ea eb el

  pub bonds_long : length bs ≡ length ea
  bonds_long = many-bonds ea eb el t.second t.third

  module _ (k : ℕ) (l : k < length ea) where
    pub ends_at : Ends ea eb need k
    ends_at = record { first = l; second = omega (arith, t.second); end1 = t.ends1 k l; end2 = t.ends2 k l }

    pub elided-at : k < length el
    elided-at = omega (arith, t.third)

    pub free-at : (v : ℕ) → free_of bs need v k ≡ (free_at ea eb el need k && touches (table_bond ea eb el k) v)
    free-at v = rw (nth-bonds ea eb el k t.second t.third l)

    pub marks_at : mark_at ea eb need k 0 ≡ pair_at bs need k
    marks_at = rw (nth-bonds ea eb el k t.second t.third l)

-- the ends, in flags of the same length
pub ends-long : {ea eb need need' : List ℕ} {k : ℕ} → length need' ≡ length need → Ends ea eb need k → Ends ea eb need' k
ends-long l e = record { first = e.first; second = e.second; end1 = omega (arith, e.end1); end2 = omega (arith, e.end2) }
