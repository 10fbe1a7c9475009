-- 02, P5: what a renumbering of the atoms, the marks "turned where the renumbering swaps a bond's ends", does to the row of sides
use Rattle.std.specs.Prelude.{ℕ, ◌<◌, ◌≡◌, Bool, ◌&&◌, not, List, map, ◌↔◌, ℤ, eqb, ltb}
use Rattle.loops.specs.Loop.{pick, each}
use Rattle.kinds.specs.Kind.{elided}
use Rattle.table.specs.Cells.{end1, end2}
use Rattle.table.specs.Marks.{side}
use Rattle.conformation.specs.Sides.{other_end, side_of}
use Rattle.conformation.specs.Claims.{Lies}
use Rattle.writing_walk.specs.Same.{Perm}
use Rattle.writing.specs.Write.{walk_bond, bond_list}
use Rattle.roundtrip.specs.Claims.{numbered, renamed}

-- the m bonds of U are the given ones in some order, where the atom v of n has the number r v: the lower number first, the kind turned where the ends change places
pub record Renumbers (n m : ℕ) (r : List ℕ) (bonds U : List ℤ) : Type 0 where
  pub injective : (v w : ℕ) → v < n → w < n → numbered r v ≡ numbered r w → v ≡ w
  pub permuted : Perm (bond_list U m) (map (renamed r) (bond_list bonds m))

-- the bond c of U is the bond b
abbrev pub Follows : List ℕ → List ℤ → List ℤ → ℕ → ℕ → Type 0
Follows r bonds U b c = walk_bond U c ≡ renamed r (walk_bond bonds b)

-- the bonds b and c have marked neighbours of the atom a, and that of b is the lower one before the renumbering, the higher one after
abbrev pub swapped : List ℕ → List ℤ → ℕ → ℕ → ℕ → Bool
swapped r bonds a b c =
    (not (eqb (side bonds a b) elided) && not (eqb (side bonds a c) elided))
    && (ltb (other_end bonds a b) (other_end bonds a c) && ltb (numbered r (other_end bonds a c)) (numbered r (other_end bonds a b)))

-- the renumbering changes which marked neighbour of the atom a is the lower one
unfoldable pub swaps : List ℕ → List ℤ → ℕ → ℕ → Bool
swaps r bonds m a = not (each (λ b. each (λ c. not (swapped r bonds a b c)) 0 m) 0 m)

-- the same in words: two such neighbours
pub record Swaps (r : List ℕ) (bonds : List ℤ) (m a : ℕ) : Type 0 where
  pub low : ℕ
  pub high : ℕ
  pub low_side : ℕ
  pub high_side : ℕ
  pub low_lies : Lies bonds m a low low_side
  pub high_lies : Lies bonds m a high high_side
  pub before : low < high
  pub after : numbered r high < numbered r low

-- 1 ("the same side") and 2 ("opposite sides") exchanged; 0 stays
abbrev pub exchanged : ℕ → ℕ
exchanged k = pick (eqb k 1) 2 (pick (eqb k 2) 1 k)

-- one of the two and not the other
abbrev pub differ : Bool → Bool → Bool
differ x y = pick x (not y) y

-- the cell k of the bond b after the renumbering: exchanged exactly if another neighbour becomes the lower one at one of its ends and not at the other
abbrev pub cell_after : List ℕ → List ℤ → ℕ → ℕ → ℕ → ℕ
cell_after r bonds m b k = pick (differ (swaps r bonds m (end1 bonds b)) (swaps r bonds m (end2 bonds b))) (exchanged k) k

-- the atom a has one marked neighbour at most
abbrev pub OneMarked : List ℤ → ℕ → ℕ → Type 0
OneMarked bonds m a = (v w s t : ℕ) → Lies bonds m a v s → Lies bonds m a w t → v ≡ w

-- WHAT RENUMBERING DOES to the sides and to their row
pub record SidesFollow (n m : ℕ) (r : List ℕ) (bonds U : List ℤ) : Type 0 where
  -- each bond is one of U, and each of U is exactly one of them
  pub there : (b : ℕ) → b < m → (c : ℕ) × ((c < m) × Follows r bonds U b c)
  pub from : (c : ℕ) → c < m → (b : ℕ) × ((b < m) × Follows r bonds U b c)
  pub only : (b d c : ℕ) → b < m → d < m → Follows r bonds U b c → Follows r bonds U d c → b ≡ d
  -- a marked neighbour lies on the same side as before, and no other atom becomes one
  pub lies : (a w s : ℕ) → a < n → w < n → Lies bonds m a w s ↔ Lies U m (numbered r a) (numbered r w) s
  pub no_other : (a x s : ℕ) → a < n → Lies U m (numbered r a) x s → (w : ℕ) × ((w < n) × (numbered r w ≡ x))
  -- so the cell of a bond whose ends have one marked neighbour each stays
  pub one_each : (b c : ℕ) → b < m → Follows r bonds U b c → OneMarked bonds m (end1 bonds b) → OneMarked bonds m (end2 bonds b) → side_of U m c ≡ side_of bonds m b
  -- and that of any bond is exchanged exactly as said
  pub cells : (b c : ℕ) → b < m → Follows r bonds U b c → side_of U m c ≡ cell_after r bonds m b (side_of bonds m b)
