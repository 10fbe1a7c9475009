-- 02, P8: the neighbours of an atom, in the order of the text and in the stored order. These orders are the rule; `turns` with `text_rank`, by which reading turns marks, computes how far apart they are (proofs/Claims.antt)
use Rattle.std.specs.Prelude.{ℕ, suc, ◌≡◌, Bool, ◌&&◌, not, List, [], ◌∷◌, ◌++◌, map, ℤ, eqb, leb}
use Rattle.loops.specs.Loop.{pick}
use Rattle.parity.specs.Parity.{Swaps, odd_number}
use Rattle.parity.specs.Mark.{mark_if}
use Rattle.table.specs.Cells.{hydrogens, mark, end1, end2}
use Rattle.table.specs.Orders.{bonds_at, at_end}
use Rattle.reading.specs.Read.{ReadResult}

-- a neighbour is a number: b + 1 along the bond b, and 0 for the virtual hydrogen, which an atom has if its hydrogens are exactly one
abbrev pub along : List ℕ → List ℕ
along l = map suc l

abbrev pub hydrogen : List ℤ → ℕ → List ℕ
hydrogen atoms a = pick (eqb (hydrogens atoms a) 1) (0 ∷ []) []

-- "The stored mark refers to the hydrogen first and then bonds by ascending number"
unfoldable pub stored_order : List ℤ → List ℤ → ℕ → ℕ → List ℕ
stored_order atoms bonds m a = hydrogen atoms a ++ along (bonds_at bonds m a)

-- the items that pass a test, and the items by ascending f
unfoldable pub those : (ℕ → Bool) → List ℕ → List ℕ
those t [] = []
those t (b ∷ l) = pick (t b) (b ∷ those t l) (those t l)

unfoldable pub insert : (ℕ → ℕ) → ℕ → List ℕ → List ℕ
insert f b [] = b ∷ []
insert f b (c ∷ l) = pick (leb (f b) (f c)) (b ∷ c ∷ l) (c ∷ insert f b l)

unfoldable pub sorted : (ℕ → ℕ) → List ℕ → List ℕ
sorted f [] = []
sorted f (b ∷ l) = insert f b (sorted f l)

-- m bonds stand after the last byte, each with two keys: where its digit or `%` stands in the text at each end, counted from 1; 0 where it is no bridge (`reading_state/specs/State.keys_after`)
module _ (keys : List ℕ) (bonds : List ℤ) (m a : ℕ) where
  -- "the preceding atom": a follows it, being the second end of a bond that is no bridge
  unfoldable pub preceding : List ℕ
  preceding = those (λ b. eqb (at_end keys bonds a b) 0 && eqb (end2 bonds b) a) (bonds_at bonds m a)

  -- "bridges as their digits stand in the text at this atom"
  unfoldable pub bridges_here : List ℕ
  bridges_here = sorted (at_end keys bonds a) (those (λ b. not (eqb (at_end keys bonds a b) 0)) (bonds_at bonds m a))

  -- "then children": they follow a, the first end of bonds that are no bridges; the text numbers bonds as they come
  unfoldable pub children : List ℕ
  children = those (λ b. eqb (at_end keys bonds a b) 0 && eqb (end1 bonds b) a) (bonds_at bonds m a)

-- "In text the neighbours are ordered: the preceding atom, the virtual hydrogen, bridges as their digits stand in the text at this atom, then children; with no preceding atom the hydrogen is first"
unfoldable pub text_order : List ℕ → List ℤ → List ℤ → ℕ → ℕ → List ℕ
text_order keys atoms bonds m a = along (preceding keys bonds m a) ++ (hydrogen atoms a ++ (along (bridges_here keys bonds m a) ++ along (children keys bonds m a)))

-- "so reading turns it when the two orders differ by an odd number of swaps": at the atom a of an accepted text, k being the mark that was read
pub record TurnedBySwaps (keys : List ℕ) (t : ReadResult) (a k : ℕ) : Type 0 where
  -- some number of swaps leads from one order to the other
  pub some : ℕ
  pub lead : Swaps (stored_order t.atoms t.bonds t.bond_count a) (text_order keys t.atoms t.bonds t.bond_count a) some
  -- and the mark is turned exactly if such a number is odd, whichever
  pub stored : (n : ℕ) → Swaps (stored_order t.atoms t.bonds t.bond_count a) (text_order keys t.atoms t.bonds t.bond_count a) n → mark t.atoms a ≡ mark_if (odd_number n) k
