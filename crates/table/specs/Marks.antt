-- 02, P5: on which side of an atom the marks `/` and `\` place its neighbours (002), and the refusals 20 and 21
use Rattle.std.specs.Prelude.{ℕ, ◌<◌, ◌≡◌, ◌⊎◌, List, Bool, true, false, ◌&&◌, ◌||◌, not, ℤ, eqb, ltb}
use Rattle.loops.specs.Loop.{pick, each, how_many}
use Rattle.kinds.specs.Kind.{elided, double, up, down, is_mark, mark_of, turned}
use Rattle.table.specs.Cells.{end1, end2, kind, touches}

-- "a neighbour numbered after the end of a double bond lies above it for `/` and below for `\`, and the reverse if numbered before":
-- where the neighbour of the atom a along the bond b lies, up or down; elided where the bond is not marked or not at a
unfoldable pub side : List ℤ → ℕ → ℕ → ℕ
side bonds a b = pick (eqb (end1 bonds b) a) (mark_of (kind bonds b)) (pick (eqb (end2 bonds b) a) (turned (mark_of (kind bonds b))) elided)

-- how many of m bonds place a neighbour of the atom a on the side s
unfoldable pub side_count : List ℤ → ℕ → ℕ → ℕ → ℕ
side_count bonds m a s = how_many (λ b. eqb (side bonds a b) s) 0 m

-- the bond b is a double bond at the atom a; how many of m bonds are
abbrev pub double_at : List ℤ → ℕ → ℕ → Bool
double_at bonds a b = touches bonds a b && eqb (kind bonds b) double

unfoldable pub double_count : List ℤ → ℕ → ℕ → ℕ
double_count bonds m a = how_many (double_at bonds a) 0 m

-- 20: "Two marked neighbours of one end on the same side": of the atom a, of an end of the bond b, of an end of a double bond
abbrev pub crowded : List ℤ → ℕ → ℕ → Bool
crowded bonds m a = ltb 1 (side_count bonds m a up) || ltb 1 (side_count bonds m a down)

abbrev pub crowded_ends : List ℤ → ℕ → ℕ → Bool
crowded_ends bonds m b = crowded bonds m (end1 bonds b) || crowded bonds m (end2 bonds b)

abbrev pub crowded_bond : List ℤ → ℕ → ℕ → Bool
crowded_bond bonds m b = eqb (kind bonds b) double && crowded_ends bonds m b

unfoldable pub none_crowded : List ℤ → ℕ → Bool
none_crowded bonds m = each (λ b. not (crowded_bond bonds m b)) 0 m

-- 21: "a mark that touches no bond of kind 2"
abbrev pub stray : List ℤ → ℕ → ℕ → Bool
stray bonds m b = is_mark (kind bonds b) && eqb (double_count bonds m (end1 bonds b)) 0 && eqb (double_count bonds m (end2 bonds b)) 0

unfoldable pub none_stray : List ℤ → ℕ → Bool
none_stray bonds m = each (λ b. not (stray bonds m b)) 0 m

-- no bond has a mark
unfoldable pub unmarked : List ℤ → ℕ → Bool
unmarked bonds m = each (λ b. not (is_mark (kind bonds b))) 0 m

-- the same in words: such an end of a double bond, with two bonds that place neighbours on the same side of it
pub record CrowdedEnd (bonds : List ℤ) (m : ℕ) : Type 0 where
  pub double_bond : ℕ
  pub first : ℕ
  pub second : ℕ
  pub atom : ℕ
  pub used : (double_bond < m) × (second < m)
  pub is_double : kind bonds double_bond ≡ double
  pub is_end : (end1 bonds double_bond ≡ atom) ⊎ (end2 bonds double_bond ≡ atom)
  pub apart : first < second
  pub marked : 0 < side bonds atom first
  pub same_side : side bonds atom first ≡ side bonds atom second

-- such a mark
pub record StrayMark (bonds : List ℤ) (m : ℕ) : Type 0 where
  pub bond : ℕ
  pub used : bond < m
  pub marked : is_mark (kind bonds bond) ≡ true
  pub alone : (b : ℕ) → b < m → kind bonds b ≡ double → (touches bonds (end1 bonds bond) b ≡ false) × (touches bonds (end2 bonds bond) b ≡ false)
