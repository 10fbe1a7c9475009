-- 02, P5: the row of sides: "1 at each kind-2 bond whose two ends have their lowest marked neighbours on the same side, 2 if on opposite sides, else 0"
use Rattle.std.specs.Prelude.{ℕ, ◌-◌, List, ◌++◌, Bool, ◌&&◌, ◌||◌, not, length, replicate, ℤ, eqb, leb, ltb, Result}
use Rattle.loops.specs.Loop.{pick, run, up_to}
use Rattle.kinds.specs.Kind.{elided, double}
use Rattle.table.specs.Limits.{max_bonds}
use Rattle.table.specs.Cells.{end1, end2, kind}
use Rattle.table.specs.Valid.{enough, check_code}
use Rattle.table.specs.Sound.{sound}
use Rattle.table.specs.Marks.{side}
use Rattle.refusal.specs.declared.Refusal.{Refusal}
use Rattle.conformation.specs.declared.Lowest.{Lowest}

-- the other end of the bond b, seen from its end a
abbrev pub other_end : List ℤ → ℕ → ℕ → ℕ
other_end bonds a b = pick (eqb (end1 bonds b) a) (end2 bonds b) (end1 bonds b)

-- a marked neighbour of an atom and the side on which it lies; side elided: there is none
abbrev pub none_yet : Lowest
none_yet = record { neighbour = 0; side = elided }

-- the bond b has a marked neighbour of the atom a, lower than the one that is known
abbrev pub is_lower : List ℤ → ℕ → ℕ → Lowest → Bool
is_lower bonds a b w = not (eqb (side bonds a b) elided) && (eqb w.side elided || ltb (other_end bonds a b) w.neighbour)

unfoldable pub lower : List ℤ → ℕ → ℕ → Lowest → Lowest
lower bonds a b w = pick (is_lower bonds a b w) (record { neighbour = other_end bonds a b; side = side bonds a b }) w

-- "their lowest marked neighbours": that of the atom a, among m bonds
unfoldable pub lowest_of : List ℤ → ℕ → ℕ → Lowest
lowest_of bonds m a = run (lower bonds a) 0 m none_yet

-- 1: both on the same side; 2: on opposite sides; 0: one of them is none
unfoldable pub compared : ℕ → ℕ → ℕ
compared s t = pick (eqb s elided || eqb t elided) 0 (pick (eqb s t) 1 2)

-- the cell of the bond b in the row of sides
unfoldable pub side_of : List ℤ → ℕ → ℕ → ℕ
side_of bonds m b = pick (eqb (kind bonds b) double) (compared (lowest_of bonds m (end1 bonds b)).side (lowest_of bonds m (end2 bonds b)).side) 0

-- what the call hands back: 01's number for its answer, and the row as it is then
pub record SidesReply : Type 0 where
  pub code : ℕ
  pub row : List ℕ

abbrev pub sides_reply : ℕ → List ℕ → SidesReply
sides_reply c row = record { code = c; row = row }

abbrev pub told : Result (Unit {0}) Refusal → List ℕ → SidesReply
told a row = sides_reply (check_code a) row

-- 1 with nothing changed, then 13 with a zeroed row; the row past the last bond is zeroed
unfoldable pub sides_of : List ℤ → List ℤ → ℕ → ℕ → List ℕ → SidesReply
sides_of atoms bonds n m row =
    pick (leb max_bonds (length row) && enough atoms bonds)
    (pick (sound atoms bonds n m) (sides_reply 0 (up_to (side_of bonds m) 0 m ++ replicate (length row - m) 0)) (sides_reply 13 (replicate (length row) 0)))
    (sides_reply 1 row)
