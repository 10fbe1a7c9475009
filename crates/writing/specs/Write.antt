-- 01, Writing: the text and the renumbering of a molecule, the refusals 1, 13, 14, 15, 16, and what every answer leaves behind
use Rattle.std.specs.Prelude.{ℕ, suc, ◌-◌, Bool, true, ◌&&◌, List, [], ◌∷◌, ◌++◌, length, replicate, ℤ, leb, ltb}
use Rattle.loops.specs.Loop.{pick, up_to}
use Rattle.table.specs.Limits.{max_atoms}
use Rattle.table.specs.Cells.{end1, end2, kind}
use Rattle.table.specs.Valid.{enough}
use Rattle.table.specs.Sound.{sound}
use Rattle.table.specs.Orders.{turn_marks}
use Rattle.ids.specs.Limits.{max_depth, bridges, max_text}
use Rattle.writing_walk.specs.Token.{Bond, bond, Tok, apart, along, ring, branch, back}
use Rattle.writing_walk.specs.Emit.{Forest, pre}
use Rattle.writing_walk.specs.Walk.{forest_of, place, write}
use Rattle.writing_walk.specs.Parents.{ups, other_end, walk_rank}
use Rattle.writing_walk.specs.Depth.{nests}
use Rattle.writing.specs.Spell.{atom_bytes, tokens_bytes}

abbrev pub walk_bond : List ℤ → ℕ → Bond
walk_bond bonds b = bond (end1 bonds b) (end2 bonds b) (kind bonds b)

-- the bonds of a molecule, by ascending number
abbrev pub bond_list : List ℤ → ℕ → List Bond
bond_list bonds m = up_to (walk_bond bonds) 0 m

-- the tokens of the walk, with atom numbers
unfoldable pub tokens : List ℤ → ℕ → ℕ → List Tok
tokens bonds n m = write n (λ a. a) (bond_list bonds m)

-- 02, P8, the place of the bond b among the neighbours of the atom a in the text: "the preceding atom, the virtual hydrogen, bridges as their digits stand in the text at this atom, then children"
unfoldable pub written_rank : List ℤ → ℕ → ℕ → ℕ → ℕ → ℕ
written_rank bonds n m a b =
    let walked : Forest = forest_of n (bond_list bonds m) in
    walk_rank n (ups walked 0 0) (place (pre walked) a) (place (pre walked) (other_end a (walk_bond bonds b)))

-- "reading turns it when the two orders differ by an odd number of swaps, and writing turns it back": the atoms with their marks as they are written
unfoldable pub marks_written : List ℤ → List ℤ → ℕ → ℕ → List ℤ
marks_written atoms bonds n m = turn_marks (written_rank bonds n m) bonds m n atoms

-- the bytes of the walk
unfoldable pub text_of : List ℤ → List ℤ → ℕ → ℕ → List ℕ
text_of atoms bonds n m = tokens_bytes (atom_bytes (marks_written atoms bonds n m) bonds m) (tokens bonds n m)

-- "The renumbering gives each atom's walk number"
unfoldable pub renumbering : List ℤ → ℕ → ℕ → List ℕ
renumbering bonds n m = up_to (place (pre (forest_of n (bond_list bonds m)))) 0 n

-- 14: "the walk needs over 99 bridges open at once"; the places of bridges are counted from 0
unfoldable pub few_bridges : List Tok → Bool
few_bridges [] = true
few_bridges (apart a ∷ ts) = few_bridges ts
few_bridges (along k a ∷ ts) = few_bridges ts
few_bridges (ring k r ∷ ts) = ltb (suc r) bridges && few_bridges ts
few_bridges (branch ∷ ts) = few_bridges ts
few_bridges (back ∷ ts) = few_bridges ts

-- 15: "the written branches nest over 64 deep"
abbrev pub shallow : List Tok → Bool
shallow ts = nests max_depth ts 0

-- what writing hands back: 0 with the length, or a code with the length 0; the output and the renumbering as they are then
pub record WriteResult : Type 0 where
  pub code : ℕ
  pub size : ℕ
  pub output : List ℕ
  pub numbers : List ℕ

abbrev pub write_refused : ℕ → List ℕ → List ℕ → WriteResult
write_refused c out ren = record { code = c; size = 0; output = replicate (length out) 0; numbers = replicate (length ren) 0 }

abbrev pub write_short : List ℕ → List ℕ → WriteResult
write_short out ren = record { code = 1; size = 0; output = out; numbers = ren }

-- "An acceptance zeroes the unused rest"
abbrev pub filled : List ℕ → ℕ → List ℕ
filled l n = l ++ replicate (n - length l) 0

abbrev pub write_accepted : List ℕ → List ℕ → List ℕ → List ℕ → WriteResult
write_accepted text order out ren =
    record { code = 0; size = length text; output = filled text (length out); numbers = filled order (length ren) }

-- "14, 15, 16 over the whole walk"
unfoldable pub write_valid : List ℤ → List ℤ → ℕ → ℕ → List ℕ → List ℕ → WriteResult
write_valid atoms bonds n m out ren =
    pick (few_bridges (tokens bonds n m))
    (pick (shallow (tokens bonds n m))
    (pick (leb (length (text_of atoms bonds n m)) max_text) (write_accepted (text_of atoms bonds n m) (renumbering bonds n m) out ren) (write_refused 16 out ren))
    (write_refused 15 out ren))
    (write_refused 14 out ren)

abbrev pub lent : List ℤ → List ℤ → List ℕ → List ℕ → Bool
lent atoms bonds out ren = enough atoms bonds && leb max_text (length out) && leb max_atoms (length ren)

-- 1, 13, then 14, 15, 16
unfoldable pub write_of : List ℤ → List ℤ → ℕ → ℕ → List ℕ → List ℕ → WriteResult
write_of atoms bonds n m out ren =
    pick (lent atoms bonds out ren) (pick (sound atoms bonds n m) (write_valid atoms bonds n m out ren) (write_refused 13 out ren)) (write_short out ren)
