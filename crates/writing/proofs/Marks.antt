-- Laws of the marks as they are written (02, P8): what the turned table keeps, its bytes, and its ranks as the walk has them. Assumes nothing.
use Prim.Native.Nat.{ℕ, zero, suc, ◌+◌, ◌<◌, ◌≤◌}
use native.Mathlib.Omega.{arith}
use mathlib.Core.Path.{◌≡◌, refl, ap, ◌∙◌}
use mathlib.Core.Bool.{Bool, true, false, cond}
use mathlib.Core.List.{List, [], ◌∷◌, ◌++◌, map}
use lib.IntN.{ℤ, pos}
use lib.Dec.{eqb}
use Rattle.loops.specs.Loop.{pick, run, up_to}
use Rattle.loops.proofs.Loops.{up_to-at}
use Rattle.parity.specs.Parity.{odd}
use Rattle.table.specs.Limits.{ELEMENT, SELECTED, ISOTOPE, HYDROGENS, CHARGE, EXTENSION, MARK}
use Rattle.table.specs.Cells.{number, atom_cell, hydrogens, mark, touches}
use Rattle.table.specs.Valid.{Valid}
use Rattle.table.specs.Sound.{sound}
use Rattle.table.specs.Orders.{bonds_from, bonds_at, hydrogen_rank, turns, turned_mark, turn_mark, turn_marks}
use Rattle.table.proofs.Orders.{ButMarks, turned-but, turned-cell, turned-valid, turned-sound, unmarked-stays, ranks-same}
use Rattle.writing_walk.specs.Token.{bond}
use Rattle.walk_orders.specs.Orders.{numbers_from, numbers_at, with_hydrogen, writer_rank}
use Rattle.writing.specs.Spell.{bracket_bytes, without_brackets, spelled_atom, atom_bytes, tokens_bytes}
use Rattle.writing.specs.Write.{walk_bond, bond_list, tokens, written_rank, marks_written, text_of}

-- the bytes of an atom look at its mark only where it is handed in
pub spelled-but : {t u : List ℤ} {n : ℕ} → ButMarks t u n → (a k sum : ℕ) → spelled_atom t a k sum ≡ spelled_atom u a k sum
unfolding spelled_atom without_brackets bracket_bytes
spelled-but s a k sum =
    rw (
      s.field a ELEMENT (omega arith) (λ e. omega arith),
      s.field a SELECTED (omega arith) (λ e. omega arith),
      s.field a ISOTOPE (omega arith) (λ e. omega arith),
      s.field a HYDROGENS (omega arith) (λ e. omega arith),
      s.field a CHARGE (omega arith) (λ e. omega arith),
      s.field a EXTENSION (omega arith) (λ e. omega arith),
    )

-- a loop that changes nothing
run-stays : {A : Type 0} (f : ℕ → A → A) (t : A) (k n : ℕ) → ((j : ℕ) → k ≤ j → j < k + n → f j t ≡ t) → run f k n t ≡ t
unfolding run
run-stays f t k zero h = refl
run-stays f t k (suc n) h = ap (run f (suc k) n) (h k (omega arith) (omega arith)) ∙ run-stays f t (suc k) n (λ j l u. h j (omega arith) (omega arith))

module _ (atoms bonds : List ℤ) (n m : ℕ) where
  -- only marks differ from the table's
  pub written-but : ButMarks (marks_written atoms bonds n m) atoms n
  unfolding marks_written
  written-but = turned-but (written_rank bonds n m) bonds m n n atoms

  pub written-cell : (a : ℕ) → a < n → atom_cell (marks_written atoms bonds n m) a MARK ≡ pos (turned_mark (written_rank bonds n m) atoms bonds m a)
  unfolding marks_written
  written-cell a h = turned-cell (written_rank bonds n m) bonds m n atoms a h

  pub written-mark : (a : ℕ) → a < n → mark (marks_written atoms bonds n m) a ≡ turned_mark (written_rank bonds n m) atoms bonds m a
  unfolding number
  written-mark a h = ap number (written-cell a h)

  pub written-valid : Valid atoms bonds n m → Valid (marks_written atoms bonds n m) bonds n m
  unfolding marks_written
  written-valid v = turned-valid (written_rank bonds n m) bonds m n n atoms v

  pub written-sound : sound atoms bonds n m ≡ true → sound (marks_written atoms bonds n m) bonds n m ≡ true
  unfolding marks_written
  written-sound h = turned-sound (written_rank bonds n m) bonds m n n atoms bonds m h

  -- without marks the table itself is written
  module _ (none : (a : ℕ) → a < n → atom_cell atoms a MARK ≡ pos 0) where
    pub unmarked-written : marks_written atoms bonds n m ≡ atoms
    unfolding marks_written turn_marks
    unmarked-written = run-stays (turn_mark (written_rank bonds n m) bonds m) atoms 0 n (λ a l h. unmarked-stays (written_rank bonds n m) bonds m atoms a (none a (omega arith)))

    pub unmarked-text : text_of atoms bonds n m ≡ tokens_bytes (atom_bytes atoms bonds m) (tokens bonds n m)
    unfolding text_of
    unmarked-text = ap (λ (t : List ℤ). tokens_bytes (atom_bytes t bonds m) (tokens bonds n m)) unmarked-written

-- ---- the same turns, by the walk's list of bonds

module _ (bonds : List ℤ) (a : ℕ) where
  numbers-from : (b m : ℕ) → bonds_from bonds a b m ≡ numbers_from a (up_to (walk_bond bonds) b m) b
  unfolding bonds_from up_to touches
  numbers-from b zero = refl
  numbers-from b (suc m) = go (touches bonds a b) (numbers-from (suc b) m)
    where
      go : (t : Bool) → bonds_from bonds a (suc b) m ≡ numbers_from a (up_to (walk_bond bonds) (suc b) m) (suc b)
          → pick t (b ∷ bonds_from bonds a (suc b) m) (bonds_from bonds a (suc b) m) ≡ cond t (b ∷ numbers_from a (up_to (walk_bond bonds) (suc b) m) (suc b)) (numbers_from a (up_to (walk_bond bonds) (suc b) m) (suc b))
      go true r = ap (λ (l : List ℕ). b ∷ l) r
      go false r = r

  pub bonds-numbers : (m : ℕ) → bonds_at bonds m a ≡ numbers_at a (bond_list bonds m)
  unfolding bonds_at numbers_at
  bonds-numbers m = numbers-from 0 m

pub rank_is : (bonds : List ℤ) (n m a b : ℕ) → b < m → written_rank bonds n m a b ≡ writer_rank n (bond_list bonds m) a b
unfolding written_rank writer_rank
rank_is bonds n m a b h = rw (up_to-at (walk_bond bonds) m b (bond 0 0 0) h)

pub with-hydrogen : (h : ℕ) (l : List ℕ) → hydrogen_rank h ++ l ≡ with_hydrogen (eqb h 1) l
with-hydrogen h l = go (eqb h 1)
  where
    go : (t : Bool) → pick t (1 ∷ []) [] ++ l ≡ with_hydrogen t l
    go true = refl
    go false = refl

-- the turn of an atom's mark, as walk_orders has it (`mark-carried`)
pub written-turns : (atoms bonds : List ℤ) (n m a : ℕ) → turns (written_rank bonds n m a) atoms bonds m a
    ≡ odd (with_hydrogen (eqb (hydrogens atoms a) 1) (map (writer_rank n (bond_list bonds m) a) (numbers_at a (bond_list bonds m))))
unfolding turns
written-turns atoms bonds n m a =
    ap odd
    (with-hydrogen (hydrogens atoms a) (map (written_rank bonds n m a) (bonds_at bonds m a))
    ∙ ap (with_hydrogen (eqb (hydrogens atoms a) 1)) (ranks-same bonds a (written_rank bonds n m a) (writer_rank n (bond_list bonds m) a) m (λ b h t. rank_is bonds n m a b h) ∙ ap (map (writer_rank n (bond_list bonds m) a)) (bonds-numbers bonds a m)))
