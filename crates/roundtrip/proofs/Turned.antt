-- The mark of an atom that is written, read and written again: turned as it is written, turned as it is read. Assumes nothing.
use mathlib.Core.Path.{◌≡◌, refl, sym, ap, ◌∙◌}
use mathlib.Core.Bool.{Bool, true, false, ◌||◌, cond}
use mathlib.Core.List.{List, map}
use Prim.Native.Nat.{ℕ, suc, ◌+◌, ◌*◌, ◌<◌, ◌≤◌}
use native.Mathlib.Omega.{arith}
use lib.Dec.{eqb}
use lib.ListN.{length, get_or}
use lib.IntN.{ℤ}
use borrow.Author.Tests.{eqb-true}
use Rattle.loops.specs.Loop.{pick}
use Rattle.loops.proofs.Loops.{up_to-at}
use Rattle.parity.specs.Parity.{odd}
use Rattle.parity.specs.Mark.{mark_if}
use Rattle.ids.specs.Limits.{max_text}
use Rattle.table.specs.Cells.{hydrogens, mark, end1, end2, touches}
use Rattle.table.specs.Orders.{bonds_at, turns, turned_mark, at_end}
use Rattle.table.proofs.Orders.{ranks-same}
use Rattle.reading.specs.Read.{rank_by, text_rank}
use Rattle.writing_walk.specs.Token.{Bond, bond}
use Rattle.writing_walk.specs.Emit.{pre}
use Rattle.writing_walk.specs.Walk.{forest_of, place}
use Rattle.writing_walk.specs.Keyed.{Keys, child_keys, key_of}
use Rattle.writing_walk.specs.Ranks.{key_at, Clock}
use Rattle.writing_walk.specs.Ranks as ranks
use Rattle.writing_walk.proofs.Walk.{Inside}
use Rattle.writing_walk.proofs.Trip.{completed}
use Rattle.writing_walk.proofs.Twice.{Distinct}
use Rattle.writing_walk.proofs.Seats.{ring_tokens}
use Rattle.walk_orders.specs.Orders.{numbers_at, with_hydrogen, writer_rank, reader_rank, new_number}
use Rattle.walk_orders.proofs.Marks.{mark-carried}
use Rattle.walk_orders.proofs.Again.{mark-again}
use Rattle.writing.specs.Write.{walk_bond, bond_list, written_rank}
use Rattle.writing.proofs.Marks.{bonds-numbers, with-hydrogen, written-turns}
use Rattle.roundtrip.proofs.Keying.{KeyTable}

never : {X : Type 0} → false ≡ true → X
never h = absurd (let z : ◌≡◌ {A = ℕ} 0 1 = cc in omega arith)

-- the reader's rank of a key is the walk's
same_rank : (key second a : ℕ) → rank_by key second a ≡ ranks.text_rank max_text a key second
unfolding ranks.text_rank
same_rank key second a = go (eqb key 0) (eqb second a)
  where
    go : (x y : Bool) → pick x (pick y 0 (max_text + 2 + second)) (key + 1) ≡ cond x (cond y 0 (max_text + 2 + second)) (suc key)
    go true true = refl
    go true false = refl
    go false y = omega arith

-- ---- the bonds U of a table, with the numbers l that a reading keeps of them, and their keys ks by a clock
module _ (U : List ℤ) (m : ℕ) (l : List ℕ) (clock : ℕ → ℕ) (ks : List Keys) (as_many : length ks ≡ m) (t : KeyTable clock l ks) (ordered : (b : ℕ) → b < m → end1 U b < end2 U b) (a : ℕ) where
  key-at : (b : ℕ) → b < m → touches U a b ≡ true → at_end l U a b ≡ clock (key_at a (walk_bond U b) (get_or ks b child_keys))
  unfolding touches
  key-at b h = go (eqb (end2 U b) a) refl (eqb (end1 U b) a) refl
    where
      go : (y : Bool) → eqb (end2 U b) a ≡ y → (x : Bool) → eqb (end1 U b) a ≡ x → (x || y) ≡ true → get_or l (2 * b + pick y 1 0) 0 ≡ clock (cond x (get_or ks b child_keys).low (get_or ks b child_keys).high)
      go true e true f g = absurd (let p = eqb-true (end2 U b) a e in let q = eqb-true (end1 U b) a f in let o = ordered b h in omega arith)
      go true e false f g = t.high b (omega arith)
      go false e true f g = let z : 2 * b + 0 ≡ 2 * b = omega arith in rw z (t.low b (omega arith))
      go false e false f g = never g

  rank-at : (b : ℕ) → b < m → touches U a b ≡ true → text_rank l U a b ≡ reader_rank clock max_text (bond_list U m) ks a b
  unfolding text_rank reader_rank
  rank-at b h g =
      ap (λ (k : ℕ). rank_by k (end2 U b) a) (key-at b h g)
      ∙ same_rank (clock (key_at a (walk_bond U b) (get_or ks b child_keys))) (end2 U b) a
      ∙ ap (λ (x : Bond). ranks.text_rank max_text a (clock (key_at a x (get_or ks b child_keys))) x.hi) (sym (up_to-at (walk_bond U) m b (bond 0 0 0) h))

  -- THE TURN of reading, as walk_orders has it
  pub read-turns : (T : List ℤ) → turns (text_rank l U a) T U m a ≡ odd (with_hydrogen (eqb (hydrogens T a) 1) (map (reader_rank clock max_text (bond_list U m) ks a) (numbers_at a (bond_list U m))))
  unfolding turns
  read-turns T =
      ap odd
      (with-hydrogen (hydrogens T a) (map (text_rank l U a) (bonds_at U m a))
      ∙ ap (with_hydrogen (eqb (hydrogens T a) 1)) (ranks-same U a (text_rank l U a) (reader_rank clock max_text (bond_list U m) ks a) m rank-at ∙ ap (map (reader_rank clock max_text (bond_list U m) ks a)) (bonds-numbers U a m)))

-- ---- the atom w of n, read as the atom x; H: the atoms as they are read, before marks are turned, T: after
module _ (atoms bonds U : List ℤ) (n m : ℕ) (i : Inside n (bond_list bonds m)) (d : Distinct (bond_list bonds m)) (listed : bond_list U m ≡ completed n (bond_list bonds m))
    (l : List ℕ) (clock : ℕ → ℕ) (c : Clock clock (ring_tokens n (bond_list bonds m))) (large : clock (ring_tokens n (bond_list bonds m)) ≤ max_text)
    (as_many : length (map (key_of n (bond_list bonds m)) (completed n (bond_list bonds m))) ≡ m) (t : KeyTable clock l (map (key_of n (bond_list bonds m)) (completed n (bond_list bonds m)))) (ordered : (b : ℕ) → b < m → end1 U b < end2 U b) (w : ℕ) (h : w < n) where
  abbrev bs : List Bond
  bs = bond_list bonds m

  abbrev x : ℕ
  x = place (pre (forest_of n bs)) w

  -- the mark that is written
  abbrev text-mark : ℕ
  text-mark = turned_mark (written_rank bonds n m) atoms bonds m w

  turns-read : (H : List ℤ) → turns (text_rank l U x) H U m x ≡ odd (with_hydrogen (eqb (hydrogens H x) 1) (map (reader_rank clock max_text (completed n bs) (map (key_of n bs) (completed n bs)) x) (numbers_at x (completed n bs))))
  turns-read H =
      read-turns U m l clock (map (key_of n bs) (completed n bs)) as_many t ordered x H
      ∙ ap (λ (r : List Bond). odd (with_hydrogen (eqb (hydrogens H x) 1) (map (reader_rank clock max_text r (map (key_of n bs) (completed n bs)) x) (numbers_at x r)))) listed

  -- THE MARK READ: turned where the old and the new bond numbers are an odd number of swaps apart
  pub mark-read : (H : List ℤ) → hydrogens H x ≡ hydrogens atoms w → mark H x ≡ text-mark → turned_mark (text_rank l U) H U m x ≡ mark_if (odd (map (new_number n bs (completed n bs)) (numbers_at w bs))) (mark atoms w)
  unfolding turned_mark
  mark-read H e f =
      (λ j. mark_if (turns-read H j) (f j))
      ∙ ap (λ (y : ℕ). mark_if (odd (with_hydrogen (eqb y 1) (map (reader_rank clock max_text (completed n bs) (map (key_of n bs) (completed n bs)) x) (numbers_at x (completed n bs))))) text-mark) e
      ∙ ap (λ (y : Bool). mark_if (odd (with_hydrogen (eqb (hydrogens atoms w) 1) (map (reader_rank clock max_text (completed n bs) (map (key_of n bs) (completed n bs)) x) (numbers_at x (completed n bs))))) (mark_if y (mark atoms w))) (written-turns atoms bonds n m w)
      ∙ mark-carried n bs i d w h clock max_text c large (eqb (hydrogens atoms w) 1) (mark atoms w)

  -- THE MARK WRITTEN AGAIN is that of the text
  pub mark-rewritten : (H T : List ℤ) → x < n → hydrogens T x ≡ hydrogens H x → mark T x ≡ turned_mark (text_rank l U) H U m x → mark H x ≡ text-mark → turned_mark (written_rank U n m) T U m x ≡ text-mark
  unfolding turned_mark
  mark-rewritten H T k e f g =
      (λ j. mark_if (written-turns T U n m x j) ((f ∙ (λ o. mark_if (turns-read H o) (g o))) j))
      ∙ (λ j. mark_if (odd (with_hydrogen (eqb (e j) 1) (map (writer_rank n (listed j) x) (numbers_at x (listed j))))) (mark_if (odd (with_hydrogen (eqb (hydrogens H x) 1) (map (reader_rank clock max_text (completed n bs) (map (key_of n bs) (completed n bs)) x) (numbers_at x (completed n bs))))) text-mark))
      ∙ mark-again n bs i d x k clock max_text c large (eqb (hydrogens H x) 1) text-mark
