-- Writing what was read puts each tetrahedral mark back as it stood in the text. Assumes nothing.
use Prim.Native.Nat.{ℕ, suc, ◌+◌, ◌≤◌, ◌<◌}
use native.Mathlib.Omega.{arith}
use mathlib.Core.Path.{◌≡◌, refl, sym, ap, ◌∙◌}
use mathlib.Core.Bool.{Bool, true, false, ◌&&◌, cond}
use mathlib.Core.List.{List, [], ◌∷◌, map}
use lib.Dec.{ltb}
use lib.ListN.{length}
use Rattle.parity.specs.Parity.{flip_if, oddly, over, odd}
use Rattle.parity.specs.Mark.{mark_if}
use Rattle.parity.proofs.Flips.{flip-self}
use Rattle.parity.proofs.Turns.{turned-odd, alike-even}
use Rattle.parity.proofs.Marks.{mark-both}
use Rattle.writing_walk.specs.Token.{Bond}
use Rattle.writing_walk.specs.Emit.{Forest, leaf, node, size, pre}
use Rattle.writing_walk.specs.Walk.{forest_of, place}
use Rattle.writing_walk.specs.Same.{All, none, more}
use Rattle.writing_walk.specs.Flat.{ups}
use Rattle.writing_walk.specs.Keyed.{Keys, child_keys, key_of}
use Rattle.writing_walk.specs.Ranks.{touches, other_end, key_at, walk_rank, text_rank, rank_written, rank_read, Clock}
use Rattle.writing_walk.proofs.Count.{all_map}
use Rattle.writing_walk.proofs.Walk.{Inside}
use Rattle.writing_walk.proofs.Trip.{completed}
use Rattle.writing_walk.proofs.Again.{number, size_number}
use Rattle.writing_walk.proofs.Twice.{Distinct, forest-again, order-again, place_same}
use Rattle.writing_walk.proofs.Seats.{ReadAt, ring_tokens, ranks-alike, first_alike, other-below}
use Rattle.walk_orders.specs.Orders.{bond_at, numbers_from, numbers_at, with_hydrogen, writer_rank, reader_rank}
use Rattle.walk_orders.proofs.Numbers.{at-counted}
use Rattle.walk_orders.proofs.Marks.{at_map, oddly-of, oddly-same, all_listed, odd-hydrogen}

-- the parents do not depend on how the atoms are named
ups-number : (F : Forest) (m p n : ℕ) → ups (number F m) p n ≡ ups F p n
ups-number leaf m p n = refl
ups-number (node w k f g) m p n = rw (size_number f (suc m), ups-number f (suc m) (suc n) (suc n), ups-number g (suc m + size f) p (suc n + size f))

-- what holds of each bond at x holds of their numbers
from_all : (P : ℕ → Type 0) (x : ℕ) (l : List Bond) (a : ℕ) → ((j : ℕ) → j < length l → touches x (bond_at l j) ≡ true → P (a + j)) → All P (numbers_from x l a)
from_all P x [] a h = none
from_all P x (c ∷ l) a h =
    go (touches x c) (λ t. (let e : a + 0 ≡ a = omega arith in rw e at (h 0 (omega arith) t)))
    (from_all P x l (suc a) (λ j k t. let e : a + suc j ≡ suc a + j = omega arith in rw e at (h (suc j) (omega arith) t)))
  where
    go : (t : Bool) → (t ≡ true → P a) → All P (numbers_from x l (suc a)) → All P (cond t (a ∷ numbers_from x l (suc a)) (numbers_from x l (suc a)))
    go true e r = more (e refl) r
    go false e r = r

numbers-all : (P : ℕ → Type 0) (x : ℕ) (l : List Bond) → ((j : ℕ) → j < length l → touches x (bond_at l j) ≡ true → P j) → All P (numbers_at x l)
unfolding numbers_at
numbers-all P x l h = from_all P x l 0 (λ j k t. let e : 0 + j ≡ j = omega arith in rw e (h j k t))

unflipped : (a b : Bool) → flip_if a b ≡ false → a ≡ b
unflipped true true e = refl
unflipped true false e = e
unflipped false true e = sym e
unflipped false false e = refl

module _ (n : ℕ) (bs : List Bond) (i : Inside n bs) (d : Distinct bs) (x : ℕ) (h : x < n) (clock : ℕ → ℕ) (big : ℕ) (c : Clock clock (ring_tokens n bs)) (large : clock (ring_tokens n bs) ≤ big) where
  abbrev read : List Bond
  read = completed n bs

  abbrev written : ℕ → ℕ
  written j = writer_rank n read x j

  abbrev told : ℕ → ℕ
  told j = reader_rank clock big read (map (key_of n bs) read) x j

  -- a bond read at x: written again it has the rank that it had, and its key is as it was read
  pub record Ranked (j : ℕ) : Type 0 where
    pub found : ReadAt n bs x (bond_at read j)
    pub again : written j ≡ rank_written n bs x (bond_at read j)
    pub first : told j ≡ rank_read clock big n bs x (bond_at read j)

  same_place : (u : ℕ) → u < n → place (pre (forest_of n read)) u ≡ u
  same_place u g = ap (λ (l : List ℕ). place l u) (order-again n bs i) ∙ place_same n u g

  ranked : (j : ℕ) → j < length read → touches x (bond_at read j) ≡ true → Ranked j
  unfolding writer_rank reader_rank
  ranked j l t =
      let b = bond_at read j in
      let f : ReadAt n bs x b = (at-counted read j l, t) in
      let u : ups (forest_of n read) 0 0 ≡ ups (forest_of n bs) 0 0 = ap (λ (F : Forest). ups F 0 0) (forest-again n bs i) ∙ ups-number (forest_of n bs) 0 0 0 in
      record {
        found = f;
        again = λ k. walk_rank n (u k) (same_place x h k) (same_place (other_end x b) (other-below n bs i d x b f) k);
        first = ap (λ (k : Keys). text_rank big x (clock (key_at x b k)) b.hi) (at_map (key_of n bs) child_keys read j l);
      }

  ranked-all : All Ranked (numbers_at x read)
  ranked-all = numbers-all Ranked x read ranked

  over-alike : (j k : ℕ) → Ranked j → Ranked k → over (told j) (told k) ≡ over (written j) (written k)
  over-alike j k p q =
      (λ m. ltb (q.first m) (p.first m))
      ∙ ranks-alike n bs i d x clock big c large (bond_at read k) (bond_at read j) q.found p.found
      ∙ (λ m. ltb (sym q.again m) (sym p.again m))

  first-same : (j : ℕ) → Ranked j → over 1 (told j) ≡ over 1 (written j)
  first-same j p = ap (λ (r : ℕ). ltb r 1) p.first ∙ first_alike n bs i d x clock big c large (bond_at read j) p.found ∙ ap (λ (r : ℕ). ltb r 1) (sym p.again)

  odd-same : odd (map told (numbers_at x read)) ≡ odd (map written (numbers_at x read))
  odd-same =
      unflipped (odd (map told (numbers_at x read))) (odd (map written (numbers_at x read)))
      (sym (turned-odd told written (numbers_at x read))
      ∙ alike-even told written (numbers_at x read) (λ j k p q. over-alike j k (all_listed Ranked (numbers_at x read) ranked-all j p) (all_listed Ranked (numbers_at x read) ranked-all k q)))

  before_same : oddly (over 1) (map told (numbers_at x read)) ≡ oddly (over 1) (map written (numbers_at x read))
  before_same =
      oddly-of (over 1) told (numbers_at x read)
      ∙ oddly-same (λ j. over 1 (told j)) (λ j. over 1 (written j)) (numbers_at x read) (all_map Ranked (λ j. over 1 (told j) ≡ over 1 (written j)) first-same (numbers_at x read) ranked-all)
      ∙ sym (oddly-of (over 1) written (numbers_at x read))

  -- the turn of reading is the turn of writing what was read
  pub turn-again : (a : Bool) → odd (with_hydrogen a (map told (numbers_at x read))) ≡ odd (with_hydrogen a (map written (numbers_at x read)))
  turn-again a =
      odd-hydrogen a (map told (numbers_at x read)) ∙ (λ m. flip_if (a && before_same m) (odd-same m)) ∙ sym (odd-hydrogen a (map written (numbers_at x read)))

  -- THE STATEMENT: a mark of the text, turned as it is read and turned as it is written again, is that mark
  pub mark-again : (a : Bool) (k : ℕ)
      → mark_if (odd (with_hydrogen a (map (writer_rank n read x) (numbers_at x read)))) (mark_if (odd (with_hydrogen a (map (reader_rank clock big read (map (key_of n bs) read) x) (numbers_at x read)))) k) ≡ k
  mark-again a k =
      mark-both (odd (with_hydrogen a (map written (numbers_at x read)))) (odd (with_hydrogen a (map told (numbers_at x read)))) k
      ∙ ap (λ (t : Bool). mark_if (flip_if (odd (with_hydrogen a (map written (numbers_at x read)))) t) k) (turn-again a)
      ∙ ap (λ (t : Bool). mark_if t k) (flip-self (odd (with_hydrogen a (map written (numbers_at x read)))))
