-- What becomes of a tetrahedral mark that is written and read: turned exactly where the old and the new bond numbers are an odd number of swaps apart. Assumes nothing.
use Prim.Native.Nat.{ℕ, zero, suc, ◌≤◌, ◌<◌}
use native.Mathlib.Omega.{arith}
use mathlib.Core.Path.{◌≡◌, refl, sym, ap, ◌∙◌, subst}
use mathlib.Core.Bool.{Bool, true, false, not, ◌&&◌, cond}
use mathlib.Core.List.{List, [], ◌∷◌, map}
use lib.Dec.{eqb, ltb}
use lib.ListN.{length, get_or}
use borrow.Author.Tests.{eqb-true}
use Rattle.parity.specs.Parity.{flip_if, oddly, odd_pairs, over, odd, absent, unlike, ascending, turned, Apart, Perm}
use Rattle.parity.specs.Mark.{mark_if, turn_between}
use Rattle.parity.proofs.Items.{oddly-perm}
use Rattle.parity.proofs.Turns.{Listed, turned-back, turned-listed, apart-perm, alike-even}
use Rattle.parity.proofs.Marks.{mark-trip}
use Rattle.writing_walk.specs.Token.{Bond, bond, eq_bond}
use Rattle.writing_walk.specs.Emit.{pre}
use Rattle.writing_walk.specs.Walk.{forest_of, place, renumber, renumbered, keep}
use Rattle.writing_walk.specs.Same.{count, All, none, more}
use Rattle.writing_walk.specs.Flat.{ups}
use Rattle.writing_walk.specs.Keyed.{Keys, child_keys, key_of, index_of}
use Rattle.writing_walk.specs.Ranks.{touches, other_end, key_at, walk_rank, text_rank, rank_read, Clock}
use Rattle.writing_walk.proofs.Count.{never, eqb_same, all-at, all_map}
use Rattle.writing_walk.proofs.Walk.{Inside}
use Rattle.writing_walk.proofs.Trip.{completed, renumbering, round_trip, in_map}
use Rattle.writing_walk.proofs.Twice.{Distinct, completed-inside}
use Rattle.writing_walk.proofs.Times.{distinct-completed}
use Rattle.writing_walk.proofs.Ranks.{walk-apart, walk-not-one, text-not-one}
use Rattle.writing_walk.proofs.Seats.{ReadAt, ring_tokens, ranks-alike, first_alike, read-apart, other-below}
use Rattle.writing_walk.proofs.Order.{atom-place}
use Rattle.walk_orders.specs.Orders.{bond_at, numbers_at, with_hydrogen, writer_rank, reader_rank, new_number}
use Rattle.walk_orders.proofs.Numbers.{ends_at, map_same, numbers-map, numbers-ascend, ascending-unlike, unlike-map, absent-rank, map-map, index-found, at-counted, number_to, joins, joined_once, first-only, number-back, numbers-back, ends-unlike, all-ends}
use Rattle.walk_orders.proofs.Carried.{perm-back, walk_ends, touches-place, other_place, same_ends_lem}

pub at_map : {A : Type 0} (f : Bond → A) (a : A) (l : List Bond) (j : ℕ) → j < length l → get_or (map f l) j a ≡ f (bond_at l j)
at_map f a [] j h = absurd (omega arith)
at_map f a (b ∷ l) zero h = refl
at_map f a (b ∷ l) (suc j) h = at_map f a l j (omega arith)

pub oddly-of : (t : ℕ → Bool) (f : ℕ → ℕ) (l : List ℕ) → oddly t (map f l) ≡ oddly (λ y. t (f y)) l
unfolding oddly
oddly-of t f [] = refl
oddly-of t f (y ∷ l) = ap (flip_if (t (f y))) (oddly-of t f l)

pub oddly-same : (s t : ℕ → Bool) (l : List ℕ) → All (λ y. s y ≡ t y) l → oddly s l ≡ oddly t l
unfolding oddly
oddly-same s t [] none = refl
oddly-same s t (y ∷ l) (more h a) = λ j. flip_if (h j) (oddly-same s t l a j)

pub all_listed : (P : ℕ → Type 0) (l : List ℕ) → All P l → (y : ℕ) → Listed l y → P y
unfolding absent
all_listed P [] none y e = absurd (never true refl e)
all_listed P (z ∷ l) (more p a) y e = go (eqb y z) refl e (all_listed P l a y)
  where
    go : (t : Bool) → eqb y z ≡ t → (not t && absent y l) ≡ false → (Listed l y → P y) → P y
    go true t e f = subst P (sym (eqb-true y z t)) p
    go false t e f = f e

map-named : (f : ℕ → ℕ) (g : ℕ → ℕ) (l : List ℕ) → map f (map g l) ≡ map (λ y. f (g y)) l
map-named f g [] = refl
map-named f g (y ∷ l) = ap (λ (r : List ℕ). f (g y) ∷ r) (map-named f g l)

pub odd-hydrogen : (h : Bool) (l : List ℕ) → odd (with_hydrogen h l) ≡ flip_if (h && oddly (over 1) l) (odd l)
unfolding odd odd_pairs
odd-hydrogen true l = refl
odd-hydrogen false l = refl

unlike-hydrogen : (h : Bool) (f : ℕ → ℕ) → ((y : ℕ) → f y ≡ 1 → ⊥) → (l : List ℕ) → unlike (map f l) ≡ true → unlike (with_hydrogen h (map f l)) ≡ true
unfolding unlike
unlike-hydrogen true f e l u = rw (absent-rank 1 f e l) u
unlike-hydrogen false f e l u = u

-- each bond is read, under the renumbering
pub is_read : (n : ℕ) (bs : List Bond) → Inside n bs → (j : ℕ) → j < length bs → 0 < count (eq_bond (renumber (pre (forest_of n bs)) (bond_at bs j))) (completed n bs)
unfolding renumbered
is_read n bs i j l =
    let order = pre (forest_of n bs) in
    let q : count (eq_bond (renumber order (bond_at bs j))) (completed n bs) ≡ count (eq_bond (renumber order (bond_at bs j))) (map (renumber order) bs) = (round_trip n (λ v. v) bs i).bonds (eq_bond (renumber order (bond_at bs j))) in
    let r = in_map (renumber order) (bond_at bs j) bs (at-counted bs j l) in
    omega arith

-- ---- the atom v of n, with the walk number x, and the bonds read, with their keys, under a clock

module _ (n : ℕ) (bs : List Bond) (i : Inside n bs) (d : Distinct bs) (v : ℕ) (h : v < n) (clock : ℕ → ℕ) (big : ℕ) (c : Clock clock (ring_tokens n bs)) (large : clock (ring_tokens n bs) ≤ big) where
  abbrev order : List ℕ
  order = pre (forest_of n bs)

  abbrev x : ℕ
  x = place order v

  abbrev read : List Bond
  read = completed n bs

  abbrev ends-old : List ℕ
  ends-old = walk_ends n bs v

  abbrev ends-new : List ℕ
  ends-new = ends_at x read

  -- an atom to which a bond of x goes, by its walk number: how the writer and the reader rank the bond, and its old and its new number
  abbrev rank : ℕ → ℕ
  rank y = walk_rank n (ups (forest_of n bs) 0 0) x y

  abbrev new : ℕ → ℕ
  new y = number_to x read y

  abbrev text : ℕ → ℕ
  text y = reader_rank clock big read (map (key_of n bs) read) x (new y)

  abbrev old : ℕ → ℕ
  old y = number_to v bs (get_or order y 0)

  in-read : Inside n read
  in-read = completed-inside n bs i

  -- a bond read at x, with that atom at its other end
  pub record Standing (y : ℕ) : Type 0 where
    pub it : Bond
    pub found : ReadAt n bs x it
    pub ends-in : other_end x it ≡ y
    pub ranked : text y ≡ rank_read clock big n bs x it

  standing : (j : ℕ) → j < length read → touches x (bond_at read j) ≡ true → Standing (other_end x (bond_at read j))
  unfolding reader_rank
  standing j l t =
      let b = bond_at read j in
      let e : new (other_end x b) ≡ j = number-back n read in-read (distinct-completed n bs i d) x j l t in
      record {
        it = b;
        found = (at-counted read j l, t);
        ends-in = refl;
        ranked = ap (λ (m : ℕ). reader_rank clock big read (map (key_of n bs) read) x m) e ∙ ap (λ (k : Keys). text_rank big x (clock (key_at x b k)) b.hi) (at_map (key_of n bs) child_keys read j l);
      }

  standing-all : All Standing ends-new
  standing-all = all-ends Standing x read standing

  -- both rank the bonds at x alike, and with them the hydrogen
  over-alike : (y z : ℕ) → Standing y → Standing z → over (rank y) (rank z) ≡ over (text y) (text z)
  over-alike y z p q =
      (λ j. ltb (rank (sym q.ends-in j)) (rank (sym p.ends-in j)))
      ∙ sym (ranks-alike n bs i d x clock big c large q.it p.it q.found p.found)
      ∙ (λ j. ltb (sym q.ranked j) (sym p.ranked j))

  first-same : (y : ℕ) → Standing y → over 1 (text y) ≡ over 1 (rank y)
  first-same y p =
      ap (λ (r : ℕ). ltb r 1) p.ranked ∙ first_alike n bs i d x clock big c large p.it p.found ∙ ap (λ (z : ℕ). ltb (rank z) 1) p.ends-in

  pub alike : turned rank text ends-new ≡ false
  alike = alike-even rank text ends-new (λ y z p q. over-alike y z (all_listed Standing ends-new standing-all y p) (all_listed Standing ends-new standing-all z q))

  -- the ranks and the numbers as they are listed
  ranks-listed : map rank ends-old ≡ map (writer_rank n bs v) (numbers_at v bs)
  unfolding writer_rank
  ranks-listed = map-map rank (λ b. place order (other_end v b)) (keep (touches v) bs) ∙ sym (numbers-map v (writer_rank n bs v) (λ b. rank (place order (other_end v b))) bs (λ j l t. refl))

  new-listed : map new ends-new ≡ numbers_at x read
  new-listed = numbers-back n read in-read (distinct-completed n bs i d) x

  texts-listed : map text ends-new ≡ map (reader_rank clock big read (map (key_of n bs) read) x) (numbers_at x read)
  texts-listed = sym (map-named (reader_rank clock big read (map (key_of n bs) read) x) new ends-new) ∙ ap (map (reader_rank clock big read (map (key_of n bs) read) x)) new-listed

  -- a bond of bs
  bond-inside : (j : ℕ) → j < length bs → ((bond_at bs j).lo < (bond_at bs j).hi) × ((bond_at bs j).hi < n)
  bond-inside j l = all-at (λ b. (b.lo < b.hi) × (b.hi < n)) (bond 0 0 0) bs j i l

  other-inside : (j : ℕ) → j < length bs → other_end v (bond_at bs j) < n
  other-inside j l = go (eqb (bond_at bs j).lo v) (bond-inside j l)
    where
      go : (t : Bool) → ((bond_at bs j).lo < (bond_at bs j).hi) × ((bond_at bs j).hi < n) → cond t (bond_at bs j).hi (bond_at bs j).lo < n
      go true g = g.1
      go false g = let a = g.0 in let b = g.1 in omega arith

  old-listed : map old ends-old ≡ numbers_at v bs
  old-listed =
      map-map old (λ b. place order (other_end v b)) (keep (touches v) bs)
      ∙ sym (numbers-map v (λ j. j) (λ b. old (place order (other_end v b))) bs
      (λ j l t. sym (ap (number_to v bs) (atom-place (renumbering n bs i) (other_end v (bond_at bs j)) (other-inside j l)) ∙ number-back n bs i d v j l t)))
      ∙ map_same (numbers_at v bs)

  -- the new number of a bond of bs
  new-number : (j : ℕ) → j < length bs → touches v (bond_at bs j) ≡ true → new_number n bs read j ≡ new (place order (other_end v (bond_at bs j)))
  unfolding new_number
  new-number j l t =
      let b = renumber order (bond_at bs j) in
      let y = place order (other_end v (bond_at bs j)) in
      let g = bond-inside j l in
      let f = index-found b read (is_read n bs i j l) in
      let e : joins x y b ≡ true = rw (touches-place n bs i v h (bond_at bs j) g, t, other_place n bs i v h (bond_at bs j) g t) (eqb_same y) in
      sym (first-only (joins x y) read (joined_once n read in-read (distinct-completed n bs i d) x y) (index_of b read) f.0 (ap (joins x y) f.1 ∙ e))

  renumbered-listed : map new ends-old ≡ map (new_number n bs read) (numbers_at v bs)
  renumbered-listed =
      map-map new (λ b. place order (other_end v b)) (keep (touches v) bs) ∙ sym (numbers-map v (new_number n bs read) (λ b. new (place order (other_end v b))) bs new-number)

  -- no two of them are the same
  old-new : Perm ends-old ends-new
  old-new = same_ends_lem n bs i v h

  rank-apart : Apart rank ends-old
  rank-apart =
      apart-perm rank (perm-back old-new)
      (unlike-map (λ y. y < n) rank (walk-apart n (ups (forest_of n bs) 0 0) x) ends-new
      (all_map Standing (λ y. y < n) (λ y p. subst (λ (z : ℕ). z < n) p.ends-in (other-below n bs i d x p.it p.found)) ends-new standing-all)
      (ends-unlike n read in-read (distinct-completed n bs i d) x))

  new_apart : Apart new ends-old
  new_apart = apart-perm new (perm-back old-new) (ap unlike new-listed ∙ ascending-unlike (numbers_at x read) (numbers-ascend x read))

  text-apart : Apart text ends-new
  text-apart =
      unlike-map Standing text
      (λ y z p q e. sym p.ends-in ∙ ap (other_end x) (read-apart n bs i d x clock big c large p.it q.it p.found q.found (sym p.ranked ∙ e ∙ q.ranked)) ∙ q.ends-in)
      ends-new standing-all (ends-unlike n read in-read (distinct-completed n bs i d) x)

  -- as many bonds before the hydrogen, as they are written and as they are read
  before-hydrogen : oddly (over 1) (map text ends-new) ≡ oddly (over 1) (map rank ends-old)
  before-hydrogen =
      oddly-of (over 1) text ends-new
      ∙ oddly-same (λ y. over 1 (text y)) (λ y. over 1 (rank y)) ends-new (all_map Standing (λ y. over 1 (text y) ≡ over 1 (rank y)) first-same ends-new standing-all)
      ∙ oddly-perm (λ y. over 1 (rank y)) (perm-back old-new)
      ∙ sym (oddly-of (over 1) rank ends-old)

  abbrev behind : Bool → Bool
  behind a = a && oddly (over 1) (map rank ends-old)

  written-turn : (a : Bool) → odd (with_hydrogen a (map (writer_rank n bs v) (numbers_at v bs))) ≡ turn_between (behind a) rank old ends-old
  unfolding turn_between
  written-turn a =
      ap (λ (l : List ℕ). odd (with_hydrogen a l)) (sym ranks-listed)
      ∙ odd-hydrogen a (map rank ends-old)
      ∙ ap (flip_if (behind a)) (sym (turned-listed ends-old rank old (ap ascending old-listed ∙ numbers-ascend v bs)))

  read-turn : (a : Bool) → odd (with_hydrogen a (map (reader_rank clock big read (map (key_of n bs) read) x) (numbers_at x read))) ≡ turn_between (behind a) text new ends-new
  unfolding turn_between
  read-turn a =
      ap (λ (l : List ℕ). odd (with_hydrogen a l)) (sym texts-listed)
      ∙ odd-hydrogen a (map text ends-new)
      ∙ ap (λ (b : Bool). flip_if (a && b) (odd (map text ends-new))) before-hydrogen
      ∙ ap (flip_if (behind a)) (sym (turned-listed ends-new text new (ap ascending new-listed ∙ numbers-ascend x read)))

  numbers-turn : turned old new ends-old ≡ odd (map (new_number n bs read) (numbers_at v bs))
  numbers-turn = turned-back ends-old old new ∙ turned-listed ends-old new old (ap ascending old-listed ∙ numbers-ascend v bs) ∙ ap odd renumbered-listed

  -- THE STATEMENT: a mark turned as the atom is written (a: it has a hydrogen), and turned as it is read, is the mark, turned exactly if the new numbers of the atom's bonds, listed by their old ones, are an odd number of swaps from ascending
  pub mark-carried : (a : Bool) (k : ℕ)
      → mark_if (odd (with_hydrogen a (map (reader_rank clock big read (map (key_of n bs) read) x) (numbers_at x read)))) (mark_if (odd (with_hydrogen a (map (writer_rank n bs v) (numbers_at v bs)))) k)
      ≡ mark_if (odd (map (new_number n bs read) (numbers_at v bs))) k
  mark-carried a k =
      (λ j. mark_if (read-turn a j) (mark_if (written-turn a j) k))
      ∙ mark-trip (behind a) old new rank text old-new alike rank-apart new_apart k
      ∙ ap (λ (b : Bool). mark_if b k) numbers-turn

  -- in each of the three lists no number stands twice, so that every number of swaps that sorts it tells the same parity (parity's `sorting-swaps`)
  pub written-unlike : (a : Bool) → unlike (with_hydrogen a (map (writer_rank n bs v) (numbers_at v bs))) ≡ true
  written-unlike a = ap (λ (l : List ℕ). unlike (with_hydrogen a l)) (sym ranks-listed) ∙ unlike-hydrogen a rank (walk-not-one n (ups (forest_of n bs) 0 0) x) ends-old rank-apart

  pub read-unlike : (a : Bool) → unlike (with_hydrogen a (map (reader_rank clock big read (map (key_of n bs) read) x) (numbers_at x read))) ≡ true
  unfolding reader_rank
  read-unlike a =
      ap (λ (l : List ℕ). unlike (with_hydrogen a l)) (sym texts-listed)
      ∙ unlike-hydrogen a text (λ y. text-not-one big x (clock (key_at x (bond_at read (new y)) (get_or (map (key_of n bs) read) (new y) child_keys))) (bond_at read (new y)).hi) ends-new text-apart

  pub numbers-unlike : unlike (map (new_number n bs read) (numbers_at v bs)) ≡ true
  numbers-unlike = ap unlike (sym renumbered-listed) ∙ new_apart
