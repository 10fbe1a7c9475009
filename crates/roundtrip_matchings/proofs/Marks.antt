-- How many marks place a neighbour on a side of an atom, and how many double bonds an atom has, are sums over its bonds: so a renumbering keeps them, and with them that 20 and 21 are not given. Assumes nothing.
use Prim.Native.Nat.{ℕ, zero, suc, ◌+◌, ◌<◌}
use native.Mathlib.Omega.{arith}
use mathlib.Core.Path.{◌≡◌, refl, sym, ap, subst, ◌∙◌}
use mathlib.Core.Bool.{Bool, true, false, ◌&&◌, ◌||◌, not, cond}
use mathlib.Core.List.{List}
use lib.Dec.{eqb}
use lib.IntN.{ℤ}
use Rattle.kinds.specs.Kind.{elided, double, up, down, is_mark, mark_of, turned}
use Rattle.kinds.proofs.Kind.{turned-mark_of, turned-double, turned-mark}
use Rattle.loops.specs.Loop.{pick, each, how_many, up_to}
use Rattle.loops.proofs.Loops.{each_at, each_all, length-up_to, up_to-at}
use Rattle.table.specs.Cells.{end1, end2, kind, touches}
use Rattle.table.specs.Marks.{side, side_count, double_at, double_count, crowded, none_crowded, none_stray}
use lib.ListN.{length}
use Rattle.writing_walk.specs.Token.{Bond, bond}
use Rattle.writing_walk.specs.Emit.{pre}
use Rattle.writing_walk.specs.Walk.{forest_of, place}
use Rattle.writing_walk.proofs.Count.{All, all-at}
use Rattle.writing_walk.proofs.Walk.{Inside}
use Rattle.writing_walk.proofs.Trip.{completed}
use Rattle.writing_walk.proofs.Sums.{total, weight_at, sum_kept}
use Rattle.writing_walk.proofs.Seen.{aimed_at, aimed-kept, tests-kept}
use Rattle.writing.specs.Write.{walk_bond, bond_list}
use Rattle.writing.proofs.Bonds.{all-up_to}

-- a count over the bonds is a sum over their list
many-total : (p : ℕ → Bool) (f : Bond → ℕ) (bonds : List ℤ) → ((b : ℕ) → pick (p b) 1 0 ≡ f (walk_bond bonds b)) → (k m : ℕ) → how_many p k m ≡ total f (up_to (walk_bond bonds) k m)
unfolding how_many up_to
many-total p f bonds h k zero = refl
many-total p f bonds h k (suc m) = λ i. h k i + many-total p f bonds h (suc k) m i

-- a double bond counts 1, from either end
abbrev pub as_double : ℕ → ℕ
as_double k = pick (eqb k double) 1 0

pub double-either : (k : ℕ) → as_double (turned k) ≡ as_double k
double-either k = ap (λ (x : Bool). pick x 1 0) (turned-double k)

pub double-total : (bonds : List ℤ) (m a : ℕ) → double_count bonds m a ≡ total (weight_at as_double a) (bond_list bonds m)
unfolding double_count touches
double-total bonds m a = many-total (double_at bonds a) (weight_at as_double a) bonds (λ b. go (eqb (end1 bonds b) a || eqb (end2 bonds b) a) (eqb (kind bonds b) double)) 0 m
  where
    go : (x y : Bool) → pick {A = ℕ} (x && y) 1 0 ≡ cond x (pick y 1 0) 0
    go true y = refl
    go false y = refl

-- a mark counts 1 where it is s, as seen from the atom
abbrev pub as_side : ℕ → ℕ → ℕ
as_side s k = pick (eqb (mark_of k) s) 1 0

pub side-total : (bonds : List ℤ) (m a s : ℕ) → eqb elided s ≡ false → side_count bonds m a s ≡ total (aimed_at (as_side s) a) (bond_list bonds m)
unfolding side_count side
side-total bonds m a s e = many-total (λ b. eqb (side bonds a b) s) (aimed_at (as_side s) a) bonds (λ b. go b (eqb (end1 bonds b) a) (eqb (end2 bonds b) a)) 0 m
  where
    go : (b : ℕ) (x y : Bool) → pick {A = ℕ} (eqb (pick x (mark_of (kind bonds b)) (pick y (turned (mark_of (kind bonds b))) elided)) s) 1 0 ≡ cond x (as_side s (kind bonds b)) (cond y (as_side s (turned (kind bonds b))) 0)
    go b true y = refl
    go b false true = ap (λ (k : ℕ). pick (eqb k s) 1 0) (sym (turned-mark_of (kind bonds b)))
    go b false false = rw e

-- ---- a molecule and what is read of its text
module _ (bonds U : List ℤ) (n m : ℕ) (i : Inside n (bond_list bonds m)) (e : bond_list U m ≡ completed n (bond_list bonds m)) where
  abbrev bs : List Bond
  bs = bond_list bonds m

  abbrev walked : List ℕ
  walked = pre (forest_of n bs)

  -- ON WHICH SIDE marked neighbours lie does not change
  pub sides-same : (s : ℕ) → eqb elided s ≡ false → (w : ℕ) → w < n → side_count U m (place walked w) s ≡ side_count bonds m w s
  sides-same s q w l = side-total U m (place walked w) s q ∙ ap (total (aimed_at (as_side s) (place walked w))) e ∙ aimed-kept n bs i (as_side s) w l ∙ sym (side-total bonds m w s q)

  doubles-same : (w : ℕ) → w < n → double_count U m (place walked w) ≡ double_count bonds m w
  doubles-same w l = double-total U m (place walked w) ∙ ap (total (weight_at as_double (place walked w))) e ∙ sum_kept n bs i as_double double-either w l ∙ sym (double-total bonds m w)

  crowded-same : (w : ℕ) → w < n → crowded U m (place walked w) ≡ crowded bonds m w
  crowded-same w l = rw (sides-same up refl w l, sides-same down refl w l)

  -- what all bonds pass by number, they pass as a list, and back
  module _ (P : Bond → Bool) where
    listed : (t : List ℤ) → each (λ b. P (walk_bond t b)) 0 m ≡ true → All (λ b. P b ≡ true) (bond_list t m)
    listed t h = all-up_to (λ b. P b ≡ true) (walk_bond t) 0 m (λ j a l. each_at (λ b. P (walk_bond t b)) m j h (omega arith))

    numbered : (t : List ℤ) → All (λ b. P b ≡ true) (bond_list t m) → each (λ b. P (walk_bond t b)) 0 m ≡ true
    numbered t a = each_all (λ b. P (walk_bond t b)) m (λ j l.
        let k : j < length (bond_list t m) = omega (arith, l, length-up_to (walk_bond t) 0 m) in
        ap P (sym (up_to-at (walk_bond t) m j (bond 0 0 0) l)) ∙ all-at (λ b. P b ≡ true) (bond 0 0 0) (bond_list t m) j a k)

  -- 20 is not given after the round trip where it was not given before
  pub uncrowded-same : none_crowded bonds m ≡ true → none_crowded U m ≡ true
  unfolding none_crowded
  uncrowded-same h = numbered (λ b. test b.kind (crowded U m b.lo) (crowded U m b.hi)) U (subst (All (λ b. test b.kind (crowded U m b.lo) (crowded U m b.hi) ≡ true)) (sym e)
      (tests-kept n bs i test either (crowded bonds m) (crowded U m) crowded-same (listed (λ b. test b.kind (crowded bonds m b.lo) (crowded bonds m b.hi)) bonds h)))
    where
      test : ℕ → Bool → Bool → Bool
      test k x y = not (eqb k double && (x || y))

      or_turn : (x y : Bool) → (x || y) ≡ (y || x)
      or_turn true true = refl
      or_turn true false = refl
      or_turn false true = refl
      or_turn false false = refl

      either : (k : ℕ) (x y : Bool) → test (turned k) y x ≡ test k x y
      either k x y = λ j. not (turned-double k j && or_turn y x j)

  -- nor 21
  pub touching-same : none_stray bonds m ≡ true → none_stray U m ≡ true
  unfolding none_stray
  touching-same h = numbered (λ b. test b.kind (bare U b.lo) (bare U b.hi)) U (subst (All (λ b. test b.kind (bare U b.lo) (bare U b.hi) ≡ true)) (sym e)
      (tests-kept n bs i test either (bare bonds) (bare U) (λ w l. ap (λ (x : ℕ). eqb x 0) (doubles-same w l)) (listed (λ b. test b.kind (bare bonds b.lo) (bare bonds b.hi)) bonds h)))
    where
      bare : List ℤ → ℕ → Bool
      bare t a = eqb (double_count t m a) 0

      test : ℕ → Bool → Bool → Bool
      test k x y = not (is_mark k && x && y)

      and-turn : (p x y : Bool) → (p && y && x) ≡ (p && x && y)
      and-turn false x y = refl
      and-turn true true true = refl
      and-turn true true false = refl
      and-turn true false true = refl
      and-turn true false false = refl

      either : (k : ℕ) (x y : Bool) → test (turned k) y x ≡ test k x y
      either k x y = (λ j. not (turned-mark k j && y && x)) ∙ ap not (and-turn (is_mark k) x y)
