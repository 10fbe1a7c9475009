-- The keys that the text of a molecule gives to the bonds that are read from it. Assumes nothing.
use mathlib.Core.Path.{◌≡◌, refl, sym, ap, ◌∙◌, subst}
use mathlib.Core.Bool.{Bool, true, false, ◌||◌, cond}
use mathlib.Core.List.{List, [], ◌∷◌, ◌++◌, map, append_assoc}
use Prim.Native.Nat.{ℕ, suc, ◌+◌, ◌≤◌, ◌<◌}
use native.Mathlib.Omega.{arith}
use native.Mathlib.Nat.{zero-add}
use lib.Dec.{eqb}
use lib.ListN.{length, length-append}
use Rattle.writing_walk.specs.Token.{Bond, eq_bond}
use Rattle.writing_walk.specs.Emit.{Forest, size, pre, trees}
use Rattle.writing_walk.specs.Walk.{forest_of, closing_bonds, opening_bonds, relabel, renumbered, unused, write}
use Rattle.writing_walk.specs.Check.{ends, some}
use Rattle.writing_walk.specs.Keyed.{keys, child_keys, time_of, keys_of, run_keyed, start_keyed, index_of, rings_before, opening_time, closing_time, key_of}
use Rattle.writing_walk.proofs.Count.{bit, count, count-append, eqb_same, bond-same, bond-eq, All, none, more, all_map}
use Rattle.writing_walk.proofs.Read.{Back, ClosesAt, closes_at, opens_at}
use Rattle.writing_walk.proofs.Whole.{inv-start}
use Rattle.writing_walk.proofs.Walk.{Inside}
use Rattle.writing_walk.proofs.Trip.{remove-all, back-of, renumbering, within, inside-unused, size-length, size-relabel, done_all-relabel, trees-relabel, completed, round_trip}
use Rattle.writing_walk.proofs.Twice.{Distinct, distinct-map, distinct-unused}
use Rattle.writing_walk.proofs.Checked.{some-count}
use Rattle.writing_walk.proofs.Again.{all_both, and-less, self_in, from_all}
use Rattle.writing_walk.proofs.Keyed.{From, OpenFrom, CloseFrom, keyed-text}

-- the place of a bond in a list that holds it once
index_at : (b : Bond) (a r : List Bond) → count (eq_bond b) a ≡ 0 → index_of b (a ++ (b ∷ r)) ≡ length a
index_at b [] r h = rw (bond-same b)
index_at b (x ∷ a) r h = go (eq_bond b x) h (index_at b a r)
  where
    go : (e : Bool) → bit e + count (eq_bond b) a ≡ 0 → (count (eq_bond b) a ≡ 0 → index_of b (a ++ (b ∷ r)) ≡ length a) → cond e 0 (suc (index_of b (a ++ (b ∷ r)))) ≡ suc (length a)
    go true h f = absurd (omega arith)
    go false h f = ap suc (f (omega arith))

abbrev Single : List Bond → Type 0
Single l = (b : Bond) → count (eq_bond b) l ≤ 1

-- what holds of each bond with its place holds along the list
module _ (P : Bond → ℕ → Type 0) (L : List Bond) (once : Single L) (z : ℕ) where
  along-from : (a l : List Bond) → L ≡ a ++ l → All (λ b. P b (z + index_of b L)) l → From P (z + length a) l
  along-from a [] e none = tt
  along-from a (b ∷ l) e (more h r) =
      let i : index_of b L ≡ length a = ap (index_of b) e ∙ index_at b a l (omega (arith, once b, ap (count (eq_bond b)) e, count-append (eq_bond b) a (b ∷ l), ap bit (bond-same b))) in
      let s : z + length (a ++ (b ∷ [])) ≡ suc (z + length a) = ap (λ (y : ℕ). z + y) (length-append a (b ∷ [])) ∙ omega arith in
      (subst (λ (y : ℕ). P b (z + y)) i h, subst (λ (y : ℕ). From P y l) s (along-from (a ++ (b ∷ [])) l (e ∙ sym (append_assoc a (b ∷ []) l)) r))

  pub placed-from : All (λ b. P b (z + index_of b L)) L → From P z L
  placed-from a = let s : z + 0 ≡ z = omega arith in subst (λ (y : ℕ). From P y L) s (along-from [] L refl a)

-- bonds that join the same atoms
eq-ends : (b x : Bond) → bit (eq_bond b x) ≤ bit (ends b.lo b.hi x)
eq-ends b x = go (eq_bond b x) refl
  where
    go : (e : Bool) → eq_bond b x ≡ e → bit e ≤ bit (ends b.lo b.hi x)
    go false e = omega arith
    go true e = subst (λ (y : Bond). 1 ≤ bit (ends b.lo b.hi y)) (bond-eq b x e) (same b)
      where
        same : (b : Bond) → 1 ≤ bit (ends b.lo b.hi b)
        same b = rw (eqb_same b.lo, eqb_same b.hi) (omega arith)

pub count-ends : (b : Bond) (l : List Bond) → count (eq_bond b) l ≤ count (ends b.lo b.hi) l
count-ends b [] = omega arith
count-ends b (x ∷ l) = omega (arith, eq-ends b x, count-ends b l)

module _ (n : ℕ) (bs : List Bond) (i : Inside n bs) where
  -- the bonds read are those of the forest and the bridges
  pub completed-split : (p : Bond → Bool) → count p (completed n bs) ≡ count p (trees (forest_of n bs) 0) + count p (unused n bs)
  unfolding unused
  completed-split p = (round_trip n (λ v. v) bs i).bonds p ∙ remove-all (trees (forest_of n bs) 0) (renumbered n bs) (within n bs i) p

  pub distinct-completed : Distinct bs → Distinct (completed n bs)
  unfolding renumbered
  distinct-completed d a c = omega (arith, (round_trip n (λ v. v) bs i).bonds (ends a c), distinct-map n (pre (forest_of n bs)) (renumbering n bs i).every bs i d a c)

  -- no bridge joins the ends of a bond of the forest
  pub bridge-apart : Distinct bs → (b : Bond) → 0 < count (eq_bond b) (unused n bs) → count (ends b.lo b.hi) (trees (forest_of n bs) 0) ≡ 0
  bridge-apart d b h = omega (arith, distinct-completed d b.lo b.hi, completed-split (ends b.lo b.hi), count-ends b (unused n bs))

some-true : (p : Bond → Bool) (l : List Bond) → 0 < count p l → some p l ≡ true
some-true p [] h = absurd (omega arith)
some-true p (b ∷ l) h = go (p b) h (some-true p l)
  where
    go : (x : Bool) → 0 < bit x + count p l → (0 < count p l → some p l ≡ true) → (x || some p l) ≡ true
    go true h f = refl
    go false h f = f (omega arith)

module _ (n : ℕ) (bs : List Bond) (i : Inside n bs) (d : Distinct bs) where
  abbrev N : List Bond
  N = unused n bs

  abbrev C : ℕ → List Bond
  C = closing_bonds n N

  abbrev O : ℕ → List Bond
  O = opening_bonds n N

  abbrev T : Bond → ℕ
  T = opening_time C O

  back-N : Back N C O
  back-N = back-of n N (inside-unused n bs i)

  -- the keys of the forest's bonds and of the bridges
  pub tree-keys : (b : Bond) → 0 < count (eq_bond b) (trees (forest_of n bs) 0) → key_of n bs b ≡ child_keys
  unfolding key_of
  tree-keys b h = rw (some-true (eq_bond b) (trees (forest_of n bs) 0) h)

  pub bridge-keys : (b : Bond) → 0 < count (eq_bond b) N → key_of n bs b ≡ keys (opening_time C O b) (closing_time C O b)
  unfolding key_of
  bridge-keys b h = rw (some-count (eq_bond b) (trees (forest_of n bs) 0) (let z = bridge-apart n bs i d b h in let y = count-ends b (trees (forest_of n bs) 0) in omega arith))

  once-N : Single N
  once-N b = omega (arith, count-ends b N, distinct-unused n bs i d b.lo b.hi)

  pub close-once : (x : ℕ) → Single (C x)
  close-once x b = omega (arith, back-N.closes x (eq_bond b), and-less (eq_bond b) (λ y. eqb y.hi x) N, once-N b)

  pub open-once : (x : ℕ) → Single (O x)
  open-once x b = omega (arith, back-N.opens x (eq_bond b), and-less (eq_bond b) (λ y. eqb y.lo x) N, once-N b)

  closing : (x : ℕ) → CloseFrom T (key_of n bs) (rings_before C O x) (C x)
  closing x =
      placed-from (λ b z. key_of n bs b ≡ keys (T b) (suc z)) (C x) (close-once x) (rings_before C O x)
      (all_both (ClosesAt x) (λ b. key_of n bs b ≡ keys (T b) (closing_time C O b)) (λ b. key_of n bs b ≡ keys (T b) (suc (rings_before C O x + index_of b (C x))))
      (λ b h e. e ∙ ap (λ (y : ℕ). keys (T b) (suc (rings_before C O y + index_of b (C y)))) h.here) (C x) (closes_at N C O back-N x)
      (from_all N C O back-N (λ b. key_of n bs b ≡ keys (T b) (closing_time C O b)) (all_map (λ b. 0 < count (eq_bond b) N) (λ b. key_of n bs b ≡ keys (T b) (closing_time C O b)) bridge-keys N (self_in N)) x))

  opening : (x : ℕ) → OpenFrom T (rings_before C O x + length (C x)) (O x)
  opening x =
      placed-from (λ b z. T b ≡ suc z) (O x) (open-once x) (rings_before C O x + length (C x))
      (all_map (λ b. b.lo ≡ x) (λ b. T b ≡ suc (rings_before C O x + length (C x) + index_of b (O x))) (λ b h. ap (λ (y : ℕ). suc (rings_before C O y + length (C y) + index_of b (O y))) h) (O x) (opens_at N C O back-N x))

  module _ (pay : ℕ → ℕ) where
    abbrev F : Forest
    F = relabel pay (forest_of n bs)

    grown : All (λ b. key_of n bs b ≡ child_keys) (trees F 0)
    grown = rw (trees-relabel pay (forest_of n bs) 0) (all_map (λ b. 0 < count (eq_bond b) (trees (forest_of n bs) 0)) (λ b. key_of n bs b ≡ child_keys) tree-keys (trees (forest_of n bs) 0) (self_in (trees (forest_of n bs) 0)))

    long : 0 + size F ≡ n
    long = zero-add (size F) ∙ size-relabel pay (forest_of n bs) ∙ sym (size-length (forest_of n bs)) ∙ (renumbering n bs i).long

    -- THE STATEMENTS: what is written of a molecule gives each bond that is read from it these keys; it has as many ring tokens as close and open at its atoms
    pub written-keys : keys_of (run_keyed (write n pay bs) start_keyed) ≡ map (key_of n bs) (completed n bs)
    unfolding write completed
    written-keys = ap keys_of (keyed-text N C O back-N T (key_of n bs) closing opening F 0 0 [] [] [] [] (inv-start N C O back-N) grown) ∙ ap (map (key_of n bs)) (done_all-relabel C O pay (forest_of n bs) 0)

    pub written-time : time_of (run_keyed (write n pay bs) start_keyed) ≡ rings_before C O n
    unfolding write
    written-time = ap time_of (keyed-text N C O back-N T (key_of n bs) closing opening F 0 0 [] [] [] [] (inv-start N C O back-N) grown) ∙ ap (rings_before C O) long
