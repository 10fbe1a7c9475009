-- Counting the free bonds of all atoms in one pass over the bonds, and what a turn makes of the counts. Assumes nothing.
use mathlib.Core.Path.{◌≡◌, refl, sym, ap, ◌∙◌}
use mathlib.Core.Bool.{Bool, true, false, ◌&&◌, ◌||◌}
use mathlib.Core.List.{List}
use Prim.Native.Nat.{ℕ, ◌+◌, ◌<◌, ◌≤◌}
use native.Mathlib.Omega.{arith}
use native.Mathlib.Numerals.{add-one}
use native.Mathlib.Decide.{ℕ_discrete}
use lib.Dec.{eqb}
use lib.ListN.{length, get_or, length-set}
use lib.Seq.{get_or-set_same, get_or-set_other}
use borrow.Author.Tests.{eq-eqb, ne_eqb, eqb-true, lt-ltb, le-ltb}
use Rattle.ids.specs.declared.AtomId.{AtomId}
use Rattle.ids.specs.declared.BondId.{BondId}
use Rattle.loops.proofs.Loops.{and_right}
use Rattle.loops.specs.Loop.{pick}
use Rattle.std.specs.Prelude.{Option, Some, None}
use Rattle.std.specs.Option.{is_some}
use Rattle.matching_search.proofs.Flags.{never as never'}
use Rattle.matching.specs.Graph.{Bond, flagged, count_if, touches}
use Rattle.matching.specs.Model.{bonds_of, table_bond, free_at, BondTables, Ends}
use Rattle.matching_forced.specs.Forced.{free_of, free_count, free_bond, lowest, unpaired_with, lowest_with, lowest_forced, stuck, forces, forced_bond}
use Rattle.matching_forced.specs.Steps.{bumped, raised, with_count, Counts, LowestAtom, LowestBond, ForcedBond}
use Rattle.matching_forced.proofs.Counts.{Counted, counted_start, counted_step, counted-end, lowest-same, lowest-passes, count-one}
use Rattle.matching_forced.proofs.Tables.{bonds_long, free-at}

-- one more at an atom, and at two
bumped-at : (counts : List ℕ) (a v : ℕ) → a < length counts → get_or (bumped counts a) v 0 ≡ count_if (eqb a v) (get_or counts v 0)
bumped-at counts a v l = go (ℕ_discrete v a)
  where
    go : Dec (v ≡ a) → get_or (bumped counts a) v 0 ≡ count_if (eqb a v) (get_or counts v 0)
    go (yes e) = rw (e, eq-eqb a a refl) (get_or-set_same counts a (get_or counts a 0 + 1) 0 l ∙ add-one (get_or counts a 0))
    go (no n) = rw (ne_eqb a v (λ (e : a ≡ v). n (sym e))) (get_or-set_other counts a v (get_or counts a 0 + 1) 0 n)

pub raised_at : (a b v : ℕ) (counts : List ℕ) → a < length counts → b < length counts → get_or (raised a b counts) v 0 ≡ count_if (eqb a v || eqb b v) (get_or counts v 0)
raised_at a b v counts la lb = go (ℕ_discrete a b)
  where
    lb' : b < length (bumped counts a)
    lb' = omega (arith, length-set counts a (get_or counts a 0 + 1))

    once : (p : Bool) → (p || p) ≡ p
    once true = refl
    once false = refl

    both : (n x : ℕ) → ((a ≡ v) → (b ≡ v) → ⊥) → (p q : Bool) → (p ≡ true → a ≡ v) → (q ≡ true → b ≡ v) → count_if q (count_if p n) ≡ count_if (p || q) n
    both n x d true true f g = absurd (d (f refl) (g refl))
    both n x d true false f g = refl
    both n x d false q f g = refl

    go : Dec (a ≡ b) → get_or (raised a b counts) v 0 ≡ count_if (eqb a v || eqb b v) (get_or counts v 0)
    go (yes e) = rw (eq-eqb a b e, ← e) (bumped-at counts a v la ∙ ap (λ (p : Bool). count_if p (get_or counts v 0)) (sym (once (eqb a v))))
    go (no n) = rw (ne_eqb a b n) (bumped-at (bumped counts a) b v lb' ∙ ap (count_if (eqb b v)) (bumped-at counts a v la)
        ∙ both (get_or counts v 0) 0 (λ p q. n (p ∙ sym q)) (eqb a v) (eqb b v) (eqb_is a v) (eqb_is b v))
      where
        eqb_is : (x y : ℕ) → eqb x y ≡ true → x ≡ y
        eqb_is x y = eqb-true x y

pub length-raised : (a b : ℕ) (counts : List ℕ) → length (raised a b counts) ≡ length counts
length-raised a b counts = go (eqb a b)
  where
    go : (p : Bool) → length (pick p (bumped counts a) (bumped (bumped counts a) b)) ≡ length counts
    go true = length-set counts a (get_or counts a 0 + 1)
    go false = length-set (bumped counts a) b (get_or (bumped counts a) b 0 + 1) ∙ length-set counts a (get_or counts a 0 + 1)

-- the loop over the bonds stands at i
pub record Tallied (ea eb el need counts₀ : List ℕ) (i : ℕ) (counts : List ℕ) : Type 0 where
  pub within : i ≤ length ea
  pub long : length counts ≡ length counts₀
  pub fewer : (v : ℕ) → get_or counts v 0 ≤ i
  pub each : (v : ℕ) → Counted (free_of (bonds_of ea eb el) need v) (length ea) i (get_or counts v 0)

pub tallied-start : {ea eb el need counts : List ℕ} → ((v : ℕ) → get_or counts v 0 ≡ 0) → Tallied ea eb el need counts 0 counts
tallied-start z = record { within = omega arith; long = refl; fewer = λ v. omega (arith, z v); each = λ v. rw (z v) counted_start }

module _ {ea eb el need counts₀ counts : List ℕ} {i : ℕ} (t : BondTables ea eb el need 0) (w : Tallied ea eb el need counts₀ i counts) where
  module _ (l : i < length ea) (wide : length need ≤ length counts₀) where
    pub tallied-ends : Ends ea eb counts i
    tallied-ends = record { first = l; second = omega (arith, t.second); end1 = omega (arith, t.ends1 i l, w.long); end2 = omega (arith, t.ends2 i l, w.long) }

    free-by : (v : ℕ) {f : Bool} → f ≡ free_at ea eb el need i → free_of (bonds_of ea eb el) need v i ≡ (f && touches (table_bond ea eb el i) v)
    free-by v is = free-at t i l v ∙ rw (← is)

    module _ {f : Bool} (is : f ≡ free_at ea eb el need i) where
      pub tallied-yes : f ≡ true → {counts' : List ℕ} → counts' ≡ raised (get_or ea i 0) (get_or eb i 0) counts → Tallied ea eb el need counts₀ (i + 1) counts'
      tallied-yes y {counts'} e = rw e record {
        within = omega arith;
        long = length-raised (get_or ea i 0) (get_or eb i 0) counts ∙ w.long;
        fewer = λ v. rw (raised_at (get_or ea i 0) (get_or eb i 0) v counts tallied-ends.end1 tallied-ends.end2) (most (touches (table_bond ea eb el i) v) (w.fewer v));
        each = λ v. counted_step (w.each v) l _ (raised_at (get_or ea i 0) (get_or eb i 0) v counts tallied-ends.end1 tallied-ends.end2
            ∙ ap (λ (p : Bool). count_if p (get_or counts v 0)) (sym (free-by v (sym y ∙ is))));
      }
        where
          most : (p : Bool) {n : ℕ} → n ≤ i → count_if p n ≤ i + 1
          most true h = omega arith
          most false h = omega arith

      pub tallied-no : f ≡ false → {counts' : List ℕ} → counts' ≡ counts → Tallied ea eb el need counts₀ (i + 1) counts'
      tallied-no n {counts'} e = rw e record {
        within = omega arith;
        long = w.long;
        fewer = λ v. omega (arith, w.fewer v);
        each = λ v. counted_step (w.each v) l _ (ap (λ (p : Bool). count_if p (get_or counts v 0)) (sym (free-by v (sym n ∙ is))));
      }

  pub tallied-end : length ea ≤ i → Counts (bonds_of ea eb el) need counts
  unfolding free_count
  tallied-end h = record { each = λ v l. rw (bonds_long t) (counted-end (w.each v) h) }

-- a search that found one, and one that found none
some-below : {k m : ℕ} (r : Option AtomId) → LowestAtom k m r → is_some r ≡ true → k < m
some-below (Some v) w y = omega (arith, w.0, w.1)
some-below None w y = absurd (never' y)

none-past : {k m : ℕ} (r : Option AtomId) → LowestAtom k m r → is_some r ≡ false → m ≤ k
none-past (Some v) w n = absurd (never' (sym n))
none-past None w n = w

-- the turn, by the counts
module _ {bs : List Bond} {need counts : List ℕ} (w : Counts bs need counts) where
  lowest-is : (d : ℕ) → lowest (with_count need counts d) 0 (length need) ≡ lowest_with d bs need
  unfolding lowest_with
  lowest-is d = lowest-same (with_count need counts d) (unpaired_with d bs need) (length need) (λ v l. ap (λ (c : ℕ). flagged need v && eqb c d) (w.each v l))

  -- an atom with no free bond
  module _ (alone : Option AtomId) (at : LowestAtom (lowest (with_count need counts 0) 0 (length need)) (length need) alone) where
    pub said-stuck : is_some alone ≡ true → stuck bs need ≡ true
    unfolding stuck
    said-stuck y = lt-ltb (lowest_with 0 bs need) (length need) (omega (arith, some-below alone at y, lowest-is 0))

    pub not_stuck : is_some alone ≡ false → stuck bs need ≡ false
    unfolding stuck
    not_stuck n = le-ltb (lowest_with 0 bs need) (length need) (omega (arith, none-past alone at n, lowest-is 0))

  -- the lowest atom with exactly one
  module _ (v : AtomId) (one : LowestAtom (lowest (with_count need counts 1) 0 (length need)) (length need) (Some v)) where
    one-is : v.0 ≡ lowest_forced bs need
    one-is = one.0 ∙ lowest-is 1

    has-one : free_count bs need v.0 ≡ 1
    unfolding lowest_with
    has-one =
        let l : lowest_with 1 bs need < length need = omega (arith, one-is, one.1) in
        rw one-is (eqb-true (free_count bs need (lowest_with 1 bs need)) 1 (and_right (flagged need (lowest_with 1 bs need)) (eqb (free_count bs need (lowest_with 1 bs need)) 1) (lowest-passes (unpaired_with 1 bs need) (length need) l)))

    pub bond-of-one : {m : ℕ} → length bs ≡ m → (k : Option BondId) → LowestBond (free_bond bs need v.0) m k → ForcedBond bs need k
    unfolding forced_bond free_bond free_count
    bond-of-one e (Some b) w = (omega (arith, one-is, one.1), w.0 ∙ ap (free_bond bs need) one-is)
    bond-of-one e None w = absurd (omega (arith, (count-one (free_of bs need v.0) (length bs) has-one).inside))

  pub no-one : LowestAtom (lowest (with_count need counts 1) 0 (length need)) (length need) None → ForcedBond bs need None
  no-one w = omega (arith, lowest-is 1)

  -- the turn, by its bond
  pub said-pair : stuck bs need ≡ false → (k : BondId) → ForcedBond bs need (Some k) → (forces bs need ≡ true) × (k.0 ≡ forced_bond bs need)
  unfolding forces
  said-pair n k h = (rw (n, lt-ltb (lowest_with 1 bs need) (length need) h.0), h.1)

  pub said-rests : stuck bs need ≡ false → ForcedBond bs need None → (stuck bs need ≡ false) × (forces bs need ≡ false)
  unfolding forces
  said-rests n h = (n, rw (n, le-ltb (lowest_with 1 bs need) (length need) h))

-- the ways of `raise_ends`
module _ (counts : List ℕ) {counts1 : List ℕ} {x y b : ℕ} where
  pub raised-room : counts1 ≡ bumped counts x → length counts1 ≡ length counts → ((v : ℕ) → get_or counts v 0 < 65535) → y ≡ b → b < length counts → (x ≡ y → ⊥) → (y < length counts1) × (get_or counts1 y 0 < 65535)
  raised-room e l h q lb n = (omega arith, rw e (omega (arith, h y, get_or-set_other counts x y (get_or counts x 0 + 1) 0 (λ (i : y ≡ x). n (sym i)))))

  pub raised-other : {a : ℕ} → x ≡ a → y ≡ b → (x ≡ y → ⊥) → counts1 ≡ bumped counts x → {counts2 : List ℕ} → counts2 ≡ bumped counts1 y → counts2 ≡ raised a b counts
  raised-other {a} p q n e f = f ∙ rw (e, p, q, ne_eqb a b (λ (i : a ≡ b). n (p ∙ i ∙ sym q)))

  pub raised-same : {a : ℕ} → x ≡ a → y ≡ b → x ≡ y → counts1 ≡ bumped counts x → counts1 ≡ raised a b counts
  raised-same {a} p q n e = e ∙ rw (p, eq-eqb a b (sym p ∙ n ∙ q))

-- the test of an atom, by its flag as it was read
pub counted-as : (need counts : List ℕ) (d v : ℕ) {r b : Bool} → r ≡ flagged need v → (r && eqb (get_or counts v 0) d) ≡ b → with_count need counts d v ≡ b
counted-as need counts d v e h = ap (λ (x : Bool). x && eqb (get_or counts v 0) d) (sym e) ∙ h
