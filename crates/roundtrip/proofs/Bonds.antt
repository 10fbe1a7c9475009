-- The bonds of valid tables, as the walk's list of bonds: distinct, of kinds 0 to 3. Assumes nothing.
use mathlib.Core.Path.{◌≡◌, refl, sym, ap, ◌∙◌}
use mathlib.Core.Bool.{Bool, true, false}
use mathlib.Core.List.{List, [], ◌∷◌}
use Prim.Native.Nat.{ℕ, zero, suc, ◌+◌, ◌<◌, ◌≤◌}
use native.Mathlib.Omega.{arith}
use lib.Dec.{eqb}
use lib.ListN.{length, get_or}
use lib.IntN.{ℤ, pos}
use borrow.Author.Tests.{eqb-true, eq-eqb}
use Rattle.kinds.specs.Kind.{max_kind}
use Rattle.loops.specs.Loop.{up_to}
use Rattle.loops.proofs.Loops.{and_left, and_right, length-up_to}
use Rattle.table.specs.Cells.{number, end1, end2, bond_cell}
use Rattle.table.specs.Limits.{FIRST, SECOND, KIND}
use Rattle.table.specs.Valid.{Valid, same_ends}
use Rattle.table.proofs.Valid.{kind-small, apart-at}
use Rattle.writing_walk.specs.Token.{Bond}
use Rattle.writing_walk.specs.Check.{ends}
use Rattle.writing_walk.proofs.Count.{bit, count, All}
use Rattle.writing_walk.proofs.Twice.{Distinct}
use Rattle.writing.specs.Write.{walk_bond, bond_list}
use Rattle.writing.proofs.Bonds.{all-up_to}
use Rattle.roundtrip.proofs.Held.{nobond, BondTable}

-- ---- lists by index
module _ {A : Type 0} where
  count_none : (p : A → Bool) (f : ℕ → A) (k m : ℕ) → ((j : ℕ) → k ≤ j → j < k + m → p (f j) ≡ false) → count p (up_to f k m) ≡ 0
  unfolding up_to
  count_none p f k zero h = refl
  count_none p f k (suc m) h = let e = ap bit (h k (omega arith) (omega arith)) in let r = count_none p f (suc k) m (λ j a b. h j (omega arith) (omega arith)) in omega arith

  -- at most one passes if no two do
  count-once : (p : A → Bool) (f : ℕ → A) (k m : ℕ) → ((i j : ℕ) → i < j → j < k + m → p (f i) ≡ true → p (f j) ≡ true → ⊥) → count p (up_to f k m) ≤ 1
  unfolding up_to
  count-once p f k zero h = omega arith
  count-once p f k (suc m) h = go (p (f k)) refl (count-once p f (suc k) m (λ i j a b. h i j a (omega arith)))
    where
      rest : p (f k) ≡ true → (j : ℕ) → suc k ≤ j → j < suc k + m → p (f j) ≡ false
      rest e j a b = two (p (f j)) refl
        where
          two : (x : Bool) → p (f j) ≡ x → x ≡ false
          two true g = absurd (h k j (omega arith) (omega arith) e g)
          two false g = refl

      go : (x : Bool) → p (f k) ≡ x → count p (up_to f (suc k) m) ≤ 1 → bit x + count p (up_to f (suc k) m) ≤ 1
      go true e r = let z = count_none p f (suc k) m (rest e) in omega arith
      go false e r = omega arith

  -- a list is what stands at its places
  up_to-from : (d : A) (f : ℕ → A) (l : List A) (k : ℕ) → ((i : ℕ) → i < length l → f (k + i) ≡ get_or l i d) → up_to f k (length l) ≡ l
  unfolding up_to
  up_to-from d f [] k h = refl
  up_to-from d f (x ∷ l) k h =
      let e : k + 0 ≡ k = omega arith in
      let one : f k ≡ x = rw e at (h 0 (omega arith)) in
      let two : up_to f (suc k) (length l) ≡ l = up_to-from d f l (suc k) (λ i g. let s : suc k + i ≡ k + suc i = omega arith in rw s (h (suc i) (omega arith))) in
      λ i. one i ∷ two i

  pub up_to-list : (d : A) (f : ℕ → A) (l : List A) → ((i : ℕ) → i < length l → f i ≡ get_or l i d) → up_to f 0 (length l) ≡ l
  up_to-list d f l h = up_to-from d f l 0 (λ i g. let e : 0 + i ≡ i = omega arith in rw e (h i g))

module _ {atoms bonds : List ℤ} {n m : ℕ} (v : Valid atoms bonds n m) where
  pub small-kinds : All (λ b. b.kind ≤ max_kind) (bond_list bonds m)
  small-kinds = all-up_to (λ b. b.kind ≤ max_kind) (walk_bond bonds) 0 m (λ j a b. kind-small v j (omega arith))

  pub distinct : Distinct (bond_list bonds m)
  unfolding same_ends
  distinct a c = count-once (ends a c) (walk_bond bonds) 0 m (λ i j g l p q.
      (let e1 : end1 bonds j ≡ end1 bonds i = eqb-true (end1 bonds j) a (and_left (eqb (end1 bonds j) a) (eqb (end2 bonds j) c) q) ∙ sym (eqb-true (end1 bonds i) a (and_left (eqb (end1 bonds i) a) (eqb (end2 bonds i) c) p)) in
      let e2 : end2 bonds j ≡ end2 bonds i = eqb-true (end2 bonds j) c (and_right (eqb (end1 bonds j) a) (eqb (end2 bonds j) c) q) ∙ sym (eqb-true (end2 bonds i) c (and_right (eqb (end1 bonds i) a) (eqb (end2 bonds i) c) p)) in
      let f : same_ends bonds j i ≡ false = apart-at v j i (omega arith) g in
      let t : same_ends bonds j i ≡ true = rw (eq-eqb (end1 bonds j) (end1 bonds i) e1, eq-eqb (end2 bonds j) (end2 bonds i) e2) in
      (let z : ◌≡◌ {A = ℕ} 0 1 = cc in omega arith)))

  pub many : length (bond_list bonds m) ≡ m
  many = length-up_to (walk_bond bonds) 0 m

-- ---- the list that a table of bonds holds
pub listed : (q : ℕ) (t : List ℤ) (bs : List Bond) → BondTable q t bs → bond_list t (length bs) ≡ bs
unfolding number
listed q t bs h = up_to-list nobond (walk_bond t) bs at_place
  where
    at_place : (i : ℕ) → i < length bs → walk_bond t i ≡ get_or bs i nobond
    at_place i g = cells_same (h.cells i FIRST g (omega arith)) (h.cells i SECOND g (omega arith)) (h.cells i KIND g (omega arith))
      where
        cells_same : bond_cell t i FIRST ≡ pos (get_or bs i nobond).lo → bond_cell t i SECOND ≡ pos (get_or bs i nobond).hi → bond_cell t i KIND ≡ pos (get_or bs i nobond).kind → walk_bond t i ≡ get_or bs i nobond
        cells_same a b c = λ j. record { lo = named a j; hi = named b j; kind = named c j }
          where
            named : {z : ℤ} {k : ℕ} → z ≡ pos k → number z ≡ k
            named e = ap number e
