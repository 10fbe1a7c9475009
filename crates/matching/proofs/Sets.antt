-- Matchings as sets of bonds: a row is a matching exactly if the set of its ones is one, and each such set is the set of a row. Assumes nothing.
use mathlib.Core.Path.{◌≡◌, refl, sym, ap, ◌∙◌, fun_ext, subst}
use mathlib.Core.Bool.{Bool, true, false, ◌&&◌, ◌||◌, not}
use mathlib.Core.List.{List, [], ◌∷◌}
use Prim.Native.Nat.{ℕ, zero, suc, ◌≤◌, ◌<◌}
use native.Mathlib.Nat.{zero-add}
use native.Mathlib.Omega.{arith}
use lib.Dec.{eqb, leb, ltb}
use lib.ListN.{length, get_or-eq_default}
use borrow.Author.Tests.{leb-true, ltb-true, ltb-false}
use Rattle.loops.specs.Loop.{pick, up_to}
use Rattle.loops.proofs.Loops.{and_left, and_right, length-up_to, up_to-at}
use Rattle.matching.specs.Enumeration.{Row, is_row}
use Rattle.matching.specs.Graph.{Bond, induced, chosen_induced, count_if, touches, degree, each_once, is_matching, nth_bond, ExactlyOne, Pairs, set_of}
use Rattle.matching.proofs.Enumeration.{row-length}
use Rattle.matching.proofs.Graph.{and_intro, not-true, never, once-at, at_once}

suc-zero : {A : Type 0} (n : ℕ) → suc n ≡ 0 → A
suc-zero n h = absurd (omega arith)

-- a number of a row is 0 or 1
one_or_zero : (x : ℕ) → leb x 1 ≡ true → eqb x 1 ≡ not (eqb x 0)
one_or_zero zero h = refl
one_or_zero (suc zero) h = refl
one_or_zero (suc (suc x)) h = let l = leb-true (suc (suc x)) 1 h in absurd (omega arith)

set-empty : (b : ℕ) → set_of [] b ≡ true → ⊥
set-empty b h = never (set_of [] b) h refl

-- the chosen bonds, one by one
chosen_at : (flags : List ℕ) (bs : List Bond) (r : Row) → is_row (length bs) r ≡ true → chosen_induced flags bs r ≡ true → (b : ℕ) → set_of r b ≡ true → induced flags (nth_bond bs b) ≡ true
unfolding is_row chosen_induced
chosen_at flags [] [] i h b e = absurd (set-empty b e)
chosen_at flags [] (x ∷ r) i h b e = cc
chosen_at flags (d ∷ bs) [] i h b e = cc
chosen_at flags (d ∷ bs) (x ∷ r) i h zero e =
    go (eqb x 0) (sym (one_or_zero x (and_left (leb x 1) (is_row (length bs) r) i)) ∙ e) (and_left (eqb x 0 || induced flags d) (chosen_induced flags bs r) h)
  where
    go : (z : Bool) → not z ≡ true → (z || induced flags d) ≡ true → induced flags d ≡ true
    go true n g = absurd (never false n refl)
    go false n g = g
chosen_at flags (d ∷ bs) (x ∷ r) i h (suc b) e =
    chosen_at flags bs r (and_right (leb x 1) (is_row (length bs) r) i) (and_right (eqb x 0 || induced flags d) (chosen_induced flags bs r) h) b e

at-chosen : (flags : List ℕ) (bs : List Bond) (r : Row) → is_row (length bs) r ≡ true → ((b : ℕ) → set_of r b ≡ true → induced flags (nth_bond bs b) ≡ true) → chosen_induced flags bs r ≡ true
unfolding is_row chosen_induced
at-chosen flags [] r i h = refl
at-chosen flags (d ∷ bs) [] i h = refl
at-chosen flags (d ∷ bs) (x ∷ r) i h =
    and_intro (eqb x 0 || induced flags d) (chosen_induced flags bs r) (go (eqb x 0) (λ n. h 0 (one_or_zero x (and_left (leb x 1) (is_row (length bs) r) i) ∙ n)))
    (at-chosen flags bs r (and_right (leb x 1) (is_row (length bs) r) i) (λ b. h (suc b)))
  where
    go : (z : Bool) → (not z ≡ true → induced flags d ≡ true) → (z || induced flags d) ≡ true
    go true f = refl
    go false f = f refl

-- the chosen bonds at the atom v
abbrev meets : List Bond → Row → ℕ → ℕ → Bool
meets bs r v b = set_of r b && touches (nth_bond bs b) v

module _ (v : ℕ) where
  -- one bond more
  degree-suc : (d : Bond) (bs : List Bond) (x : ℕ) (r : Row) → leb x 1 ≡ true → degree (d ∷ bs) (x ∷ r) v ≡ count_if (meets (d ∷ bs) (x ∷ r) v 0) (degree bs r v)
  unfolding degree
  degree-suc d bs x r h = ap (λ (z : Bool). count_if (z && touches d v) (degree bs r v)) (sym (one_or_zero x h))

  degree-none : (bs : List Bond) (r : Row) → is_row (length bs) r ≡ true → degree bs r v ≡ 0 → (b : ℕ) → meets bs r v b ≡ false
  unfolding is_row
  degree-none [] [] i h b = refl
  degree-none [] (x ∷ r) i h b = cc
  degree-none (d ∷ bs) [] i h b = refl
  degree-none (d ∷ bs) (x ∷ r) i h b =
      go (meets (d ∷ bs) (x ∷ r) v 0) refl b (sym (degree-suc d bs x r (and_left (leb x 1) (is_row (length bs) r) i)) ∙ h) (degree-none bs r (and_right (leb x 1) (is_row (length bs) r) i))
    where
      go : (z : Bool) → meets (d ∷ bs) (x ∷ r) v 0 ≡ z → (b : ℕ) → count_if z (degree bs r v) ≡ 0 → (degree bs r v ≡ 0 → (b : ℕ) → meets bs r v b ≡ false) → meets (d ∷ bs) (x ∷ r) v b ≡ false
      go true e b k f = suc-zero (degree bs r v) k
      go false e zero k f = e
      go false e (suc b) k f = f k b

  none-degree : (bs : List Bond) (r : Row) → is_row (length bs) r ≡ true → ((b : ℕ) → meets bs r v b ≡ false) → degree bs r v ≡ 0
  unfolding is_row degree
  none-degree [] r i h = refl
  none-degree (d ∷ bs) [] i h = refl
  none-degree (d ∷ bs) (x ∷ r) i h =
      degree-suc d bs x r (and_left (leb x 1) (is_row (length bs) r) i)
      ∙ ap (λ (z : Bool). count_if z (degree bs r v)) (h 0)
      ∙ none-degree bs r (and_right (leb x 1) (is_row (length bs) r) i) (λ b. h (suc b))

  degree-one : (bs : List Bond) (r : Row) → is_row (length bs) r ≡ true → degree bs r v ≡ 1 → ExactlyOne (meets bs r v)
  unfolding is_row degree
  degree-one [] r i h = suc-zero 0 (sym h)
  degree-one (d ∷ bs) [] i h = suc-zero 0 (sym h)
  degree-one (d ∷ bs) (x ∷ r) i h =
      go (meets (d ∷ bs) (x ∷ r) v 0) refl (sym (degree-suc d bs x r (and_left (leb x 1) (is_row (length bs) r) i)) ∙ h)
      (degree-one bs r (and_right (leb x 1) (is_row (length bs) r) i)) (degree-none bs r (and_right (leb x 1) (is_row (length bs) r) i))
    where
      go : (z : Bool) → meets (d ∷ bs) (x ∷ r) v 0 ≡ z → count_if z (degree bs r v) ≡ 1 → (degree bs r v ≡ 1 → ExactlyOne (meets bs r v)) → (degree bs r v ≡ 0 → (b : ℕ) → meets bs r v b ≡ false)
          → ExactlyOne (meets (d ∷ bs) (x ∷ r) v)
      go true e k f g = record { one = 0; member = e; only = first }
        where
          first : (b : ℕ) → meets (d ∷ bs) (x ∷ r) v b ≡ true → b ≡ 0
          first zero h = refl
          first (suc b) h = absurd (never (meets bs r v b) h (g (omega arith) b))
      go false e k f g = let w = f k in record { one = suc w.one; member = w.member; only = later w }
        where
          later : (w : ExactlyOne (meets bs r v)) (b : ℕ) → meets (d ∷ bs) (x ∷ r) v b ≡ true → b ≡ suc w.one
          later w zero h = absurd (never (meets (d ∷ bs) (x ∷ r) v 0) h e)
          later w (suc b) h = ap suc (w.only b h)

  one-degree : (bs : List Bond) (r : Row) → is_row (length bs) r ≡ true → ExactlyOne (meets bs r v) → degree bs r v ≡ 1
  unfolding is_row
  one-degree [] [] i w = absurd (never false w.member refl)
  one-degree [] (x ∷ r) i w = cc
  one-degree (d ∷ bs) [] i w = cc
  one-degree (d ∷ bs) (x ∷ r) i w = degree-suc d bs x r (and_left (leb x 1) (is_row (length bs) r) i) ∙ go (meets (d ∷ bs) (x ∷ r) v 0) refl w.one w.member w.only (one-degree bs r (and_right (leb x 1) (is_row (length bs) r) i))
    where
      go : (z : Bool) → meets (d ∷ bs) (x ∷ r) v 0 ≡ z → (k : ℕ) → meets (d ∷ bs) (x ∷ r) v k ≡ true → ((b : ℕ) → meets (d ∷ bs) (x ∷ r) v b ≡ true → b ≡ k) → (ExactlyOne (meets bs r v) → degree bs r v ≡ 1) → count_if z (degree bs r v) ≡ 1
      go true e k m o f = ap suc (none-degree bs r (and_right (leb x 1) (is_row (length bs) r) i) (λ b. not-true (meets bs r v b) (λ h. suc-zero b (o (suc b) h ∙ sym (o 0 e)))))
      go false e zero m o f = absurd (never (meets (d ∷ bs) (x ∷ r) v 0) m e)
      go false e (suc k) m o f = f (record { one = k; member = m; only = λ b h. let q = o (suc b) h in omega arith })

-- THE STATEMENT: a row of 0 and 1 is a matching exactly if its set of bonds is one
module _ (flags : List ℕ) (bs : List Bond) (r : Row) (i : is_row (length bs) r ≡ true) where
  pub row-pairs : is_matching flags bs r ≡ true → Pairs flags bs (set_of r)
  unfolding is_matching
  row-pairs h =
      let c = and_left (chosen_induced flags bs r) (each_once bs r flags 0) h in
      let o = and_right (chosen_induced flags bs r) (each_once bs r flags 0) h in
      record {
        below = λ b e. go b e (ltb b (length bs)) refl;
        all_induced = chosen_at flags bs r i c;
        once_each = λ v e. degree-one v bs r i (ap (degree bs r) (sym (zero-add v)) ∙ once-at bs r flags 0 o v e);
      }
    where
      go : (b : ℕ) → set_of r b ≡ true → (x : Bool) → ltb b (length bs) ≡ x → b < length bs
      go b e true q = ltb-true b (length bs) q
      go b e false q =
          let l : length r ≤ b = omega (arith, ltb-false b (length bs) q, row-length (length bs) r i) in
          absurd (never (set_of r b) e (ap (λ (x : ℕ). eqb x 1) (get_or-eq_default r 0 l)))

  pub pairs-row : Pairs flags bs (set_of r) → is_matching flags bs r ≡ true
  unfolding is_matching
  pairs-row p =
      and_intro (chosen_induced flags bs r) (each_once bs r flags 0) (at-chosen flags bs r i p.all_induced)
      (at_once bs r flags 0 (λ v e. ap (degree bs r) (zero-add v) ∙ one-degree v bs r i (p.once_each v e)))

-- the row of a set
abbrev bit_of : (ℕ → Bool) → ℕ → ℕ
bit_of S b = pick (S b) 1 0

unfoldable pub row_of : (ℕ → Bool) → ℕ → Row
row_of S m = up_to (bit_of S) 0 m

bits-row : (S : ℕ → Bool) (k m : ℕ) → is_row m (up_to (bit_of S) k m) ≡ true
unfolding is_row up_to
bits-row S k zero = refl
bits-row S k (suc m) = and_intro (leb (pick (S k) 1 0) 1) (is_row m (up_to (bit_of S) (suc k) m)) (go (S k)) (bits-row S (suc k) m)
  where
    go : (z : Bool) → leb (pick z 1 0) 1 ≡ true
    go true = refl
    go false = refl

pub row-of-row : (S : ℕ → Bool) (m : ℕ) → is_row m (row_of S m) ≡ true
unfolding row_of
row-of-row S m = bits-row S 0 m

-- the set of the row of S is S, where S has no number past the last
pub set-of-row : (S : ℕ → Bool) (m : ℕ) → ((b : ℕ) → S b ≡ true → b < m) → set_of (row_of S m) ≡ S
unfolding row_of
set-of-row S m h = fun_ext (λ b. go b (ltb b m) refl)
  where
    bit-back : (z : Bool) → eqb (pick z 1 0) 1 ≡ z
    bit-back true = refl
    bit-back false = refl

    go : (b : ℕ) (x : Bool) → ltb b m ≡ x → set_of (up_to (bit_of S) 0 m) b ≡ S b
    go b true e = ap (λ (x : ℕ). eqb x 1) (up_to-at (bit_of S) m b 0 (ltb-true b m e)) ∙ bit-back (S b)
    go b false e =
        let l : length (up_to (bit_of S) 0 m) ≤ b = omega (arith, length-up_to (bit_of S) 0 m, ltb-false b m e) in
        ap (λ (x : ℕ). eqb x 1) (get_or-eq_default (up_to (bit_of S) 0 m) 0 l) ∙ sym (not-true (S b) (λ t. let q = h b t in let q2 = ltb-false b m e in omega arith))

pub set-row : (flags : List ℕ) (bs : List Bond) (S : ℕ → Bool) → Pairs flags bs S → is_matching flags bs (row_of S (length bs)) ≡ true
set-row flags bs S p =
    pairs-row flags bs (row_of S (length bs)) (row-of-row S (length bs))
    (subst (λ (T : ℕ → Bool). Pairs flags bs T) (sym (set-of-row S (length bs) p.below)) p)
