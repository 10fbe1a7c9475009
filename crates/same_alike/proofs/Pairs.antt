-- What two atoms ask of a list, test by test; the marks that a list spreads. Assumes nothing.
use mathlib.Core.Path.{◌≡◌, refl, sym, ap, ◌∙◌}
use mathlib.Core.Bool.{Bool, true, false, ◌&&◌, not}
use mathlib.Core.List.{List}
use Prim.Native.Nat.{ℕ, ◌+◌, ◌-◌, ◌<◌, ◌≤◌}
use lib.Dec.{eqb}
use lib.ListN.{length, set, take}
use borrow.Author.Tests.{eqb-true, eq-eqb, ne_eqb, ltb-true}
use Rattle.loops.specs.Loop.{pick, each}
use Rattle.loops.proofs.Loops.{each_at}
use Rattle.matching.proofs.Graph.{never}
use Rattle.same_place.specs.Place.{entry, Prefix}
use Rattle.same_keys.specs.Keys.{at}
use Rattle.same_finer.specs.Finer.{finer_told, Hopeless}
use Rattle.same_finer.proofs.Keeping.{told-long}
use Rattle.same_alike.specs.Alike.{like_pair, like_row, is_fixed, Like}
use Rattle.same_open.specs.Open.{is_inside}
use Rattle.same_alike.proofs.Likeness.{hopeless-back}
use Rattle.same_alike.proofs.Marks.{marked}

module _ (o2 ok tau : List ℕ) (a b : ℕ) where
  pub pair-column : (entry ok a (at tau b) ≡ entry ok a b → ⊥) → false ≡ like_pair o2 ok tau a b
  pair-column h = sym (ap (λ (z : Bool). z && pick (eqb a b) true (not (eqb (at tau a) (at tau b)) && eqb (entry o2 (at tau a) (at tau b)) (entry o2 a b))) (ne_eqb (entry ok a (at tau b)) (entry ok a b) h))

  module _ (h : entry ok a (at tau b) ≡ entry ok a b) where
    first : {r : Bool} → r ≡ pick (eqb a b) true (not (eqb (at tau a) (at tau b)) && eqb (entry o2 (at tau a) (at tau b)) (entry o2 a b)) → r ≡ like_pair o2 ok tau a b
    first e = e ∙ sym (ap (λ (z : Bool). z && pick (eqb a b) true (not (eqb (at tau a) (at tau b)) && eqb (entry o2 (at tau a) (at tau b)) (entry o2 a b))) (eq-eqb (entry ok a (at tau b)) (entry ok a b) h))

    pub pair-self : a ≡ b → true ≡ like_pair o2 ok tau a b
    pair-self e = first (sym (ap (λ (z : Bool). pick z true (not (eqb (at tau a) (at tau b)) && eqb (entry o2 (at tau a) (at tau b)) (entry o2 a b))) (eq-eqb a b e)))

    module _ (q : a ≡ b → ⊥) where
      other : {r : Bool} → r ≡ (not (eqb (at tau a) (at tau b)) && eqb (entry o2 (at tau a) (at tau b)) (entry o2 a b)) → r ≡ like_pair o2 ok tau a b
      other e = first (e ∙ sym (ap (λ (z : Bool). pick z true (not (eqb (at tau a) (at tau b)) && eqb (entry o2 (at tau a) (at tau b)) (entry o2 a b))) (ne_eqb a b q)))

      pub pair-taken : at tau a ≡ at tau b → false ≡ like_pair o2 ok tau a b
      pair-taken e = other (sym (ap (λ (z : Bool). not z && eqb (entry o2 (at tau a) (at tau b)) (entry o2 a b)) (eq-eqb (at tau a) (at tau b) e)))

      pub pair-order : (at tau a ≡ at tau b → ⊥) → eqb (entry o2 (at tau a) (at tau b)) (entry o2 a b) ≡ like_pair o2 ok tau a b
      pair-order e = other (sym (ap (λ (z : Bool). not z && eqb (entry o2 (at tau a) (at tau b)) (entry o2 a b)) (ne_eqb (at tau a) (at tau b) e)))

-- the three tests together
pub as-like : (o2 ok : List ℕ) (n : ℕ) (tau ren : List ℕ) (from : ℕ) → each (is_inside tau n) 0 n ≡ true → each (is_fixed tau ren) 0 from ≡ true → each (like_row o2 ok tau n) 0 n ≡ true → Like o2 ok n tau ren from
as-like o2 ok n tau ren from i f r =
    record {
      below = λ a l. ltb-true (at tau a) n (each_at (is_inside tau n) n a i l);
      pairs = λ a b l h. each_at (like_pair o2 ok tau a) n b (each_at (like_row o2 ok tau n) n a r l) h;
      fixed = λ b l. eqb-true (at tau (at ren b)) (at ren b) (each_at (is_fixed tau ren) from b f l);
    }

pub not-like : {A : Type 0} {r : Bool} → r ≡ false → r ≡ true → A
not-like e h = absurd (never true refl (sym h ∙ e))

-- one mark more
pub spread-mark : {o1 o2 ok : List ℕ} {n : ℕ} {tau ren : List ℕ} {from : ℕ} → Like o2 ok n tau ren from → Prefix n ren from → from < n → {dead : List ℕ} (y : ℕ) → y < n → Hopeless o1 o2 ok n (take from ren) (n - (from + 1)) dead → at dead (at tau y) ≡ 1 → {dead' : List ℕ} → dead' ≡ set dead y 1
    → Hopeless o1 o2 ok n (take from ren) (n - (from + 1)) dead'
spread-mark {o1} {o2} {ok} {n} {tau} {ren} {from} v q l y i h m e = rw e (marked y 1 h (hopeless-back o1 o2 ok n tau ren from v q l y i (h.at (at tau y) (v.below y i) m)))

pub same-marks : {o1 o2 ok : List ℕ} {n : ℕ} {p : List ℕ} {k : ℕ} {dead dead' : List ℕ} → Hopeless o1 o2 ok n p k dead → dead' ≡ dead → Hopeless o1 o2 ok n p k dead'
same-marks h e = rw e h

-- images below n
pub inside-at : (tau : List ℕ) (n : ℕ) {r : Bool} → r ≡ each (is_inside tau n) 0 n → r ≡ true → (b : ℕ) → b < n → at tau b < n
inside-at tau n e h b l = ltb-true (at tau b) n (each_at (is_inside tau n) n b (sym e ∙ h) l)

-- there are keys for all atoms
pub told-size : (u : List ℕ) (n : ℕ) (k : List ℕ) (v : ℕ) {k' k'' : List ℕ} → k'' ≡ k' → k' ≡ finer_told u n k v → n ≤ length k → n ≤ length k''
told-size u n k v e f l = rw (e, f) (told-long u n k v l)

pub size-kept : {n : ℕ} {k k' : List ℕ} → k' ≡ k → n ≤ length k → n ≤ length k'
size-kept e l = rw e l
