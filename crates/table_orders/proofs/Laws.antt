-- Four ranks: their order, and a loop that fills them in. Assumes nothing.
use Prim.Native.Nat.{ℕ, zero, suc, ◌+◌, ◌*◌, ◌-◌, ◌<◌, ◌≤◌}
use native.Mathlib.Omega.{arith}
use native.Mathlib.Nat.{add-zero}
use native.Mathlib.Numerals.{add-one}
use mathlib.Core.Path.{◌≡◌, refl, sym, ap, ◌∙◌}
use mathlib.Core.Bool.{Bool, true, false}
use mathlib.Core.List.{List, [], ◌∷◌, ◌++◌, map, append_assoc, append-nil}
use lib.ListN.{length, take, get_or, set, replicate, length-set, length-append, length-map, length-take}
use lib.Seq.{take-suc-set, take_all}
use lib.IntN.{ℤ, pos}
use lib.Dec.{eqb, ltb}
use borrow.Author.Tests.{eq-eqb, ne_eqb, eqb-true, eqb-false, ltb-true, ltb-false}
use mir.Val.{bool_byte}
use Rattle.loops.specs.Loop.{pick, run}
use Rattle.parity.specs.Parity.{flip_if, oddly, odd_pairs, odd}
use Rattle.parity.specs.Mark.{other_mark, mark_if}
use Rattle.table.specs.Limits.{MARK}
use Rattle.table.specs.Cells.{atom_place, atom_cell, hydrogens, mark, end2, touches}
use Rattle.table.specs.Valid.{max_mark, Valid}
use Rattle.table.specs.Sound.{bond_degree, unfit, none_unfit}
use Rattle.table.specs.Orders.{bonds_from, bonds_at, hydrogen_rank, turns, turned_mark, turn_mark, turn_marks, at_end}
use Rattle.table.proofs.Valid.{range-pos, atom-row}
use Rattle.table.proofs.Sound.{fit-four, not-unfit}
use Rattle.table.proofs.Orders.{bonds-length, turned-marked, unmarked-stays, turned-length, but-unfit, turn_more, turned-but, turned-valid}

flip-false : (x : Bool) → flip_if x false ≡ x
flip-false true = refl
flip-false false = refl

pub odd-four : (a b c d : ℕ) → odd (a ∷ b ∷ c ∷ d ∷ []) ≡ flip_if (flip_if (ltb b a) (flip_if (ltb c a) (ltb d a))) (flip_if (flip_if (ltb c b) (ltb d b)) (ltb d c))
unfolding odd odd_pairs oddly
odd-four a b c d = rw (flip-false (ltb d a), flip-false (ltb d b), flip-false (ltb d c), flip-false (ltb d c))

pub other-same : (k : ℕ) → (k ≡ 1 → ⊥) → (k ≡ 2 → ⊥) → other_mark k ≡ k
other-same zero f g = refl
other-same (suc zero) f g = absurd (f refl)
other-same (suc (suc zero)) f g = absurd (g refl)
other-same (suc (suc (suc k))) f g = refl

-- what two numbers for each bond say at its ends
pub at_second : (l : List ℕ) (bonds : List ℤ) (a b : ℕ) {e : ℕ} → e ≡ end2 bonds b → e ≡ a → get_or l (2 * b + 1) 0 ≡ at_end l bonds a b
at_second l bonds a b p q = rw (eq-eqb (end2 bonds b) a (sym p ∙ q))

pub at_first : (l : List ℕ) (bonds : List ℤ) (a b : ℕ) {e : ℕ} → e ≡ end2 bonds b → (e ≡ a → ⊥) → get_or l (2 * b) 0 ≡ at_end l bonds a b
at_first l bonds a b p q = rw (ne_eqb (end2 bonds b) a (λ r. q (p ∙ r)), add-zero)

empty : (r : List ℕ) → length r ≡ 0 → r ≡ []
empty [] e = refl
empty (x ∷ r) e = absurd (omega arith)

-- a loop over m bonds that fills in the ranks of those at the atom a stands at the bond i, with k ranks of l
pub record Filling (rank : ℕ → ℕ) (bonds : List ℤ) (a m : ℕ) (l four : List ℕ) (k i : ℕ) : Type 0 where
  pub within : i ≤ m
  pub room : length four ≡ 4
  pub few : k ≤ 4
  pub same : take k four ++ map rank (bonds_from bonds a i (m - i)) ≡ l
  pub total : length l ≡ 4

-- a bool as a number
pub byte_one : (b : Bool) → bool_byte b ≡ pick b 1 0
byte_one true = refl
byte_one false = refl

pub filling-start : {rank : ℕ → ℕ} {bonds : List ℤ} {a m : ℕ} (h : ℕ) {k : ℕ} → k ≡ pick (eqb h 1) 1 0 → length (hydrogen_rank h ++ map rank (bonds_at bonds m a)) ≡ 4
    → Filling rank bonds a m (hydrogen_rank h ++ map rank (bonds_at bonds m a)) (replicate 4 1) k 0
unfolding bonds_at
filling-start {rank} {bonds} {a} {m} h {k} e t = record {
  within = omega arith;
  room = refl;
  few = rw e (go (eqb h 1));
  same = let d : m - 0 ≡ m = omega arith in rw (e, d) (at (eqb h 1));
  total = t;
}
  where
    go : (x : Bool) → pick x 1 0 ≤ 4
    go true = omega arith
    go false = omega arith

    at : (x : Bool) → take (pick x 1 0) (1 ∷ 1 ∷ 1 ∷ 1 ∷ []) ++ map rank (bonds_from bonds a 0 m) ≡ pick x (1 ∷ []) [] ++ map rank (bonds_from bonds a 0 m)
    at true = refl
    at false = refl

module _ {rank : ℕ → ℕ} {bonds : List ℤ} {a m : ℕ} {l four : List ℕ} {k i : ℕ} (w : Filling rank bonds a m l four k i) where
  taken : length (take k four) ≡ k
  taken = rw length-take (omega (arith, w.room, w.few))

  -- while ranks are missing there are bonds left
  pub filling-more : k < 4 → i < m
  unfolding bonds_from
  filling-more h = go (ltb i m) refl
    where
      none : m ≤ i → ⊥
      none g =
          let d : m - i ≡ 0 = omega arith in
          let e : take k four ++ [] ≡ l = rw d at w.same in
          omega (arith, w.total, taken, ap length (sym (append-nil (take k four)) ∙ e))

      go : (x : Bool) → ltb i m ≡ x → i < m
      go true e = ltb-true i m e
      go false e = absurd (none (ltb-false i m e))

  pass : k < 4 → touches bonds a i ≡ false → Filling rank bonds a m l four k (i + 1)
  unfolding bonds_from
  pass h e =
      let g = filling-more h in
      let d : m - i ≡ suc (m - (i + 1)) = omega arith in
      record {
        within = omega arith;
        room = w.room;
        few = w.few;
        same = rw (add-one i) (rw (d, e, add-one i) at w.same);
        total = w.total;
      }

  pub filling-pass : {next : List ℕ} {j : ℕ} {t : Bool} → k < 4 → t ≡ touches bonds a i → t ≡ false → next ≡ four → j ≡ k → Filling rank bonds a m l next j (i + 1)
  filling-pass h o p q r = rw (q, r) (pass h (sym o ∙ p))

  add : {v : ℕ} → k < 4 → touches bonds a i ≡ true → v ≡ rank i → Filling rank bonds a m l (set four k v) (k + 1) (i + 1)
  unfolding bonds_from
  add {v} h e f =
      let g = filling-more h in
      let d : m - i ≡ suc (m - (i + 1)) = omega arith in
      let r : k < length four = omega (arith, w.room) in
      record {
        within = omega arith;
        room = length-set four k v ∙ w.room;
        few = omega arith;
        same = rw (add-one i, add-one k, take-suc-set four k v r, f) (append_assoc (take k four) (rank i ∷ []) (map rank (bonds_from bonds a (suc i) (m - suc i))) ∙ rw (d, e, add-one i) at w.same);
        total = w.total;
      }

  pub filling-take : {next : List ℕ} {j v : ℕ} {t : Bool} → k < 4 → t ≡ touches bonds a i → t ≡ true → v ≡ rank i → next ≡ set four k v → j ≡ k + 1 → Filling rank bonds a m l next j (i + 1)
  filling-take h o p f q r = rw (q, r) (add h (sym o ∙ p) f)

  pub filling-end : 4 ≤ k → four ≡ l
  filling-end h =
      let e : four ++ map rank (bonds_from bonds a i (m - i)) ≡ l = rw (take_all k four (omega (arith, w.room))) at w.same in
      let z : map rank (bonds_from bonds a i (m - i)) ≡ [] = empty (map rank (bonds_from bonds a i (m - i))) (omega (arith, w.total, w.room, simp length-append at (ap length e))) in
      sym (append-nil four) ∙ ap (λ (r : List ℕ). four ++ r) (sym z) ∙ e

-- a marked atom that may be has four ranks
pub four-ranks : (atoms bonds : List ℤ) (m a : ℕ) (rank : ℕ → ℕ) {h : ℕ} → h ≡ hydrogens atoms a → (mark atoms a ≡ 0 → ⊥) → unfit atoms bonds m a ≡ false → length (hydrogen_rank h ++ map rank (bonds_at bonds m a)) ≡ 4
four-ranks atoms bonds m a rank {h} q k u =
    let f = fit-four atoms bonds 0 m a u (omega (arith, k)) in
    let d : length (map rank (bonds_at bonds m a)) ≡ bond_degree bonds m a = length-map (bonds_at bonds m a) rank ∙ bonds-length bonds a m in
    go (eqb h 1) refl (map rank (bonds_at bonds m a)) (omega (arith, f.0, q, d)) (omega (arith, f.1, q))
  where
    go : (x : Bool) → eqb h 1 ≡ x → (l : List ℕ) → length l + h ≡ 4 → h ≤ 1 → length (pick x (1 ∷ []) [] ++ l) ≡ 4
    go true e l g z = omega (arith, g, eqb-true h 1 e)
    go false e l g z = omega (arith, g, z, eqb-false h 1 e)

-- four ranks in an array
pub four-of : (l : List ℕ) → length l ≡ 4 → odd (get_or l 0 0 ∷ get_or l 1 0 ∷ get_or l 2 0 ∷ get_or l 3 0 ∷ []) ≡ odd l
four-of [] e = absurd (omega arith)
four-of (a ∷ []) e = absurd (omega arith)
four-of (a ∷ b ∷ []) e = absurd (omega arith)
four-of (a ∷ b ∷ c ∷ []) e = absurd (omega arith)
four-of (a ∷ b ∷ c ∷ d ∷ []) e = refl
four-of (a ∷ b ∷ c ∷ d ∷ x ∷ l) e = absurd (omega arith)

-- the mark that they tell
pub turned-told : (rank : ℕ → ℕ → ℕ) (atoms bonds : List ℤ) (m a : ℕ) {h : ℕ} {l : List ℕ} {x : Bool} → h ≡ hydrogens atoms a → l ≡ hydrogen_rank h ++ map (rank a) (bonds_at bonds m a) → length l ≡ 4
    → x ≡ odd (get_or l 0 0 ∷ get_or l 1 0 ∷ get_or l 2 0 ∷ get_or l 3 0 ∷ []) → turned_mark rank atoms bonds m a ≡ mark_if x (mark atoms a)
unfolding turned_mark turns
turned-told rank atoms bonds m a {h} {l} {x} q e f p = ap (λ (y : Bool). mark_if y (mark atoms a)) (ap odd (rw (← q) (sym e)) ∙ sym (four-of l f) ∙ sym p)

-- a loop that turns the marks of n atoms of the table t₀ stands at the atom i
pub record Turning (rank : ℕ → ℕ → ℕ) (bonds : List ℤ) (m n : ℕ) (t₀ : List ℤ) (i : ℕ) (t : List ℤ) : Type 0 where
  pub within : i ≤ n
  pub is : t ≡ turn_marks rank bonds m i t₀

pub turning-start : {rank : ℕ → ℕ → ℕ} {bonds : List ℤ} {m n : ℕ} {t : List ℤ} → Turning rank bonds m n t 0 t
unfolding turn_marks run
turning-start = record { within = omega arith; is = refl }

module _ {rank : ℕ → ℕ → ℕ} {bonds : List ℤ} {m n : ℕ} {t₀ : List ℤ} {i : ℕ} {t : List ℤ} (w : Turning rank bonds m n t₀ i t) where
  pub turning-valid : Valid t₀ bonds n m → Valid t bonds n m
  turning-valid v = rw w.is (turned-valid rank bonds m i n t₀ v)

  pub turning-fit : none_unfit t₀ bonds n m ≡ true → i < n → unfit t bonds m i ≡ false
  turning-fit h l = not-unfit t bonds n m (ap (λ (u : List ℤ). none_unfit u bonds n m) w.is ∙ but-unfit (turned-but rank bonds m i n t₀) bonds m ∙ h) i l

  pub turning-length : length t ≡ length t₀
  turning-length = ap length w.is ∙ turned-length rank bonds m i t₀

  pub turning-put : {u : List ℤ} {z : ℤ} {k : ℕ} → i < n → k ≡ turned_mark rank t bonds m i → u ≡ set t (atom_place i MARK) z → z ≡ pos k → Turning rank bonds m n t₀ (i + 1) u
  turning-put l e f g = record { within = omega arith; is = f ∙ ap (set t (atom_place i MARK)) (g ∙ ap pos e) ∙ ap (turn_mark rank bonds m i) w.is ∙ sym (turn_more rank bonds m i t₀) }

  -- an atom without a mark is left as it is
  pub turning-skip : {u : List ℤ} {k : ℕ} → Valid t₀ bonds n m → i < n → k ≡ turned_mark rank t bonds m i → k ≡ 0 → u ≡ t → Turning rank bonds m n t₀ (i + 1) u
  turning-skip v l e z f =
      let z0 : mark t i ≡ 0 = omega (arith, ltb-false 0 (mark t i) (sym (turned-marked rank bonds m t i) ∙ ap (ltb 0) (sym e ∙ z))) in
      let c : atom_cell t i MARK ≡ pos 0 = range-pos (atom_cell t i MARK) max_mark (atom-row (turning-valid v) i l).mark ∙ ap pos z0 in
      record { within = omega arith; is = f ∙ sym (unmarked-stays rank bonds m t i c) ∙ ap (turn_mark rank bonds m i) w.is ∙ sym (turn_more rank bonds m i t₀) }

  pub turning-end : n ≤ i → t ≡ turn_marks rank bonds m n t₀
  turning-end h = let e : i ≡ n = omega (arith, w.within) in rw e at w.is
