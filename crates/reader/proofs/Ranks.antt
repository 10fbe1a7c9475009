-- The ranks of bonds in the text, in place of their keys, and the marks that are stored by them. Assumes nothing.
use Prim.Native.Nat.{ℕ, zero, suc, ◌+◌, ◌*◌, ◌≤◌, ◌<◌}
use native.Mathlib.Omega.{arith}
use native.Mathlib.Nat.{add-zero}
use native.Mathlib.Numerals.{add-one}
use mathlib.Core.Path.{◌≡◌, refl, sym, ap, ◌∙◌}
use mathlib.Core.Bool.{Bool, true, false, not}
use mathlib.Core.List.{List}
use lib.ListN.{length, get_or, set, length-set}
use lib.Seq.{get_or-set_same, get_or-set_other}
use lib.IntN.{ℤ, pos}
use lib.Dec.{eqb}
use borrow.Author.Tests.{eqb-true, not-true, not-false}
use Rattle.ids.specs.Limits.{max_bonds, max_text}
use Rattle.loops.specs.Loop.{each, run}
use Rattle.loops.proofs.Loops.{Ran, ran-start, ran-step, ran-end, each_at}
use Rattle.table.specs.Limits.{MARK}
use Rattle.table.specs.Cells.{atom_cell, mark, end2}
use Rattle.table.specs.Valid.{max_mark, Valid}
use Rattle.table.specs.Orders.{turn_mark, turn_marks, at_end}
use Rattle.table.proofs.Valid.{range-pos, atom-row}
use Rattle.table.proofs.Orders.{unmarked-stays, turn_more, turned-alike}
use Rattle.reading_state.specs.State.{key_count}
use Rattle.reading.specs.Read.{text_rank}
use Rattle.reader.specs.Ranks.{first_rank, second_rank, rank_bond, rank_bonds, Rankable}

-- ---- the loop over the bonds
pub record Ranking (bonds : List ℤ) (m : ℕ) (keys₀ : List ℕ) (i : ℕ) (keys : List ℕ) : Type 0 where
  pub ran : Ran (rank_bond bonds) keys₀ m i keys
  pub ahead : (k : ℕ) → 2 * i ≤ k → get_or keys k 0 ≡ get_or keys₀ k 0

pub ranking-start : {bonds : List ℤ} {m : ℕ} {keys : List ℕ} → Ranking bonds m keys 0 keys
ranking-start = record { ran = ran-start; ahead = λ k l. refl }

module _ {bonds : List ℤ} {m : ℕ} {keys₀ : List ℕ} {i : ℕ} {keys : List ℕ} (w : Ranking bonds m keys₀ i keys) where
  -- the keys ahead lie within a text
  pub ranking-key : Rankable bonds m keys₀ → (k : ℕ) → 2 * i ≤ k → get_or keys k 0 ≤ max_text
  ranking-key r k l = omega (arith, w.ahead k l, r.key k)

  pub ranking-next : Rankable bonds m keys₀ → (v : ℕ) → get_or (set keys (2 * i) v) (2 * i + 1) 0 ≤ max_text
  ranking-next r v = rw (get_or-set_other keys (2 * i) (2 * i + 1) v 0 (λ e. omega arith)) (ranking-key r (2 * i + 1) (omega arith))

  pub ranking-step : {e v x : ℕ} → i < m → e ≡ end2 bonds i → v ≡ first_rank (get_or keys (2 * i) 0) e → x ≡ second_rank (get_or (set keys (2 * i) v) (2 * i + 1) 0) → Ranking bonds m keys₀ (i + 1) (set (set keys (2 * i) v) (2 * i + 1) x)
  ranking-step {e} {v} {x} h p q r = record {
    ran = ran-step w.ran _ h (ap (set (set keys (2 * i) v) (2 * i + 1)) (r ∙ ap second_rank (get_or-set_other keys (2 * i) (2 * i + 1) v 0 (λ z. omega arith)))
        ∙ ap (λ (y : ℕ). set (set keys (2 * i) y) (2 * i + 1) (second_rank (get_or keys (2 * i + 1) 0))) (q ∙ ap (first_rank (get_or keys (2 * i) 0)) p));
    ahead = λ k l. get_or-set_other (set keys (2 * i) v) (2 * i + 1) k x 0 (λ z. omega arith) ∙ get_or-set_other keys (2 * i) k v 0 (λ z. omega arith) ∙ w.ahead k (omega arith);
  }

  pub ranking-end : m ≤ i → keys ≡ rank_bonds bonds m keys₀
  unfolding rank_bonds
  ranking-end h = ran-end w.ran h

-- ---- what stands in the list then
module _ (bonds : List ℤ) where
  step-length : (b : ℕ) (l : List ℕ) → length (rank_bond bonds b l) ≡ length l
  step-length b l = simp length-set

  step_other : (b j : ℕ) (l : List ℕ) → (j ≡ 2 * b → ⊥) → (j ≡ 2 * b + 1 → ⊥) → get_or (rank_bond bonds b l) j 0 ≡ get_or l j 0
  step_other b j l f g = get_or-set_other (set l (2 * b) _) (2 * b + 1) j _ 0 g ∙ get_or-set_other l (2 * b) j _ 0 f

  run-before : (k m j : ℕ) (l : List ℕ) → j < 2 * k → get_or (run (rank_bond bonds) k m l) j 0 ≡ get_or l j 0
  unfolding run
  run-before k zero j l h = refl
  run-before k (suc m) j l h = run-before (suc k) m j (rank_bond bonds k l) (omega arith) ∙ step_other k j l (λ e. omega arith) (λ e. omega arith)

  run-first : (k m j : ℕ) (l : List ℕ) → j < m → 2 * (k + j) + 1 < length l → get_or (run (rank_bond bonds) k m l) (2 * (k + j)) 0 ≡ first_rank (get_or l (2 * (k + j)) 0) (end2 bonds (k + j))
  unfolding run
  run-first k zero j l h r = absurd (omega arith)
  run-first k (suc m) zero l h r = rw (add-zero k)
      (run-before (suc k) m (2 * k) (rank_bond bonds k l) (omega arith)
      ∙ get_or-set_other (set l (2 * k) _) (2 * k + 1) (2 * k) _ 0 (λ e. omega arith)
      ∙ get_or-set_same l (2 * k) _ 0 (omega arith))
  run-first k (suc m) (suc j) l h r =
      let e : k + suc j ≡ suc k + j = omega arith in
      rw e (run-first (suc k) m j (rank_bond bonds k l) (omega arith) (rw (step-length k l) (omega arith))
      ∙ ap (λ (x : ℕ). first_rank x (end2 bonds (suc k + j))) (step_other k (2 * (suc k + j)) l (λ q. omega arith) (λ q. omega arith)))

  run-second : (k m j : ℕ) (l : List ℕ) → j < m → 2 * (k + j) + 1 < length l → get_or (run (rank_bond bonds) k m l) (2 * (k + j) + 1) 0 ≡ second_rank (get_or l (2 * (k + j) + 1) 0)
  unfolding run
  run-second k zero j l h r = absurd (omega arith)
  run-second k (suc m) zero l h r = rw (add-zero k)
      (run-before (suc k) m (2 * k + 1) (rank_bond bonds k l) (omega arith)
      ∙ get_or-set_same (set l (2 * k) _) (2 * k + 1) _ 0 (rw (length-set l (2 * k) _) (omega arith)))
  run-second k (suc m) (suc j) l h r =
      let e : k + suc j ≡ suc k + j = omega arith in
      rw e (run-second (suc k) m j (rank_bond bonds k l) (omega arith) (rw (step-length k l) (omega arith))
      ∙ ap second_rank (step_other k (2 * (suc k + j) + 1) l (λ q. omega arith) (λ q. omega arith)))

  run_length : (k m : ℕ) (l : List ℕ) → length (run (rank_bond bonds) k m l) ≡ length l
  unfolding run
  run_length k zero l = refl
  run_length k (suc m) l = run_length (suc k) m (rank_bond bonds k l) ∙ step-length k l

  pub ranked-length : (m : ℕ) (l : List ℕ) → length (rank_bonds bonds m l) ≡ length l
  unfolding rank_bonds
  ranked-length m l = run_length 0 m l

-- they are the ranks in the text
module _ (bonds : List ℤ) (m : ℕ) (keys : List ℕ) (room : length keys ≡ key_count) (few : m ≤ max_bonds) where
  ranked-at : (a b : ℕ) → b < m → at_end (rank_bonds bonds m keys) bonds a b ≡ text_rank keys bonds a b
  unfolding rank_bonds text_rank
  ranked-at a b l = go (eqb (end2 bonds b) a) refl
    where
      go : (x : Bool) → eqb (end2 bonds b) a ≡ x → at_end (rank_bonds bonds m keys) bonds a b ≡ text_rank keys bonds a b
      go true e = rw e (let z : 0 + b ≡ b = omega arith in rw z at (run-second bonds 0 m b keys l (omega arith)))
      go false e = rw (e, add-zero (2 * b)) (let z : 0 + b ≡ b = omega arith in rw z at (run-first bonds 0 m b keys l (omega arith)))

  pub ranked-marks : (n : ℕ) (t : List ℤ) → turn_marks (at_end (rank_bonds bonds m keys) bonds) bonds m n t ≡ turn_marks (text_rank keys bonds) bonds m n t
  ranked-marks n t = turned-alike (at_end (rank_bonds bonds m keys) bonds) (text_rank keys bonds) bonds m (λ a b l e. ranked-at a b l) n t

-- ---- without marks nothing is turned
unmarked-turned : (rank : ℕ → ℕ → ℕ) (bonds : List ℤ) (m k : ℕ) (t : List ℤ) → ((a : ℕ) → a < k → atom_cell t a MARK ≡ pos 0) → turn_marks rank bonds m k t ≡ t
unfolding turn_marks run
unmarked-turned rank bonds m zero t h = refl
unmarked-turned rank bonds m (suc k) t h =
    ap (λ (j : ℕ). turn_marks rank bonds m j t) (sym (add-one k)) ∙ turn_more rank bonds m k t
    ∙ ap (turn_mark rank bonds m k) (unmarked-turned rank bonds m k t (λ a l. h a (omega arith))) ∙ unmarked-stays rank bonds m t k (h k (omega arith))

pub none-turned : (rank : ℕ → ℕ → ℕ) (t bonds : List ℤ) (n m : ℕ) {r : Bool} → Valid t bonds n m → r ≡ not (each (λ a. eqb (mark t a) 0) 0 n) → not r ≡ true → t ≡ turn_marks rank bonds m n t
none-turned rank t bonds n m {r} v e h =
    let z : each (λ a. eqb (mark t a) 0) 0 n ≡ true = not-false (each (λ a. eqb (mark t a) 0) 0 n) (sym e ∙ not-true r h) in
    sym (unmarked-turned rank bonds m n t (λ a l. range-pos (atom_cell t a MARK) max_mark (atom-row v a l).mark ∙ ap pos (eqb-true (mark t a) 0 (each_at (λ x. eqb (mark t x) 0) n a z l))))
