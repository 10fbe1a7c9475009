-- Offsets within the limit of a text. Assumes nothing.
use Prim.Native.Nat.{ℕ, zero, suc, ◌+◌, ◌<◌, ◌≤◌}
use native.Mathlib.Omega.{arith}
use native.Mathlib.Decide.{ℕ_discrete, dec_lt}
use mathlib.Core.Path.{◌≡◌, refl, ◌∙◌}
use mathlib.Core.Bool.{Bool, true, false}
use mathlib.Core.List.{List}
use lib.ListN.{length, get_or, set, length-set, get_or-eq_default}
use lib.Seq.{get_or-set_same, get_or-set_other}
use lib.Dec.{leb}
use borrow.Author.Tests.{leb-true}
use Rattle.loops.specs.Loop.{pick, run}
use Rattle.ids.specs.Limits.{max_text}
use Rattle.reading_pieces.specs.State.{cap, capped}

cap-most : (q : ℕ) → cap q ≤ max_text
cap-most q = split (leb q max_text) refl
  where
    split : (t : Bool) → leb q max_text ≡ t → pick t q max_text ≤ max_text
    split true e = leb-true q max_text e
    split false e = omega arith

abbrev cap_at : ℕ → List ℕ → List ℕ
cap_at i t = set t i (cap (get_or t i 0))

run_length : (n k : ℕ) (l : List ℕ) → length (run cap_at k n l) ≡ length l
unfolding run
run_length zero k l = refl
run_length (suc n) k l = run_length n (suc k) (cap_at k l) ∙ length-set l k (cap (get_or l k 0))

one_more : (k : ℕ) (l : List ℕ) → ((j : ℕ) → j < k → get_or l j 0 ≤ max_text) → (j : ℕ) → j < suc k → get_or (cap_at k l) j 0 ≤ max_text
one_more k l h j u = split (ℕ_discrete j k)
  where
    here : Dec (k < length l) → get_or (cap_at k l) k 0 ≤ max_text
    here (yes i) = rw (get_or-set_same l k (cap (get_or l k 0)) 0 i) (cap-most (get_or l k 0))
    here (no i) = rw (get_or-eq_default (cap_at k l) 0 {n = k} (rw (length-set l k (cap (get_or l k 0))) (omega arith))) (omega arith)

    split : Dec (j ≡ k) → get_or (cap_at k l) j 0 ≤ max_text
    split (yes e) = rw e (here (dec_lt k (length l)))
    split (no n) = rw (get_or-set_other l k j (cap (get_or l k 0)) 0 (λ e. n e)) (h j (omega arith))

run-most : (n k : ℕ) (l : List ℕ) → ((j : ℕ) → j < k → get_or l j 0 ≤ max_text) → (j : ℕ) → j < k + n → get_or (run cap_at k n l) j 0 ≤ max_text
unfolding run
run-most zero k l h j u = h j (omega arith)
run-most (suc n) k l h j u = run-most n (suc k) (cap_at k l) (one_more k l h) j (omega arith)

module _ (n : ℕ) (l : List ℕ) where
  pub capped-length : length (capped n l) ≡ length l
  unfolding capped
  capped-length = run_length n 0 l

  pub capped-most : length l ≤ n → (j : ℕ) → get_or (capped n l) j 0 ≤ max_text
  unfolding capped
  capped-most h j = split (dec_lt j n)
    where
      split : Dec (j < n) → get_or (run cap_at 0 n l) j 0 ≤ max_text
      split (yes i) = run-most n 0 l (λ k u. absurd (omega arith)) j (omega arith)
      split (no i) = rw (get_or-eq_default (run cap_at 0 n l) 0 {n = j} (rw (run_length n 0 l) (omega arith))) (omega arith)
