-- Numbers of a list raised, and how high they get. Assumes nothing.
use mathlib.Core.Path.{◌≡◌, refl, sym, ◌∙◌}
use mathlib.Core.Bool.{Bool, true, false}
use mathlib.Core.List.{List, ◌++◌}
use Prim.Native.Nat.{ℕ, ◌+◌, ◌-◌, ◌<◌, ◌≤◌}
use native.Mathlib.Omega.{arith}
use native.Mathlib.Nat.{add-zero}
use lib.Dec.{eqb, ltb}
use lib.ListN.{length, get_or, drop, replicate, length-set, length-replicate, get_or-replicate, get_or-append, get_or-eq_default}
use lib.Seq.{get_or-set_same, get_or-set_other, get_or-append-add, get_or-drop}
use borrow.Author.Tests.{eqb-true, eqb-false, ltb-true, ltb-false}
use Rattle.loops.specs.Loop.{pick, up_to}
use Rattle.loops.proofs.Loops.{length-up_to, up_to-at}
use Rattle.table_graph.specs.Built.{bump}
use Rattle.same_model.specs.Same.{max_same}
use Rattle.same_keys.specs.Keys.{filled_to, Low}

-- a number of a list raised
pub bump_at : (s : List ℕ) (e x i : ℕ) → i < length s → get_or (bump s e x) i 0 ≡ get_or s i 0 + pick (eqb e i) x 0
bump_at s e x i l = go (eqb e i) refl
  where
    go : (y : Bool) → eqb e i ≡ y → get_or (bump s e x) i 0 ≡ get_or s i 0 + pick y x 0
    go true h = let q : e ≡ i = eqb-true e i h in rw q (get_or-set_same s i (get_or s i 0 + x) 0 l)
    go false h = let n = eqb-false e i h in get_or-set_other s e i (get_or s e 0 + x) 0 (λ q. n (sym q)) ∙ sym (add-zero (get_or s i 0))

-- it is low as it was, or by as much higher
pub bump-low : (s : List ℕ) (e x h : ℕ) → Low s h → Low (bump s e x) (h + x)
bump-low s e x h w = record { at = λ i. go i (ltb i (length s)) refl }
  where
    part : (i : ℕ) (y : Bool) → get_or s i 0 + pick y x 0 ≤ h + x
    part i true = omega (arith, w.at i)
    part i false = omega (arith, w.at i)

    go : (i : ℕ) (z : Bool) → ltb i (length s) ≡ z → get_or (bump s e x) i 0 ≤ h + x
    go i true q = rw (bump_at s e x i (ltb-true i (length s) q)) (part i (eqb e i))
    go i false q =
        let l : length (bump s e x) ≤ i = simp length-set (ltb-false i (length s) q) in
        omega (arith, get_or-eq_default (bump s e x) 0 l)

pub low-more : {o : List ℕ} {h k : ℕ} → Low o h → h ≤ k → Low o k
low-more w l = record { at = λ i. omega (arith, w.at i) }

pub low_same : {o l : List ℕ} {h : ℕ} → o ≡ l → Low l h → Low o h
low_same e w = rw e w

pub alike-low : (m v h : ℕ) → v ≤ h → Low (replicate m v) h
alike-low m v h l = record { at = λ i. go i (ltb i m) refl }
  where
    go : (i : ℕ) (z : Bool) → ltb i m ≡ z → get_or (replicate m v) i 0 ≤ h
    go i true e = omega (arith, get_or-replicate m i v 0 (ltb-true i m e))
    go i false e = omega (arith, get_or-eq_default (replicate m v) 0 {n = i} (omega (arith, length-replicate m v, ltb-false i m e)))

pub zeros-low : (m h : ℕ) → Low (replicate m 0) h
zeros-low m h = alike-low m 0 h (omega arith)

-- lists put together
pub low-append : (s t : List ℕ) (h : ℕ) → Low s h → Low t h → Low (s ++ t) h
low-append s t h u w = record { at = λ i. go i (ltb i (length s)) refl }
  where
    go : (i : ℕ) (z : Bool) → ltb i (length s) ≡ z → get_or (s ++ t) i 0 ≤ h
    go i true e = omega (arith, u.at i, get_or-append s t 0 i (ltb-true i (length s) e))
    go i false e =
        let l = ltb-false i (length s) e in
        let j : length s + (i - length s) ≡ i = omega arith in
        omega (arith, w.at (i - length s), rw j at (get_or-append-add s t (i - length s) 0))

pub low-drop : (n : ℕ) (s : List ℕ) (h : ℕ) → Low s h → Low (drop n s) h
low-drop n s h w = record { at = λ i. omega (arith, w.at (n + i), get_or-drop n s i 0) }

pub low-up_to : (f : ℕ → ℕ) (n h : ℕ) → ((a : ℕ) → f a ≤ h) → Low (up_to f 0 n) h
low-up_to f n h w = record { at = λ i. go i (ltb i n) refl }
  where
    go : (i : ℕ) (z : Bool) → ltb i n ≡ z → get_or (up_to f 0 n) i 0 ≤ h
    go i true e = omega (arith, w i, up_to-at f n i 0 (ltb-true i n e))
    go i false e = omega (arith, get_or-eq_default (up_to f 0 n) 0 {n = i} (omega (arith, length-up_to f 0 n, ltb-false i n e)))

pub low-filled : (f : ℕ → ℕ) (n h : ℕ) → ((a : ℕ) → f a ≤ h) → Low (filled_to f n) h
low-filled f n h w = low-append (up_to f 0 n) (drop n (replicate max_same 0)) h (low-up_to f n h w) (low-drop n (replicate max_same 0) h (zeros-low max_same h))
