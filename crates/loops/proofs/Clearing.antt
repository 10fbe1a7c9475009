-- A loop that writes zeros from a place of a list on. Assumes nothing.
use mathlib.Core.Path.{◌≡◌, refl, sym, ap, ◌∙◌}
use mathlib.Core.List.{List, [], ◌∷◌, ◌++◌, append_assoc, append-nil}
use Prim.Native.Nat.{ℕ, suc, ◌+◌, ◌-◌, ◌≤◌, ◌<◌}
use native.Mathlib.Omega.{arith}
use native.Mathlib.Numerals.{add-one}
use lib.ListN.{length, take, drop, get_or, set, replicate, drop_of_length-le, take-append-drop, length-set, length-append, length-replicate, replicate-append-replicate}
use lib.Seq.{drop-cons, set_at, length-take-le}

-- a loop that blanks the list r stands at i between from and to
pub record Blanking (r : List ℕ) (from to i : ℕ) (row : List ℕ) : Type 0 where
  pub begun : from ≤ i
  pub upto : i ≤ to
  pub long : length row ≡ length r
  pub so_far : row ≡ take from r ++ (replicate (i - from) 0 ++ drop i r)

pub blank-start : {r : List ℕ} {from to : ℕ} → from ≤ to → Blanking r from to from r
blank-start {r} {from} h = record {
  begun = omega arith;
  upto = h;
  long = refl;
  so_far = let z : from - from ≡ 0 = omega arith in rw z (sym (take-append-drop from r));
}

blank-more : {r row : List ℕ} {from to i : ℕ} → Blanking r from to i row → i < length r → set row i 0 ≡ take from r ++ (replicate ((i + 1) - from) 0 ++ drop (i + 1) r)
blank-more {r} {row} {from} {to} {i} b l =
    let n : length (take from r ++ replicate (i - from) 0) ≡ i = length-append (take from r) (replicate (i - from) 0) ∙ rw (length-take-le from r (omega arith), length-replicate) (omega arith) in
    let q : (i + 1) - from ≡ (i - from) + 1 = omega arith in
    ap (λ (x : List ℕ). set x i 0) (b.so_far ∙ sym (append_assoc (take from r) (replicate (i - from) 0) (drop i r)) ∙ ap (λ (x : List ℕ). (take from r ++ replicate (i - from) 0) ++ x) (drop-cons r i 0 l))
    ∙ set_at (take from r ++ replicate (i - from) 0) (get_or r i 0) (drop (suc i) r) 0 i n
    ∙ rw (q, ← replicate-append-replicate {A = ℕ} (i - from) 1 0, add-one i) (append_assoc (take from r) (replicate (i - from) 0) (0 ∷ drop (suc i) r)
    ∙ ap (λ (x : List ℕ). take from r ++ x) (sym (append_assoc (replicate (i - from) 0) (0 ∷ []) (drop (suc i) r))))

pub blank_step : {r row : List ℕ} {from to i : ℕ} → Blanking r from to i row → i < to → to ≤ length r → Blanking r from to (i + 1) (set row i 0)
blank_step {r} {row} {i = i} b h l = record { begun = omega arith; upto = omega arith; long = length-set row i 0 ∙ b.long; so_far = blank-more b (omega arith) }

pub blank-end : {r row : List ℕ} {from to i : ℕ} → Blanking r from to i row → to ≤ i → row ≡ take from r ++ (replicate (to - from) 0 ++ drop to r)
blank-end {to = to} {i = i} b h = let q : i ≡ to = omega arith in rw q at b.so_far

pub cleared : (r : List ℕ) (from : ℕ) {row : List ℕ} → row ≡ take from r ++ (replicate (length r - from) 0 ++ drop (length r) r) → row ≡ take from r ++ replicate (length r - from) 0
cleared r from e = let h : length r ≤ length r = omega arith in e ∙ rw (drop_of_length-le r h, append-nil {A = ℕ} (replicate (length r - from) 0))
