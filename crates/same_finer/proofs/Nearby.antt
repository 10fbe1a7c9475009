-- A sum over the atoms whose bonds weigh is that over all. Assumes nothing.
use mathlib.Core.Path.{◌≡◌, sym, ap, ◌∙◌, subst}
use mathlib.Core.List.{List}
use Prim.Native.Nat.{ℕ, zero, suc, ◌+◌, ◌-◌, ◌*◌, ◌/◌, ◌%◌, ◌^◌, ◌<◌, ◌≤◌}
use native.Mathlib.Nat.{add-zero, div-one, div-eq_of_lt, lt_of_lt_of_le}
use native.Mathlib.Omega.{arith}
use lib.Pow.{shr-shr, pow_mono}
use lib.Count.{count_trailing_zeros}
use lib.Dec.{ltb}
use borrow.Author.Tests.{ltb-true, ltb-false}
use Rattle.loops.specs.Loop.{run}
use Rattle.loops.proofs.Loops.{Ran, ran-start, ran-step, ran-end}
use Rattle.same_place.specs.Place.{entry}
use Rattle.same_keys.specs.Keys.{prime, at}
use Rattle.same_open.specs.Open.{bit}
use Rattle.same_open.proofs.Laws.{cases}
use Rattle.same_open.proofs.Masks.{Masked, masked-end, bit-none, by_equal}
use Rattle.same_support.proofs.Standing.{none_below, some_left, among-left}
use Rattle.same_finer.specs.Finer.{times_low, add_weighed, Near}
use Rattle.same_finer.proofs.Low.{times-bound, key-low}

-- the set that a loop from n down to 0 has made
pub near-made : {w : List ℕ} {n a mask e : ℕ} → Masked (λ x. entry w a x ≡ 0 → ⊥) n mask e → e ≤ 0 → Near w n a mask
near-made {w} {n} {a} {mask} {e} m h =
    let z : n - e ≡ n = omega arith in
    record { low = subst (λ (x : ℕ). mask < 2 ^ x) z m.low; held = masked-end m h }

-- steps that change nothing can be left out
ran-skip : {S : Type 0} {step : ℕ → S → S} {s₀ s : S} {n i : ℕ} (t : ℕ) → Ran step s₀ n i s → i + t ≤ n → ((j : ℕ) → i ≤ j → j < i + t → s ≡ step j s) → Ran step s₀ n (i + t) s
ran-skip {i = i} zero l h f = rw (add-zero i) l
ran-skip {s = s} {i = i} (suc t) l h f =
    let e : i + suc t ≡ i + 1 + t = omega arith in
    rw e (ran-skip {i = i + 1} t (ran-step l s (omega arith) (f i (omega arith) (omega arith))) (omega arith) (λ j u v. f j (omega arith) (omega arith)))

-- a bond that does not weigh adds nothing
adds_none : (x y s : ℕ) → x ≡ 0 → s ≡ s + times_low x y
unfolding times_low
adds_none x y s e = rw e (omega arith)

-- a number below 2 ^ n has no digit from n on
digit-below : (m n d : ℕ) → m < 2 ^ n → 0 < m / 2 ^ d → d < n
digit-below m n d h p = cases (ltb d n) (λ e. ltb-true d n e) (λ e. let z : m / 2 ^ d ≡ 0 = div-eq_of_lt (lt_of_lt_of_le h (pow_mono {i = n} {j = d} (ltb-false d n e))) in absurd (omega (arith, z, p)))

-- the sum over the atoms below b is made, and those of the set from b on are left
pub record Summed (w mx : List ℕ) (n a key near sum rest b : ℕ) : Type 0 where
  pub ran : Ran (add_weighed w mx a) (key % prime) n b sum
  pub low : sum ≤ prime + 17592186044416 * b
  pub left : rest ≡ near / 2 ^ b

-- so it is at first, with the whole set
pub summed-start : {w mx : List ℕ} {n a key near : ℕ} → Summed w mx n a key near (key % prime) near 0
summed-start {key = key} {near} = record { ran = ran-start; low = omega (arith, key-low key); left = sym (div-one near) }

module _ {w mx : List ℕ} {n a key near sum rest b : ℕ} (m : Near w n a near) (g : Summed w mx n a key near sum rest b) where
  -- atoms that are not left add nothing
  summed-past : (t : ℕ) → b + t ≤ n → ((j : ℕ) → j < t → bit rest j ≡ 1 → ⊥) → Ran (add_weighed w mx a) (key % prime) n (b + t) sum
  summed-past t h f =
      ran-skip t g.ran h
      (λ j u v. adds_none (entry w a j) (at mx j) sum (by_equal (entry w a j) 0 (λ e. e) (λ e. absurd (f (j - b) (omega arith) (among-left near b rest g.left j u (m.held j (omega arith) e))))))

  -- the next is one of n
  pub summed-low : (rest ≡ 0 → ⊥) → b + count_trailing_zeros 64 rest < n
  summed-low f =
      let t = count_trailing_zeros 64 rest in
      digit-below near n (b + t) m.low (subst (λ (x : ℕ). 0 < x) (ap (λ (x : ℕ). x / 2 ^ t) g.left ∙ shr-shr near b t) (some_left 64 rest (omega (arith, f))))

  -- and after it
  pub summed-step : (rest ≡ 0 → ⊥) → {r : ℕ} → r ≡ times_low (entry w a (b + count_trailing_zeros 64 rest)) (at mx (b + count_trailing_zeros 64 rest)) → Summed w mx n a key near (sum + r) (rest / 2 ^ count_trailing_zeros 64 rest / 2) (b + count_trailing_zeros 64 rest + 1)
  summed-step f {r} e =
      let t = count_trailing_zeros 64 rest in
      let l = summed-low f in
      record {
        ran = ran-step (summed-past t (omega (arith, l)) (none_below 64 rest)) (sum + r) l (ap (λ (x : ℕ). sum + x) e);
        low = omega (arith, e, times-bound (entry w a (b + t)) (at mx (b + t)), g.low);
        left = ap (λ (x : ℕ). x / 2 ^ t / 2) g.left ∙ ap (λ (x : ℕ). x / 2) (shr-shr near b t) ∙ shr-shr near (b + t) 1;
      }

  -- where none is left the sum is made
  pub summed-end : rest ≡ 0 → sum ≡ run (add_weighed w mx a) 0 n (key % prime)
  summed-end e = let k = g.ran.within in ran-end (summed-past (n - b) (omega (arith, k)) (λ j h. bit-none rest j e)) (omega arith)
