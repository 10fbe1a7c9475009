-- The leftmost opening: the offset of an open bridge, and none of another open one is smaller. Assumes nothing.
use Prim.Native.Nat.{ℕ, zero, suc, ◌+◌, ◌≤◌, ◌<◌}
use native.Mathlib.Omega.{arith}
use native.Mathlib.Decide.{ℕ_discrete, dec_lt}
use mathlib.Core.Path.{◌≡◌, refl, sym, ◌∙◌}
use mathlib.Core.Logic.{◌⊎◌, inl, inr}
use mathlib.Core.List.{List}
use lib.ListN.{length, get_or, get_or-eq_default}
use borrow.Author.Tests.{eqb-true, eqb-false, ltb-true, ltb-false}
use Rattle.loops.specs.Loop.{run}
use Rattle.ids.specs.Limits.{bridges, max_text}
use Rattle.reading.proofs.Cases.{by-test}
use Rattle.reading.specs.Read.{earlier, leftmost}
use Rattle.reading.specs.Conditions.{Open, LeftmostOpening}

module _ (opener offset : List ℕ) where
  -- the lowest of p and the offsets of the open ones among c numbers from k on
  record Lowest (k c p q : ℕ) : Type 0 where
    pub below : q ≤ p
    pub least : (r : ℕ) → k ≤ r → r < k + c → Open opener r → q ≤ get_or offset r 0
    pub told : (q ≡ p) ⊎ ((r : ℕ) × (Open opener r) × (get_or offset r 0 ≡ q))

  -- one number
  record One (r p q : ℕ) : Type 0 where
    pub below : q ≤ p
    pub least : Open opener r → q ≤ get_or offset r 0
    pub told : (q ≡ p) ⊎ ((Open opener r) × (get_or offset r 0 ≡ q))

  one : (r p : ℕ) → One r p (earlier p (get_or opener r 0) (get_or offset r 0))
  one r p =
      by-test (One r p) _ _ _ (λ e. let z : get_or opener r 0 ≡ 0 = eqb-true (get_or opener r 0) 0 e in record { below = omega arith; least = λ o. absurd (omega arith); told = inl refl }) (λ e.
      by-test (One r p) _ _ _
      (λ f. record { below = omega (arith, ltb-true (get_or offset r 0) p f); least = λ o. omega arith; told = inr (positive (eqb-false (get_or opener r 0) 0 e), refl) })
      (λ f. record { below = omega arith; least = λ o. ltb-false (get_or offset r 0) p f; told = inl refl }))
    where
      positive : (get_or opener r 0 ≡ 0 → ⊥) → Open opener r
      positive n = omega arith

  lowest : (c k p : ℕ) → Lowest k c p (run (λ r x. earlier x (get_or opener r 0) (get_or offset r 0)) k c p)
  unfolding run
  lowest zero k p = record { below = omega arith; least = λ r l h. absurd (omega arith); told = inl refl }
  lowest (suc c) k p = both (one k p) (lowest c (suc k) (earlier p (get_or opener k 0) (get_or offset k 0)))
    where
      both : {x q : ℕ} → One k p x → Lowest (suc k) c x q → Lowest k (suc c) p q
      both {x} {q} a b = record { below = omega (arith, a.below, b.below); least = least; told = told a.told b.told }
        where
          least : (r : ℕ) → k ≤ r → r < k + suc c → Open opener r → q ≤ get_or offset r 0
          least r l h o = split (ℕ_discrete r k)
            where
              split : Dec (r ≡ k) → q ≤ get_or offset r 0
              split (yes e) = let f : q ≤ get_or offset k 0 = omega (arith, a.least (rw e at o), b.below) in rw e f
              split (no n) = b.least r (omega arith) (omega arith) o

          told : (x ≡ p) ⊎ ((Open opener k) × (get_or offset k 0 ≡ x)) → (q ≡ x) ⊎ ((r : ℕ) × (Open opener r) × (get_or offset r 0 ≡ q)) → (q ≡ p) ⊎ ((r : ℕ) × (Open opener r) × (get_or offset r 0 ≡ q))
          told (inl e) (inl f) = inl (f ∙ e)
          told (inr o) (inl f) = inr (k, o.0, o.1 ∙ sym f)
          told t (inr w) = inr w

  -- where every bridge is closed there is none
  pub closed_none : ((r : ℕ) → get_or opener r 0 ≡ 0) → max_text ≤ leftmost opener offset
  unfolding leftmost
  closed_none f = split (lowest bridges 0 max_text).told
    where
      split : (leftmost opener offset ≡ max_text) ⊎ ((r : ℕ) × (Open opener r) × (get_or offset r 0 ≡ leftmost opener offset)) → max_text ≤ leftmost opener offset
      split (inl e) = omega arith
      split (inr w) = absurd (omega (arith, f w.0, w.1))

  module _ (size : length opener ≡ bridges) where
    in-range : (r : ℕ) → Open opener r → r < bridges
    in-range r o = split (dec_lt r bridges)
      where
        split : Dec (r < bridges) → r < bridges
        split (yes l) = l
        split (no n) = let z : get_or opener r 0 ≡ 0 = get_or-eq_default opener 0 (omega arith) in absurd (omega arith)

    pub leftmost-open : leftmost opener offset < max_text → LeftmostOpening opener offset (leftmost opener offset)
    unfolding leftmost
    leftmost-open l = split (lowest bridges 0 max_text).told
      where
        split : (leftmost opener offset ≡ max_text) ⊎ ((r : ℕ) × (Open opener r) × (get_or offset r 0 ≡ leftmost opener offset)) → LeftmostOpening opener offset (leftmost opener offset)
        split (inl e) = absurd (omega arith)
        split (inr w) = record { number = w.0; still_open = w.1; opening = w.2; least = λ r o. (lowest bridges 0 max_text).least r (omega arith) (omega (arith, in-range r o)) o }

    -- where there is none, every bridge is closed
    pub none_open : ((r : ℕ) → Open opener r → get_or offset r 0 < max_text) → max_text ≤ leftmost opener offset → (r : ℕ) → get_or opener r 0 ≡ 0
    unfolding leftmost
    none_open early l r = split (ℕ_discrete (get_or opener r 0) 0)
      where
        split : Dec (get_or opener r 0 ≡ 0) → get_or opener r 0 ≡ 0
        split (yes e) = e
        split (no n) = let o : Open opener r = omega arith in absurd (omega (arith, early r o, (lowest bridges 0 max_text).least r (omega arith) (omega (arith, in-range r o)) o))

    -- the leftmost opening is the one that is computed
    pub opening-leftmost : {p : ℕ} → LeftmostOpening opener offset p → p < max_text → leftmost opener offset ≡ p
    unfolding leftmost
    opening-leftmost {p} w l =
        let q = (lowest bridges 0 max_text).least w.number (omega arith) (omega (arith, in-range w.number w.still_open)) w.still_open in
        let o = w.opening in
        let v = leftmost-open (omega arith) in
        let r = w.least v.number v.still_open in
        let e = v.opening in
        omega arith
