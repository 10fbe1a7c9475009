-- What `symbol_of` answers, from the numbers of a pair and of a letter. Assumes nothing.
use mathlib.Core.Path.{◌≡◌, refl, sym, ◌∙◌}
use mathlib.Core.Bool.{Bool, true, false, not}
use mathlib.Core.List.{[], ◌∷◌}
use Rattle.std.specs.Prelude.{Some, None}
use Prim.Native.Nat.{ℕ, zero, suc, ◌≤◌, ◌<◌}
use native.Mathlib.Omega.{arith}
use lib.Dec.{eqb}
use lib.ListN.{get_or-eq_default}
use borrow.Author.Tests.{ne_eqb, eqb-true, eqb-false, not-true}
use Rattle.loops.specs.Loop.{pick}
use Rattle.element.specs.Symbols.{listed, starts, symbols}
use Rattle.element.specs.Lookup.{number_of, selected_of, single_of, symbol_alone, nonzero, symbol_of, bytes_of}
use Rattle.element.specs.declared.Symbol.{Symbol}
use Rattle.element.specs.declared.Symbol.TheVariants.{Long, Brief, Half, Nothing}
use Rattle.element.proofs.Symbols.{listed-number, number-within, no_capital, no-capital, no-small-listed, Capital, capital}

brief-step : (t u : Bool) (n : ℕ) → t ≡ not (eqb n 0) → n ≤ 118 → pick t (Brief n) (pick u Half Nothing) ≡ symbol_alone (pick t n (pick u 255 0))
brief-step true u n e h = simp (not-true (eqb n 0) (sym e), ne_eqb n 255 (omega arith))
brief-step false true n e h = refl
brief-step false false n e h = refl

pub alone-is : (a : ℕ) → eqb a 42 ≡ false → selected_of a ≡ 0 → symbol_of a 0 ≡ symbol_alone (single_of a)
unfolding symbol_of single_of
alone-is a e s =
    simp (e, s, no-small-listed a 0 refl)
    (brief-step (listed (a ∷ []) symbols) (starts a symbols) (number_of (a ∷ [])) (listed-number (a ∷ [])) (number-within (a ∷ [])))

-- a number that there is, and one that there is not
pub known : {n s : ℕ} → Some s ≡ nonzero n → (s ≡ n) × (eqb s 0 ≡ false)
known {n} {s} e = split (eqb n 0) refl e
  where
    split : (t : Bool) → eqb n 0 ≡ t → Some s ≡ pick t None (Some n) → (s ≡ n) × (eqb s 0 ≡ false)
    split true h k = let z : ◌≡◌ {A = ℕ} 0 1 = cc in absurd (omega arith)
    split false h k = let q : s ≡ n = cc in (q, rw q h)

pub unknown : {n : ℕ} → None ≡ nonzero n → n ≡ 0
unknown {n} e = split (eqb n 0) refl e
  where
    split : (t : Bool) → eqb n 0 ≡ t → None ≡ pick t None (Some n) → n ≡ 0
    split true h k = eqb-true n 0 h
    split false h k = let z : ◌≡◌ {A = ℕ} 0 1 = cc in absurd (omega arith)

-- one law for each return of `alone`
pub star : (a : ℕ) → a ≡ 42 → Brief 0 ≡ symbol_of a 0
unfolding symbol_of
star a e = simp e

module _ (a : ℕ) (e : a ≡ 42 → ⊥) where
  pub chosen : {s : ℕ} → Some s ≡ nonzero (selected_of a) → Symbol.Selected s ≡ symbol_of a 0
  unfolding symbol_of
  chosen {s} g = let h = known g in simp (ne_eqb a 42 e, ← h.0, h.1)

  pub lone : {x : Symbol} → None ≡ nonzero (selected_of a) → x ≡ symbol_alone (single_of a) → x ≡ symbol_of a 0
  lone g i = i ∙ sym (alone-is a (ne_eqb a 42 e) (unknown g))

-- a symbol of two letters begins with a capital one
capital-of : (a b : ℕ) (t : Bool) → no_capital a ≡ t → 0 < number_of (a ∷ b ∷ []) → Capital a
capital-of a b true e h = absurd (omega (arith, no-capital a b e))
capital-of a b false e h = capital a e

-- one law for each return of `lookup`
module _ (a b : ℕ) where
  pub long : {n : ℕ} → Some n ≡ nonzero (number_of (a ∷ b ∷ [])) → Long n ≡ symbol_of a b
  unfolding symbol_of selected_of
  long {n} g =
      let h = known g in
      let i = eqb-false n 0 h.1 in
      let l : Capital a = capital-of a b (no_capital a) refl (omega arith) in
      simp
      (ne_eqb a 42 (omega arith), ne_eqb a 99 (omega arith), ne_eqb a 110 (omega arith), ne_eqb a 111 (omega arith), ne_eqb a 112 (omega arith), ne_eqb a 115 (omega arith), listed-number (a ∷ b ∷ []), ← h.0, h.1)

  pub no-pair : None ≡ nonzero (number_of (a ∷ b ∷ [])) → symbol_of a 0 ≡ symbol_of a b
  unfolding symbol_of
  no-pair g = simp (listed-number (a ∷ b ∷ []), unknown g, no-small-listed a 0 refl)

-- there is no symbol above 118
pub no_bytes : (e : ℕ) → 118 < e → bytes_of e ≡ []
unfolding bytes_of symbols
no_bytes zero h = absurd (omega arith)
no_bytes (suc e) h = get_or-eq_default symbols [] {n = e} (omega arith)
