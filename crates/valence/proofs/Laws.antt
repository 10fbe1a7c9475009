-- Laws of valence: bounds for callers, and the room that a row of targets leaves. Assumes nothing.
use mathlib.Core.Path.{◌≡◌, refl, sym, ap, ◌∙◌}
use mathlib.Core.Bool.{Bool, true, false, ◌&&◌, ◌||◌, true≢false}
use mathlib.Core.List.{List, [], ◌∷◌}
use Prim.Native.Nat.{ℕ, ◌+◌, ◌-◌, ◌≤◌}
use native.Mathlib.Omega.{arith}
use lib.Dec.{eqb, leb, ltb}
use lib.ListN.{length, take, get_or}
use borrow.Author.Tests.{le-leb, leb-true, leb-false, ltb-true, ltb-false}
use Rattle.loops.specs.Loop.{pick}
use Rattle.loops.proofs.Loops.{and_left, and_right}
use Rattle.valence.specs.Valence.{targets, head_or0, first_target, targets_for, first_fitting, reached_in, values_of, hydrogens_of}
use Rattle.valence.specs.declared.Reached.{Reached}
use Rattle.valence.specs.declared.Reached.TheVariants.{Target, AboveAll}
use Rattle.valence.specs.declared.Hydrogens.{Hydrogens}

-- at most three targets, the first at most 4, all at most 6
abbrev few : List ℕ → Bool
few l = leb (length l) 3 && (leb (get_or l 0 0) 4 && (leb (get_or l 1 0) 6 && leb (get_or l 2 0) 6))

-- what holds of each row of the table holds of the targets of every element
module _ (test : List ℕ → Bool) where
  test-pick : (t : Bool) (a b : List ℕ) → test a ≡ true → test b ≡ true → test (pick t a b) ≡ true
  test-pick true a b e f = e
  test-pick false a b e f = f

  pub each-targets : test [] ≡ true → test (1 ∷ []) ≡ true → test (2 ∷ []) ≡ true → test (3 ∷ []) ≡ true → test (4 ∷ []) ≡ true → test (3 ∷ 5 ∷ []) ≡ true → test (2 ∷ 4 ∷ 6 ∷ []) ≡ true → (e : ℕ) → test (targets e) ≡ true
  unfolding targets
  each-targets none one two three four five six e =
      test-pick (eqb e 5) (3 ∷ []) _ three
      (test-pick (eqb e 6) (4 ∷ []) _ four
      (test-pick (eqb e 7) (3 ∷ 5 ∷ []) _ five
      (test-pick (eqb e 8) (2 ∷ []) _ two
      (test-pick (eqb e 9) (1 ∷ []) _ one
      (test-pick (eqb e 15) (3 ∷ 5 ∷ []) _ five
      (test-pick (eqb e 16) (2 ∷ 4 ∷ 6 ∷ []) _ six
      (test-pick (eqb e 17) (1 ∷ []) _ one
      (test-pick (eqb e 35) (1 ∷ []) _ one
      (test-pick (eqb e 53) (1 ∷ []) _ one
      (test-pick (eqb e 85) (1 ∷ []) _ one
      (test-pick (eqb e 117) (1 ∷ []) [] one none)))))))))))

pub record Few (l : List ℕ) : Type 0 where
  pub short : length l ≤ 3
  pub first : get_or l 0 0 ≤ 4
  pub second : get_or l 1 0 ≤ 6
  pub third : get_or l 2 0 ≤ 6

few-is : (l : List ℕ) → few l ≡ true → Few l
few-is l e =
    let f : (leb (get_or l 0 0) 4 && (leb (get_or l 1 0) 6 && leb (get_or l 2 0) 6)) ≡ true = and_right (leb (length l) 3) _ e in
    let g : (leb (get_or l 1 0) 6 && leb (get_or l 2 0) 6) ≡ true = and_right (leb (get_or l 0 0) 4) _ f in
    record {
      short = leb-true (length l) 3 (and_left _ (leb (get_or l 0 0) 4 && (leb (get_or l 1 0) 6 && leb (get_or l 2 0) 6)) e);
      first = leb-true (get_or l 0 0) 4 (and_left _ (leb (get_or l 1 0) 6 && leb (get_or l 2 0) 6) f);
      second = leb-true (get_or l 1 0) 6 (and_left _ (leb (get_or l 2 0) 6) g);
      third = leb-true (get_or l 2 0) 6 (and_right (leb (get_or l 1 0) 6) _ g);
    }

pub few-targets : (e : ℕ) → Few (targets e)
few-targets e = few-is (targets e) (each-targets few refl refl refl refl refl refl refl e)

head-is : (l : List ℕ) → head_or0 l ≡ get_or l 0 0
head-is [] = refl
head-is (t ∷ ts) = refl

first-is : (e : ℕ) → first_target e ≡ get_or (targets e) 0 0
unfolding first_target
first-is e = head-is (targets e)

pub first-within : (e : ℕ) → first_target e ≤ 4
first-within e = omega (arith, first-is e, (few-targets e).first)

-- the targets of a selected atom (t) or of another, over any list
abbrev taken : Bool → List ℕ → List ℕ
taken t l = pick t (take 1 l) l

over_first : (t : Bool) (l : List ℕ) (s : ℕ) → (head_or0 l ≡ 0 → ⊥) → s ≤ head_or0 l → Target (head_or0 l) ≡ reached_in (taken t l) s
unfolding reached_in first_fitting
over_first t [] s n h = absurd (n refl)
over_first true (x ∷ l) s n h = simp (le-leb s x h)
over_first false (x ∷ l) s n h = simp (le-leb s x h)

-- the first target is reached
module _ (e selected s : ℕ) {f : ℕ} (i : f ≡ first_target e) where
  module _ (n : f ≡ 0 → ⊥) where
    some : first_target e ≡ 0 → ⊥
    some h = n (i ∙ h)

    pub reach-first : s ≤ f → Target f ≡ reached_in (targets_for e selected) s
    unfolding first_target
    reach-first h = ap Target i ∙ over_first (eqb selected 1) (targets e) s some (omega arith)

-- one law for each return of `implied`
abbrev start : Bool → ℕ
start t = pick t 1 0

-- a selected atom whose sum is not below its first target has no hydrogens
selected-full : (l : List ℕ) (s : ℕ) → head_or0 l ≤ s → (values_of (reached_in (take 1 l) s)).target ≤ s
unfolding reached_in first_fitting
selected-full [] s h = omega arith
selected-full (t ∷ ts) s h = go (leb s t)
  where
    go : (b : Bool) → (values_of (pick b (Target t) AboveAll)).target ≤ s
    go true = h
    go false = omega arith

full-count : (t : Bool) (l : List ℕ) (s : ℕ) → head_or0 l ≤ s → (values_of (reached_in (taken t l) s)).target - s ≡ (values_of (reached_in (taken t l) s)).target - (s + start t)
full-count true l s h = omega (arith, selected-full l s h)
full-count false l s h = omega arith

pub not-above : (f s : ℕ) → (ltb 0 f && leb s f) ≡ true → s ≤ f
not-above f s h = leb-true s f (and_right (ltb 0 f) (leb s f) h)

none_below : (f s : ℕ) → (ltb 0 f && leb s f) ≡ false → f ≤ s
none_below f s h = go (ltb 0 f) refl (leb s f) refl h
  where
    go : (t : Bool) → ltb 0 f ≡ t → (u : Bool) → leb s f ≡ u → (t && u) ≡ false → f ≤ s
    go true p true q g = absurd (true≢false g)
    go true p false q g = omega (arith, leb-false s f q)
    go false p u q g = omega (arith, ltb-false 0 f p)

module _ (e selected s : ℕ) {r : Reached} (i : r ≡ reached_in (targets_for e selected) s) where
  answered : {k : ℕ} → k ≡ (values_of r).target - (s + start (eqb selected 1)) → ◌≡◌ {A = Hydrogens} (record { count = k; reached = r }) (hydrogens_of e selected s)
  unfolding hydrogens_of
  answered p = (λ j. record { count = p j; reached = r }) ∙ ap (λ (y : Reached). record { count = (values_of y).target - (s + start (eqb selected 1)); reached = y }) i

  pub implied-full : {f n : ℕ} → f ≡ first_target e → (ltb 0 f && leb s f) ≡ false → n ≡ (values_of r).target - s → ◌≡◌ {A = Hydrogens} (record { count = n; reached = r }) (hydrogens_of e selected s)
  unfolding first_target
  implied-full {f} g h p =
      answered (p ∙ ap (λ y. (values_of y).target - s) i ∙ full-count (eqb selected 1) (targets e) s (omega (arith, none_below f s h)) ∙ ap (λ y. (values_of y).target - (s + start (eqb selected 1))) (sym i))

pub implied-first : (e selected s : ℕ) {f k : ℕ} → f ≡ first_target e → (ltb 0 f && leb s f) ≡ true → k ≡ f - (s + start (eqb selected 1)) → ◌≡◌ {A = Hydrogens} (record { count = k; reached = Target f }) (hydrogens_of e selected s)
implied-first e selected s {f} i h p =
    let l = ltb-true 0 f (and_left (ltb 0 f) (leb s f) h) in
    answered e selected s (reach-first e selected s i (omega arith) (not-above f s h)) p

-- ---- the table by tests

-- the elements with a second target, and the others
or-false : (a b : Bool) → (a || b) ≡ false → (a ≡ false) × (b ≡ false)
or-false true b h = absurd (true≢false h)
or-false false b h = (refl, h)

abbrev lone : List ℕ → Bool
lone l = eqb (get_or l 1 0) 0 && eqb (get_or l 2 0) 0
