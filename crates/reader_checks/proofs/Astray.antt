-- The tests of a state put together. Assumes nothing.
use Prim.Native.Nat.{ℕ, zero, suc, ◌+◌, ◌<◌, ◌≤◌}
use native.Mathlib.Omega.{arith}
use native.Mathlib.Numerals.{add-one}
use mathlib.Core.Path.{◌≡◌, refl, sym, ap, ◌∙◌}
use mathlib.Core.Bool.{Bool, true, false, ◌&&◌, ◌||◌, not}
use mathlib.Core.List.{List}
use lib.ListN.{get_or}
use lib.IntN.{ℤ}
use lib.Dec.{eqb, leb, ltb}
use borrow.Author.Tests.{eq-eqb, ne_eqb, le-leb, lt-leb, lt-ltb, le-ltb, leb-true, leb-false}
use Rattle.loops.specs.Loop.{each}
use Rattle.ids.specs.Limits.{max_text, max_depth, bridges}
use Rattle.table.specs.Valid.{valid}
use Rattle.reading_state.specs.declared.Fields.{Fields}
use Rattle.reading_pieces.specs.declared.Paused.{Paused}
use Rattle.reading_pieces.specs.State.{goes_on}
use Rattle.reading_pieces.specs.Broken.{broken_of, branch_astray, bridge_astray, field_above}
use Rattle.reader_checks.specs.Broken.{hub_is_astray, branch_is_astray, bridge_is_astray, is_astray, is_above, is_half_read_above}

-- one number more passes, or does not
each_more : (p : ℕ → Bool) (k m : ℕ) → each p k (suc m) ≡ (each p k m && p (k + m))
unfolding each
each_more p k zero = split (p k) refl
  where
    split : (t : Bool) → p k ≡ t → (p k && true) ≡ p (k + 0)
    split true e = let q : k + 0 ≡ k = omega arith in rw (q, e)
    split false e = let q : k + 0 ≡ k = omega arith in rw (q, e)
each_more p k (suc m) =
    let q : suc k + m ≡ k + suc m = omega arith in
    ap (λ (t : Bool). p k && t) (each_more p (suc k) m) ∙ rw q (sym (assoc (p k) (each p (suc k) m) (p (k + suc m))))
  where
    assoc : (a b c : Bool) → ((a && b) && c) ≡ (a && (b && c))
    assoc true b c = refl
    assoc false b c = refl

above-not : (x n : ℕ) → ltb n x ≡ not (leb x n)
above-not x n = split (leb x n) refl
  where
    split : (t : Bool) → leb x n ≡ t → ltb n x ≡ not t
    split true e = le-ltb n x (leb-true x n e)
    split false e = lt-ltb n x (leb-false x n e)

not-both : (a b : Bool) → not (a && b) ≡ (not a || not b)
not-both true b = refl
not-both false b = refl

or-false : (t : Bool) → t ≡ (t || false)
or-false true = refl
or-false false = refl

-- a bridge more is looked at
pub bridge-more : (n : ℕ) (openers : List ℕ) (i : ℕ) {bad : Bool} → bad ≡ not (each (λ r. leb (get_or openers r 0) n) 0 i)
    → (bad || ltb n (get_or openers i 0)) ≡ not (each (λ r. leb (get_or openers r 0) n) 0 (i + 1))
bridge-more n openers i {bad} e =
    let z : 0 + i ≡ i = omega arith in
    let q : each (λ r. leb (get_or openers r 0) n) 0 (suc i) ≡ (each (λ r. leb (get_or openers r 0) n) 0 i && leb (get_or openers i 0) n) = each_more (λ r. leb (get_or openers r 0) n) 0 i ∙ rw z in
    rw (e, above-not (get_or openers i 0) n, add-one i, q) (sym (not-both (each (λ r. leb (get_or openers r 0) n) 0 i) (leb (get_or openers i 0) n)))

-- all of them are
pub bridge-all : (n : ℕ) (openers : List ℕ) (i : ℕ) {bad : Bool} → i ≤ bridges → bridges ≤ i → bad ≡ not (each (λ r. leb (get_or openers r 0) n) 0 i) → bad ≡ bridge_is_astray n openers
bridge-all n openers i l u e = e ∙ (let q : i ≡ bridges = omega arith in ap (λ (k : ℕ). not (each (λ r. leb (get_or openers r 0) n) 0 k)) q)

-- ---- the hub, the branches, the bridges
module _ (n hub depth : ℕ) (hubs openers : List ℕ) where
  pub astray-hub : hub_is_astray n hub ≡ true → true ≡ is_astray n hub depth hubs openers
  astray-hub e = first (hub_is_astray n hub) e
    where
      first : (t : Bool) → t ≡ true → true ≡ (t || branch_is_astray n depth hubs || bridge_is_astray n openers || ltb max_depth depth)
      first t e = rw e

  or-true : (t : Bool) → true ≡ (t || true)
  or-true true = refl
  or-true false = refl

  pub astray-deep : max_depth < depth → true ≡ is_astray n hub depth hubs openers
  astray-deep h = rw (lt-ltb max_depth depth h) (or-true (hub_is_astray n hub || branch_is_astray n depth hubs || bridge_is_astray n openers))

  module _ (h : hub_is_astray n hub ≡ false) where
    pub astray-branch : branch_is_astray n depth hubs ≡ true → true ≡ is_astray n hub depth hubs openers
    astray-branch e = go (hub_is_astray n hub) (branch_is_astray n depth hubs) h e
      where
        go : (t u : Bool) → t ≡ false → u ≡ true → true ≡ (t || u || bridge_is_astray n openers || ltb max_depth depth)
        go t u e f = rw (e, f)

    pub astray-bridge : branch_is_astray n depth hubs ≡ false → depth ≤ max_depth → bridge_is_astray n openers ≡ is_astray n hub depth hubs openers
    astray-bridge e l = go (hub_is_astray n hub) (branch_is_astray n depth hubs) (bridge_is_astray n openers) h e
      where
        go : (t u v : Bool) → t ≡ false → u ≡ false → v ≡ (t || u || v || ltb max_depth depth)
        go t u v e f = rw (e, f, le-ltb max_depth depth l) (or-false v)

-- ---- a half-read field
module _ (m t : ℕ) (f : Fields) where
  pub half_in : 10 ≤ m → is_above f ≡ is_half_read_above m t f
  half_in l = rw (le-leb 10 m l, ne_eqb m 7 (λ e. omega (arith, l, e))) (or-false (is_above f))

  pub half_out : m < 10 → (eqb m 7 && ltb 9 t) ≡ is_half_read_above m t f
  half_out l = rw (lt-leb 10 m l)

-- ---- all of them
module _ (p : Paused) (atoms bonds : List ℤ) where
  abbrev fields : Fields
  fields = record { element = p.element; selected = p.selected; isotope = p.isotope; hydrogens = p.hydrogens; charge = p.charge; extension = p.extension; mark = p.mark }

  abbrev half : Bool
  half = is_half_read_above p.mode p.tens fields

  -- the same with the charge as it was handed on
  pub half-with : {z : ℤ} {x : Bool} → z ≡ p.charge
      → x ≡ is_half_read_above p.mode p.tens (record { element = p.element; selected = p.selected; isotope = p.isotope; hydrogens = p.hydrogens; charge = z; extension = p.extension; mark = p.mark }) → x ≡ half
  half-with e h = rw e at h

  abbrev astray : Bool
  astray = is_astray p.atoms p.hub p.depth p.hubs p.openers

  tests : broken_of p atoms bonds ≡ (not (valid atoms bonds p.atoms p.bonds) || (goes_on p && astray) || ltb max_text p.read || half)
  unfolding broken_of branch_astray bridge_astray field_above is_above
  tests = refl

  pub broken-tables : valid atoms bonds p.atoms p.bonds ≡ false → true ≡ broken_of p atoms bonds
  broken-tables e = rw (tests, e)

  or-true-or : (a b : Bool) → true ≡ (a || true || b)
  or-true-or true b = refl
  or-true-or false b = refl

  pub broken-bytes : max_text < p.read → true ≡ broken_of p atoms bonds
  broken-bytes h = rw (tests, lt-ltb max_text p.read h) (or-true-or (not (valid atoms bonds p.atoms p.bonds) || (goes_on p && astray)) half)

  pub broken-half : half ≡ true → true ≡ broken_of p atoms bonds
  broken-half e = go (not (valid atoms bonds p.atoms p.bonds) || (goes_on p && astray) || ltb max_text p.read) half e ∙ sym tests
    where
      go : (t u : Bool) → u ≡ true → true ≡ (t || u)
      go true u e = refl
      go false u e = sym e

  module _ (v : valid atoms bonds p.atoms p.bonds ≡ true) (l : p.read ≤ max_text) (h : half ≡ false) where
    rest : broken_of p atoms bonds ≡ (goes_on p && astray)
    rest = tests ∙ go (valid atoms bonds p.atoms p.bonds) half v h
      where
        go : (t u : Bool) → t ≡ true → u ≡ false → (not t || (goes_on p && astray) || ltb max_text p.read || u) ≡ (goes_on p && astray)
        go t u e f = rw (e, f, le-ltb max_text p.read l) (sym (or-false (goes_on p && astray || false)) ∙ sym (or-false (goes_on p && astray)))

    pub broken-told : (p.told ≡ 0 → ⊥) → false ≡ broken_of p atoms bonds
    broken-told n = rw (rest, ne_eqb p.told 0 n)

    pub broken-astray : p.told ≡ 0 → astray ≡ broken_of p atoms bonds
    broken-astray e = go (goes_on p) (eq-eqb p.told 0 e) ∙ sym rest
      where
        go : (t : Bool) → t ≡ true → astray ≡ (t && astray)
        go t e = rw e
