-- 25 exactly where P11's list says so. Assumes nothing.
use Prim.Native.Nat.{ℕ, zero, suc, ◌≤◌, ◌<◌}
use native.Mathlib.Omega.{arith}
use mathlib.Core.Path.{◌≡◌, refl, sym, ◌∙◌}
use mathlib.Core.Bool.{Bool, true, false, ◌&&◌, ◌||◌, not}
use mathlib.Core.Logic.{◌⊎◌, inl, inr, ⊎_elim}
use mathlib.Core.List.{List}
use lib.ListN.{get_or}
use lib.IntN.{ℤ, pos, negsuc}
use lib.Dec.{eqb, leb, ltb}
use borrow.Author.Tests.{eq-eqb, ne_eqb, eqb-true, eqb-false, le-leb, lt-leb, leb-true, leb-false, lt-ltb, le-ltb, ltb-true, ltb-false, not-true}
use Rattle.loops.specs.Loop.{pick, each}
use Rattle.loops.proofs.Loops.{and_left, and_right, each_at, each-fails}
use Rattle.ids.specs.Limits.{max_text, max_depth, bridges}
use Rattle.table.specs.Cells.{in_range}
use Rattle.table.specs.Valid.{valid, Valid, max_mark}
use Rattle.table.proofs.Valid.{facts, facts-back}
use Rattle.reading_pieces.specs.declared.Paused.{Paused}
use Rattle.reading_pieces.specs.Broken.{unsound, hub_astray, branch_astray, bridge_astray, field_above, broken_of, FieldAbove, Broken}

-- a test holds exactly where a fact does
pub record Says (t : Bool) (A : Type 0) : Type 0 where
  pub is : t ≡ true → A
  pub back : A → t ≡ true

or-says : {t u : Bool} {A B : Type 0} → Says t A → Says u B → Says (t || u) (A ⊎ B)
or-says {t} {u} {A} {B} x y = record { is = is t u x.is y.is; back = ⊎_elim (λ a. left t u (x.back a)) (λ b. right t u (y.back b)) }
  where
    is : (t u : Bool) → (t ≡ true → A) → (u ≡ true → B) → (t || u) ≡ true → A ⊎ B
    is true u f g h = inl (f refl)
    is false u f g h = inr (g h)

    left : (t u : Bool) → t ≡ true → (t || u) ≡ true
    left true u h = refl
    left false u h = absurd (let z : ◌≡◌ {A = ℕ} 0 1 = cc in omega arith)

    right : (t u : Bool) → u ≡ true → (t || u) ≡ true
    right true u h = refl
    right false u h = h

and-says : {t u : Bool} {A B : Type 0} → Says t A → Says u B → Says (t && u) (A × B)
and-says {t} {u} x y = record { is = λ h. (x.is (and_left t u h), y.is (and_right t u h)); back = λ w. both t u (x.back w.0) (y.back w.1) }
  where
    both : (t u : Bool) → t ≡ true → u ≡ true → (t && u) ≡ true
    both true u e h = h
    both false u e h = e

not-says : {t : Bool} {A : Type 0} → (t ≡ false → A) → (A → t ≡ false) → Says (not t) A
not-says {t} f g = record { is = λ h. f (not-true t h); back = λ a. rw (g a) }

lt-says : (a b : ℕ) → Says (ltb a b) (a < b)
lt-says a b = record { is = ltb-true a b; back = lt-ltb a b }

le-says : (a b : ℕ) → Says (leb a b) (a ≤ b)
le-says a b = record { is = leb-true a b; back = le-leb a b }

eq-says : (a b : ℕ) → Says (eqb a b) (a ≡ b)
eq-says a b = record { is = eqb-true a b; back = eq-eqb a b }

-- a test that fails somewhere does not hold everywhere
each-not : (q : ℕ → Bool) (m j : ℕ) → j < m → q j ≡ false → each q 0 m ≡ false
each-not q m j l e = split (each q 0 m) refl
  where
    split : (t : Bool) → each q 0 m ≡ t → t ≡ false
    split true h = sym (each_at q m j h l) ∙ e
    split false h = refl

module _ (p : Paused) where
  -- ---- a field of the bracket
  field-says : Says (field_above p) (FieldAbove p)
  unfolding field_above
  field-says = record { is = λ h. to (tests.is h); back = λ w. tests.back (from w) }
    where
      Sum : Type 0
      Sum = ((((((999 < p.isotope) ⊎ (118 < p.element)) ⊎ (1 < p.selected)) ⊎ (max_mark < p.mark)) ⊎ (9 < p.hydrogens)) ⊎ (in_range p.charge (negsuc 8) (pos 9) ≡ false)) ⊎ (9999 < p.extension)

      tests : Says (field_above p) Sum
      tests = or-says (or-says (or-says (or-says (or-says (or-says (lt-says 999 p.isotope) (lt-says 118 p.element)) (lt-says 1 p.selected)) (lt-says max_mark p.mark)) (lt-says 9 p.hydrogens)) (not-says {t = in_range p.charge (negsuc 8) (pos 9)} (λ e. e) (λ e. e))) (lt-says 9999 p.extension)

      to : Sum → FieldAbove p
      to (inr h) = FieldAbove.extension h
      to (inl (inr h)) = FieldAbove.charge h
      to (inl (inl (inr h))) = FieldAbove.hydrogens h
      to (inl (inl (inl (inr h)))) = FieldAbove.mark h
      to (inl (inl (inl (inl (inr h))))) = FieldAbove.selected h
      to (inl (inl (inl (inl (inl (inr h)))))) = FieldAbove.element h
      to (inl (inl (inl (inl (inl (inl h)))))) = FieldAbove.isotope h

      from : FieldAbove p → Sum
      from (FieldAbove.extension h) = inr h
      from (FieldAbove.charge h) = inl (inr h)
      from (FieldAbove.hydrogens h) = inl (inl (inr h))
      from (FieldAbove.mark h) = inl (inl (inl (inr h)))
      from (FieldAbove.selected h) = inl (inl (inl (inl (inr h))))
      from (FieldAbove.element h) = inl (inl (inl (inl (inl (inr h)))))
      from (FieldAbove.isotope h) = inl (inl (inl (inl (inl (inl h)))))

  -- ---- the hub, the branches, the bridges
  -- a hub that is no atom, before the first or after it
  abbrev NoHub : Type 0
  NoHub = ((p.atoms ≡ 0) × (p.hub ≡ 0 → ⊥)) ⊎ ((0 < p.atoms) × (p.atoms ≤ p.hub))

  hub-says : Says (hub_astray p) NoHub
  hub-says = record { is = is (eqb p.atoms 0) refl; back = back }
    where
      some : (n : ℕ) → (n ≡ 0 → ⊥) → 0 < n
      some zero h = absurd (h refl)
      some (suc n) h = omega arith

      is : (t : Bool) → eqb p.atoms 0 ≡ t → pick t (not (eqb p.hub 0)) (leb p.atoms p.hub) ≡ true → NoHub
      is true e h = inl (eqb-true p.atoms 0 e, eqb-false p.hub 0 (not-true (eqb p.hub 0) h))
      is false e h = inr (some p.atoms (eqb-false p.atoms 0 e), leb-true p.atoms p.hub h)

      back : NoHub → pick (eqb p.atoms 0) (not (eqb p.hub 0)) (leb p.atoms p.hub) ≡ true
      back (inl w) = rw (eq-eqb p.atoms 0 w.0, ne_eqb p.hub 0 w.1)
      back (inr w) = rw (ne_eqb p.atoms 0 (λ e. omega (arith, w.0)), le-leb p.atoms p.hub w.1)

  abbrev NoBranch : Type 0
  NoBranch = (i : ℕ) × (i < p.depth) × (p.atoms ≤ get_or p.hubs i 0)

  branch-says : Says (branch_astray p) NoBranch
  unfolding branch_astray
  branch-says =
      not-says {t = each (λ i. ltb (get_or p.hubs i 0) p.atoms) 0 p.depth}
      (λ h. let f = each-fails (λ i. ltb (get_or p.hubs i 0) p.atoms) 0 p.depth h in (f.at, omega (arith, f.below), ltb-false (get_or p.hubs f.at 0) p.atoms f.fails))
      (λ w. each-not (λ i. ltb (get_or p.hubs i 0) p.atoms) p.depth w.0 w.1 (le-ltb (get_or p.hubs w.0 0) p.atoms w.2))

  abbrev NoBridge : Type 0
  NoBridge = (r : ℕ) × (r < bridges) × (p.atoms < get_or p.openers r 0)

  bridge-says : Says (bridge_astray p) NoBridge
  unfolding bridge_astray
  bridge-says =
      not-says {t = each (λ r. leb (get_or p.openers r 0) p.atoms) 0 bridges}
      (λ h. let f = each-fails (λ r. leb (get_or p.openers r 0) p.atoms) 0 bridges h in (f.at, omega (arith, f.below), leb-false (get_or p.openers f.at 0) p.atoms f.fails))
      (λ w. each-not (λ r. leb (get_or p.openers r 0) p.atoms) bridges w.0 w.1 (lt-leb (get_or p.openers w.0 0) p.atoms w.2))

  -- ---- all together
  module _ (atoms bonds : List ℤ) where
    tables-says : Says (unsound p atoms bonds) (Valid atoms bonds p.atoms p.bonds → ⊥)
    tables-says =
        not-says {t = valid atoms bonds p.atoms p.bonds}
        (λ h v. let e : true ≡ false = sym (facts-back v) ∙ h in let z : ◌≡◌ {A = ℕ} 0 1 = cc in omega arith)
        (λ n. split n (valid atoms bonds p.atoms p.bonds) refl)
      where
        split : (Valid atoms bonds p.atoms p.bonds → ⊥) → (t : Bool) → valid atoms bonds p.atoms p.bonds ≡ t → t ≡ false
        split n true e = absurd (n (facts atoms bonds p.atoms p.bonds e))
        split n false e = refl

    -- 25 exactly where the list says so
    pub broken-says : Says (broken_of p atoms bonds) (Broken p atoms bonds)
    unfolding broken_of
    broken-says = record { is = λ h. to (tests.is h); back = λ w. tests.back (from w) }
      where
        Astray : Type 0
        Astray = ((NoHub ⊎ NoBranch) ⊎ NoBridge) ⊎ (max_depth < p.depth)

        Half : Type 0
        Half = ((10 ≤ p.mode) × FieldAbove p) ⊎ ((p.mode ≡ 7) × (9 < p.tens))

        Sum : Type 0
        Sum = (((Valid atoms bonds p.atoms p.bonds → ⊥) ⊎ ((p.told ≡ 0) × Astray)) ⊎ (max_text < p.read)) ⊎ Half

        tests : Says (broken_of p atoms bonds) Sum
        tests =
            or-says
            (or-says
            (or-says tables-says (and-says (eq-says p.told 0) (or-says (or-says (or-says hub-says branch-says) bridge-says) (lt-says max_depth p.depth))))
            (lt-says max_text p.read))
            (or-says (and-says (le-says 10 p.mode) field-says) (and-says (eq-says p.mode 7) (lt-says 9 p.tens)))

        to : Sum → Broken p atoms bonds
        to (inl (inl (inl h))) = Broken.tables h
        to (inl (inl (inr (g, inl (inl (inl (inl w))))))) = Broken.early_hub g w.0 w.1
        to (inl (inl (inr (g, inl (inl (inl (inr w))))))) = Broken.hub g w.0 w.1
        to (inl (inl (inr (g, inl (inl (inr w)))))) = Broken.branch g w.0 w.1 w.2
        to (inl (inl (inr (g, inl (inr w))))) = Broken.bridge g w.0 w.1 w.2
        to (inl (inl (inr (g, inr h)))) = Broken.branches g h
        to (inl (inr h)) = Broken.bytes h
        to (inr (inl w)) = Broken.field w.0 w.1
        to (inr (inr w)) = Broken.digit w.0 w.1

        from : Broken p atoms bonds → Sum
        from (Broken.tables h) = inl (inl (inl h))
        from (Broken.early_hub g e n) = inl (inl (inr (g, inl (inl (inl (inl (e, n)))))))
        from (Broken.hub g l h) = inl (inl (inr (g, inl (inl (inl (inr (l, h)))))))
        from (Broken.branch g i l h) = inl (inl (inr (g, inl (inl (inr (i, l, h))))))
        from (Broken.bridge g r l h) = inl (inl (inr (g, inl (inr (r, l, h)))))
        from (Broken.branches g h) = inl (inl (inr (g, inr h)))
        from (Broken.bytes h) = inl (inr h)
        from (Broken.field m w) = inr (inl (m, w))
        from (Broken.digit m h) = inr (inr (m, h))
