-- Sound tables: what the test says, the late checks one by one, and how many bonds an atom has. Assumes nothing.
use Prim.Native.Nat.{ℕ, zero, suc, ◌+◌, ◌<◌, ◌≤◌}
use native.Mathlib.Omega.{arith}
use native.Mathlib.Numerals.{add-one}
use native.Mathlib.Nat.{add-zero}
use mathlib.Core.Path.{◌≡◌, refl, sym, ap, ◌∙◌}
use mathlib.Core.Bool.{Bool, true, false, ◌&&◌, not, true≢false}
use mathlib.Core.Logic.{◌↔◌, ◌⊎◌, inl, inr, ⊎_elim}
use mathlib.Core.List.{List}
use lib.IntN.{ℤ}
use lib.Dec.{eqb, leb, ltb}
use borrow.Author.Tests.{eqb-true, eqb-false, eq-eqb, leb-true, leb-false, ltb-true, lt-ltb, not-true, not-false}
use Rattle.loops.specs.Loop.{pick, run}
use Rattle.loops.proofs.Loops.{and_left, and_right, each_at, each_all, each-fails}
use Rattle.table.specs.Valid.{valid, Valid}
use Rattle.table.specs.Cells.{selected, hydrogens, mark, touches}
use Rattle.table.specs.Sound.{count_bond, bond_degree, loose, none_loose, LooseAtom, four_neighbours, unfit, none_unfit, UnfitAtom, late_code, sound}
use Rattle.table.specs.Marks.{none_crowded, none_stray, CrowdedEnd, StrayMark}
use Rattle.table.proofs.Valid.{facts, facts-back}
use Rattle.table.proofs.Marks.{crowded-iff, stray-iff}

-- ---- the test, as facts
module _ (atoms bonds : List ℤ) (n m : ℕ) where
  pub sound-valid : sound atoms bonds n m ≡ true → Valid atoms bonds n m
  unfolding sound
  sound-valid h = facts atoms bonds n m (and_left (valid atoms bonds n m) (eqb (late_code atoms bonds n m) 0) h)

  pub sound-late : sound atoms bonds n m ≡ true → late_code atoms bonds n m ≡ 0
  unfolding sound
  sound-late h = eqb-true (late_code atoms bonds n m) 0 (and_right (valid atoms bonds n m) (eqb (late_code atoms bonds n m) 0) h)

  pub sound_back : Valid atoms bonds n m → late_code atoms bonds n m ≡ 0 → sound atoms bonds n m ≡ true
  unfolding sound
  sound_back v e = simp (facts-back v, e)

  -- ---- the late checks, in their order
  pub late-crowded : none_crowded bonds m ≡ false → late_code atoms bonds n m ≡ 20
  unfolding late_code
  late-crowded e = rw e

  pub late-stray : none_crowded bonds m ≡ true → none_stray bonds m ≡ false → late_code atoms bonds n m ≡ 21
  unfolding late_code
  late-stray e f = rw (e, f)

  pub late-loose : none_crowded bonds m ≡ true → none_stray bonds m ≡ true → none_loose atoms bonds n m ≡ false → late_code atoms bonds n m ≡ 22
  unfolding late_code
  late-loose e f g = rw (e, f, g)

  pub late-unfit : none_crowded bonds m ≡ true → none_stray bonds m ≡ true → none_loose atoms bonds n m ≡ true → none_unfit atoms bonds n m ≡ false → late_code atoms bonds n m ≡ 23
  unfolding late_code
  late-unfit e f g h = rw (e, f, g, h)

  pub late-fine : none_crowded bonds m ≡ true → none_stray bonds m ≡ true → none_loose atoms bonds n m ≡ true → none_unfit atoms bonds n m ≡ true → late_code atoms bonds n m ≡ 0
  unfolding late_code
  late-fine e f g h = rw (e, f, g, h)

  -- which of them is the first that fails
  pub data FirstLate : ℕ → Type 0 where
    crowded-first : none_crowded bonds m ≡ false → FirstLate 20
    stray-first : none_crowded bonds m ≡ true → none_stray bonds m ≡ false → FirstLate 21
    loose-first : none_crowded bonds m ≡ true → none_stray bonds m ≡ true → none_loose atoms bonds n m ≡ false → FirstLate 22
    unfit-first : none_crowded bonds m ≡ true → none_stray bonds m ≡ true → none_loose atoms bonds n m ≡ true → none_unfit atoms bonds n m ≡ false → FirstLate 23
    none_first : none_crowded bonds m ≡ true → none_stray bonds m ≡ true → none_loose atoms bonds n m ≡ true → none_unfit atoms bonds n m ≡ true → FirstLate 0

  pub first-late : FirstLate (late_code atoms bonds n m)
  unfolding late_code
  first-late = go (none_crowded bonds m) refl (none_stray bonds m) refl (none_loose atoms bonds n m) refl (none_unfit atoms bonds n m) refl
    where
      go : (x : Bool) → none_crowded bonds m ≡ x → (y : Bool) → none_stray bonds m ≡ y → (z : Bool) → none_loose atoms bonds n m ≡ z → (w : Bool) → none_unfit atoms bonds n m ≡ w → FirstLate (pick x (pick y (pick z (pick w 0 23) 22) 21) 20)
      go false e y f z g w h = crowded-first e
      go true e false f z g w h = stray-first e f
      go true e true f false g w h = loose-first e f g
      go true e true f true g false h = unfit-first e f g h
      go true e true f true g true h = none_first e f g h

  -- what no late check fails
  pub record Passed : Type 0 where
    pub uncrowded : none_crowded bonds m ≡ true
    pub touching : none_stray bonds m ≡ true
    pub tight : none_loose atoms bonds n m ≡ true
    pub fit : none_unfit atoms bonds n m ≡ true

  pub late-none : late_code atoms bonds n m ≡ 0 → Passed
  late-none = go (late_code atoms bonds n m) first-late
    where
      go : (c : ℕ) → FirstLate c → c ≡ 0 → Passed
      go c (crowded-first e) z = absurd (omega arith)
      go c (stray-first e f) z = absurd (omega arith)
      go c (loose-first e f g) z = absurd (omega arith)
      go c (unfit-first e f g h) z = absurd (omega arith)
      go c (none_first e f g h) z = record { uncrowded = e; touching = f; tight = g; fit = h }

  -- a late code is one of 20 to 23
  pub late-range : 0 < late_code atoms bonds n m → (20 ≤ late_code atoms bonds n m) × (late_code atoms bonds n m ≤ 23)
  late-range = go (late_code atoms bonds n m) first-late
    where
      go : (c : ℕ) → FirstLate c → 0 < c → (20 ≤ c) × (c ≤ 23)
      go c (crowded-first e) l = (omega arith, omega arith)
      go c (stray-first e f) l = (omega arith, omega arith)
      go c (loose-first e f g) l = (omega arith, omega arith)
      go c (unfit-first e f g h) l = (omega arith, omega arith)
      go c (none_first e f g h) l = absurd (omega arith)

  -- no atom is loose exactly if the test says so
  pub none-loose : ((a : ℕ) → a < n → loose atoms bonds m a ≡ false) → none_loose atoms bonds n m ≡ true
  unfolding none_loose
  none-loose h = each_all (λ a. not (loose atoms bonds m a)) n (λ a l. rw (h a l))

  pub not-loose : none_loose atoms bonds n m ≡ true → (a : ℕ) → a < n → loose atoms bonds m a ≡ false
  unfolding none_loose
  not-loose h a l = not-true (loose atoms bonds m a) (each_at (λ x. not (loose atoms bonds m x)) n a h l)

  -- without a selected atom none is loose
  pub unselected-tight : ((a : ℕ) → a < n → selected atoms a ≡ 0) → none_loose atoms bonds n m ≡ true
  unselected-tight h = none-loose (λ a l. rw (h a l))

  loose-atom : (a : ℕ) → a < n → loose atoms bonds m a ≡ true → LooseAtom atoms bonds n m
  loose-atom a l h =
      record {
        atom = a;
        used = l;
        is_selected = eqb-true (selected atoms a) 1 (and_left (eqb (selected atoms a) 1) (ltb (bond_degree bonds m a) 2) h);
        bonds_few = ltb-true (bond_degree bonds m a) 2 (and_right (eqb (selected atoms a) 1) (ltb (bond_degree bonds m a) 2) h);
      }

  loose-found : none_loose atoms bonds n m ≡ false → LooseAtom atoms bonds n m
  unfolding none_loose
  loose-found e = let f = each-fails (λ a. not (loose atoms bonds m a)) 0 n e in loose-atom f.at (omega (arith, f.below)) (not-false (loose atoms bonds m f.at) f.fails)

  loose-told : LooseAtom atoms bonds n m → none_loose atoms bonds n m ≡ false
  loose-told w = split (none_loose atoms bonds n m) refl
    where
      split : (x : Bool) → none_loose atoms bonds n m ≡ x → x ≡ false
      split false e = refl
      split true e =
          let z : loose atoms bonds m w.atom ≡ false = not-loose e w.atom w.used in
          let o : loose atoms bonds m w.atom ≡ true = simp (eq-eqb (selected atoms w.atom) 1 w.is_selected, lt-ltb (bond_degree bonds m w.atom) 2 w.bonds_few) in
          absurd (true≢false (sym o ∙ z))

  -- the same of marked atoms
  pub none-unfit : ((a : ℕ) → a < n → unfit atoms bonds m a ≡ false) → none_unfit atoms bonds n m ≡ true
  unfolding none_unfit
  none-unfit h = each_all (λ a. not (unfit atoms bonds m a)) n (λ a l. rw (h a l))

  pub not-unfit : none_unfit atoms bonds n m ≡ true → (a : ℕ) → a < n → unfit atoms bonds m a ≡ false
  unfolding none_unfit
  not-unfit h a l = not-true (unfit atoms bonds m a) (each_at (λ x. not (unfit atoms bonds m x)) n a h l)

  -- a marked atom that is not unfit has four neighbours, at most one of them a hydrogen
  pub fit-four : (a : ℕ) → unfit atoms bonds m a ≡ false → 0 < mark atoms a → (bond_degree bonds m a + hydrogens atoms a ≡ 4) × (hydrogens atoms a ≤ 1)
  fit-four a u k = go (four_neighbours atoms bonds m a) refl (rw (lt-ltb 0 (mark atoms a) k) at u)
    where
      go : (x : Bool) → four_neighbours atoms bonds m a ≡ x → not x ≡ false → (bond_degree bonds m a + hydrogens atoms a ≡ 4) × (hydrogens atoms a ≤ 1)
      go true e f = (
        eqb-true (bond_degree bonds m a + hydrogens atoms a) 4 (and_left (eqb (bond_degree bonds m a + hydrogens atoms a) 4) (leb (hydrogens atoms a) 1) e),
        leb-true (hydrogens atoms a) 1 (and_right (eqb (bond_degree bonds m a + hydrogens atoms a) 4) (leb (hydrogens atoms a) 1) e),
      )
      go false e f = absurd (true≢false f)

  unfit-found : none_unfit atoms bonds n m ≡ false → UnfitAtom atoms bonds n m
  unfolding none_unfit
  unfit-found e =
      let f = each-fails (λ a. not (unfit atoms bonds m a)) 0 n e in
      let a = f.at in
      let h = not-false (unfit atoms bonds m a) f.fails in
      let d = eqb (bond_degree bonds m a + hydrogens atoms a) 4 in
      record {
        atom = a;
        used = omega (arith, f.below);
        is_marked = ltb-true 0 (mark atoms a) (and_left (ltb 0 (mark atoms a)) (not (four_neighbours atoms bonds m a)) h);
        not_four = go a d refl (leb (hydrogens atoms a) 1) refl (not-true (four_neighbours atoms bonds m a) (and_right (ltb 0 (mark atoms a)) (not (four_neighbours atoms bonds m a)) h));
      }
    where
      go : (a : ℕ) (x : Bool) → eqb (bond_degree bonds m a + hydrogens atoms a) 4 ≡ x → (y : Bool) → leb (hydrogens atoms a) 1 ≡ y → (x && y) ≡ false → (bond_degree bonds m a + hydrogens atoms a ≡ 4 → ⊥) ⊎ (1 < hydrogens atoms a)
      go a false p y q w = inl (eqb-false (bond_degree bonds m a + hydrogens atoms a) 4 p)
      go a true p false q w = inr (leb-false (hydrogens atoms a) 1 q)
      go a true p true q w = absurd (true≢false w)

  unfit-told : UnfitAtom atoms bonds n m → none_unfit atoms bonds n m ≡ false
  unfit-told w = split (none_unfit atoms bonds n m) refl
    where
      split : (x : Bool) → none_unfit atoms bonds n m ≡ x → x ≡ false
      split false e = refl
      split true e =
          let f = fit-four w.atom (not-unfit e w.atom w.used) w.is_marked in
          absurd (⊎_elim (λ (d : bond_degree bonds m w.atom + hydrogens atoms w.atom ≡ 4 → ⊥). d f.0) (λ (l : 1 < hydrogens atoms w.atom). let g = f.1 in omega arith) w.not_four)

  -- a test that passes has no such case
  none_of : {P : Type 0} {x : Bool} → (P → x ≡ false) → x ≡ true → ¬ P
  none_of f e p = true≢false (sym e ∙ f p)

  test_of : {P : Type 0} (x : Bool) → (x ≡ false → P) → ¬ P → x ≡ true
  test_of true f n = refl
  test_of false f n = absurd (n (f refl))

  -- 20 exactly if two marked neighbours of an end of a double bond lie on the same side
  pub crowded-late : (late_code atoms bonds n m ≡ 20) ↔ CrowdedEnd bonds m
  crowded-late = (go (late_code atoms bonds n m) first-late, λ w. late-crowded ((crowded-iff bonds m).1 w))
    where
      go : (c : ℕ) → FirstLate c → c ≡ 20 → CrowdedEnd bonds m
      go c (crowded-first e) z = (crowded-iff bonds m).0 e
      go c (stray-first e f) z = absurd (omega arith)
      go c (loose-first e f g) z = absurd (omega arith)
      go c (unfit-first e f g h) z = absurd (omega arith)
      go c (none_first e f g h) z = absurd (omega arith)

  -- 21 exactly if a mark touches no bond of kind 2, and 20 is not given
  pub stray-late : (late_code atoms bonds n m ≡ 21) ↔ ((¬ CrowdedEnd bonds m) × StrayMark bonds m)
  stray-late = (go (late_code atoms bonds n m) first-late, λ w. late-stray (test_of (none_crowded bonds m) (crowded-iff bonds m).0 w.0) ((stray-iff bonds m).1 w.1))
    where
      go : (c : ℕ) → FirstLate c → c ≡ 21 → (¬ CrowdedEnd bonds m) × StrayMark bonds m
      go c (crowded-first e) z = absurd (omega arith)
      go c (stray-first e f) z = (none_of (crowded-iff bonds m).1 e, (stray-iff bonds m).0 f)
      go c (loose-first e f g) z = absurd (omega arith)
      go c (unfit-first e f g h) z = absurd (omega arith)
      go c (none_first e f g h) z = absurd (omega arith)

  -- 22 exactly if a selected atom has fewer than two bonds, and neither 20 nor 21 is given
  pub loose-late : (late_code atoms bonds n m ≡ 22) ↔ ((¬ CrowdedEnd bonds m) × (¬ StrayMark bonds m) × LooseAtom atoms bonds n m)
  loose-late = (go (late_code atoms bonds n m) first-late, λ w. late-loose (test_of (none_crowded bonds m) (crowded-iff bonds m).0 w.0) (test_of (none_stray bonds m) (stray-iff bonds m).0 w.1) (loose-told w.2))
    where
      go : (c : ℕ) → FirstLate c → c ≡ 22 → (¬ CrowdedEnd bonds m) × (¬ StrayMark bonds m) × LooseAtom atoms bonds n m
      go c (crowded-first e) z = absurd (omega arith)
      go c (stray-first e f) z = absurd (omega arith)
      go c (loose-first e f g) z = (none_of (crowded-iff bonds m).1 e, none_of (stray-iff bonds m).1 f, loose-found g)
      go c (unfit-first e f g h) z = absurd (omega arith)
      go c (none_first e f g h) z = absurd (omega arith)

  -- 23 exactly if a marked atom has not four neighbours with at most one hydrogen, and none of 20 to 22 is given
  pub unfit-late : (late_code atoms bonds n m ≡ 23) ↔ ((¬ CrowdedEnd bonds m) × (¬ StrayMark bonds m) × (¬ LooseAtom atoms bonds n m) × UnfitAtom atoms bonds n m)
  unfit-late = (go (late_code atoms bonds n m) first-late, λ w. late-unfit (test_of (none_crowded bonds m) (crowded-iff bonds m).0 w.0) (test_of (none_stray bonds m) (stray-iff bonds m).0 w.1) (test_of (none_loose atoms bonds n m) loose-found w.2) (unfit-told w.3))
    where
      go : (c : ℕ) → FirstLate c → c ≡ 23 → (¬ CrowdedEnd bonds m) × (¬ StrayMark bonds m) × (¬ LooseAtom atoms bonds n m) × UnfitAtom atoms bonds n m
      go c (crowded-first e) z = absurd (omega arith)
      go c (stray-first e f) z = absurd (omega arith)
      go c (loose-first e f g) z = absurd (omega arith)
      go c (unfit-first e f g h) z = (none_of (crowded-iff bonds m).1 e, none_of (stray-iff bonds m).1 f, none_of loose-told g, unfit-found h)
      go c (none_first e f g h) z = absurd (omega arith)

-- ---- how many bonds an atom has
pub run-last : {S : Type 0} (step : ℕ → S → S) (k m : ℕ) (s : S) → run step k (suc m) s ≡ step (k + m) (run step k m s)
unfolding run
run-last step k zero s = simp add-zero
run-last step k (suc m) s = let e : k + suc m ≡ suc k + m = omega arith in rw e (run-last step (suc k) m (step k s))

degree-suc : (bonds : List ℤ) (b a : ℕ) → bond_degree bonds (suc b) a ≡ bond_degree bonds b a + pick (touches bonds a b) 1 0
unfolding bond_degree
degree-suc bonds b a = let e : 0 + b ≡ b = omega arith in run-last (count_bond bonds a) 0 b 0 ∙ simp e

pub degree-more : (bonds : List ℤ) (b a : ℕ) → bond_degree bonds (b + 1) a ≡ bond_degree bonds b a + pick (touches bonds a b) 1 0
degree-more bonds b a = rw (add-one b) (degree-suc bonds b a)

pub degree-none : (bonds : List ℤ) (a : ℕ) → bond_degree bonds 0 a ≡ 0
unfolding bond_degree run
degree-none bonds a = refl

-- bonds that touch the atom alike are as many
pub degree-same : (bonds others : List ℤ) (b a : ℕ) → ((j : ℕ) → j < b → touches bonds a j ≡ touches others a j) → bond_degree bonds b a ≡ bond_degree others b a
degree-same bonds others zero a h = degree-none bonds a ∙ sym (degree-none others a)
degree-same bonds others (suc b) a h =
    degree-suc bonds b a
    ∙ ap (λ (k : ℕ). k + pick (touches bonds a b) 1 0) (degree-same bonds others b a (λ j l. h j (omega arith)))
    ∙ ap (λ (x : Bool). bond_degree others b a + pick x 1 0) (h b (omega arith))
    ∙ sym (degree-suc others b a)

pub degree-small : (bonds : List ℤ) (b a : ℕ) → bond_degree bonds b a ≤ b
degree-small bonds zero a = omega (arith, degree-none bonds a)
degree-small bonds (suc b) a = omega (arith, degree-suc bonds b a, degree-small bonds b a, at_most (touches bonds a b))
  where
    at_most : (x : Bool) → pick x 1 0 ≤ 1
    at_most true = omega arith
    at_most false = omega arith
