-- The bonds of all atoms, counted in one pass; and what is said of them. Assumes nothing.
use Prim.Native.Nat.{ℕ, zero, suc, ◌+◌, ◌-◌, ◌<◌, ◌≤◌}
use native.Mathlib.Omega.{arith}
use native.Mathlib.Nat.{add-zero}
use native.Mathlib.Numerals.{add-one}
use mathlib.Core.Path.{◌≡◌, refl, sym, ap, ◌∙◌}
use mathlib.Core.Bool.{Bool, true, false, ◌&&◌, ◌||◌, not, true≢false}
use mathlib.Core.List.{List, ◌∷◌}
use lib.ListN.{length, get_or, replicate, length-set, get_or-eq_default}
use lib.Seq.{get_or-set_same, get_or-set_other, ext_get_or}
use lib.IntN.{ℤ}
use lib.Dec.{eqb, ltb}
use borrow.Author.Tests.{not-true, eqb-true, eqb-false, ltb-true, ltb-false, lt-ltb, le-leb, lt-leb}
use Rattle.std.specs.Prelude.{Result, Ok, Err}
use Rattle.std.specs.Result.{is_ok}
use Rattle.loops.specs.Loop.{pick, each, up_to}
use Rattle.loops.proofs.Loops.{Left, left-start, left-pass, left-fail, left_end, length-up_to, up_to-at, each_at, each_all, each_same}
use Rattle.refusal.proofs.Codes.{code-range}
use Rattle.table.specs.Cells.{selected, hydrogens, mark, end1, end2, touches, kind}
use Rattle.refusal.specs.declared.Refusal.{Refusal}
use Rattle.table.specs.Valid.{valid, Valid, check_code}
use Rattle.kinds.specs.Kind.{is_mark}
use Rattle.table.specs.Marks.{none_crowded, none_stray, stray, unmarked}
use Rattle.table.proofs.Marks.{unmarked-crowded}
use Rattle.table.specs.Sound.{bond_degree, loose, none_loose, four_neighbours, unfit, none_unfit, late_code, sound}
use Rattle.table.proofs.Valid.{facts, bond-row}
use Rattle.table.proofs.Sound.{degree-more, degree-none, degree-small, sound-late, sound_back}
use Rattle.table_validity.specs.Degrees.{counted, Ends, plain, tight, fit, degrees_code, counts_code}

-- the ends of valid bonds
pub ends : {atoms bonds : List ℤ} {n m len : ℕ} → Valid atoms bonds n m → n ≤ len → Ends bonds m len
ends v l = record { few = v.bonds_few; order = λ b k. (bond-row v b k).order; second = λ b k. omega (arith, (bond-row v b k).second) }

abbrev pub degrees_to : List ℤ → ℕ → ℕ → List ℕ
degrees_to bonds b len = up_to (bond_degree bonds b) 0 len

none_from : (bonds : List ℤ) (k len : ℕ) → replicate len 0 ≡ up_to (bond_degree bonds 0) k len
unfolding up_to
none_from bonds k zero = refl
none_from bonds k (suc len) = ap (λ (r : List ℕ). 0 ∷ r) (none_from bonds (suc k) len) ∙ ap (λ (x : ℕ). x ∷ up_to (bond_degree bonds 0) (suc k) len) (sym (degree-none bonds k))

pub degrees-start : (bonds : List ℤ) {s : List ℕ} → s ≡ replicate (length s) 0 → s ≡ degrees_to bonds 0 (length s)
degrees-start bonds {s} e = e ∙ none_from bonds 0 (length s)

pub degrees-bound : (bonds : List ℤ) (b len : ℕ) {s : List ℕ} → s ≡ degrees_to bonds b len → (a : ℕ) → get_or s a 0 ≤ b
degrees-bound bonds b len {s} e a = rw e (go (ltb a len) refl)
  where
    go : (x : Bool) → ltb a len ≡ x → get_or (degrees_to bonds b len) a 0 ≤ b
    go true h = omega (arith, up_to-at (bond_degree bonds b) len a 0 (ltb-true a len h), degree-small bonds b a)
    go false h =
        let l : length (degrees_to bonds b len) ≤ a = omega (arith, length-up_to (bond_degree bonds b) 0 len, ltb-false a len h) in
        omega (arith, get_or-eq_default (degrees_to bonds b len) 0 l)

counted-at : (s : List ℕ) (e i : ℕ) → i < length s → get_or (counted s e) i 0 ≡ get_or s i 0 + pick (eqb e i) 1 0
counted-at s e i l = go (eqb e i) refl
  where
    go : (y : Bool) → eqb e i ≡ y → get_or (counted s e) i 0 ≡ get_or s i 0 + pick y 1 0
    go true h = let q : e ≡ i = eqb-true e i h in rw q (get_or-set_same s i (get_or s i 0 + 1) 0 l)
    go false h =
        let n = eqb-false e i h in
        get_or-set_other s e i (get_or s e 0 + 1) 0 (λ q. n (sym q)) ∙ sym (add-zero (get_or s i 0))

-- the second end is not raised by the first
pub second-bound : (s : List ℕ) (e f n : ℕ) → e < f → ((a : ℕ) → get_or s a 0 ≤ n) → get_or (counted s e) f 0 ≤ n
second-bound s e f n l h = rw (get_or-set_other s e f (get_or s e 0 + 1) 0 (λ q. omega arith)) (h f)

two_ends : (e f i : ℕ) → (e ≡ f → ⊥) → pick {A = ℕ} (eqb e i) 1 0 + pick {A = ℕ} (eqb f i) 1 0 ≡ pick (eqb e i || eqb f i) 1 0
two_ends e f i n = go (eqb e i) (eqb f i) refl refl
  where
    go : (y z : Bool) → eqb e i ≡ y → eqb f i ≡ z → pick {A = ℕ} y 1 0 + pick {A = ℕ} z 1 0 ≡ pick (y || z) 1 0
    go true true p q = absurd (n (eqb-true e i p ∙ sym (eqb-true f i q)))
    go true false p q = refl
    go false z p q = omega arith

-- one bond more, counted at both its ends
pub degrees-step : (bonds : List ℤ) (b len : ℕ) {s t u : List ℕ} {e f : ℕ} → s ≡ degrees_to bonds b len → e ≡ end1 bonds b → f ≡ end2 bonds b → e < f → t ≡ counted s e → u ≡ counted t f → u ≡ degrees_to bonds (b + 1) len
unfolding touches
degrees-step bonds b len {s} {t} {u} {e} {f} h pe pf l et eu =
    let n : length s ≡ len = ap length h ∙ length-up_to (bond_degree bonds b) 0 len in
    let nt : length t ≡ len = ap length et ∙ length-set s e (get_or s e 0 + 1) ∙ n in
    let nu : length u ≡ len = ap length eu ∙ length-set t f (get_or t f 0 + 1) ∙ nt in
    ext_get_or 0 u (degrees_to bonds (b + 1) len) (nu ∙ sym (length-up_to (bond_degree bonds (b + 1)) 0 len))
    (λ i k.
    let k1 : i < len = omega arith in
    let at-u : get_or u i 0 ≡ get_or t i 0 + pick (eqb f i) 1 0 = ap (λ (x : List ℕ). get_or x i 0) eu ∙ counted-at t f i (omega arith) in
    let at-t : get_or t i 0 ≡ get_or s i 0 + pick (eqb e i) 1 0 = ap (λ (x : List ℕ). get_or x i 0) et ∙ counted-at s e i (omega arith) in
    let at-s : get_or s i 0 ≡ bond_degree bonds b i = ap (λ (x : List ℕ). get_or x i 0) h ∙ up_to-at (bond_degree bonds b) len i 0 k1 in
    let both : pick {A = ℕ} (eqb e i) 1 0 + pick {A = ℕ} (eqb f i) 1 0 ≡ pick (touches bonds i b) 1 0 = two_ends e f i (λ q. omega arith) ∙ rw (pe, pf) in
    let to : get_or u i 0 ≡ bond_degree bonds (b + 1) i = omega (arith, at-u, at-t, at-s, both, degree-more bonds b i) in
    to ∙ sym (up_to-at (bond_degree bonds (b + 1)) len i 0 k1))

-- the checks on the counted numbers are the definition's
pub counts-code : (atoms bonds : List ℤ) (n m len : ℕ) {s : List ℕ} → s ≡ degrees_to bonds m len → n ≤ len → degrees_code atoms s n ≡ counts_code atoms bonds n m
unfolding degrees_code counts_code none_loose none_unfit fit
counts-code atoms bonds n m len {s} e l =
    rw (
      each_same (λ a. tight atoms a (get_or s a 0)) (λ a. not (loose atoms bonds m a)) n (λ a k. rw (e, up_to-at (bond_degree bonds m) len a 0 (omega arith))),
      each_same (λ a. fit atoms a (get_or s a 0)) (λ a. not (unfit atoms bonds m a)) n (λ a k. rw (e, up_to-at (bond_degree bonds m) len a 0 (omega arith))),
    )

-- atoms that are neither selected nor marked pass both
plain-parts : (s k d : Bool) → not (s || k) ≡ true → (not (s && d) ≡ true) × (not (k && d) ≡ true)
plain-parts true k d h = absurd (true≢false (sym h))
plain-parts false true d h = absurd (true≢false (sym h))
plain-parts false false d h = (refl, refl)

pub plain_code : (atoms bonds : List ℤ) (n m : ℕ) → each (plain atoms) 0 n ≡ true → counts_code atoms bonds n m ≡ 0
unfolding counts_code none_loose none_unfit
plain_code atoms bonds n m h =
    rw (
      each_all (λ a. not (loose atoms bonds m a)) n (λ a l. (plain-parts (eqb (selected atoms a) 1) (ltb 0 (mark atoms a)) (ltb (bond_degree bonds m a) 2) (each_at (plain atoms) n a h l)).0),
      each_all (λ a. not (unfit atoms bonds m a)) n (λ a l. (plain-parts (eqb (selected atoms a) 1) (ltb 0 (mark atoms a)) (not (four_neighbours atoms bonds m a)) (each_at (plain atoms) n a h l)).1),
    )

-- after 20 and 21
pub late-counts : (atoms bonds : List ℤ) (n m : ℕ) → none_crowded bonds m ≡ true → none_stray bonds m ≡ true → counts_code atoms bonds n m ≡ late_code atoms bonds n m
unfolding counts_code late_code
late-counts atoms bonds n m e f = rw (e, f)

-- no mark, none astray
unmarked-stray : (bonds : List ℤ) (m : ℕ) → unmarked bonds m ≡ true → none_stray bonds m ≡ true
unfolding unmarked none_stray
unmarked-stray bonds m h = each_all (λ b. not (stray bonds m b)) m (λ b l. rw (not-true (is_mark (kind bonds b)) (each_at (λ x. not (is_mark (kind bonds x))) m b h l)))

pub unmarked-counts : (atoms bonds : List ℤ) (n m : ℕ) → unmarked bonds m ≡ true → counts_code atoms bonds n m ≡ late_code atoms bonds n m
unmarked-counts atoms bonds n m h = late-counts atoms bonds n m (unmarked-crowded bonds m h) (unmarked-stray bonds m h)

-- one atom's test
pub fit-unmarked : (atoms : List ℤ) (a d : ℕ) → mark atoms a ≡ 0 → fit atoms a d ≡ true
unfolding fit
fit-unmarked atoms a d e = rw e

pub fit-hydrogens : (atoms : List ℤ) (a d : ℕ) → (mark atoms a ≡ 0 → ⊥) → 1 < hydrogens atoms a → fit atoms a d ≡ false
unfolding fit
fit-hydrogens atoms a d k h = rw (lt-ltb 0 (mark atoms a) (omega (arith, k)), lt-leb (hydrogens atoms a) 1 h) (go (eqb (d + hydrogens atoms a) 4))
  where
    go : (x : Bool) → not (true && not (x && false)) ≡ false
    go true = refl
    go false = refl

pub fit-four : (atoms : List ℤ) (a d : ℕ) → (mark atoms a ≡ 0 → ⊥) → hydrogens atoms a ≤ 1 → fit atoms a d ≡ eqb (d + hydrogens atoms a) 4
unfolding fit
fit-four atoms a d k h = rw (lt-ltb 0 (mark atoms a) (omega (arith, k)), le-leb (hydrogens atoms a) 1 h) (go (eqb (d + hydrogens atoms a) 4))
  where
    go : (x : Bool) → not (true && not (x && true)) ≡ x
    go true = refl
    go false = refl

-- a loop over the atoms stands at i of n: all before are tight, and those before are fit where the flag says so
pub record Degrees (atoms : List ℤ) (s : List ℕ) (n i : ℕ) (flag : Bool) : Type 0 where
  pub loose : Left (λ a. tight atoms a (get_or s a 0)) n i
  pub unfit : each (λ a. fit atoms a (get_or s a 0)) 0 n ≡ (flag && each (λ a. fit atoms a (get_or s a 0)) i (n - i))

and_assoc : (a b c : Bool) → (a && (b && c)) ≡ ((a && b) && c)
and_assoc true b c = refl
and_assoc false b c = refl

and-true : (a : Bool) → (a && true) ≡ a
and-true true = refl
and-true false = refl

module _ {atoms : List ℤ} {s : List ℕ} {n : ℕ} where
  pub degrees-begin : Degrees atoms s n 0 true
  degrees-begin = record { loose = left-start; unfit = let d : n - 0 ≡ n = omega arith in rw d }

  module _ {i : ℕ} {flag : Bool} (w : Degrees atoms s n i flag) where
    pub degrees-loose : i < n → tight atoms i (get_or s i 0) ≡ false → 22 ≡ degrees_code atoms s n
    unfolding degrees_code
    degrees-loose h e = rw (left-fail w.loose h e)

    pub degrees-next : (here : Bool) → i < n → tight atoms i (get_or s i 0) ≡ true → here ≡ fit atoms i (get_or s i 0) → Degrees atoms s n (i + 1) (flag && here)
    unfolding each
    degrees-next here h e f =
        let d : n - i ≡ suc (n - (i + 1)) = omega arith in
        record {
          loose = left-pass w.loose h e;
          unfit = w.unfit ∙ rw (d, f, add-one i) (and_assoc flag (fit atoms i (get_or s i 0)) (each (λ a. fit atoms a (get_or s a 0)) (suc i) (n - suc i)));
        }

    pub degrees-end : n ≤ i → degrees_code atoms s n ≡ pick flag 0 23
    unfolding degrees_code each
    degrees-end h =
        let d : n - i ≡ 0 = omega arith in
        let u : each (λ a. fit atoms a (get_or s a 0)) 0 n ≡ flag = w.unfit ∙ rw d (and-true flag) in
        rw (left_end w.loose h, u)

-- what a late check says of tables found valid
module _ (atoms bonds : List ℤ) (n m : ℕ) where
  pub unsound : valid atoms bonds n m ≡ false → false ≡ sound atoms bonds n m
  unfolding sound
  unsound e = rw e

  pub sound-told : (k : Result (Unit {0}) Refusal) → valid atoms bonds n m ≡ true → check_code k ≡ late_code atoms bonds n m → is_ok k ≡ sound atoms bonds n m
  sound-told (Ok _) v e = sym (sound_back atoms bonds n m (facts atoms bonds n m v) (sym e))
  sound-told (Err r) v e = go (sound atoms bonds n m) refl
    where
      go : (x : Bool) → sound atoms bonds n m ≡ x → false ≡ x
      go true h = absurd (omega (arith, (code-range r).positive, e, sound-late atoms bonds n m h))
      go false h = refl
