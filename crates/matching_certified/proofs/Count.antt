-- Counting atoms by their labels: the cut, and the labels with an odd number. Assumes nothing.
use mathlib.Core.Path.{◌≡◌, refl, sym, ap, ◌∙◌}
use mathlib.Core.Bool.{Bool, true, false, ◌&&◌, not}
use mathlib.Core.List.{List, [], ◌∷◌}
use Prim.Native.Nat.{ℕ, zero, suc, ◌+◌, ◌-◌, ◌≤◌, ◌<◌}
use native.Mathlib.Omega.{arith}
use mir.Val.{bool_byte}
use native.Mathlib.Nat.{zero-add}
use native.Mathlib.Numerals.{add-one}
use native.Mathlib.Decide.{ℕ_discrete}
use lib.Dec.{eqb}
use lib.ListN.{length, take, drop, get_or, set, replicate, drop_of_length-le, length-set, length-replicate}
use lib.Seq.{drop-cons, get_or-set_same, get_or-set_other}
use borrow.Author.Tests.{eq-eqb, ne_eqb}
use Rattle.loops.proofs.Loops.{repeated-at}
use Rattle.loops.specs.Loop.{pick, run}
use Rattle.matching.specs.Graph.{count_if}
use Rattle.matching.specs.Cut.{cnt, odd?, odds, flips, marks}

abbrev has : List ℕ → List ℕ → ℕ → ℕ → Bool
has need lab v i = eqb (get_or need v 0) 1 && eqb (get_or lab v 0) i

-- a `bool` as a number
pub bit-byte : (b : Bool) → bool_byte b ≡ count_if b 0
bit-byte true = refl
bit-byte false = refl

bit_le : (b : Bool) → count_if b 0 ≤ 1
bit_le true = omega arith
bit_le false = omega arith

count_add : (b : Bool) (n : ℕ) → count_if b n ≡ count_if b 0 + n
count_add true n = omega arith
count_add false n = sym (zero-add n)

-- a count of the atoms with the label i stands at the atom v
pub record Counting (need lab : List ℕ) (i v n : ℕ) : Type 0 where
  pub upto : v ≤ length need
  pub small : n ≤ v
  pub same : cnt need lab i ≡ n + cnt (drop v need) (drop v lab) i

pub count-start : {need lab : List ℕ} {i : ℕ} → Counting need lab i 0 0
count-start {need} {lab} {i} = record { upto = omega arith; small = omega arith; same = sym (zero-add (cnt need lab i)) }

cnt-step : (need lab : List ℕ) (i v : ℕ) → v < length need → v < length lab
    → cnt (drop v need) (drop v lab) i ≡ count_if (has need lab v i) 0 + cnt (drop (v + 1) need) (drop (v + 1) lab) i
unfolding cnt
cnt-step need lab i v h l = rw (add-one, drop-cons need v 0 h, drop-cons lab v 0 l) (count_add (has need lab v i) (cnt (drop (suc v) need) (drop (suc v) lab) i))

pub count-step : {need lab : List ℕ} {i v n x : ℕ} → Counting need lab i v n → v < length need → length need ≤ length lab → x ≡ count_if (has need lab v i) 0
    → Counting need lab i (v + 1) (n + x)
count-step {need} {lab} {i} {v} c h l e =
    let s = cnt-step need lab i v h (omega arith) in
    let b = bit_le (has need lab v i) in
    let q = c.same in
    record { upto = omega arith; small = omega arith; same = omega arith }

pub count-end : {need lab : List ℕ} {i v n : ℕ} → Counting need lab i v n → length need ≤ v → n ≡ cnt need lab i
unfolding cnt
count-end {need} {lab} {i} {v} c h =
    let z : cnt (drop v need) (drop v lab) i ≡ 0 = rw (drop_of_length-le need h) in
    let q = c.same in
    omega arith

-- one atom more turns the parity at its label
odd-count : (b : Bool) (n : ℕ) → odd? (count_if b n) ≡ pick b (not (odd? n)) (odd? n)
unfolding odd?
odd-count true n = refl
odd-count false n = refl

-- the first v atoms
cnt-snoc : (need lab : List ℕ) (i v : ℕ) → v < length need → v < length lab → cnt (take (suc v) need) (take (suc v) lab) i ≡ count_if (has need lab v i) (cnt (take v need) (take v lab) i)
unfolding cnt
cnt-snoc [] lab i v h l = absurd (omega arith)
cnt-snoc (x ∷ xs) [] i v h l = absurd (omega arith)
cnt-snoc (x ∷ xs) (y ∷ ys) i zero h l = refl
cnt-snoc (x ∷ xs) (y ∷ ys) i (suc v) h l = ap (count_if (eqb x 1 && eqb y i)) (cnt-snoc xs ys i v (omega arith) (omega arith)) ∙ swap (eqb x 1 && eqb y i) (has xs ys v i) (cnt (take v xs) (take v ys) i)
  where
    swap : (p q : Bool) (n : ℕ) → count_if p (count_if q n) ≡ count_if q (count_if p n)
    swap true true n = refl
    swap true false n = refl
    swap false q n = refl

cnt-all : (need lab : List ℕ) (i : ℕ) → cnt (take (length need) need) (take (length need) lab) i ≡ cnt need lab i
unfolding cnt
cnt-all [] lab i = refl
cnt-all (x ∷ xs) [] i = refl
cnt-all (x ∷ xs) (y ∷ ys) i = ap (count_if (eqb x 1 && eqb y i)) (cnt-all xs ys i)

-- odd has the parities of the first v atoms
abbrev Parities : List ℕ → List ℕ → ℕ → List Bool → Type 0
Parities need lab v odd = (i : ℕ) → i < length odd → get_or odd i false ≡ odd? (cnt (take v need) (take v lab) i)

length-flips : (need lab : List ℕ) (v : ℕ) (odd : List Bool) → length (flips need lab v odd) ≡ length odd
length-flips need lab v odd = go (eqb (get_or need v 0) 1)
  where
    go : (b : Bool) → length (pick b (set odd (get_or lab v 0) (not (get_or odd (get_or lab v 0) false))) odd) ≡ length odd
    go true = length-set odd (get_or lab v 0) (not (get_or odd (get_or lab v 0) false))
    go false = refl

flipped : (need lab : List ℕ) (v : ℕ) (odd : List Bool) (i : ℕ) → i < length odd → get_or (flips need lab v odd) i false ≡ pick (has need lab v i) (not (get_or odd i false)) (get_or odd i false)
flipped need lab v odd i l = go (eqb (get_or need v 0) 1) (ℕ_discrete (get_or lab v 0) i)
  where
    here : (y : ℕ) → Dec (y ≡ i) → get_or (set odd y (not (get_or odd y false))) i false ≡ pick (eqb y i) (not (get_or odd i false)) (get_or odd i false)
    here y (yes e) = rw (e, eq-eqb i i refl) (get_or-set_same odd i (not (get_or odd i false)) false l)
    here y (no n) = rw (ne_eqb y i n) (get_or-set_other odd y i (not (get_or odd y false)) false (λ e. n (sym e)))

    go : (b : Bool) → Dec (get_or lab v 0 ≡ i) → get_or (pick b (set odd (get_or lab v 0) (not (get_or odd (get_or lab v 0) false))) odd) i false ≡ pick (b && eqb (get_or lab v 0) i) (not (get_or odd i false)) (get_or odd i false)
    go true d = here (get_or lab v 0) d
    go false d = refl

parity-step : (need lab : List ℕ) (v : ℕ) (odd : List Bool) → v < length need → length need ≤ length lab → Parities need lab v odd → Parities need lab (suc v) (flips need lab v odd)
parity-step need lab v odd h l p i k =
    let j : i < length odd = omega (arith, length-flips need lab v odd) in
    flipped need lab v odd i j ∙ rw (p i j) (sym (ap odd? (cnt-snoc need lab i v h (omega arith)) ∙ odd-count (has need lab v i) (cnt (take v need) (take v lab) i)))

parity-run : (need lab : List ℕ) (m v : ℕ) (odd : List Bool) → v + m ≡ length need → length need ≤ length lab → Parities need lab v odd
    → (i : ℕ) → i < length odd → get_or (run (flips need lab) v m odd) i false ≡ odd? (cnt need lab i)
unfolding run
parity-run need lab zero v odd e l p i k = let q : v ≡ length need = omega arith in p i k ∙ rw q (ap odd? (cnt-all need lab i))
parity-run need lab (suc m) v odd e l p i k =
    parity-run need lab m (suc v) (flips need lab v odd) (omega arith) l (parity-step need lab v odd (omega arith) l p) i (omega (arith, length-flips need lab v odd))

-- the marks after all atoms, from none
parities : (need lab : List ℕ) (m i : ℕ) → length need ≤ length lab → i < m → get_or (run (flips need lab) 0 (length need) (replicate m false)) i false ≡ odd? (cnt need lab i)
unfolding cnt odd?
parities need lab m i l h = parity-run need lab (length need) 0 (replicate m false) (zero-add (length need)) l (λ j k. repeated-at m j false) i (rw length-replicate h)

marks-odds : (need lab : List ℕ) (odd : List Bool) (n : ℕ) → ((i : ℕ) → i ≤ n → get_or odd i false ≡ odd? (cnt need lab i)) → marks odd n ≡ odds need lab n
unfolding marks odds
marks-odds need lab odd zero h = refl
marks-odds need lab odd (suc n) h = rw (h (suc n) (omega arith), marks-odds need lab odd n (λ i l. h i (omega arith)))

length_run : (need lab : List ℕ) (v m : ℕ) (odd : List Bool) → length (run (flips need lab) v m odd) ≡ length odd
unfolding run
length_run need lab v zero odd = refl
length_run need lab v (suc m) odd = length_run need lab (suc v) m (flips need lab v odd) ∙ length-flips need lab v odd

-- from no marks, m of them
pub marked-odds : (need lab : List ℕ) {odd : List Bool} (m : ℕ) → length need ≤ length lab → 0 < m → odd ≡ run (flips need lab) 0 (length need) (replicate m false)
    → marks odd (length odd - 1) ≡ odds need lab (m - 1)
marked-odds need lab {odd} m l h e =
    let n : length odd ≡ m = ap length e ∙ length_run need lab 0 (length need) (replicate m false) ∙ length-replicate m false in
    rw n (marks-odds need lab odd (m - 1) (λ i k. rw e (parities need lab m i l (omega arith))))

-- a count of the marks stands at i
pub record Marking (odd : List Bool) (i n : ℕ) : Type 0 where
  pub begun : 1 ≤ i
  pub upto : i - 1 ≤ length odd - 1
  pub small : n < i
  pub same : n ≡ marks odd (i - 1)

pub mark-start : {odd : List Bool} → Marking odd 1 0
unfolding marks
mark-start = record { begun = omega arith; upto = omega arith; small = omega arith; same = refl }

pub mark-step : {odd : List Bool} {i n x : ℕ} → Marking odd i n → i < length odd → x ≡ count_if (get_or odd i false) 0 → Marking odd (i + 1) (n + x)
unfolding marks
mark-step {odd} {i} {n} {x} m h e =
    let b = bit_le (get_or odd i false) in
    let d : i ≡ suc (i - 1) = omega arith in
    let f : (i + 1) - 1 ≡ i = omega arith in
    let s : marks odd ((i + 1) - 1) ≡ count_if (get_or odd i false) (marks odd (i - 1)) = rw f (ap (marks odd) d ∙ ap (λ (k : ℕ). count_if (get_or odd k false) (marks odd (i - 1))) (sym d)) in
    let a = count_add (get_or odd i false) (marks odd (i - 1)) in
    let q = m.same in
    record { begun = omega arith; upto = omega arith; small = omega arith; same = omega arith }

pub mark-end : {odd : List Bool} {i n : ℕ} → Marking odd i n → length odd ≤ i → n ≡ marks odd (length odd - 1)
mark-end {odd} {i} m h = let e : i - 1 ≡ length odd - 1 = omega (arith, m.upto) in m.same ∙ ap (marks odd) e
