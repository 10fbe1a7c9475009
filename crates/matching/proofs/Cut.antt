-- Where more labels are odd than atoms stand in the cut, no matching is left: the easy half of Tutte's theorem. Assumes nothing.
use mathlib.Core.Path.{◌≡◌, refl, sym, ap, ◌∙◌}
use mathlib.Core.Bool.{Bool, true, false, ◌&&◌, ◌||◌, not}
use mathlib.Core.List.{List, [], ◌∷◌}
use mathlib.Core.Logic.{◌≢◌}
use Prim.Native.Nat.{ℕ, zero, suc, ◌≤◌, ◌<◌}
use native.Mathlib.Omega.{arith}
use native.Mathlib.Decide.{ℕ_discrete}
use lib.Dec.{eqb}
use lib.ListN.{length, get_or, set, length-set}
use lib.Seq.{get_or-set_other, set-set}
use borrow.Author.Tests.{eq-eqb, ne_eqb, eqb-true, eqb-false, not-true as not-true'}
use Rattle.loops.specs.Loop.{pick}
use Rattle.loops.proofs.Loops.{and_left, and_right}
use Rattle.matching.specs.Enumeration.{Row, rows, matchings}
use Rattle.matching.specs.Graph.{Bond, flagged, count_if, none_flagged}
use Rattle.matching.specs.Model.{free, pair, pairs_up}
use Rattle.matching.specs.Cut.{cnt, odd?, odds, fine, all_fine}
use Rattle.matching.proofs.Enumeration.{passing-none, passing-same}
use Rattle.matching.proofs.Graph.{free-less, and_intro, never, not-true, or_cases}

-- an atom is taken out
cnt-out : (need labs : List ℕ) (a i : ℕ) → a < length labs → get_or need a 0 ≡ 1 → cnt need labs i ≡ count_if (eqb (get_or labs a 0) i) (cnt (set need a 0) labs i)
unfolding cnt
cnt-out [] labs a i h k = absurd (omega arith)
cnt-out (x ∷ xs) [] a i h k = absurd (omega arith)
cnt-out (x ∷ xs) (l ∷ ls) zero i h k = rw k
cnt-out (x ∷ xs) (l ∷ ls) (suc a) i h k = ap (count_if (eqb x 1 && eqb l i)) (cnt-out xs ls a i (omega arith) k) ∙ swap (eqb x 1 && eqb l i) (eqb (get_or ls a 0) i) (cnt (set xs a 0) ls i)
  where
    swap : (p q : Bool) (n : ℕ) → count_if p (count_if q n) ≡ count_if q (count_if p n)
    swap true true n = refl
    swap true false n = refl
    swap false q n = refl

cnt-none : (need labs : List ℕ) (i : ℕ) → none_flagged need ≡ true → cnt need labs i ≡ 0
unfolding cnt none_flagged
cnt-none [] labs i h = refl
cnt-none (x ∷ xs) [] i h = refl
cnt-none (x ∷ xs) (l ∷ ls) i h = go (eqb x 1) (and_left (not (eqb x 1)) (none_flagged xs) h) (cnt-none xs ls i (and_right (not (eqb x 1)) (none_flagged xs) h))
  where
    go : (p : Bool) → not p ≡ true → cnt xs ls i ≡ 0 → count_if (p && eqb l i) (cnt xs ls i) ≡ 0
    go true e f = absurd (never (not true) e refl)
    go false e f = f

odds-none : (need labs : List ℕ) (n : ℕ) → none_flagged need ≡ true → odds need labs n ≡ 0
unfolding odds odd?
odds-none need labs zero h = refl
odds-none need labs (suc n) h = rw (cnt-none need labs (suc n) h) (odds-none need labs n h)

-- parities
odds-same : (need need' labs : List ℕ) (n : ℕ) → ((i : ℕ) → i < n → odd? (cnt need labs (suc i)) ≡ odd? (cnt need' labs (suc i))) → odds need labs n ≡ odds need' labs n
unfolding odds
odds-same need need' labs zero h = refl
odds-same need need' labs (suc n) h = rw (h n (omega arith), odds-same need need' labs n (λ i l. h i (omega arith)))

count-near : (p q : Bool) (n : ℕ) → count_if p n ≤ suc (count_if q n)
count-near true true n = omega arith
count-near true false n = omega arith
count-near false true n = omega arith
count-near false false n = omega arith

count-mono : (p : Bool) (m n : ℕ) → m ≤ suc n → count_if p m ≤ suc (count_if p n)
count-mono true m n h = omega arith
count-mono false m n h = h

odds-near : (need need' labs : List ℕ) (l n : ℕ) → ((i : ℕ) → suc i ≢ l → odd? (cnt need labs (suc i)) ≡ odd? (cnt need' labs (suc i))) → odds need labs n ≤ suc (odds need' labs n)
unfolding odds
odds-near need need' labs l zero h = omega arith
odds-near need need' labs l (suc n) h = go (ℕ_discrete (suc n) l) (odds-near need need' labs l n h)
  where
    go : Dec (suc n ≡ l) → odds need labs n ≤ suc (odds need' labs n) → count_if (odd? (cnt need labs (suc n))) (odds need labs n) ≤ suc (count_if (odd? (cnt need' labs (suc n))) (odds need' labs n))
    go (yes e) ih = rw (odds-same need need' labs n (λ i lt. h i (λ (q : suc i ≡ l). absurd (omega arith)))) (count-near (odd? (cnt need labs (suc n))) (odd? (cnt need' labs (suc n))) (odds need' labs n))
    go (no e) ih = rw (h n e) (count-mono (odd? (cnt need' labs (suc n))) (odds need labs n) (odds need' labs n) ih)

-- one atom out: of the cut, or of a label
Out : List ℕ → List ℕ → List ℕ → ℕ → Type 0
Out need need' labs n = (cnt need labs 0 ≡ suc (cnt need' labs 0)) × (odds need labs n ≡ odds need' labs n)

Off : List ℕ → List ℕ → List ℕ → ℕ → Type 0
Off need need' labs n = (cnt need labs 0 ≡ cnt need' labs 0) × (odds need labs n ≤ suc (odds need' labs n))

out : (need labs : List ℕ) (a n : ℕ) → a < length labs → get_or need a 0 ≡ 1 → get_or labs a 0 ≡ 0 → Out need (set need a 0) labs n
unfolding Out
out need labs a n h k z = (
  cnt-out need labs a 0 h k ∙ rw (eq-eqb (get_or labs a 0) 0 z),
  odds-same need (set need a 0) labs n (λ i lt. ap odd? (cnt-out need labs a (suc i) h k ∙ rw (ne_eqb (get_or labs a 0) (suc i) (λ (e : get_or labs a 0 ≡ suc i). omega arith)))),
)

off : (need labs : List ℕ) (a n : ℕ) → a < length labs → get_or need a 0 ≡ 1 → (get_or labs a 0 ≡ 0 → ⊥) → Off need (set need a 0) labs n
unfolding Off
off need labs a n h k z = (
  cnt-out need labs a 0 h k ∙ rw (ne_eqb (get_or labs a 0) 0 z),
  odds-near need (set need a 0) labs (get_or labs a 0) n (λ i d. ap odd? (cnt-out need labs a (suc i) h k ∙ rw (ne_eqb (get_or labs a 0) (suc i) (λ (e : get_or labs a 0 ≡ suc i). d (sym e))))),
)

abbrev pub Barred : List ℕ → List ℕ → ℕ → Type 0
Barred need labs n = cnt need labs 0 < odds need labs n

twice-parity : (p : Bool) (n : ℕ) → odd? (count_if p (count_if p n)) ≡ odd? n
unfolding odd?
twice-parity true n = go (odd? n)
  where
    go : (b : Bool) → not (not b) ≡ b
    go true = refl
    go false = refl
twice-parity false n = refl

module _ (need labs : List ℕ) (n a b : ℕ) (ha : a < length labs) (hb : b < length labs) (na : get_or need a 0 ≡ 1) (nb : get_or need b 0 ≡ 1) (bar : Barred need labs n) where
  still : (a ≡ b → ⊥) → get_or (set need a 0) b 0 ≡ 1
  still d = get_or-set_other need a b 0 0 (λ (e : b ≡ a). d (sym e)) ∙ nb

  cut-first : get_or labs a 0 ≡ 0 → Barred (set (set need a 0) b 0) labs n
  unfolding Out Off
  cut-first z = go (ℕ_discrete a b) (ℕ_discrete (get_or labs b 0) 0)
    where
      go : Dec (a ≡ b) → Dec (get_or labs b 0 ≡ 0) → Barred (set (set need a 0) b 0) labs n
      go (yes e) d =
          let o = out need labs a n ha na z in
          let s : set (set need a 0) b 0 ≡ set need a 0 = ap (λ (j : ℕ). set (set need a 0) j 0) (sym e) ∙ set-set need a 0 0 in
          rw s (omega (arith, o.0, o.1))
      go (no d) (yes w) =
          let o = out need labs a n ha na z in
          let u = out (set need a 0) labs b n hb (still d) w in
          omega (arith, o.0, o.1, u.0, u.1)
      go (no d) (no w) =
          let o = out need labs a n ha na z in
          let u = off (set need a 0) labs b n hb (still d) w in
          omega (arith, o.0, o.1, u.0, u.1)

  cut-second : (get_or labs a 0 ≡ 0 → ⊥) → get_or labs b 0 ≡ 0 → Barred (set (set need a 0) b 0) labs n
  unfolding Out Off
  cut-second w z =
      let d : a ≡ b → ⊥ = λ e. w (ap (λ (j : ℕ). get_or labs j 0) e ∙ z) in
      let o = off need labs a n ha na w in
      let u = out (set need a 0) labs b n hb (still d) z in
      omega (arith, o.0, o.1, u.0, u.1)

  twins : (i : ℕ) → get_or labs a 0 ≡ get_or labs b 0 → (a ≡ b → ⊥) → cnt need labs i ≡ count_if (eqb (get_or labs a 0) i) (count_if (eqb (get_or labs a 0) i) (cnt (set (set need a 0) b 0) labs i))
  twins i e d = cnt-out need labs a i ha na ∙ ap (count_if (eqb (get_or labs a 0) i)) (cnt-out (set need a 0) labs b i hb (still d) ∙ rw e)

  one_label : (get_or labs a 0 ≡ 0 → ⊥) → get_or labs a 0 ≡ get_or labs b 0 → (a ≡ b → ⊥) → Barred (set (set need a 0) b 0) labs n
  one_label w e d =
      let s : cnt need labs 0 ≡ cnt (set (set need a 0) b 0) labs 0 = twins 0 e d ∙ rw (ne_eqb (get_or labs a 0) 0 w) in
      let o : odds need labs n ≡ odds (set (set need a 0) b 0) labs n = odds-same need (set (set need a 0) b 0) labs n
      (λ i lt. ap odd? (twins (suc i) e d) ∙ twice-parity (eqb (get_or labs a 0) (suc i)) (cnt (set (set need a 0) b 0) labs (suc i))) in
      omega arith

  step : (eqb (get_or labs a 0) 0 || eqb (get_or labs b 0) 0 || (eqb (get_or labs a 0) (get_or labs b 0) && not (eqb a b))) ≡ true → Barred (set (set need a 0) b 0) labs n
  step f = go (ℕ_discrete (get_or labs a 0) 0)
    where
      go : Dec (get_or labs a 0 ≡ 0) → Barred (set (set need a 0) b 0) labs n
      go (yes z) = cut-first z
      go (no w) = or_cases (eqb (get_or labs a 0) 0 || eqb (get_or labs b 0) 0) (eqb (get_or labs a 0) (get_or labs b 0) && not (eqb a b)) f
          (λ g. or_cases (eqb (get_or labs a 0) 0) (eqb (get_or labs b 0) 0) g (λ q. absurd (w (eqb-true (get_or labs a 0) 0 q))) (λ q. cut-second w (eqb-true (get_or labs b 0) 0 q)))
          (λ g. one_label w (eqb-true (get_or labs a 0) (get_or labs b 0) (and_left (eqb (get_or labs a 0) (get_or labs b 0)) (not (eqb a b)) g))
          (eqb-false a b (not-true' (eqb a b) (and_right (eqb (get_or labs a 0) (get_or labs b 0)) (not (eqb a b)) g))))

-- the cut holds to the end
flagged-in : (need : List ℕ) (a : ℕ) → flagged need a ≡ true → a < length need
flagged-in [] a h = absurd (never (flagged [] a) h refl)
flagged-in (x ∷ xs) zero h = omega arith
flagged-in (x ∷ xs) (suc a) h = omega (arith, flagged-in xs a h)

all-less : (b : Bond) (need labs : List ℕ) (bs : List Bond) → all_fine need labs bs ≡ true → all_fine (pair b need) labs bs ≡ true
unfolding all_fine
all-less b need labs [] h = refl
all-less b need labs (c ∷ bs) h = and_intro (not (free c (pair b need)) || fine labs c) (all_fine (pair b need) labs bs)
    (go (free c (pair b need)) (free c need) (fine labs c) (free-less b c need) (and_left (not (free c need) || fine labs c) (all_fine need labs bs) h))
    (all-less b need labs bs (and_right (not (free c need) || fine labs c) (all_fine need labs bs) h))
  where
    go : (p q f : Bool) → (p ≡ true → q ≡ true) → (not q || f) ≡ true → (not p || f) ≡ true
    go true true f i e = e
    go true false f i e = absurd (never false (i refl) refl)
    go false q f i e = refl

pub cut : (bs : List Bond) (need labs : List ℕ) (n : ℕ) → length need ≤ length labs → all_fine need labs bs ≡ true → Barred need labs n → (r : Row) → pairs_up bs need r ≡ false
unfolding pairs_up all_fine
cut [] need labs n l f bar r = not-true (none_flagged need) (λ e. let z = odds-none need labs n e in omega arith)
cut (b ∷ bs) need labs n l f bar [] = not-true (none_flagged need) (λ e. let z = odds-none need labs n e in omega arith)
cut (b ∷ bs) need labs n l f bar (x ∷ r) =
    go (eqb x 0) (free b need) refl (cut bs need labs n l (and_right (not (free b need) || fine labs b) (all_fine need labs bs) f) bar r)
    (λ fr. cut bs (pair b need) labs n (simp length-set l)
    (all-less b need labs bs (and_right (not (free b need) || fine labs b) (all_fine need labs bs) f))
    (let k1 = and_right b.elided (flagged need b.end1) (and_left (b.elided && flagged need b.end1) (flagged need b.end2) fr) in
    let k2 = and_right (b.elided && flagged need b.end1) (flagged need b.end2) fr in
    let i1 = flagged-in need b.end1 k1 in
    let i2 = flagged-in need b.end2 k2 in
    step need labs n b.end1 b.end2 (omega arith) (omega arith) (eqb-true (get_or need b.end1 0) 1 k1) (eqb-true (get_or need b.end2 0) 1 k2) bar
    (fine_of (free b need) (fine labs b) fr (and_left (not (free b need) || fine labs b) (all_fine need labs bs) f)))
    r)
  where
    fine_of : (p q : Bool) → p ≡ true → (not p || q) ≡ true → q ≡ true
    fine_of true q e h = h
    fine_of false q e h = absurd (never false e refl)

    go : (z f' : Bool) → free b need ≡ f' → pairs_up bs need r ≡ false → (free b need ≡ true → pairs_up bs (pair b need) r ≡ false) → pick z (pairs_up bs need r) (f' && pairs_up bs (pair b need) r) ≡ false
    go true f' e p q = p
    go false true e p q = q e
    go false false e p q = refl

pub cut-matchings : (bs : List Bond) (need labs : List ℕ) (n m : ℕ) → length need ≤ length labs → all_fine need labs bs ≡ true → Barred need labs n → matchings (pairs_up bs need) m ≡ []
cut-matchings bs need labs n m l f bar = passing-same (pairs_up bs need) (λ s. false) (cut bs need labs n l f bar) (rows m) ∙ passing-none (rows m)
