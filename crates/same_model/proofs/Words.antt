-- The list of all renumberings holds exactly the renumberings. Assumes nothing.
use mathlib.Core.Path.{◌≡◌, refl, sym, ap}
use mathlib.Core.Bool.{Bool, true, false, ◌||◌, not}
use mathlib.Core.List.{List, [], ◌∷◌, map}
use Prim.Native.Nat.{ℕ, zero, suc, ◌<◌}
use native.Mathlib.Omega.{arith}
use lib.Dec.{eqb}
use lib.ListN.{length, get_or}
use borrow.Author.Tests.{eqb-true, eq-eqb, not-true}
use Rattle.loops.proofs.Loops.{and_left, and_right}
use Rattle.matching.proofs.Graph.{and_intro, never, or_cases}
use Rattle.same_model.specs.Same.{words, occurs, apart, renumberings}
use Rattle.same_model.specs.Redrawing.{Renumbering}
use Rattle.same_model.proofs.Lists.{In, here, All, none, more, in_map, all_map, in-flat_map, all-flat_map, in-up_to, all-up_to, in-passing, all-passing, all-imp, all-at, at_all}

-- k numbers below n
pub record Word (n k : ℕ) (t : List ℕ) : Type 0 where
  pub size : length t ≡ k
  pub below : All (λ d. d < n) t

pub words-all : (n k : ℕ) → All (Word n k) (words n k)
unfolding words
words-all n zero = more (record { size = refl; below = none }) none
words-all n (suc k) =
    all-flat_map (λ (d : ℕ). map (λ (t : List ℕ). d ∷ t) (words n k)) (all-up_to 0 n n (omega arith))
    (λ d h. all_map (λ (t : List ℕ). d ∷ t) (words-all n k) (λ t w. record { size = ap suc w.size; below = more h w.below }))

pub word_in : (n k : ℕ) (t : List ℕ) → length t ≡ k → All (λ d. d < n) t → In t (words n k)
unfolding words
word_in n zero [] e a = here
word_in n zero (d ∷ t) e a = absurd (omega arith)
word_in n (suc k) [] e a = absurd (omega arith)
word_in n (suc k) (d ∷ t) e (more h a) =
    in-flat_map (λ (d : ℕ). map (λ (t : List ℕ). d ∷ t) (words n k)) (in-up_to 0 n d (omega arith) (omega arith)) (in_map (λ (t : List ℕ). d ∷ t) (word_in n k t (omega arith) a))

-- what occurs has a place
pub occurs-at : (d : ℕ) (t : List ℕ) → occurs d t ≡ true → (a : ℕ) × (a < length t) × (get_or t a 0 ≡ d)
unfolding occurs
occurs-at d [] h = absurd (never false h refl)
occurs-at d (e ∷ t) h = or_cases (eqb d e) (occurs d t) h (λ q. (0, omega arith, sym (eqb-true d e q))) (λ q. let w = occurs-at d t q in (suc w.0, omega (arith, w.1), w.2))

or_right : (a b : Bool) → b ≡ true → (a || b) ≡ true
or_right true b h = refl
or_right false b h = h

pub at-occurs : (d : ℕ) (t : List ℕ) (a : ℕ) → a < length t → get_or t a 0 ≡ d → occurs d t ≡ true
unfolding occurs
at-occurs d [] a l e = absurd (omega arith)
at-occurs d (c ∷ t) zero l e = rw (eq-eqb d c (sym e))
at-occurs d (c ∷ t) (suc a) l e = or_right (eqb d c) (occurs d t) (at-occurs d t a (omega arith) e)

-- no number twice: one place for each
pub apart-one : (t : List ℕ) → apart t ≡ true → (a b : ℕ) → a < length t → b < length t → get_or t a 0 ≡ get_or t b 0 → a ≡ b
unfolding apart
apart-one [] h a b l k e = absurd (omega arith)
apart-one (d ∷ t) h zero zero l k e = refl
apart-one (d ∷ t) h zero (suc b) l k e = absurd (never (occurs d t) (at-occurs d t b (omega arith) (sym e)) (not-true (occurs d t) (and_left (not (occurs d t)) (apart t) h)))
apart-one (d ∷ t) h (suc a) zero l k e = absurd (never (occurs d t) (at-occurs d t a (omega arith) e) (not-true (occurs d t) (and_left (not (occurs d t)) (apart t) h)))
apart-one (d ∷ t) h (suc a) (suc b) l k e = ap suc (apart-one t (and_right (not (occurs d t)) (apart t) h) a b (omega arith) (omega arith) e)

pub one_apart : (t : List ℕ) → ((a b : ℕ) → a < length t → b < length t → get_or t a 0 ≡ get_or t b 0 → a ≡ b) → apart t ≡ true
unfolding apart
one_apart [] f = refl
one_apart (d ∷ t) f =
    and_intro (not (occurs d t)) (apart t) (go (occurs d t) refl) (one_apart t (λ a b l k e. let u = f (suc a) (suc b) (omega arith) (omega arith) e in omega arith))
  where
    go : (z : Bool) → occurs d t ≡ z → not z ≡ true
    go true q =
        let w = occurs-at d t q in
        let u : 0 ≡ suc w.0 = f 0 (suc w.0) (omega arith) (omega (arith, w.1)) (sym w.2) in
        absurd (omega arith)
    go false q = refl

-- n numbers below n, none twice
pub word-renumbers : {n : ℕ} {t : List ℕ} → Word n n t → apart t ≡ true → Renumbering n t
word-renumbers {n} {t} w h =
    let s : length t ≡ n = w.size in
    record {
      size = s;
      below = λ a l. all-at 0 w.below a (omega arith);
      one = λ a b l k e. apart-one t h a b (omega arith) (omega arith) e;
    }

-- the list
pub renumberings-all : (n : ℕ) → All (Renumbering n) (renumberings n)
renumberings-all n = all-imp (λ t w. word-renumbers w.0 w.1) (all-passing apart (words-all n n))

pub renumbering-in : (n : ℕ) (t : List ℕ) → Renumbering n t → In t (renumberings n)
renumbering-in n t r =
    let s : length t ≡ n = r.size in
    in-passing apart
    (word_in n n t s (at_all (λ (d : ℕ). d < n) 0 t (λ i l. r.below i (omega arith))))
    (one_apart t (λ a b l k e. r.one a b (omega arith) (omega arith) e))
