-- The search among candidates: what narrowing keeps, and what is left where nothing was found. Assumes nothing.
use mathlib.Core.Path.{◌≡◌, refl, sym, ap, ◌∙◌, subst}
use mathlib.Core.Bool.{Bool, true, false, ◌&&◌, not}
use mathlib.Core.List.{List}
use Prim.Native.Nat.{ℕ, ◌+◌, ◌*◌, ◌/◌, ◌%◌, ◌^◌, ◌<◌, ◌≤◌}
use native.Mathlib.Omega.{arith}
use lib.Dec.{eqb}
use lib.ListN.{length, get_or, set}
use lib.Seq.{get_or-set_same, get_or-set_other}
use lib.Bits.{bit_and}
use borrow.Author.Tests.{eqb-true, not-false}
use Rattle.matching.proofs.Graph.{never}
use Rattle.same_model.specs.Same.{max_same, image}
use Rattle.same_place.specs.Place.{entry}
use Rattle.same_open.specs.Open.{class_of, may_face, bit, Allowed, Faces, Goes, Among}
use Rattle.same_open.proofs.Masks.{bit-both, bit-none, by_equal}

-- a loop that fills the cells below i, one after the other, each as P asks
pub record Filled (P : ℕ → ℕ → Type 0) (n i : ℕ) (l : List ℕ) : Type 0 where
  pub within : i ≤ n
  pub right : (j : ℕ) → j < i → P j (get_or l j 0)

module _ {P : ℕ → ℕ → Type 0} {n : ℕ} {l : List ℕ} where
  pub filled-start : Filled P n 0 l
  filled-start = record { within = omega arith; right = λ j h. absurd (omega arith) }

  module _ {i : ℕ} (w : Filled P n i l) (h : i < n) where
    pub filled-step : {v : ℕ} {l' : List ℕ} → i < length l → l' ≡ set l i v → P i v → Filled P n (i + 1) l'
    filled-step {v} r g p =
        rw g record {
          within = omega arith;
          right =
              λ j k.
              by_equal j i
              (λ e. let q : get_or (set l i v) j 0 ≡ v = ap (λ (x : ℕ). get_or (set l i v) x 0) e ∙ get_or-set_same l i v 0 r in rw (q, e) p)
              (λ e. rw (get_or-set_other l i j v 0 e) (w.right j (omega (arith, e))));
        }

    pub filled-skip : {l' : List ℕ} → l' ≡ l → P i (get_or l i 0) → Filled P n (i + 1) l'
    filled-skip g p =
        rw g record {
          within = omega arith;
          right = λ j k. by_equal j i (λ e. rw e p) (λ e. w.right j (omega (arith, e)));
        }

-- the digits of an entry of what is allowed
abbrev pub Right : List ℕ → ℕ → ℕ → ℕ → Type 0
Right q n i m = i % max_same < n → (e : ℕ) → e < n → (e ≡ i % max_same → ⊥) → may_face (i / max_same) (entry q (i % max_same) e) ≡ true → bit m e ≡ 1

pub allowed-end : {q : List ℕ} {n i : ℕ} {l : List ℕ} → n ≤ max_same → Filled (Right q n) 384 i l → 384 ≤ i → Allowed q n l
allowed-end f w h =
    record {
      at =
          λ c d e k m o g y.
          let r : (max_same * c + d) / max_same ≡ c = omega arith in
          let s : (max_same * c + d) % max_same ≡ d = omega arith in
          w.right (max_same * c + d) (omega arith) (omega arith) e o (λ z. g (z ∙ s)) (rw (r, s) y);
    }

-- the digits of the candidates of an atom
abbrev pub Candidates : List ℕ → ℕ → ℕ → ℕ → Type 0
Candidates ok n a m = (e : ℕ) → e < n → entry ok a e ≡ 1 → bit m e ≡ 1

-- the digits that stay for the atom b where v goes to d
pub record Keeps (p allowed cand : List ℕ) (n v d b m : ℕ) : Type 0 where
  pub keeps : (t : List ℕ) → Among p allowed cand n t → image t v ≡ d → bit m (image t b) ≡ 1

pub record Narrowed (p allowed cand : List ℕ) (n v d : ℕ) (next : List ℕ) (live : Bool) (b : ℕ) : Type 0 where
  pub filled : Filled (Keeps p allowed cand n v d) n b next
  pub dead : live ≡ false → (t : List ℕ) → Among p allowed cand n t → image t v ≡ d → ⊥

by_and : {A : Type 0} (a b : Bool) → (a && b) ≡ false → (a ≡ false → A) → (b ≡ false → A) → A
by_and true b e f g = g e
by_and false b e f g = f refl

module _ {p allowed cand : List ℕ} {n v d : ℕ} where
  pub keeps-own : {b m : ℕ} → b < n → m ≡ get_or cand b 0 → Keeps p allowed cand n v d b m
  keeps-own {b} i e = record { keeps = λ t a h. rw e (a.kept b i) }

  pub keeps-facing : {b m k : ℕ} → v < n → b < n → (b ≡ v → ⊥) → k ≡ class_of (entry p v b) → m ≡ bit_and (get_or cand b 0) (get_or allowed (max_same * k + d) 0) → Keeps p allowed cand n v d b m
  keeps-facing {b} i j f q e =
      record {
        keeps =
            λ t a h.
            let g = subst (λ (x : ℕ). bit (get_or allowed (max_same * class_of (entry p v b) + x) 0) (image t b) ≡ 1) h (a.faces v b i j (λ z. f (sym z))) in
            rw (e, q) (bit-both (get_or cand b 0) (get_or allowed (max_same * class_of (entry p v b) + d) 0) (image t b) (a.kept b j) g);
      }

  module _ {next : List ℕ} where
    pub narrow_start : Narrowed p allowed cand n v d next true 0
    narrow_start = record { filled = filled-start; dead = λ e. absurd (never true refl e) }

    module _ {live : Bool} {b : ℕ} (w : Narrowed p allowed cand n v d next live b) where
      pub narrow_step : b < n → {m : ℕ} → Keeps p allowed cand n v d b m → {next' : List ℕ} → b < length next → next' ≡ set next b m → Narrowed p allowed cand n v d next' (live && not (eqb m 0)) (b + 1)
      narrow_step i {m} k r g =
          record {
            filled = filled-step w.filled i r g k;
            dead = λ e t a h. by_and live (not (eqb m 0)) e (λ f. w.dead f t a h) (λ f. bit-none m (image t b) (eqb-true m 0 (not-false (eqb m 0) f)) (k.keeps t a h));
          }

      pub narrow-end : n ≤ b → (t : List ℕ) → Among p allowed cand n t → image t v ≡ d → Among p allowed next n t
      narrow-end h t a e = record { below = a.below; kept = λ x i. (w.filled.right x (omega arith)).keeps t a e; faces = a.faces }

-- nothing goes from v to a place before d, while some of the budget is left
pub record Searched (p allowed cand : List ℕ) (n v left d : ℕ) : Type 0 where
  pub within : d ≤ n
  pub none : 0 < left → (t : List ℕ) → Among p allowed cand n t → image t v < d → ⊥

module _ {p allowed cand : List ℕ} {n v : ℕ} where
  pub search-start : {left : ℕ} → Searched p allowed cand n v left 0
  search-start = record { within = omega arith; none = λ h t a i. omega arith }

  module _ {left d : ℕ} (w : Searched p allowed cand n v left d) where
    pub search-end : v < n → n ≤ d → 0 < left → (t : List ℕ) → Among p allowed cand n t → ⊥
    search-end i h l t a = w.none l t a (omega (arith, a.below v i))

    module _ (i : d < n) (l : (left ≡ 0 → ⊥)) where
      -- nothing goes to d either
      search-step : {left' : ℕ} → (0 < left' → (t : List ℕ) → Among p allowed cand n t → image t v ≡ d → ⊥) → Searched p allowed cand n v left' (d + 1)
      search-step f =
          record {
            within = omega arith;
            none = λ k t a h. by_equal (image t v) d (λ e. f k t a e) (λ e. w.none (omega (arith, l)) t a (omega (arith, e)));
          }

      -- d is no candidate
      pub search-out : {left' : ℕ} → v < n → (get_or cand v 0 / 2 ^ d % 2 ≡ 1 → ⊥) → Searched p allowed cand n v left' (d + 1)
      unfolding bit
      search-out j f = search-step (λ k t a e. f (subst (λ (x : ℕ). bit (get_or cand v 0) x ≡ 1) e (a.kept v j)))

      -- an atom has no candidate left
      pub search-dead : {left' : ℕ} {r : Bool} → (r ≡ false → (t : List ℕ) → Among p allowed cand n t → image t v ≡ d → ⊥) → r ≡ false → Searched p allowed cand n v left' (d + 1)
      search-dead f e = search-step (λ k. f e)

      -- nothing goes on from there
      pub search-next : {next : List ℕ} {r : Bool} {left'' left' : ℕ} → ((t : List ℕ) → Among p allowed cand n t → image t v ≡ d → Among p allowed next n t) → (r ≡ false → 0 < left'' → (t : List ℕ) → Among p allowed next n t → ⊥) → r ≡ false → left' ≡ left'' → Searched p allowed cand n v left' (d + 1)
      search-next f g e q = search-step (λ k t a h. g e (omega arith) t (f t a h))

pub found-not : {A : Type 0} {r : Bool} → r ≡ true → r ≡ false → A
found-not {r = r} h e = absurd (never r h e)

-- a renumbering goes from the start to candidates
pub among-start : (p allowed ok cand : List ℕ) (n : ℕ) (t : List ℕ) → ((a e : ℕ) → a < n → e < n → entry ok a e ≡ 1 → bit (get_or cand a 0) e ≡ 1) → ((a : ℕ) → a < n → image t a < n) → Goes ok n t → Faces p allowed n t → Among p allowed cand n t
among-start p allowed ok cand n t f b g h = record { below = b; kept = λ a i. f a (image t a) i (b a i) (g a i); faces = h }
