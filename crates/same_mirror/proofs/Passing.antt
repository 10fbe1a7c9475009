-- What is marked, and what a search that passes over the marked leaves out. Assumes nothing.
use mathlib.Core.Path.{◌≡◌, refl, sym, ap, ◌∙◌, subst}
use mathlib.Core.Bool.{Bool, true, false, ◌&&◌, not}
use mathlib.Core.List.{List}
use Prim.Native.Nat.{ℕ, ◌+◌, ◌/◌, ◌%◌, ◌^◌, ◌<◌, ◌≤◌}
use native.Mathlib.Omega.{arith}
use lib.Dec.{eqb, ltb}
use lib.ListN.{get_or, set, replicate}
use lib.Seq.{get_or-set_other}
use borrow.Author.Tests.{eqb-true, eqb-false, ltb-true, not-false}
use Rattle.loops.proofs.Loops.{and_left, repeated-at}
use Rattle.same_model.specs.Same.{max_same, image}
use Rattle.same_open.specs.Open.{bit, Among}
use Rattle.same_open.proofs.Masks.{by_equal}
use Rattle.same_open.proofs.Seeking.{Searched, search-start, search-end}
use Rattle.same_mirror.specs.Mirror.{Like, Gone, AllGone, Spreads}
use Rattle.same_mirror.proofs.Likeness.{like-gone}

-- where d leads nowhere, nor do those that are marked
pub record Marked (allowed cand : List ℕ) (n v d : ℕ) (dead₀ : List ℕ) (budget : ℕ) (dead : List ℕ) (left e : ℕ) : Type 0 where
  pub within : e ≤ n
  pub paid : left ≤ budget
  pub marked : (p : List ℕ) → Gone p allowed cand n v d → AllGone p allowed cand n v dead₀ → AllGone p allowed cand n v dead

module _ {allowed cand : List ℕ} {n v d : ℕ} {dead₀ : List ℕ} {budget : ℕ} where
  pub mark-start : d < n → Marked allowed cand n v d dead₀ budget dead₀ budget (d + 1)
  mark-start i = record { within = omega arith; paid = omega arith; marked = λ p g a. a }

  module _ {dead : List ℕ} {left e : ℕ} (w : Marked allowed cand n v d dead₀ budget dead left e) (i : e < n) where
    pub mark-same : {dead' : List ℕ} {left' : ℕ} → dead' ≡ dead → left' ≤ left → Marked allowed cand n v d dead₀ budget dead' left' (e + 1)
    mark-same q l = rw q record { within = omega arith; paid = omega (arith, w.paid); marked = w.marked }

    pub mark-more : {dead' l : List ℕ} {dead'' : List ℕ} {left' : ℕ} → dead'' ≡ dead' → Spreads n l dead dead' → v < n → Like allowed cand n l → left' ≤ left → Marked allowed cand n v d dead₀ budget dead'' left' (e + 1)
    mark-more z q j k l = rw z record { within = omega arith; paid = omega (arith, w.paid); marked = λ p g a. q.spread p allowed cand v j k (w.marked p g a) }

-- one that is gone may be marked
pub mark-own : {p allowed cand : List ℕ} {n v d : ℕ} (dead : List ℕ) → Gone p allowed cand n v d → AllGone p allowed cand n v dead → AllGone p allowed cand n v (set dead d 1)
mark-own {d = d} dead g a x j h t m k = by_equal x d (λ y. g t m (k ∙ y)) (λ y. a x j (sym (get_or-set_other dead d x 1 0 y) ∙ h) t m k)

-- the places before x are looked at, and what they are sent to is marked
pub record Spreading (n : ℕ) (l dead₀ dead : List ℕ) (x : ℕ) : Type 0 where
  pub within : x ≤ n
  pub spreads : Spreads n l dead₀ dead

module _ {n : ℕ} {l dead₀ : List ℕ} where
  pub spread-start : Spreading n l dead₀ dead₀ 0
  spread-start = record { within = omega arith; spreads = record { spread = λ p allowed cand v j w a. a } }

  module _ {dead : List ℕ} {x : ℕ} (s : Spreading n l dead₀ dead x) (i : x < n) where
    pub spread_same : {dead' : List ℕ} → dead' ≡ dead → Spreading n l dead₀ dead' (x + 1)
    spread_same q = rw q record { within = omega arith; spreads = s.spreads }

    -- where x is marked, what it is sent to is marked too
    pub spread-more : {dead' : List ℕ} {to : ℕ} → n ≤ max_same → get_or dead x 0 ≡ 1 → to ≡ image l x → dead' ≡ set dead (to % max_same) 1 → Spreading n l dead₀ dead' (x + 1)
    spread-more b h u q =
        rw (q, u) record {
          within = omega arith;
          spreads =
              record {
                spread =
                    λ p allowed cand v j w a y k g t m r.
                    let z : image l x % max_same ≡ image l x = omega (arith, w.onto.below x i) in
                    let f = s.spreads.spread p allowed cand v j w a in
                    by_equal y (image l x % max_same)
                    (λ e. like-gone w j i (sym (e ∙ z)) (f x i h) t m r)
                    (λ e. f y k (sym (get_or-set_other dead (image l x % max_same) y 1 0 e) ∙ g) t m r);
              };
        }

-- nothing goes from v to a place before d, while some of the budget is left, nor to one that is marked
pub record Passed (p allowed cand : List ℕ) (n v budget : ℕ) (dead : List ℕ) (left d : ℕ) : Type 0 where
  pub searched : Searched p allowed cand n v left d
  pub gone : AllGone p allowed cand n v dead
  pub paid : left ≤ budget

by_and : {A : Type 0} (a b : Bool) → (a && b) ≡ false → (a ≡ false → A) → (b ≡ false → A) → A
by_and true b e f g = g e
by_and false b e f g = f refl

-- none is marked at the start
pub none-marked : {n : ℕ} (x : ℕ) → x < n → ◌≡◌ {A = ℕ} (get_or (replicate 64 0) x 0) 1 → ⊥
none-marked x i h = omega (arith, sym (repeated-at {A = ℕ} 64 x 0) ∙ h)

-- the code's test of what is left
pub some_left : (l : ℕ) (b : Bool) → (ltb 0 l && b) ≡ true → 0 < l
some_left l b h = ltb-true 0 l (and_left (ltb 0 l) b h)

module _ {p allowed cand : List ℕ} {n v budget : ℕ} where
  pub pass-start : {dead : List ℕ} → ((x : ℕ) → x < n → get_or dead x 0 ≡ 1 → ⊥) → Passed p allowed cand n v budget dead budget 0
  pass-start f = record { searched = search-start; gone = λ x i h. absurd (f x i h); paid = omega arith }

  module _ {dead : List ℕ} {left d : ℕ} (w : Passed p allowed cand n v budget dead left d) where
    pub pass-end : v < n → n ≤ d → 0 < left → (t : List ℕ) → Among p allowed cand n t → ⊥
    pass-end = search-end w.searched

    module _ (i : d < n) (l : (left ≡ 0 → ⊥)) where
      -- nothing goes to d
      pub pass_step : {left' : ℕ} → left' ≤ left → {dead' : List ℕ} → AllGone p allowed cand n v dead' → (0 < left' → Gone p allowed cand n v d) → Passed p allowed cand n v budget dead' left' (d + 1)
      pass_step s a f =
          record {
            searched = record { within = omega arith; none = λ k t m h. by_equal (image t v) d (λ e. f k t m e) (λ e. w.searched.none (omega (arith, l)) t m (omega (arith, e))) };
            gone = a;
            paid = omega (arith, w.paid);
          }

      -- nothing goes to d, and more are marked
      pub pass-marked : {left' : ℕ} → left' ≤ left → {dead' dead'' : List ℕ} → dead' ≡ dead'' → (Gone p allowed cand n v d → AllGone p allowed cand n v dead → AllGone p allowed cand n v dead'') → Gone p allowed cand n v d → Passed p allowed cand n v budget dead' left' (d + 1)
      pass-marked s q f g = pass_step s (λ x j h. f g w.gone x j (ap (λ (y : List ℕ). get_or y x 0) (sym q) ∙ h)) (λ k. g)

      module _ {left' : ℕ} (s : left' ≤ left) {dead' : List ℕ} (q : dead' ≡ dead) where
        kept : AllGone p allowed cand n v dead'
        kept x j h = w.gone x j (ap (λ (y : List ℕ). get_or y x 0) (sym q) ∙ h)

        -- d is no candidate or marked
        pub pass-over : v < n → (eqb (get_or cand v 0 / 2 ^ d % 2) 1 && not (eqb (get_or dead d 0) 1)) ≡ false → Passed p allowed cand n v budget dead' left' (d + 1)
        unfolding bit
        pass-over j h =
            pass_step s kept
            (λ k t m e.
            by_and (eqb (get_or cand v 0 / 2 ^ d % 2) 1) (not (eqb (get_or dead d 0) 1)) h
            (λ f. eqb-false (get_or cand v 0 / 2 ^ d % 2) 1 f (subst (λ (x : ℕ). bit (get_or cand v 0) x ≡ 1) e (m.kept v j)))
            (λ f. w.gone d i (eqb-true (get_or dead d 0) 1 (not-false (eqb (get_or dead d 0) 1) f)) t m e))

        -- an atom has no candidate left
        pub pass-dead : {r : Bool} → (r ≡ false → Gone p allowed cand n v d) → r ≡ false → Passed p allowed cand n v budget dead' left' (d + 1)
        pass-dead f e = pass_step s kept (λ k. f e)

        -- nothing goes on from there
        pub pass-next : (0 < left' → Gone p allowed cand n v d) → Passed p allowed cand n v budget dead' left' (d + 1)
        pass-next f = pass_step s kept f

-- nothing goes to d where nothing goes on from there
pub nowhere : {p allowed cand next : List ℕ} {n v d : ℕ} {r : Bool} {left : ℕ} → ((t : List ℕ) → Among p allowed cand n t → image t v ≡ d → Among p allowed next n t) → (r ≡ false → 0 < left → (t : List ℕ) → Among p allowed next n t → ⊥) → r ≡ false → 0 < left → Gone p allowed cand n v d
nowhere f g e l t m h = g e l t (f t m h)
