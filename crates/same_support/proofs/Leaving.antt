-- What the candidates of an atom leave to a neighbour: no renumbering among candidates is lost. Assumes nothing.
use mathlib.Core.Path.{◌≡◌, refl, sym, ◌∙◌, subst}
use mathlib.Core.Bool.{Bool, false, not}
use mathlib.Core.List.{List}
use Prim.Native.Nat.{ℕ, ◌<◌}
use native.Mathlib.Omega.{arith}
use lib.Dec.{eqb}
use lib.ListN.{length, get_or, set}
use lib.Seq.{get_or-set_same, get_or-set_other}
use lib.Bits.{bit_and}
use borrow.Author.Tests.{eqb-true, not-false}
use Rattle.same_model.specs.Same.{image}
use Rattle.same_place.specs.Place.{entry}
use Rattle.same_open.specs.Open.{classes, class_of, bit, Among}
use Rattle.same_open.proofs.Laws.{class-told}
use Rattle.same_open.proofs.Masks.{bit-both, bit-none, by_equal}
use Rattle.same_support.specs.Support.{Supported, Reaches, Leaves}

-- the digits in common with a mask are what it leaves
pub leaves_kept : (next : List ℕ) (b mask : ℕ) {next' : List ℕ} → b < length next → next' ≡ set next b (bit_and (get_or next b 0) mask) → Leaves next b (λ e. bit mask e ≡ 1) (not (eqb (bit_and (get_or next b 0) mask) 0)) next'
leaves_kept next b mask h g =
    rw g record {
      at = λ e i j. rw (get_or-set_same next b (bit_and (get_or next b 0) mask) 0 h) (bit-both (get_or next b 0) mask e i j);
      others = λ a f. get_or-set_other next b a (bit_and (get_or next b 0) mask) 0 f;
      none = λ f e i j. bit-none (bit_and (get_or next b 0) mask) e (eqb-true (bit_and (get_or next b 0) mask) 0 (not-false (eqb (bit_and (get_or next b 0) mask) 0) f)) (bit-both (get_or next b 0) mask e i j);
    }

-- a mask that holds all that is supported leaves all that is supported
leaves-supported : (allowed : List ℕ) (n mask c s : ℕ) {b : ℕ} {next next' : List ℕ} {r : Bool} → Reaches allowed n mask c s → Leaves next b (λ e. bit s e ≡ 1) r next' → Leaves next b (Supported allowed n mask c) r next'
leaves-supported allowed n mask c s f l = record { at = λ e i j. l.at e i (f e j); others = l.others; none = λ g e i j. l.none g e i (f e j) }

-- no renumbering among candidates is lost from one list of candidates to another
pub record Follows (p allowed : List ℕ) (n : ℕ) (next₀ next : List ℕ) : Type 0 where
  pub among : (t : List ℕ) → Among p allowed next₀ n t → Among p allowed next n t

module _ {p allowed : List ℕ} {n : ℕ} where
  -- none is lost where it starts
  pub follows-start : {next : List ℕ} → Follows p allowed n next next
  follows-start = record { among = λ t a. a }

  -- none is lost where nothing is changed
  pub follows_same : {next₀ next next' : List ℕ} → Follows p allowed n next₀ next → next' ≡ next → Follows p allowed n next₀ next'
  follows_same v e = rw e v

  -- none is lost in two steps
  pub follows_on : {next₀ next next' : List ℕ} → Follows p allowed n next₀ next → ((t : List ℕ) → Among p allowed next n t → Among p allowed next' n t) → Follows p allowed n next₀ next'
  follows_on v f = record { among = λ t a. f t (v.among t a) }

  -- an atom goes to a place that is supported by the candidates of another
  supported : {next : List ℕ} {w b k : ℕ} (t : List ℕ) → w < n → b < n → (b ≡ w → ⊥) → k ≡ class_of (entry p w b) → Among p allowed next n t → Supported allowed n (get_or next w 0) k (image t b)
  supported {w = w} {b} t i j f q a = rw q (image t w, a.below w i, a.kept w i, a.faces w b i j (λ z. f (sym z)))

  -- what is left to a neighbour keeps every renumbering
  pub follows-step : {next₀ next next' : List ℕ} {w b k : ℕ} {r : Bool} → Follows p allowed n next₀ next → w < n → b < n → (b ≡ w → ⊥) → k ≡ class_of (entry p w b) → Leaves next b (Supported allowed n (get_or next₀ w 0) k) r next' → Follows p allowed n next₀ next'
  follows-step {next = next} {next'} {b = b} v i j f q l =
      record {
        among =
            λ t a.
            let g = v.among t a in
            record {
              below = g.below;
              kept =
                  λ x h.
                  by_equal x b
                  (λ e. subst (λ (y : ℕ). bit (get_or next' y 0) (image t y) ≡ 1) (sym e) (l.at (image t b) (g.kept b j) (supported t i j f q a)))
                  (λ e. subst (λ (y : ℕ). bit y (image t x) ≡ 1) (sym (l.others x e)) (g.kept x h));
              faces = g.faces;
            };
      }

  -- where nothing is left to a neighbour there is no renumbering
  follows-none : {next₀ next next' : List ℕ} {w b k : ℕ} {r : Bool} → Follows p allowed n next₀ next → w < n → b < n → (b ≡ w → ⊥) → k ≡ class_of (entry p w b) → Leaves next b (Supported allowed n (get_or next₀ w 0) k) r next' → r ≡ false → (t : List ℕ) → Among p allowed next₀ n t → ⊥
  follows-none {b = b} v i j f q l e t a = l.none e (image t b) ((v.among t a).kept b j) (supported t i j f q a)

-- beside this, the candidates of w stay, and a set holds what they support by a class
pub record Spreads (p allowed : List ℕ) (n w : ℕ) (next₀ next : List ℕ) (c side : ℕ) : Type 0 where
  pub follows : Follows p allowed n next₀ next
  pub kept : get_or next w 0 ≡ get_or next₀ w 0
  pub told : c < classes → Reaches allowed n (get_or next₀ w 0) c side

module _ {p allowed : List ℕ} {n w : ℕ} where
  -- so it is at first, for no class
  pub spreads-start : {next : List ℕ} → Spreads p allowed n w next next classes 0
  spreads-start = record { follows = follows-start; kept = refl; told = λ h. absurd (omega arith) }

  module _ {next₀ next : List ℕ} {c side : ℕ} (v : Spreads p allowed n w next₀ next c side) where
    -- and where nothing is changed
    pub spreads-same : {next' : List ℕ} {c' side' : ℕ} → next' ≡ next → c' ≡ c → side' ≡ side → Spreads p allowed n w next₀ next' c' side'
    spreads-same e f g = rw (e, f, g) v

    -- the class of a neighbour is another, and the set is gathered for it: then it is the class that is kept
    pub spreads-new : {x k r c' side' : ℕ} → k ≡ x → c' ≡ k → side' ≡ r → Reaches allowed n (get_or next w 0) k r → (c' ≡ x) × Spreads p allowed n w next₀ next c' side'
    spreads-new {k = k} {r} q e f g = (e ∙ q, record { follows = v.follows; kept = v.kept; told = λ h. rw (e, f) (subst (λ (m : ℕ). Reaches allowed n m k r) v.kept g) })

    -- or it is the one that was kept
    pub spreads-old : {x k c' side' : ℕ} → k ≡ x → k ≡ c → c' ≡ c → side' ≡ side → (c' ≡ x) × Spreads p allowed n w next₀ next c' side'
    spreads-old q z e f = (e ∙ sym z ∙ q, spreads-same refl e f)

  module _ {next₀ next next' : List ℕ} {b c side : ℕ} {r : Bool} (v : (c ≡ class_of (entry p w b)) × Spreads p allowed n w next₀ next c side) (i : w < n) (j : b < n) (f : b ≡ w → ⊥) (l : Leaves next b (λ e. bit side e ≡ 1) r next') where
    -- what the set leaves to the neighbour holds all that is supported
    left : Leaves next b (Supported allowed n (get_or next₀ w 0) c) r next'
    left = leaves-supported allowed n (get_or next₀ w 0) c side (v.1.told (class-told c (entry p w b) v.0)) l

    -- so it keeps every renumbering
    pub spreads-step : Spreads p allowed n w next₀ next' c side
    spreads-step = record { follows = follows-step v.1.follows i j f v.0 left; kept = l.others w (λ z. f (sym z)) ∙ v.1.kept; told = v.1.told }

    -- and where nothing is left there is none
    pub spreads-none : r ≡ false → (t : List ℕ) → Among p allowed next₀ n t → ⊥
    spreads-none = follows-none v.1.follows i j f v.0 left
