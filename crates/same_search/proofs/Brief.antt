-- The search under a budget: while some of it is left, what is left to try leads to the same. Assumes nothing.
use mathlib.Core.Path.{◌≡◌, refl, sym, ap, ◌∙◌}
use mathlib.Core.Bool.{Bool, true, false}
use mathlib.Core.List.{List, [], ◌∷◌}
use Prim.Native.Nat.{ℕ, ◌+◌, ◌-◌, ◌<◌, ◌≤◌}
use native.Mathlib.Omega.{arith}
use lib.ListN.{length, set, take, length-set}
use lib.Seq.{take-take, take-set-le}
use Rattle.matching.specs.Enumeration.{Row}
use Rattle.matching.specs.Model.{some?}
use Rattle.matching.proofs.Graph.{never}
use Rattle.same_place.specs.Place.{placeable, goods, Prefix, Solved}
use Rattle.same_place.proofs.Laws.{Trying, all_placed, trying_start, trying-not, trying-next, trying-found, trying-end}
use Rattle.same_search.specs.Search.{Trial}

-- a search that went wrong from the atom `from` on has left those before it
pub kept_on : (from d : ℕ) (ren₀ ren ren' : List ℕ) → take (from + 1) ren' ≡ take (from + 1) (set ren from d) → take from ren ≡ take from ren₀ → take from ren' ≡ take from ren₀
kept_on from d ren₀ ren ren' e k =
    sym (take-take from (from + 1) ren' (omega arith))
    ∙ ap (take from) e
    ∙ take-take from (from + 1) (set ren from d) (omega arith)
    ∙ take-set-le from ren from d (omega arith)
    ∙ k

pub record Briefly (o1 o2 ok : List ℕ) (n from : ℕ) (ren₀ ren : List ℕ) (left d : ℕ) : Type 0 where
  pub within : d ≤ n
  pub long : length ren ≡ length ren₀
  pub kept : take from ren ≡ take from ren₀
  pub trying : 0 < left → Trying o1 o2 ok n from ren₀ ren d

no : {A : Type 0} → ◌≡◌ {A = Bool} true false → A
no h = absurd (never true refl h)

module _ (o1 o2 ok : List ℕ) {n from : ℕ} {ren₀ : List ℕ} (q : Prefix n ren₀ from) where
  abbrev fs : List Row
  fs = goods o1 o2 ok n (take from ren₀) (n - from)

  pub brief-placed : (b : ℕ) → from ≡ n → Trial (goods o1 o2 ok n (take from ren₀) (n - from)) n from ren₀ true b ren₀
  brief-placed b e = record { long = refl; kept = refl; told = λ _. all_placed o1 o2 ok q e; absent = λ h. no h }

  module _ (l : (from ≡ n → ⊥)) where
    pub brief-start : (b : ℕ) → Briefly o1 o2 ok n from ren₀ ren₀ b 0
    brief-start b = record { within = omega arith; long = refl; kept = refl; trying = λ _. trying_start o1 o2 ok q l }

    module _ {ren : List ℕ} {left d : ℕ} (w : Briefly o1 o2 ok n from ren₀ ren left d) where
      pub brief-spent : Trial (goods o1 o2 ok n (take from ren₀) (n - from)) n from ren₀ false 0 ren
      brief-spent = record { long = w.long; kept = w.kept; told = λ h. no (sym h); absent = λ _ h. absurd (omega arith) }

      pub brief-not : d < n → 0 < left → {f : Bool} → f ≡ placeable o1 o2 ok ren from d → f ≡ false → {ren' : List ℕ} {left' : ℕ} → ren' ≡ ren → left' ≡ left → Briefly o1 o2 ok n from ren₀ ren' left' (d + 1)
      brief-not i b p h e g = rw (e, g) record { within = omega arith; long = w.long; kept = w.kept; trying = λ _. trying-not o1 o2 ok q l (w.trying b) i p h refl }

      module _ (i : d < n) (b : 0 < left) {f : Bool} (p : f ≡ placeable o1 o2 ok ren from d) (yes : f ≡ true) {r : Bool} {left' : ℕ} {ren' : List ℕ}
          (t : Trial (goods o1 o2 ok n (take (from + 1) (set ren from d)) (n - (from + 1))) n (from + 1) (set ren from d) r left' ren') where
        pub brief-found : r ≡ true → Trial (goods o1 o2 ok n (take from ren₀) (n - from)) n from ren₀ r left' ren'
        brief-found h =
            record {
              long = t.long ∙ length-set ren from d ∙ w.long;
              kept = kept_on from d ren₀ ren ren' t.kept w.kept;
              told = λ _. trying-found o1 o2 ok q l (w.trying b) i p yes (t.told h) refl;
              absent = λ k. no (sym h ∙ k);
            }

        failed : r ≡ false → 0 < left' → Solved (goods o1 o2 ok n (take (from + 1) (set ren from d)) (n - (from + 1))) n (from + 1) (set ren from d) false ren'
        failed h k = record { long = t.long; kept = t.kept; told = sym (ap some? (t.absent h k)); found = λ u. no (sym u) }

        pub brief-next : r ≡ false → {ren'' : List ℕ} {left'' : ℕ} → ren'' ≡ ren' → left'' ≡ left' → Briefly o1 o2 ok n from ren₀ ren'' left'' (d + 1)
        brief-next h e g =
            rw (e, g) record {
              within = omega arith;
              long = t.long ∙ length-set ren from d ∙ w.long;
              kept = kept_on from d ren₀ ren ren' t.kept w.kept;
              trying = λ k. trying-next o1 o2 ok q l (w.trying b) i p yes (failed h k) refl refl;
            }

      pub brief-end : n ≤ d → Trial (goods o1 o2 ok n (take from ren₀) (n - from)) n from ren₀ false left ren
      brief-end h =
          record {
            long = w.long;
            kept = w.kept;
            told = λ k. no (sym k);
            absent = λ _ k. none (goods o1 o2 ok n (take from ren₀) (n - from)) (sym (trying-end o1 o2 ok q l (w.trying k) h).told);
          }
        where
          none : (g : List Row) → some? g ≡ false → g ≡ []
          none [] e = refl
          none (s ∷ g) e = no e
