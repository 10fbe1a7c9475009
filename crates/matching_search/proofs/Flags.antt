-- The flags of the atoms without a partner: looking for one, and marking a bond's ends and back. Assumes nothing.
use mathlib.Core.Path.{◌≡◌, refl, sym, ap, ◌∙◌}
use mathlib.Core.Bool.{Bool, true, false, ◌&&◌, ◌||◌, not}
use mathlib.Core.List.{List, [], ◌∷◌}
use Prim.Native.Nat.{ℕ}
use native.Mathlib.Omega.{arith}
use native.Mathlib.Decide.{ℕ_discrete}
use lib.Dec.{eqb}
use lib.ListN.{get_or, set}
use lib.Seq.{set-set, set_comm, set-get_or}
use borrow.Author.Tests.{eqb-true}
use Rattle.std.specs.List.{list_any}
use Rattle.matching.specs.Graph.{none_flagged, flagged}
use Rattle.matching.specs.Model.{free_at, mark_at}

not_or : (a b : Bool) → not (a || b) ≡ (not a && not b)
not_or true b = refl
not_or false b = refl

-- every atom has its partner where no flag is 1
pub none-any : (need : List ℕ) → not (list_any (λ k. eqb k 1) need) ≡ none_flagged need
unfolding none_flagged
none-any [] = refl
none-any (k ∷ ks) = rw (← none-any ks) (not_or (eqb k 1) (list_any (λ k. eqb k 1) ks))

-- the ends of a chosen bond get their flags back
restore-by : (need : List ℕ) (a b : ℕ) → Dec (a ≡ b) → get_or need a 0 ≡ 1 → get_or need b 0 ≡ 1 → set (set (set (set need a 0) b 0) a 1) b 1 ≡ need
restore-by need a b (yes e) h k = rw (← e, set-set, set-set, set-set) (ap (set need a) (sym h) ∙ set-get_or need a 0)
restore-by need a b (no n) h k =
    ap (λ (l : List ℕ). set l b 1) (set_comm (set need a 0) b a 0 1 (λ (e : b ≡ a). n (sym e)))
    ∙ rw (set-set, set-set) (ap (λ (x : ℕ). set (set need a x) b 1) (sym h) ∙ rw (set-get_or need a 0) (ap (set need b) (sym k) ∙ set-get_or need b 0))

and_parts : (a b c : Bool) → (a && b && c) ≡ true → (b ≡ true) × (c ≡ true)
and_parts true true true h = (refl, refl)
and_parts true true false h = (cc, cc)
and_parts true false c h = (cc, cc)
and_parts false b c h = (cc, cc)

pub restore : (ea eb el need : List ℕ) (k : ℕ) → free_at ea eb el need k ≡ true → mark_at ea eb (mark_at ea eb need k 0) k 1 ≡ need
restore ea eb el need k h =
    let q = and_parts (eqb (get_or el k 0) 1) (flagged need (get_or ea k 0)) (flagged need (get_or eb k 0)) h in
    restore-by need (get_or ea k 0) (get_or eb k 0) (ℕ_discrete (get_or ea k 0) (get_or eb k 0)) (eqb-true (get_or need (get_or ea k 0) 0) 1 q.0) (eqb-true (get_or need (get_or eb k 0) 0) 1 q.1)

-- tests in the code
pub never : ◌≡◌ {A = Bool} false true → ⊥
never e = let z : ◌≡◌ {A = ℕ} 0 1 = cc in omega arith

pub not-true : (b : Bool) → not b ≡ true → b ≡ false
not-true true h = sym h
not-true false h = refl

pub not-false : (b : Bool) → not b ≡ false → b ≡ true
not-false true h = refl
not-false false h = sym h
