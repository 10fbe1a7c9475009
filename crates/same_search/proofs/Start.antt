-- What the search with finer keys begins with, and what it tells after one under a budget. Assumes nothing.
use mathlib.Core.Path.{◌≡◌, refl, sym, ap, ◌∙◌}
use mathlib.Core.Bool.{Bool, true, false, ◌&&◌, not}
use mathlib.Core.List.{List, []}
use Prim.Native.Nat.{ℕ, ◌+◌, ◌-◌, ◌*◌, ◌≤◌, ◌/◌, ◌%◌}
use native.Mathlib.Omega.{arith}
use native.Mathlib.Nat.{add-zero, mul-add-div, mul-add-mod_self_left, div-eq_of_lt, mod-eq_of_lt}
use lib.Dec.{eqb}
use lib.ListN.{length, take}
use borrow.Author.Tests.{eqb-true, eq-eqb}
use Rattle.loops.specs.Loop.{each}
use Rattle.loops.proofs.Loops.{each_at}
use Rattle.matching.specs.Model.{some?}
use Rattle.matching.proofs.Graph.{never}
use Rattle.same_model.specs.Same.{max_same, image}
use Rattle.same_place.specs.Place.{good_from, goods, Prefix, Solved}
use Rattle.same_keys.specs.Keys.{at}
use Rattle.same_finer.specs.Finer.{finer, Weighed, Keeps}
use Rattle.same_finer.proofs.Keeping.{may, keeps-finer}
use Rattle.same_search.specs.Search.{Trial, Level, agreeing}

-- keys that agree are kept
pub keeps-start : (o1 o2 ok : List ℕ) (n : ℕ) (ren k1 k2 : List ℕ) → n ≤ max_same → n ≤ length k1 → n ≤ length k2 → each (agreeing ok k1 k2) 0 (max_same * n) ≡ true → Keeps o1 o2 ok n ren 0 k1 k2
keeps-start o1 o2 ok n ren k1 k2 few l1 l2 h =
    record {
      long1 = l1;
      long2 = l2;
      kept = λ t w _ a l.
          let d = w.below a l in
          let i = max_same * a + image t a in
          let e = each_at (agreeing ok k1 k2) (max_same * n) i h (omega arith) in
          let m : at ok i ≡ 1 = may o1 o2 ok n t w a l in
          let r : i / max_same ≡ a = mul-add-div {m = max_same} (omega arith) a (image t a) ∙ ap (λ (k : ℕ). a + k) (div-eq_of_lt {n = image t a} {m = max_same} (omega arith)) ∙ add-zero a in
          let s : i % max_same ≡ image t a = mul-add-mod_self_left max_same a (image t a) ∙ mod-eq_of_lt {n = image t a} {m = max_same} (omega arith) in
          ap (at k1) (sym r) ∙ eqb-true (at k1 (i / max_same)) (at k2 (i % max_same)) (go (eqb (at ok i) 1) (eqb (at k1 (i / max_same)) (at k2 (i % max_same))) (eq-eqb (at ok i) 1 m) e) ∙ ap (at k2) s;
    }
  where
    go : (x y : Bool) → x ≡ true → not (x && not y) ≡ true → y ≡ true
    go true true p e = refl
    go true false p e = absurd (never false e refl)
    go false y p e = absurd (never false p refl)

pub level-start : {o1 o2 ok w1 w2 k1 k2 : List ℕ} {n : ℕ} (ren : List ℕ) (r : ℕ) → Weighed o1 n w1 → Weighed o2 n w2 → Keeps o1 o2 ok n ren 0 k1 k2 → {t1 t2 : List ℕ} → t1 ≡ finer w1 n r k1 → t2 ≡ finer w2 n r k2 → Level o1 o2 ok w1 w2 t1 t2 n ren 0
unfolding good_from
level-start ren r v1 v2 k e1 e2 = rw (e1, e2) record { weighed1 = v1; weighed2 = v2; good = refl; keeps = keeps-finer v1 v2 r k }

-- three tests at once
pub fair : (a b c : Bool) → not ((a && b) && c) ≡ false → (a ≡ true) × (b ≡ true) × (c ≡ true)
fair true true true h = (refl, refl, refl)
fair true true false h = absurd (never true refl h)
fair true false c h = absurd (never true refl h)
fair false b c h = absurd (never true refl h)

-- no atom is placed before the first
pub as-whole : (o1 o2 ok : List ℕ) {n : ℕ} {ren : List ℕ} {r : Bool} {ren' : List ℕ} → Solved (goods o1 o2 ok n (take 0 ren) (n - 0)) n 0 ren r ren' → Solved (goods o1 o2 ok n [] n) n 0 ren r ren'
as-whole o1 o2 ok {n} w = let d : n - 0 ≡ n = omega arith in rw d at w

pub after : {fs : List (List ℕ)} {n : ℕ} {ren ren' : List ℕ} {r : Bool} {ren'' : List ℕ} → length ren' ≡ length ren → Solved fs n 0 ren' r ren'' → Solved fs n 0 ren r ren''
after e w = record { long = w.long ∙ e; kept = refl; told = w.told; found = w.found }

pub prefix-kept : {n : ℕ} {ren ren' : List ℕ} → Prefix n ren 0 → length ren' ≡ length ren → Prefix n ren' 0
prefix-kept p e = record { few = p.few; upto = p.upto; room = omega (arith, p.room); below = λ b l. absurd (omega arith) }

-- what a search under a budget tells, if some of it is left
pub told-yes : (o1 o2 ok : List ℕ) {n : ℕ} {ren : List ℕ} {f : Bool} {left : ℕ} {ren' : List ℕ} → Trial (goods o1 o2 ok n (take 0 ren) (n - 0)) n 0 ren f left ren' → f ≡ true → Solved (goods o1 o2 ok n [] n) n 0 ren true ren'
told-yes o1 o2 ok t e = as-whole o1 o2 ok (t.told e)

pub told-no : (o1 o2 ok : List ℕ) {n : ℕ} {ren : List ℕ} {f : Bool} {left : ℕ} {ren' : List ℕ} → Trial (goods o1 o2 ok n (take 0 ren) (n - 0)) n 0 ren f left ren' → f ≡ false → (left ≡ 0 → ⊥) → Solved (goods o1 o2 ok n [] n) n 0 ren false ren'
told-no o1 o2 ok {ren = ren} t e h = as-whole o1 o2 ok {ren = ren} record { long = t.long; kept = refl; told = sym (ap some? (t.absent e (omega arith))); found = λ k. absurd (never false k refl) }
