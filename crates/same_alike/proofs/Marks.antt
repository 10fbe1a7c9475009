-- One more mark. Assumes nothing.
use mathlib.Core.Path.{◌≡◌, refl, sym, ◌∙◌}
use mathlib.Core.Bool.{Bool, true, false}
use mathlib.Core.List.{List, []}
use Prim.Native.Nat.{ℕ, ◌<◌}
use lib.Dec.{eqb}
use lib.ListN.{get_or, set}
use lib.Seq.{get_or-set_other}
use borrow.Author.Tests.{eqb-true, eqb-false}
use Rattle.same_finer.specs.Finer.{ways_by, Hopeless}

pub marked : {o1 o2 ok : List ℕ} {n : ℕ} {p : List ℕ} {k : ℕ} {dead : List ℕ} (d v : ℕ) → Hopeless o1 o2 ok n p k dead → ways_by o1 o2 ok n p k d ≡ [] → Hopeless o1 o2 ok n p k (set dead d v)
marked {o1} {o2} {ok} {n} {p} {k} {dead} d v h e = record { at = λ x l q. go x l q (eqb x d) refl }
  where
    go : (x : ℕ) → x < n → get_or (set dead d v) x 0 ≡ 1 → (z : Bool) → eqb x d ≡ z → ways_by o1 o2 ok n p k x ≡ []
    go x l q true f = rw (eqb-true x d f) e
    go x l q false f = h.at x l (sym (get_or-set_other dead d x v 0 (eqb-false x d f)) ∙ q)
