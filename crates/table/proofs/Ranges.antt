-- `all` and `any` over a range of numbers, told by `each` and `how_many`. Assumes nothing.
use Prim.Native.Nat.{ℕ, zero, suc, ◌+◌}
use native.Mathlib.Omega.{arith}
use native.Mathlib.Numerals.{add-one}
use mathlib.Core.Path.{◌≡◌, refl, sym, ap, ◌∙◌}
use mathlib.Core.Bool.{Bool, true, false, ◌&&◌, ◌||◌, not}
use lib.Dec.{eqb}
use borrow.Author.Tests.{ne_eqb}
use denote.Param.Members.{Mut}
use Rattle.std.specs.declared.ops.Range.{Range}
use Rattle.std.specs.Fn.{Called}
use Rattle.std.specs.Iterator.{ChecksAll, ChecksAny}
use Rattle.std.specs.List.{list_all, list_any, range_with_len}
use Rattle.std.proofs.iter.Yields.{nat_range_steps}
use Rattle.std.proofs.lemmas.Iterator.{YieldsList-from_range}
use Rattle.std.proofs.lemmas.Iterator.Search.{all_from_yields_List, any_from_yields_List}
use Rattle.loops.specs.Loop.{pick, each, how_many}

all-each : (p : ℕ → Bool) (k m : ℕ) → list_all p (range_with_len k m) ≡ each p k m
unfolding each
all-each p k zero = refl
all-each p k (suc m) = rw add-one (ap (λ (x : Bool). p k && x) (all-each p (suc k) m))

any-many : (p : ℕ → Bool) (k m : ℕ) → list_any p (range_with_len k m) ≡ not (eqb (how_many p k m) 0)
unfolding how_many
any-many p k zero = refl
any-many p k (suc m) = rw add-one (go (p k) (any-many p (suc k) m))
  where
    go : (x : Bool) {y : Bool} → y ≡ not (eqb (how_many p (suc k) m) 0) → (x || y) ≡ not (eqb (pick x 1 0 + how_many p (suc k) m) 0)
    go true h = sym (ap not (ne_eqb (1 + how_many p (suc k) m) 0 (λ e. omega arith)))
    go false h = let z : 0 + how_many p (suc k) m ≡ how_many p (suc k) m = omega arith in rw z h

module _ {F : Type 0} {g : Mut F (ℕ × Unit {0}) Bool} (p : ℕ → Bool) (m : ℕ) {u : Range ℕ} {f : F} {r : Bool} where
  pub all_in_range : ChecksAll nat_range_steps g (record { start = 0; end = m }) f r u → ((x : ℕ) (b : Bool) (q : F) → Called g f (x, tt) b q → (q ≡ f) × (b ≡ p x)) → r ≡ each p 0 m
  all_in_range h t = all_from_yields_List p u f r h (YieldsList-from_range 0 m m refl (omega arith)) t ∙ all-each p 0 m

  pub any_in_range : ChecksAny nat_range_steps g (record { start = 0; end = m }) f r u → ((x : ℕ) (b : Bool) (q : F) → Called g f (x, tt) b q → (q ≡ f) × (b ≡ p x)) → r ≡ not (eqb (how_many p 0 m) 0)
  any_in_range h t = any_from_yields_List p u f r h (YieldsList-from_range 0 m m refl (omega arith)) t ∙ any-many p 0 m
