-- A step of a walk, from what reading the entry at its place tells. Assumes nothing.
use Prim.Native.Nat.{ℕ, ◌+◌, ◌<◌}
use native.Mathlib.Omega.{arith}
use mathlib.Core.Path.{◌≡◌, refl, sym, ap, ◌∙◌}
use mathlib.Core.Bool.{Bool, true, false}
use mathlib.Core.List.{List}
use lib.ListN.{length}
use lib.Dec.{ltb, eqb}
use borrow.Author.Tests.{ltb-true}
use Rattle.loops.specs.Loop.{pick}
use Rattle.register.specs.Layout.{size, max_entries, count, valid}
use Rattle.register.specs.declared.RegisterError.{RegisterError}
use Rattle.register.specs.declared.RegisterError.TheVariants.{Short, Invalid, Full}
use Rattle.register.specs.Answers.{error_code, refusing, none, FoundOut, found_of}
use Rattle.register.proofs.Rules.{valid-is}
use Rattle.register_walk.specs.Walk.{WalkOut, stays, started_of, walked_of}

-- the step that the numbers of a reading lead to
abbrev from_found : ℕ → FoundOut → WalkOut
from_found p f =
    pick (eqb f.found 1) (record { code = 0; tag = f.tag; start = f.start; size = f.size; next = p + 1 })
    (stays p (pick (eqb f.code 0) 255 f.code))

module _ (r : List ℕ) (p : ℕ) where
  step_by : (a b c : Bool) → ltb (length r) size ≡ a → valid r ≡ b → ltb p (count r) ≡ c → from_found p (found_of r p) ≡ walked_of r p
  unfolding found_of walked_of refusing
  step_by true b c x y z = simp x
  step_by false false c x y z = simp (x, y)
  step_by false true false x y z = simp (x, y, z)
  step_by false true true x y z = simp (x, y, z)

  pub step-law : (f : FoundOut) → f ≡ found_of r p → from_found p f ≡ walked_of r p
  step-law f e = ap (from_found p) e ∙ step_by _ _ _ refl refl refl

  start-by : (a b c : Bool) → ltb (length r) size ≡ a → valid r ≡ b → ltb p (count r) ≡ c → (found_of r p).code ≡ started_of r
  unfolding found_of started_of refusing
  start-by true b c x y z = simp x
  start-by false false c x y z = simp (x, y)
  start-by false true false x y z = simp (x, y, z)
  start-by false true true x y z = simp (x, y, z)

  -- the code of reading an entry is that of the start
  pub start-law : (f : FoundOut) → f ≡ found_of r p → f.code ≡ started_of r
  start-law f e = ap (λ o. o.code) e ∙ start-by _ _ _ refl refl refl

  -- the refusals
  pub refused : (e : RegisterError) → none (error_code e) ≡ found_of r p → stays p (error_code e) ≡ walked_of r p
  refused Short h = step-law _ h
  refused Invalid h = step-law _ h
  refused Full h = step-law _ h

  within_by : (a b c : Bool) → ltb (length r) size ≡ a → valid r ≡ b → ltb p (count r) ≡ c → (found_of r p).found ≡ 1 → p < max_entries
  unfolding found_of refusing
  within_by true b c x y z h = absurd (omega (arith, simp x at h))
  within_by false false c x y z h = absurd (omega (arith, simp (x, y) at h))
  within_by false true false x y z h = absurd (omega (arith, simp (x, y, z) at h))
  within_by false true true x y z h = omega (arith, ltb-true p (count r) z, (valid-is r y).few)

  -- an entry is found only below 64
  pub found_within : (f : FoundOut) → f ≡ found_of r p → f.found ≡ 1 → p < max_entries
  found_within f e h = within_by _ _ _ refl refl refl (sym (ap (λ o. o.found) e) ∙ h)

-- a register whose layout breaks a rule is told so at the start, and at each step
pub invalid_start : (r : List ℕ) → none 17 ≡ found_of r 0 → started_of r ≡ 17
invalid_start r h = sym (start-law r 0 _ h)

pub invalid_step : (r : List ℕ) (p : ℕ) → none 17 ≡ found_of r p → walked_of r p ≡ stays p 17
invalid_step r p h = sym (refused r p Invalid h)
