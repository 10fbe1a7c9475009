-- A choice by a test, taken apart: what holds of both sides, each under the test's outcome, holds of what is picked.
use mathlib.Core.Path.{◌≡◌, refl}
use mathlib.Core.Bool.{Bool, true, false}
use Rattle.loops.specs.Loop.{pick}

pub by-test : {A : Type 0} (P : A → Type 0) (t : Bool) (a b : A) → (t ≡ true → P a) → (t ≡ false → P b) → P (pick t a b)
by-test P true a b f g = f refl
by-test P false a b f g = g refl
