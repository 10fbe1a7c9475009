-- A test of a number as the logic has it, said of the number. Assumes nothing.
use mathlib.Core.Path.{◌≡◌, ap, ◌∙◌}
use mathlib.Core.Bool.{Bool, true, false, not}
use lib.IntN.{ℤ}
use Rattle.table.proofs.Keys.{held, failed}

pub inside : (test : ℤ → Bool) {r : Bool} {x y : ℤ} → y ≡ x → r ≡ test y → not r ≡ false → test x ≡ true
inside test p e h = held (e ∙ ap test p) h

pub outside : (test : ℤ → Bool) {r : Bool} {x y : ℤ} → y ≡ x → r ≡ test y → not r ≡ true → test x ≡ false
outside test p e h = failed (e ∙ ap test p) h
