-- An answer's code beside the register that the answer leaves. Assumes nothing.
use Prim.Native.Nat.{ℕ}
use mathlib.Core.Path.{◌≡◌, ap, ◌∙◌}
use mathlib.Core.List.{List}
use Rattle.register.specs.Answers.{RegisterResult, told}

pub register-law : {c d : ℕ} {r : List ℕ} {o : RegisterResult} → c ≡ d → told d r ≡ o → told c r ≡ o
register-law {r = r} e g = ap (λ (k : ℕ). told k r) e ∙ g
