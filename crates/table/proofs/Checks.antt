-- The code of a check tells its answer. Assumes nothing.
use native.Mathlib.Omega.{arith}
use mathlib.Core.Path.{◌≡◌, refl, ap}
use Rattle.std.specs.Prelude.{Result, Ok, Err}
use Rattle.refusal.specs.declared.Refusal.{Refusal}
use Rattle.refusal.proofs.Codes.{one_code, code-range}
use Rattle.table.specs.Valid.{check_code}

pub one-check : (c d : Result (Unit {0}) Refusal) → check_code c ≡ check_code d → c ≡ d
one-check (Ok _) (Ok _) e = refl
one-check (Ok _) (Err s) e = let k = code-range s in absurd (omega arith)
one-check (Err r) (Ok _) e = let k = code-range r in absurd (omega arith)
one-check (Err r) (Err s) e = ap Err (one_code r s e)
