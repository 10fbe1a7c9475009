-- An answer's code tells the answer. Assumes nothing.
use native.Mathlib.Omega.{arith}
use mathlib.Core.Path.{◌≡◌, refl, ap}
use Rattle.std.specs.Prelude.{Ok, Err}
use Rattle.refusal.proofs.Codes.{one_code, code-range}
use Rattle.kekule_answers.specs.declared.Handed.TheVariants.{Given, Ended}
use Rattle.kekule_answers.specs.Answers.{Found, found_code}

pub one_found : (f g : Found) → found_code f ≡ found_code g → f ≡ g
one_found (Ok Given) (Ok Given) e = refl
one_found (Ok Given) (Ok Ended) e = absurd (omega arith)
one_found (Ok Given) (Err s) e = let k = code-range s in absurd (omega arith)
one_found (Ok Ended) (Ok Given) e = absurd (omega arith)
one_found (Ok Ended) (Ok Ended) e = refl
one_found (Ok Ended) (Err s) e = let k = code-range s in absurd (omega arith)
one_found (Err r) (Ok Given) e = let k = code-range r in absurd (omega arith)
one_found (Err r) (Ok Ended) e = let k = code-range r in absurd (omega arith)
one_found (Err r) (Err s) e = ap Err (one_code r s e)
