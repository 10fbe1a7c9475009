use Rattle.withdrawal.specs.Withdrawal.{WithdrawnOut, Answered}
use mathlib.Core.Path.{sym, subst}
use Rattle.balsa.proofs.withdrawal_calls.balsa_withdrawn.Goals as goal

pub returns : goal.returns
returns c = let a = c.args in subst (λ (o : WithdrawnOut). Answered a.reg.now a.text.now o) (sym c.from.ensures) c.withdrawn.ensures
