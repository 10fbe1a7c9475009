use Rattle.balsa.proofs.Registers.{register-law}
use Rattle.balsa.proofs.register_calls.balsa_register_step.Goals as goal

pub returns : goal.returns
returns c = register-law c.code.ensures c.step.ensures
