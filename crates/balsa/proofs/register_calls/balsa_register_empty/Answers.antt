use Rattle.balsa.proofs.Registers.{register-law}
use Rattle.balsa.proofs.register_calls.balsa_register_empty.Goals as goal

pub returns : goal.returns
returns c = register-law c.code.ensures c.empty.ensures
