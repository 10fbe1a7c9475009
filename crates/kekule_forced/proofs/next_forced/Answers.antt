use Rattle.std.proofs.lemmas.Result.{err_from_is_err_and}
use Rattle.matching.specs.declared.Call.TheVariants.{Next}
use Rattle.kekule.proofs.Kekule.{admits-valid, admits-room, admits-done}
use Rattle.kekule_forced.proofs.Calls.{next-told}
use Rattle.kekule_forced.proofs.next_forced.Goals as goal

pub returns-in_err-admit : goal.returns-in_err-admit
returns-in_err-admit c =
    let e = err_from_is_err_and c.from_residual.result c.from_residual.ensures.1 in
    rw (e.1, e.2) (c.in_err-admit.ensures Next)

pub next_valid-requires : goal.next_valid-requires
next_valid-requires c = record { valid = admits-valid c.in_ok-admit.ensures; m_in_bounds = admits-room c.in_ok-admit.ensures }

pub returns : goal.returns
returns c = admits-done c.in_ok-admit.ensures Next (next-told c.next_valid.result c.found_of.result c.found_of.ensures c.next_valid.ensures)
