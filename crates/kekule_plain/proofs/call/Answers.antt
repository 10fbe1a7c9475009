use mathlib.Core.Path.{ap}
use Rattle.std.proofs.lemmas.Result.{err_from_is_err_and}
use Rattle.kekule.specs.Kekule.{call_reply_of}
use Rattle.kekule.proofs.Kekule.{admits-valid, admits-room, admits-done}
use Rattle.kekule_plain.proofs.call.Goals as goal

pub returns-in_err-admit : goal.returns-in_err-admit
returns-in_err-admit c =
    let e = err_from_is_err_and c.from_residual.result c.from_residual.ensures.1 in
    rw (e.1, e.2) (c.in_err-admit.ensures c.args.c)

pub search_graph-requires : goal.search_graph-requires
search_graph-requires c = record { valid = admits-valid c.in_ok-admit.ensures; m_in_bounds = admits-room c.in_ok-admit.ensures }

pub returns : goal.returns
returns c = admits-done c.in_ok-admit.ensures c.args.c (simp c.found_of.ensures (ap call_reply_of c.search_graph.ensures))
