use Rattle.std.proofs.Common.{sym, ◌∙◌}
use Rattle.std.proofs.lemmas.Result.{err_from_is_err_and}
use Rattle.withdrawal.proofs.Answers.{not-ready-answered, unread-answered, asked-answered}
use Rattle.withdrawal.proofs.Verdicts.{text-complete}
use Rattle.withdrawal.proofs.withdrawn.Goals as goal

pub returns-in_err-ready : goal.returns-in_err-ready
returns-in_err-ready c = let p = err_from_is_err_and c.from_residual.result c.from_residual.ensures.1 in
    rw (p.1, p.2) (not-ready-answered _ _ _ c.in_err-ready.ensures.value)

pub returns-in_err-counts : goal.returns-in_err-counts
returns-in_err-counts c = let h = c.in_ok-ready.ensures.ok in
    let p = err_from_is_err_and c.from_residual-in_err-counts.result c.from_residual-in_err-counts.ensures.1 in
    rw (p.1, p.2) (unread-answered _ _ h.full h.sound _ _ _ c.read.ensures c.in_err-counts.was)

pub ask-requires : goal.ask-requires
ask-requires c = let h = c.in_ok-ready.ensures.ok in record { size_in_bounds = (h.full, h.sound); complete = text-complete _ _ _ _ c.read.ensures c.in_ok-counts.was }

pub returns : goal.returns
returns c = let h = c.in_ok-ready.ensures.ok in asked-answered _ _ h.full h.sound _ _ _ c.read.ensures c.in_ok-counts.was c.ask.ensures
