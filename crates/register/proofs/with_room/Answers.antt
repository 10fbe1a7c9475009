use Rattle.std.proofs.Common.{◌≡◌, true, false, rules}
use Rattle.register.specs.Adding.{fits}
use Rattle.register.proofs.Paths.{no-room-first, picks-yes, picks-no}
use Rattle.register.proofs.PowerCut.{fits-is}
use Rattle.register.proofs.with_room.Goals as goal

pub returns-in_err-ready-clause-value : goal.returns-in_err-ready-clause-value
returns-in_err-ready-clause-value c = search (rules, no-room-first)

pub returns-then-not-fits-clause-value : goal.returns-then-not-fits-clause-value
returns-then-not-fits-clause-value c = let h = c.in_ok-ready.ensures.ok in let v : fits c.args.register.now c.args.m ≡ false = cc in picks-no _ _ _ _ _ _ h.full h.sound v

pub returns-clause-value : goal.returns-clause-value
returns-clause-value c = let h = c.in_ok-ready.ensures.ok in let v : fits c.args.register.now c.args.m ≡ true = cc in picks-yes _ _ _ _ _ _ h.full h.sound v

pub returns-clause-ok : goal.returns-clause-ok
returns-clause-ok c = let v : fits c.args.register.now c.args.m ≡ true = cc in
    let f = fits-is _ _ v in
    record { ready = c.in_ok-ready.ensures.ok; fitting = v; few = f.few; short = f.short; within = f.room }
