use Rattle.std.proofs.Common.{◌≡◌, true}
use Rattle.register.specs.Layout.{valid}
use Rattle.register.proofs.Rules.{valid-is}
use Rattle.register.proofs.Paths.{is-short, is-invalid, is-valid}
use Rattle.register.proofs.ready.Goals as goal

pub returns-then-register-lt-SIZE-clause-value : goal.returns-then-register-lt-SIZE-clause-value
returns-then-register-lt-SIZE-clause-value c = is-short _ _ _ _ c.if-register-lt-SIZE.true

pub returns-then-not-valid-clause-value : goal.returns-then-not-valid-clause-value
returns-then-not-valid-clause-value c = is-invalid _ _ _ _ c.if-register-lt-SIZE.false (cc)

pub returns-clause-value : goal.returns-clause-value
returns-clause-value c = is-valid _ _ _ _ c.if-register-lt-SIZE.false (cc)

pub returns-clause-ok : goal.returns-clause-ok
returns-clause-ok c = let v : valid c.args.register.now ≡ true = cc in
    record { full = c.if-register-lt-SIZE.false; sound = v; few = (valid-is _ v).few }
