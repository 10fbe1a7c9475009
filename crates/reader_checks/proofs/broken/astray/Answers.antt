use mathlib.Core.Path.{sym, ◌∙◌}
use Rattle.reader_checks.proofs.Astray.{astray-hub, astray-deep, astray-branch, astray-bridge}
use Rattle.reader_checks.proofs.broken.astray.Goals as goal

pub returns-then-hub_astray : goal.returns-then-hub_astray
returns-then-hub_astray c = let a = c.args in astray-hub a.n a.hub a.depth a.hubs.now a.openers.now (sym c.hub_astray.ensures ∙ c.if-hub_astray.true)

pub returns-then-d-gt-MAX_DEPTH : goal.returns-then-d-gt-MAX_DEPTH
returns-then-d-gt-MAX_DEPTH c = let a = c.args in astray-deep a.n a.hub a.depth a.hubs.now a.openers.now c.if-d-gt-MAX_DEPTH.true

pub returns-then-branch_astray : goal.returns-then-branch_astray
returns-then-branch_astray c = let a = c.args in astray-branch a.n a.hub a.depth a.hubs.now a.openers.now (sym c.hub_astray.ensures ∙ c.if-hub_astray.false) (sym c.branch_astray.ensures ∙ c.if-branch_astray.true)

pub returns : goal.returns
returns c = let a = c.args in c.bridge_astray.ensures ∙ astray-bridge a.n a.hub a.depth a.hubs.now a.openers.now (sym c.hub_astray.ensures ∙ c.if-hub_astray.false) (sym c.branch_astray.ensures ∙ c.if-branch_astray.false) c.if-d-gt-MAX_DEPTH.false
