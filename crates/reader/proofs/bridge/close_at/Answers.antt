use Rattle.reader.proofs.Bridges.{closes-many, closes-self, closes-again, closes-clash, closes-bond}
use mathlib.Core.Path.{sym, ◌∙◌}
use Rattle.reader.proofs.bridge.close_at.Goals as goal

pub returns-then-m-ge-MAX_BONDS : goal.returns-then-m-ge-MAX_BONDS
returns-then-m-ge-MAX_BONDS c = closes-many _ _ _ _ _ _ _ c.if-m-ge-MAX_BONDS.true

pub returns-then-u-hub : goal.returns-then-u-hub
returns-then-u-hub c = closes-self _ _ _ _ _ _ _ c.if-m-ge-MAX_BONDS.false c.if-u-hub.true

pub returns-then-joined_already : goal.returns-then-joined_already
returns-then-joined_already c = closes-again _ _ _ _ _ _ _ c.if-m-ge-MAX_BONDS.false c.if-u-hub.false (sym c.if-joined_already.true ∙ c.joined_already.ensures)

pub returns-then-clash : goal.returns-then-clash
returns-then-clash c = closes-clash _ _ _ _ _ _ _ c.if-m-ge-MAX_BONDS.false c.if-u-hub.false (sym c.if-joined_already.false ∙ c.joined_already.ensures) (sym c.clash.ensures ∙ c.if-clash.true)

pub returns : goal.returns
returns c = closes-bond _ _ _ _ _ _ c.args.at c.if-m-ge-MAX_BONDS.false c.if-u-hub.false (sym c.if-joined_already.false ∙ c.joined_already.ensures) (sym c.clash.ensures ∙ c.if-clash.false) c.meet.ensures c.between.ensures
