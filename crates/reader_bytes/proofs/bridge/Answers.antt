use mathlib.Core.Path.{refl}
use Rattle.std.proofs.lemmas.Result.{err_from_is_err_and}
use native.Mathlib.Omega.{arith}
use Rattle.reader_bytes.proofs.Parts.{bridge-opens, bridge-refused, bridge-closes}
use Rattle.reader_bytes.proofs.bridge.Goals as goal

pub returns-then-u-eq0 : goal.returns-then-u-eq0
returns-then-u-eq0 c = λ s x a. bridge-opens _ _ _ s _ _ _ x _ a _ c.kind_of-k.ensures refl c.if-u-eq0.true

pub close_at-requires : goal.close_at-requires
close_at-requires c = (omega (arith, c.requires.bounded.opener c.args.number), omega (arith, c.requires.bounded.hub))

pub put_keys-requires : goal.put_keys-requires
put_keys-requires c = (c.in_ok-bond.ensures.1, c.requires.bounded.offset c.args.number, c.requires.at_le_max_text)

pub returns-in_err-bond : goal.returns-in_err-bond
returns-in_err-bond c = let e = err_from_is_err_and c.from_residual.result c.from_residual.ensures.1 in
    λ s x a. rw (e.1, e.2) (bridge-refused _ _ _ s _ _ _ x _ a _ c.kind_of-k.ensures refl c.if-u-eq0.false _ _ c.in_err-bond.ensures)

pub returns : goal.returns
returns c = λ s x a. bridge-closes _ _ _ s _ _ _ x _ a _ c.kind_of-k.ensures refl c.if-u-eq0.false c.in_ok-bond.ensures c.put_bond.ensures c.put_keys.ensures
