use Rattle.std.proofs.lemmas.Result.{err_from_is_err_and}
use native.Mathlib.Omega.{arith}
use mathlib.Core.Path.{refl}
use mathlib.Core.List.{[]}
use Rattle.reader.proofs.Bridges.{opened-small, bridge-opens, bridge-closes, bridge-refused}
use Rattle.reader.proofs.bridge.bridge.Goals as goal

pub opening-requires : goal.opening-requires
opening-requires c = record { number_lt_bridges = c.requires.number_lt_bridges; number_bound = omega (arith, c.requires.bounded.opener c.args.number) }

pub returns-in_default : goal.returns-in_default
returns-in_default c = λ x. bridge-opens _ _ _ _ _ (c.opening.ensures _ x _) c.in_default.is refl refl

pub close_at-requires : goal.close_at-requires
close_at-requires c = (opened-small _ _ (c.opening.ensures _ [] []) c.in-Some.is c.requires.bounded, omega (arith, c.requires.bounded.hub))

pub put_keys-requires : goal.put_keys-requires
put_keys-requires c = (c.in_ok-bond.ensures.1, c.requires.bounded.offset c.args.number, c.requires.at_le_max_text)

pub returns : goal.returns
returns c = λ x. bridge-closes _ _ _ _ _ (c.opening.ensures _ x _) c.in-Some.is c.in_ok-bond.ensures c.put_bond.ensures refl c.put_keys.ensures

pub returns-in_err-bond : goal.returns-in_err-bond
returns-in_err-bond c = let e = err_from_is_err_and c.from_residual.result c.from_residual.ensures.1 in
    λ x. rw (e.1, e.2) (bridge-refused _ _ _ _ _ (c.opening.ensures _ x _) c.in-Some.is _ [] [] [] c.in_err-bond.ensures)
