use Rattle.std.proofs.lemmas.Result.{err_from_is_err_and}
use native.Mathlib.Omega.{arith}
use borrow.Author.Tests.{not-true, not-false}
use Rattle.reader.proofs.Atoms.{as_row, as-nothing, as-broken, adds-unbonded, adds-bonded, adds-crowded, adds-broken, adds-nothing}
use Rattle.reader.proofs.atom.atom_at.Goals as goal

pub returns-then-not-bonded : goal.returns-then-not-bonded
returns-then-not-bonded c = λ p x y. adds-unbonded _ _ _ _ _ _ c.is_bonded-bonded.ensures (as_row c.in-Ok.read c.in-Ok.ensures) c.in_ok-room_for-in-Ok.ensures c.put_atom.ensures (not-true _ c.if-not-bonded.true-raw)

pub bond_of-requires : goal.bond_of-requires
bond_of-requires c = (c.requires.hub_bound, omega (arith, c.in_ok-room_for-in-Ok.ensures.atom))

pub returns-else-not-bonded : goal.returns-else-not-bonded
returns-else-not-bonded c = λ p x y. adds-bonded _ _ _ _ _ _ c.is_bonded-bonded.ensures (as_row c.in-Ok.read c.in-Ok.ensures) c.in_ok-room_for-in-Ok.ensures c.put_atom.ensures (not-false _ c.if-not-bonded.false-raw) c.kind_of.ensures c.bond_of.ensures c.put_bond.ensures

pub returns-in_err-room_for-in-Ok : goal.returns-in_err-room_for-in-Ok
returns-in_err-room_for-in-Ok c = let e = err_from_is_err_and c.from_residual.result c.from_residual.ensures.1 in
    λ p x y. rw (e.1, e.2) (adds-crowded _ _ _ _ _ _ c.is_bonded-bonded.ensures _ (as_row c.in-Ok.read c.in-Ok.ensures).begins c.in_err-room_for-in-Ok.ensures)

pub returns-in-Err-Nothing : goal.returns-in-Err-Nothing
returns-in-Err-Nothing c = λ p x y. adds-nothing _ _ _ _ _ _ (as-nothing (rw c.in-Err-Nothing.field-0-is at c.in-Err-Nothing.ensures))

pub returns-in_ok-room_for-in-Err-Broken : goal.returns-in_ok-room_for-in-Err-Broken
returns-in_ok-room_for-in-Err-Broken c = λ p x y. rw c.in-Err-Broken.field-0-is (adds-broken _ _ _ _ _ _ c.is_bonded-bonded.ensures (as-broken (rw c.in-Err-Broken.field-0-is at c.in-Err-Broken.ensures)) c.in_ok-room_for-in-Err-Broken.ensures)

pub returns-in_err-room_for-in-Err-Broken : goal.returns-in_err-room_for-in-Err-Broken
returns-in_err-room_for-in-Err-Broken c = let e = err_from_is_err_and c.from_residual-in_err-room_for-in-Err-Broken.result c.from_residual-in_err-room_for-in-Err-Broken.ensures.1 in
    λ p x y. rw (e.1, e.2) (adds-crowded _ _ _ _ _ _ c.is_bonded-bonded.ensures _ (as-broken (rw c.in-Err-Broken.field-0-is at c.in-Err-Broken.ensures)).begins c.in_err-room_for-in-Err-Broken.ensures)
