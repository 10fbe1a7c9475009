use Rattle.std.proofs.lemmas.Result.{err_from_is_err_and}
use Rattle.std.proofs.Common.{arith, []}
use Rattle.reader.proofs.Branches.{bounded-opened, inner-closable, branch-ends, branch-refused}
use Rattle.reader.proofs.Turns.{closable-alone, atom-in, atom-later, atom-room, turn-atom, end-atom, turn-bridge, end-bridge, turn-branch, end_branch, end-deep, end-wrong}
use Rattle.reader.proofs.sequence.+branch_sequence.Goals as goal

pub branch-sequence-requires : goal.branch-sequence-requires
branch-sequence-requires t c =
    let r = c.requires in
    (omega (arith, c.decreases, r.at_in_bounds, c.joint_at-start.ensures.later), (bounded-opened (c.open-inner.ensures _ [] []) r.bounded r.depth_lt_max_depth, (c.joint_at-start.ensures.within, r.s_len_bound)))

pub branch-end_branch-requires-clause-closable : goal.branch-end_branch-requires-clause-closable
branch-end_branch-requires-clause-closable t c =
    let r = c.requires in
    closable-alone c.in_ok-o.o.st _ _ _ (inner-closable _ _ _ _ _ r.at_in_bounds r.at_value r.depth_lt_max_depth (c.open-inner.ensures _ _ _) c.joint_at-start.ensures _ c.in_ok-o.ensures)

pub branch-returns : goal.branch-returns
branch-returns t c =
    let r = c.requires in
    branch-ends _ _ _ _ _ r.at_in_bounds r.at_value r.depth_lt_max_depth (c.open-inner.ensures _ _ _) c.joint_at-start.ensures _ c.in_ok-o.ensures (c.end_branch.ensures _ _ _)

pub branch-returns-in_err-o : goal.branch-returns-in_err-o
branch-returns-in_err-o t c =
    let r = c.requires in
    let e = err_from_is_err_and c.from_residual.result c.from_residual.ensures.1 in
    rw (e.1, e.2) (branch-refused _ _ _ _ _ r.at_in_bounds r.at_value r.depth_lt_max_depth (c.open-inner.ensures _ _ _) c.joint_at-start.ensures _ c.in_err-o.ensures)

pub sequence-bounds-outsides-st : goal.sequence-bounds-outsides-st
sequence-bounds-outsides-st t c =
    atom-room c.loop-j.invariant c.piece_at-piece.result c.piece_at-piece.ensures c.in-Atom.is _ _ (c.in_ok-added-in-Atom.ensures _ _ _)

pub sequence-loop-j-smaller-in-Atom : goal.sequence-loop-j-smaller-in-Atom
sequence-loop-j-smaller-in-Atom t c =
    omega (arith, atom-later c.loop-j.invariant c.piece_at-piece.result c.piece_at-piece.ensures c.in-Atom.is _ _ (c.in_ok-added-in-Atom.ensures _ _ _), atom-in c.loop-j.invariant c.piece_at-piece.result c.piece_at-piece.ensures c.in-Atom.is _ _ (c.in_ok-added-in-Atom.ensures _ _ _))

pub sequence-loop-j-preserved-in-Atom : goal.sequence-loop-j-preserved-in-Atom
sequence-loop-j-preserved-in-Atom t c =
    turn-atom c.loop-j.invariant c.piece_at-piece.result c.piece_at-piece.ensures c.in-Atom.is _ _ (c.in_ok-added-in-Atom.ensures _ _ _) (c.extend-st.ensures c.loop-j.offsets c.loop-j.outsides c.loop-j.keys c.in_ok-added-in-Atom.added.outside) c.atom_at.auto.atoms c.atom_at.auto.bonds

pub sequence-returns-in_err-added-in-Atom : goal.sequence-returns-in_err-added-in-Atom
sequence-returns-in_err-added-in-Atom t c =
    let e = err_from_is_err_and c.from_residual.result c.from_residual.ensures.1 in
    rw (e.1, e.2) (end-atom c.loop-j.invariant c.piece_at-piece.result c.piece_at-piece.ensures c.in-Atom.is _ _ _ (c.in_err-added-in-Atom.ensures _ _ _))

pub sequence-returns-in_err-bridge-in-Bridge : goal.sequence-returns-in_err-bridge-in-Bridge
sequence-returns-in_err-bridge-in-Bridge t c =
    let e = err_from_is_err_and c.from_residual-in_err-bridge-in-Bridge.result c.from_residual-in_err-bridge-in-Bridge.ensures.1 in
    rw (e.1, e.2) (end-bridge c.loop-j.invariant c.piece_at-piece.result c.piece_at-piece.ensures c.in-Bridge.is _ [] [] _ (c.in_err-bridge-in-Bridge.ensures _))

pub sequence-loop-j-preserved-in-Bridge : goal.sequence-loop-j-preserved-in-Bridge
sequence-loop-j-preserved-in-Bridge t c =
    turn-bridge c.loop-j.invariant c.piece_at-piece.result c.piece_at-piece.ensures c.in-Bridge.is _ _ _ (c.in_ok-bridge-in-Bridge.ensures _) c.requires.s_len_bound (c.join-st.ensures _ _ _ _) c.bridge.auto.bonds

pub sequence-returns-then-st-ge-MAX_DEPTH : goal.sequence-returns-then-st-ge-MAX_DEPTH
sequence-returns-then-st-ge-MAX_DEPTH t c =
    end-deep c.loop-j.invariant c.piece_at-piece.result c.piece_at-piece.ensures c.in-Branch.is c.if-st-ge-MAX_DEPTH.true

pub sequence-loop-j-preserved : goal.sequence-loop-j-preserved
sequence-loop-j-preserved t c =
    turn-branch c.loop-j.invariant c.piece_at-piece.result c.piece_at-piece.ensures c.in-Branch.is _ c.in_ok-inner-in-Branch.ensures c.branch-s.auto.atoms c.branch-s.auto.bonds

pub sequence-returns-in_err-inner-in-Branch : goal.sequence-returns-in_err-inner-in-Branch
sequence-returns-in_err-inner-in-Branch t c =
    let e = err_from_is_err_and c.from_residual-in_err-inner-in-Branch.result c.from_residual-in_err-inner-in-Branch.ensures.1 in
    rw (e.1, e.2) (end_branch c.loop-j.invariant c.piece_at-piece.result c.piece_at-piece.ensures c.in-Branch.is _ c.in_err-inner-in-Branch.ensures)

pub sequence-returns-in-Wrong : goal.sequence-returns-in-Wrong
sequence-returns-in-Wrong t c =
    end-wrong c.loop-j.invariant c.piece_at-piece.result c.piece_at-piece.ensures c.in-Wrong.is
