use native.Mathlib.Omega.{arith}
use mathlib.Core.Path.{sym, ap, ◌∙◌}
use Rattle.table.specs.Valid.{check_code}
use Rattle.table.proofs.Sound.{late-none}
use Rattle.reading.specs.Read.{text_rank}
use Rattle.reader.proofs.Ends.{ended-open, ended-late, ended-placed}
use Rattle.refusal.proofs.Codes.{code-range}
use Rattle.reader.proofs.Chosen.{chosen-placed, chosen-refused}
use Rattle.reader.proofs.ending.end_row.Goals as goal

pub returns-then-p-lt-MAX_TEXT : goal.returns-then-p-lt-MAX_TEXT
returns-then-p-lt-MAX_TEXT c = record { bonds_after = ended-open _ _ _ c.leftmost-p.ensures c.if-p-lt-MAX_TEXT.true c.refuse_whole.ensures; chosen = chosen-refused c.refuse_whole.ensures (omega arith) }

pub late_check-requires : goal.late_check-requires
late_check-requires c = rw c.complete-overfull.ensures.hydrogens c.requires.valid

pub place-requires : goal.place-requires
place-requires c = let k = c.late_check in
    record { valid = rw c.complete-overfull.ensures.hydrogens c.requires.valid; m_value = ((late-none _ _ _ _ (sym (ap check_code (sym c.in-Ok.is) ∙ k.ensures))).fit, c.requires.rankable) }

pub returns-in-Ok : goal.returns-in-Ok
returns-in-Ok c = let e = c.complete-overfull.ensures in
    let k = c.late_check in
    let a = c.args in
    record { bonds_after = ended-placed _ _ _ c.leftmost-p.ensures c.if-p-lt-MAX_TEXT.false e.hydrogens c.complete-overfull.result (ap check_code (sym c.in-Ok.is) ∙ k.ensures) e.overfull e.matched.told c.place.ensures; chosen = chosen-placed (text_rank a.keys.now a.bonds.now) c.complete-overfull.result e.matched c.place.ensures }

pub returns-in-Err : goal.returns-in-Err
returns-in-Err c = let e = c.complete-overfull.ensures in
    let k = c.late_check in
    record { bonds_after = ended-late _ _ _ c.leftmost-p.ensures c.if-p-lt-MAX_TEXT.false e.hydrogens c.in-Err.r (ap check_code (sym c.in-Err.is) ∙ k.ensures) c.refuse_whole-in-Err.ensures; chosen = chosen-refused c.refuse_whole-in-Err.ensures (omega (arith, (code-range c.in-Err.r).positive)) }
