use Rattle.std.proofs.Common.{rules}
use Rattle.reading_fields.proofs.Chain.{after-isotope, after_symbol, after-mark, after-hydrogens, after-charge, after-extension, closes, stays_open, as_stored}
use Rattle.reading_fields.proofs.bracket.bracket_at.Goals as goal

pub returns-then-peek-ne93 : goal.returns-then-peek-ne93
returns-then-peek-ne93 c = let r1 = after-isotope (rw c.in-Ok.is at c.isotope_at-i.ensures) in
    let r2 = after_symbol r1 (rw c.in-Ok-y.is at c.symbol_at-y.ensures) in
    let r3 = after-mark r2 c.mark_at-mark.ensures in
    let r4 = after-hydrogens r3 (rw c.in-Ok-h.is at c.hydrogens_at-h.ensures) in
    let r5 = after-charge r4 (rw c.in-Ok-c.is at c.charge_at-c.ensures) in
    stays_open (after-extension r5 (rw c.in-Ok-x.is at c.extension_at-x.ensures)) c.peek.ensures c.if-peek-ne93.true

pub returns : goal.returns
returns c = let r1 = after-isotope (rw c.in-Ok.is at c.isotope_at-i.ensures) in
    let r2 = after_symbol r1 (rw c.in-Ok-y.is at c.symbol_at-y.ensures) in
    let r3 = after-mark r2 c.mark_at-mark.ensures in
    let r4 = after-hydrogens r3 (rw c.in-Ok-h.is at c.hydrogens_at-h.ensures) in
    let r5 = after-charge r4 (rw c.in-Ok-c.is at c.charge_at-c.ensures) in
    closes (as_stored c.in-Ok-y.name.value (after-extension r5 (rw c.in-Ok-x.is at c.extension_at-x.ensures)) (search rules)) c.peek.ensures c.if-peek-ne93.false
