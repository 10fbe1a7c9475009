use Rattle.standard.proofs.Calls.{standing-valid, blank-fits, first-called}
use Rattle.standard.proofs.Kekulized.{standing-held, standing-settled}
use Rattle.standard.proofs.settle.Goals as goal

pub call_valid-requires : goal.call_valid-requires
call_valid-requires c = record { valid = standing-valid _ _ _ _ c.requires.standing; m_in_bounds = blank-fits _ _ _ _ c.requires.standing c.args.row.now c.requires.row_value }

pub settle_by-requires : goal.settle_by-requires
settle_by-requires c = let k = c.call_valid in
    record { held = standing-held _ _ _ _ c.requires.standing; has_first = first-called _ _ _ _ c.args.row.now k.new.row k.result c.requires.row_value k.auto.row k.ensures }

pub returns : goal.returns
returns c = let k = c.call_valid in
    let y = c.settle_by in
    standing-settled _ _ _ _ c.requires.standing _ (first-called _ _ _ _ c.args.row.now k.new.row k.result c.requires.row_value k.auto.row k.ensures) y.ensures y.auto.atoms y.auto.bonds
