use mathlib.Core.Path.{refl, ◌∙◌}
use Rattle.standard.proofs.Calls.{read_held, read_first, read-accepted, read-refused}
use Rattle.standard.proofs.standardize_in.Goals as goal

-- src/lib.rt:121:13
pub kekulize_first-requires : goal.kekulize_first-requires
kekulize_first-requires c = let k = c.read_row-a in
    let answer = k.ensures.bonds_after c.args.atoms.now c.args.bonds.now c.requires.readable.ready.atoms_zero c.requires.readable.ready.bonds_zero in
    let e = c.in-Ok.is in
    record { held = read_held _ _ _ _ _ _ c.requires.readable answer e k.auto.atoms k.auto.bonds; has_first = read_first _ _ _ _ _ _ c.requires.readable answer e _ _ k.ensures.chosen refl k.auto.row; max_text_in_bounds = c.requires.max_text_in_bounds }

-- src/lib.rt:106:1
pub returns-in-Err : goal.returns-in-Err
returns-in-Err c = let k = c.read_row-a in
    let answer = k.ensures.bonds_after c.args.atoms.now c.args.bonds.now c.requires.readable.ready.atoms_zero c.requires.readable.ready.bonds_zero in
    c.refuse.ensures ∙ read-refused _ _ _ _ _ _ c.requires.readable answer c.in-Err.is _ c.requires.max_text_in_bounds

-- src/lib.rt:106:1
pub returns-in-Ok : goal.returns-in-Ok
returns-in-Ok c = let k = c.read_row-a in
    let answer = k.ensures.bonds_after c.args.atoms.now c.args.bonds.now c.requires.readable.ready.atoms_zero c.requires.readable.ready.bonds_zero in
    let e = c.in-Ok.is in
    c.kekulize_first.ensures ∙ read-accepted _ _ _ _ _ _ c.requires.readable answer e _ _ (read_held _ _ _ _ _ _ c.requires.readable answer e k.auto.atoms k.auto.bonds) (read_first _ _ _ _ _ _ c.requires.readable answer e _ _ k.ensures.chosen refl k.auto.row) c.requires.max_text_in_bounds
