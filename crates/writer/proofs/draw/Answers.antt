use Rattle.writer.proofs.Assembly.{parents-fit, ready, said, held-fit, held-numbered, held-listed, listed-few, sums_at}
use Rattle.writer.proofs.Answer.{unsaid-many, unsaid-deep}
use mathlib.Core.Path.{refl, sym, ◌∙◌}
use native.Mathlib.Omega.{arith}
use Rattle.writer.proofs.draw.Goals as goal

pub unused-count-requires : goal.unused-count-requires
unused-count-requires c = let h = c.requires.held.1 in
    record { bonds_fit = held-fit h; numbered = held-numbered h; bond_room = c.requires.bond_room; marks_value = c.requires.marks_value.0; m_in_bounds = (h.firsts, h.seconds); m_in_bounds_2 = (h.kinds, c.requires.marks_value.1) }

pub last_children-requires : goal.last_children-requires
last_children-requires c = let h = c.requires.held.1 in
    let v = h.valid in
    let room = h.room in
    record { n_in_bounds = (room.up, v.atoms_few); by_index = λ x i. (let p = parents-fit v room h.walked x i in omega (arith, c.requires.n_in_bounds)) }

pub emit-requires : goal.emit-requires
emit-requires c = let h = c.requires.held.1 in
    let r = c.requires.bond_room in
    let u = c.unused-count in
    let l = c.last_children in
    record { by_index = ready h.valid h.room h.walked _ _ _ _ _ _ _ (omega (arith, l.auto.last, c.requires.n_in_bounds)) h.sums_long h.turned.long (listed-few c.requires.held.0 c.args.m (held-listed h r u.ensures.result_after)) (omega (arith, u.auto.los, r.los)) (omega (arith, u.auto.his, r.his)) (omega (arith, u.auto.kinds, r.kinds)); marked = u.ensures.marked; n_in_bounds = omega (arith, u.auto.marks, c.requires.marks_value.1) }

pub is_shallow-requires : goal.is_shallow-requires
is_shallow-requires c = let h = c.requires.held.1 in
    let v = h.valid in
    let room = h.room in
    record { n_in_bounds = room.up; by_index = λ x i. (let p = parents-fit v room h.walked x i in omega (arith, c.requires.n_in_bounds, c.last_children.auto.last)) }

pub returns-in_default : goal.returns-in_default
returns-in_default c = let a = c.args in
    let u = c.unused-count in
    let l = c.last_children in
    λ bonds h. let d = c.in_default in let e = c.emit in unsaid-many (said h.valid h.room h.walked l.new.last a.sums.now a.written.now u.new.los u.new.his u.new.kinds _ u.result _ _ _ _ (held-listed h c.requires.bond_room u.ensures.result_after) (sums_at _ _ _ _ h.summed h.sums_long) h.turned c.requires.n_in_bounds l.ensures c.in_default.ensures refl)

pub returns-then-not-is_shallow : goal.returns-then-not-is_shallow
returns-then-not-is_shallow c = let a = c.args in
    let u = c.unused-count in
    let l = c.last_children in
    λ bonds h. unsaid-deep (said h.valid h.room h.walked l.new.last a.sums.now a.written.now u.new.los u.new.his u.new.kinds _ u.result _ _ _ _ (held-listed h c.requires.bond_room u.ensures.result_after) (sums_at _ _ _ _ h.summed h.sums_long) h.turned c.requires.n_in_bounds l.ensures c.in-Some.ensures (sym c.if-not-is_shallow.true ∙ c.is_shallow.ensures))

pub returns : goal.returns
returns c = let a = c.args in
    let u = c.unused-count in
    let l = c.last_children in
    λ bonds h. said h.valid h.room h.walked l.new.last a.sums.now a.written.now u.new.los u.new.his u.new.kinds _ u.result _ _ _ _ (held-listed h c.requires.bond_room u.ensures.result_after) (sums_at _ _ _ _ h.summed h.sums_long) h.turned c.requires.n_in_bounds l.ensures c.in-Some.ensures (sym c.if-not-is_shallow.false ∙ c.is_shallow.ensures)
