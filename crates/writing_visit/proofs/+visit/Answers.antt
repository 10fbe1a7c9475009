use Prim.Native.Nat.{ℕ, ◌+◌, ◌<◌}
use native.Mathlib.Omega.{arith}
use lib.ListN.{length, get_or}
use Rattle.table.specs.Limits.{max_atoms}
use Rattle.writing_visit.proofs.Ways.{other-below}
use Rattle.writing_visit.proofs.Lists.{head-within, head-here, after-within, next-after-is, next-after-later}
use Rattle.writing_visit.proofs.Laws.{left-start, left_end, left-seen, left-new, left-last, left-full, ahead-less, ahead-drop, seen-less, kept_same, kept_then, kept_set, room-kept}
use Rattle.writing_visit.proofs.+visit.Goals as goal

pub loop-b-init : goal.loop-b-init
loop-b-init t c = (left-start _ _ _ _ _ _ _ c.requires.hub_lt_max_atoms.1 c.requires.hub_lt_max_atoms.0 c.requires.from_value, kept_same)

pub follow-seen-requires : goal.follow-seen-requires
follow-seen-requires t c = let fit = c.requires.bonds_fit in
    let places = c.requires.places in
    let y = fit.bonds_few in
    let lk = c.requires.linked in
    let at = c.loop-b in
    let h = c.loop-b-test.true in
    let z = after-within lk at.b h in
    let w = fit.ends at.b h in
    let x = fit.atoms_few in
    record { b_in_bounds = (omega (arith, h, places.firsts), omega (arith, h, places.seconds)); b_in_bounds_2 = (omega (arith, h, places.afters), omega (arith, h, places.behinds)); b_in_bounds_3 = omega (arith, h, places.kinds); b_bound = (omega (arith, w.0, w.1), omega (arith, w.1)); b_bound_2 = (omega (arith, z.0), omega (arith, z.1)) }

pub offset_bounds-number-a : goal.offset_bounds-number-a
offset_bounds-number-a t c = let a = c.args in
    let fit = c.requires.bonds_fit in
    let x = fit.atoms_few in
    let at = c.loop-b in
    let h = c.loop-b-test.true in
    let f = c.follow-seen in
    let w : ℕ = f.result.other.0 in
    let q = other-below fit at.here at.b h in
    let places = c.requires.places in
    let wq : w < a.n = omega (arith, q, f.ensures.other_value) in
    let wn : w < max_atoms = omega (arith, wq, x) in
    let wh : w < length a.chains.now.head.now = omega (arith, wq, places.heads) in
    omega arith

pub bounds-number-a : goal.bounds-number-a
bounds-number-a t c = let a = c.args in
    let fit = c.requires.bonds_fit in
    let x = fit.atoms_few in
    let at = c.loop-b in
    let h = c.loop-b-test.true in
    let f = c.follow-seen in
    let w : ℕ = f.result.other.0 in
    let q = other-below fit at.here at.b h in
    let places = c.requires.places in
    let wq : w < a.n = omega (arith, q, f.ensures.other_value) in
    let wn : w < max_atoms = omega (arith, wq, x) in
    let wh : w < length a.chains.now.head.now = omega (arith, wq, places.heads) in
    let room = room-kept c.requires.room at.invariant.1 in
    omega (arith, wq, room.number)

pub loop-b-smaller-then-number-a-ne0 : goal.loop-b-smaller-then-number-a-ne0
loop-b-smaller-then-number-a-ne0 t c = let a = c.args in
    let lk = c.requires.linked in
    let at = c.loop-b in
    let i = at.invariant in
    let h = c.loop-b-test.true in
    let f = c.follow-seen in
    let r = next-after-is lk at.b at.here f.result.next.0 h (i.0.here h) f.ensures.next_value in
    let z = next-after-later lk at.b at.here f.result.next.0 h r in
    ahead-less _ _ _ _ _ (omega arith) z h

pub loop-b-preserved-then-number-a-ne0 : goal.loop-b-preserved-then-number-a-ne0
loop-b-preserved-then-number-a-ne0 t c = let a = c.args in
    let fit = c.requires.bonds_fit in
    let lk = c.requires.linked in
    let at = c.loop-b in
    let i = at.invariant in
    let h = c.loop-b-test.true in
    let f = c.follow-seen in
    let r = next-after-is lk at.b at.here f.result.next.0 h (i.0.here h) f.ensures.next_value in
    (left-seen fit f.result.next.0 h r _ _ i.0 f.result.other.0 f.ensures.other_value c.if-number-a-ne0.true, i.1)

pub returns-then-n-next : goal.returns-then-n-next
returns-then-n-next t c = let fit = c.requires.bonds_fit in
    let at = c.loop-b in
    let i = at.invariant in
    let h = c.loop-b-test.true in
    let f = c.follow-seen in
    record { grown = left-full fit _ _ _ _ _ _ i.0 h f.result.other.0 f.ensures.other_value c.if-number-a-ne0.false c.if-n-next.true; kept = i.1 }

pub overflow_add-parent : goal.overflow_add-parent
overflow_add-parent t c = let at = c.loop-b in
    omega (arith, at.invariant.0.few)

pub add-requires : goal.add-requires
add-requires t c = let a = c.args in
    let fit = c.requires.bonds_fit in
    let x = fit.atoms_few in
    let at = c.loop-b in
    let h = c.loop-b-test.true in
    let f = c.follow-seen in
    let w : ℕ = f.result.other.0 in
    let q = other-below fit at.here at.b h in
    let places = c.requires.places in
    let wq : w < a.n = omega (arith, q, f.ensures.other_value) in
    let wn : w < max_atoms = omega (arith, wq, x) in
    let wh : w < length a.chains.now.head.now = omega (arith, wq, places.heads) in
    let k = c.if-n-next.false in
    let room = room-kept c.requires.room at.invariant.1 in
    record { v_lt_max_atoms = (omega arith, omega arith); count_in_bounds = (omega (arith, k, room.order), omega (arith, wq, room.number)); count_in_bounds_2 = (omega (arith, k, room.up), omega (arith, k, room.kind)); parent_le_max_atoms = omega (arith, at.invariant.0.few) }

pub offset_bounds-head-a : goal.offset_bounds-head-a
offset_bounds-head-a t c = let a = c.args in
    let fit = c.requires.bonds_fit in
    let x = fit.atoms_few in
    let at = c.loop-b in
    let h = c.loop-b-test.true in
    let f = c.follow-seen in
    let w : ℕ = f.result.other.0 in
    let q = other-below fit at.here at.b h in
    let places = c.requires.places in
    let wq : w < a.n = omega (arith, q, f.ensures.other_value) in
    let wn : w < max_atoms = omega (arith, wq, x) in
    let wh : w < length a.chains.now.head.now = omega (arith, wq, places.heads) in
    omega arith

pub bounds-head-a : goal.bounds-head-a
bounds-head-a t c = let a = c.args in
    let fit = c.requires.bonds_fit in
    let x = fit.atoms_few in
    let at = c.loop-b in
    let h = c.loop-b-test.true in
    let f = c.follow-seen in
    let w : ℕ = f.result.other.0 in
    let q = other-below fit at.here at.b h in
    let places = c.requires.places in
    let wq : w < a.n = omega (arith, q, f.ensures.other_value) in
    let wn : w < max_atoms = omega (arith, wq, x) in
    let wh : w < length a.chains.now.head.now = omega (arith, wq, places.heads) in
    omega (arith, wh)

pub overflow_cast-start : goal.overflow_cast-start
overflow_cast-start t c = let a = c.args in
    let fit = c.requires.bonds_fit in
    let x = fit.atoms_few in
    let y = fit.bonds_few in
    let lk = c.requires.linked in
    let at = c.loop-b in
    let h = c.loop-b-test.true in
    let f = c.follow-seen in
    let w : ℕ = f.result.other.0 in
    let q = other-below fit at.here at.b h in
    let places = c.requires.places in
    let wq : w < a.n = omega (arith, q, f.ensures.other_value) in
    let wn : w < max_atoms = omega (arith, wq, x) in
    let wh : w < length a.chains.now.head.now = omega (arith, wq, places.heads) in
    let g = head-within lk w wh in
    omega arith

pub overflow_add-next : goal.overflow_add-next
overflow_add-next t c = let fit = c.requires.bonds_fit in
    omega (arith, fit.atoms_few, c.if-n-next.false)

pub loop-b-smaller-then-m-b : goal.loop-b-smaller-then-m-b
loop-b-smaller-then-m-b t c = let a = c.args in
    let fit = c.requires.bonds_fit in
    let at = c.loop-b in
    let i = at.invariant in
    let h = c.loop-b-test.true in
    let f = c.follow-seen in
    let q = other-below fit at.here at.b h in
    let w : ℕ = f.result.other.0 in
    let wq : w < a.n = omega (arith, q, f.ensures.other_value) in
    let room = room-kept c.requires.room i.1 in
    let d = c.add in
    ahead-drop _ _ _ _ _ (seen-less at.number d.new.number w at.next (omega (arith, wq, room.number)) c.if-number-a-ne0.false d.ensures.number_after)

pub loop-b-preserved-then-m-b : goal.loop-b-preserved-then-m-b
loop-b-preserved-then-m-b t c = let a = c.args in
    let fit = c.requires.bonds_fit in
    let x = fit.atoms_few in
    let lk = c.requires.linked in
    let at = c.loop-b in
    let i = at.invariant in
    let h = c.loop-b-test.true in
    let f = c.follow-seen in
    let w : ℕ = f.result.other.0 in
    let q = other-below fit at.here at.b h in
    let places = c.requires.places in
    let wq : w < a.n = omega (arith, q, f.ensures.other_value) in
    let wn : w < max_atoms = omega (arith, wq, x) in
    let wh : w < length a.chains.now.head.now = omega (arith, wq, places.heads) in
    let r = next-after-is lk at.b at.here f.result.next.0 h (i.0.here h) f.ensures.next_value in
    let room = room-kept c.requires.room i.1 in
    let l = room.number in
    let d = c.add in
    let kept = kept_set i.1 at.next w (at.parent + 1) f.result.kind d.ensures.order_after d.ensures.number_after d.ensures.up_after d.ensures.kind_after in
    (left-last fit f.result.next.0 h r _ _ _ _ _ _ i.0 w f.result.kind (get_or a.chains.now.head.now w 0) f.ensures.other_value c.if-number-a-ne0.false f.ensures.kind_value (lk.heads w wh) (omega arith) _ _ _ _ d.ensures.order_after d.ensures.number_after d.ensures.up_after d.ensures.kind_after c.if-m-b.true (omega (arith, x, c.if-n-next.false)), kept)

pub overflow_add-next-in-loop-b : goal.overflow_add-next-in-loop-b
overflow_add-next-in-loop-b t c = let fit = c.requires.bonds_fit in
    let x = fit.atoms_few in
    let k = c.if-n-next.false in
    omega arith

pub visit-next-requires : goal.visit-next-requires
visit-next-requires t c = let a = c.args in
    let fit = c.requires.bonds_fit in
    let x = fit.atoms_few in
    let lk = c.requires.linked in
    let at = c.loop-b in
    let i = at.invariant in
    let h = c.loop-b-test.true in
    let f = c.follow-seen in
    let w : ℕ = f.result.other.0 in
    let q = other-below fit at.here at.b h in
    let places = c.requires.places in
    let wq : w < a.n = omega (arith, q, f.ensures.other_value) in
    let wn : w < max_atoms = omega (arith, wq, x) in
    let wh : w < length a.chains.now.head.now = omega (arith, wq, places.heads) in
    let room = room-kept c.requires.room i.1 in
    let l = room.number in
    let k = c.if-n-next.false in
    let d = c.add in
    let z = seen-less at.number d.new.number w at.next (omega arith) c.if-number-a-ne0.false d.ensures.number_after in
    let kept = kept_set i.1 at.next w (at.parent + 1) f.result.kind d.ensures.order_after d.ensures.number_after d.ensures.up_after d.ensures.kind_after in
    (omega (arith, z, i.0.fewer, c.decreases), (fit, (places, (lk, (room-kept c.requires.room kept, ((omega arith, head-within lk w wh), head-here lk w wh))))))

pub loop-b-smaller : goal.loop-b-smaller
loop-b-smaller t c = let a = c.args in
    let fit = c.requires.bonds_fit in
    let lk = c.requires.linked in
    let at = c.loop-b in
    let i = at.invariant in
    let h = c.loop-b-test.true in
    let f = c.follow-seen in
    let r = next-after-is lk at.b at.here f.result.next.0 h (i.0.here h) f.ensures.next_value in
    let z = next-after-later lk at.b at.here f.result.next.0 h r in
    let q = other-below fit at.here at.b h in
    let w : ℕ = f.result.other.0 in
    let wq : w < a.n = omega (arith, q, f.ensures.other_value) in
    let room = room-kept c.requires.room i.1 in
    let d = c.add in
    let y = seen-less at.number d.new.number w at.next (omega (arith, wq, room.number)) c.if-number-a-ne0.false d.ensures.number_after in
    let x = c.visit-next.ensures.grown.fewer in
    ahead-less _ _ _ _ _ (omega (arith, y, x)) z h

pub loop-b-preserved : goal.loop-b-preserved
loop-b-preserved t c = let a = c.args in
    let fit = c.requires.bonds_fit in
    let x = fit.atoms_few in
    let lk = c.requires.linked in
    let at = c.loop-b in
    let i = at.invariant in
    let h = c.loop-b-test.true in
    let f = c.follow-seen in
    let w : ℕ = f.result.other.0 in
    let q = other-below fit at.here at.b h in
    let places = c.requires.places in
    let wq : w < a.n = omega (arith, q, f.ensures.other_value) in
    let wn : w < max_atoms = omega (arith, wq, x) in
    let wh : w < length a.chains.now.head.now = omega (arith, wq, places.heads) in
    let r = next-after-is lk at.b at.here f.result.next.0 h (i.0.here h) f.ensures.next_value in
    let room = room-kept c.requires.room i.1 in
    let l = room.number in
    let d = c.add in
    let kept = kept_set i.1 at.next w (at.parent + 1) f.result.kind d.ensures.order_after d.ensures.number_after d.ensures.up_after d.ensures.kind_after in
    let v = c.visit-next in
    (left-new fit f.result.next.0 h r _ _ _ _ _ _ i.0 w f.result.kind (get_or a.chains.now.head.now w 0) f.ensures.other_value c.if-number-a-ne0.false f.ensures.kind_value (lk.heads w wh) (omega arith) _ _ _ _ d.ensures.order_after d.ensures.number_after d.ensures.up_after d.ensures.kind_after _ v.ensures.grown, kept_then kept v.ensures.kept)

pub returns : goal.returns
returns t c = let fit = c.requires.bonds_fit in
    let at = c.loop-b in
    let i = at.invariant in
    record { grown = left_end fit _ _ i.0 c.loop-b-test.false; kept = i.1 }
