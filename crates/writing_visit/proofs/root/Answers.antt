use Rattle.writing_visit.proofs.Lists.{head-within, head-here}
use Rattle.writing_visit.proofs.Laws.{kept_same, kept_then, kept_set, room-kept, grown-from}
use Rattle.writing_visit.proofs.Roots.{root-skip, root-full, root-new}
use Prim.Native.Nat.{suc, ◌<◌}
use lib.ListN.{length, get_or}
use native.Mathlib.Omega.{arith}
use Rattle.writing_visit.proofs.root.Goals as goal

pub returns-then-number-v-ne0 : goal.returns-then-number-v-ne0
returns-then-number-v-ne0 c = let a = c.args in
    let fit = c.requires.bonds_fit in
    record { grown = root-skip fit _ _ _ _ a.count a.a.0 c.requires.a_lt_n c.if-number-v-ne0.true; kept = kept_same }

pub returns-then-n-count : goal.returns-then-n-count
returns-then-n-count c = let a = c.args in
    let fit = c.requires.bonds_fit in
    record { grown = root-full fit _ _ _ _ a.count a.a.0 c.requires.a_lt_n c.if-number-v-ne0.false c.if-n-count.true; kept = kept_same }

pub overflow_cast-start : goal.overflow_cast-start
overflow_cast-start c = let a = c.args in
    let fit = c.requires.bonds_fit in
    let h : a.a.0 < length a.chains.now.head.now = omega (arith, c.requires.places.heads, c.requires.a_lt_n) in
    let z = head-within c.requires.linked a.a.0 h in
    let y = fit.bonds_few in
    omega arith

pub visit-requires : goal.visit-requires
visit-requires c = let a = c.args in
    let fit = c.requires.bonds_fit in
    let lk = c.requires.linked in
    let z = fit.atoms_few in
    let h : a.a.0 < length a.chains.now.head.now = omega (arith, c.requires.places.heads, c.requires.a_lt_n) in
    let k = c.if-n-count.false in
    let d = c.add.ensures in
    record { bonds_fit = fit; places = c.requires.places; linked = lk; room = room-kept c.requires.room (kept_set kept_same a.count a.a.0 0 0 d.order_after d.number_after d.up_after d.kind_after); hub_lt_max_atoms = (omega arith, head-within lk a.a.0 h); from_value = head-here lk a.a.0 h }

pub returns : goal.returns
returns c = let a = c.args in
    let fit = c.requires.bonds_fit in
    let h = c.requires.a_lt_n in
    let lk = c.requires.linked in
    let d = c.add.ensures in
    let v = c.visit.ensures in
    let below = grown-from fit (suc a.count) a.a.0 0 (get_or a.chains.now.head.now a.a.0 0) _ _ (omega arith) (lk.heads a.a.0 (omega (arith, h, c.requires.places.heads))) v.grown in
    record { grown = root-new fit _ _ _ _ a.count a.a.0 h _ _ _ _ _ c.if-number-v-ne0.false (omega (arith, h, c.requires.room.number)) d.order_after d.number_after d.up_after d.kind_after below; kept = kept_then (kept_set kept_same a.count a.a.0 0 0 d.order_after d.number_after d.up_after d.kind_after) v.kept }
