use Rattle.writing_visit.proofs.Passed.{nested-clear, pass-enter, pass-again}
use mathlib.Core.Path.{refl}
use native.Mathlib.Omega.{arith}
use Rattle.writing_visit.proofs.pass.Goals as goal

pub is_above-requires : goal.is_above-requires
is_above-requires c = let p = c.requires in
    let k = c.clear.ensures in
    record { from_in_bounds = omega (arith, k.cleared.long, p.b_in_bounds_3.0); nested = nested-clear p.nested k.cleared }

pub returns-then-is_above : goal.returns-then-is_above
returns-then-is_above c = let p = c.requires in
    let k = c.clear.ensures in
    let held = c.is_above.ensures c.if-is_above.true in
    record { passed_2 = λ h. pass-enter p.passed c.if-next-a.true k.cleared k.cleared_2 refl refl refl held (omega (arith, k.cleared.long, p.b_in_bounds_3.0)) (omega (arith, k.cleared_2.long, p.b_in_bounds_3.1)) refl refl; by_index = λ n h i. omega arith }

pub returns-then-next-a : goal.returns-then-next-a
returns-then-next-a c = record { passed_2 = λ h. absurd (omega arith); by_index = λ n h k. omega arith }

pub returns-then-a-next : goal.returns-then-a-next
returns-then-a-next c = record { passed_2 = λ h. absurd (omega arith); by_index = λ n h k. omega arith }

pub returns-then-is_above-2 : goal.returns-then-is_above-2
returns-then-is_above-2 c = let p = c.requires in
    let held = c.is_above-2.ensures c.if-is_above-2.true in
    record { passed_2 = λ h. pass-again p.passed c.if-next-a.false c.if-a-next.false refl refl held; by_index = λ n h i. h }

pub returns : goal.returns
returns c = record { passed_2 = λ h. absurd (omega arith); by_index = λ n h k. omega arith }
