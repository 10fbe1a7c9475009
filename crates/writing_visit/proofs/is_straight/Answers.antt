use Rattle.writing_visit.proofs.Passed.{nested-of, passed_start, passed-clear, passed-all}
use Prim.Native.Nat.{ℕ, ◌<◌}
use mathlib.Core.Path.{◌≡◌, refl, ◌∙◌}
use native.Mathlib.Omega.{arith}
use native.Mathlib.Numerals.{add-one}
use Rattle.writing_visit.proofs.is_straight.Goals as goal

pub loop-b-init : goal.loop-b-init
loop-b-init c = (omega arith, (omega arith, (passed_start _ _, (refl, refl))))

pub pass-next-requires : goal.pass-next-requires
pass-next-requires c = let at = c.loop-b in
    let t = c.loop-b-test.true in
    let i = at.invariant in
    let p = c.requires in
    let fit = p.bonds_fit in
    let w = fit.ends at.b t in
    record { b_in_bounds = (omega (arith, t, p.m_in_bounds.0), omega (arith, t, p.m_in_bounds.1)); b_in_bounds_2 = omega (arith, t, p.m_in_bounds_2); b_bound = w.0; b_in_bounds_3 = (omega (arith, w.1, p.n_in_bounds.0, i.1.1.1.0), omega (arith, w.1, p.n_in_bounds.1, i.1.1.1.1)); b_bound_2 = (omega (arith, w.1, fit.atoms_few), omega (arith, i.1.0, p.n_in_bounds.0, i.1.1.1.0)); nested = nested-of (λ j h. (fit.ends j (omega (arith, i.0))).0) i.1.1.0; passed = i.1.1.0 }

pub shape_of-up-then-next-eq0 : goal.shape_of-up-then-next-eq0
shape_of-up-then-next-eq0 c = c.pass-next.auto.up ∙ c.loop-b.invariant.1.1.1.0

pub shape_of-kind-then-next-eq0 : goal.shape_of-kind-then-next-eq0
shape_of-kind-then-next-eq0 c = c.pass-next.auto.kind ∙ c.loop-b.invariant.1.1.1.1

pub returns-then-next-eq0 : goal.returns-then-next-eq0
returns-then-next-eq0 c = λ e. absurd (let z : ◌≡◌ {A = ℕ} 0 1 = cc in omega arith)

pub loop-b-preserved : goal.loop-b-preserved
loop-b-preserved c = let at = c.loop-b in
    let t = c.loop-b-test.true in
    let r = c.pass-next in
    let i = at.invariant in
    let w = c.requires.bonds_fit.ends at.b t in
    let more = c.if-next-eq0.false in
    let some : 0 < r.result = omega arith in
    (omega (arith, t), (r.ensures.by_index c.args.n i.1.0 w.1, (rw (add-one at.b) (r.ensures.passed_2 some), (r.auto.up ∙ i.1.1.1.0, r.auto.kind ∙ i.1.1.1.1))))

pub clear-requires : goal.clear-requires
clear-requires c = let i = c.loop-b.invariant in
    let p = c.requires in
    (omega (arith, p.n_in_bounds.0, i.1.1.1.0), omega (arith, p.n_in_bounds.1, i.1.1.1.1))

pub shape_of-up : goal.shape_of-up
shape_of-up c = c.clear.auto.up ∙ c.loop-b.invariant.1.1.1.0

pub shape_of-kind : goal.shape_of-kind
shape_of-kind c = c.clear.auto.kind ∙ c.loop-b.invariant.1.1.1.1

pub returns : goal.returns
returns c = let i = c.loop-b.invariant in
    let k = c.clear.ensures in
    λ e. passed-all (passed-clear i.1.1.0 i.1.0 k.cleared k.cleared_2) i.0 c.loop-b-test.false
