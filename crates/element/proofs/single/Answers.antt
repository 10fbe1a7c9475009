use Prim.Native.Nat.{ℕ, ◌+◌, ◌-◌, ◌<◌}
use mathlib.Core.Path.{◌≡◌, ap}
use native.Mathlib.Omega.{arith}
use Rattle.element.specs.Symbols.{symbols, same_bytes, listed, starts}
use Rattle.element.specs.Lookup.{number_of, index_from, single_of, symbol_alone}
use Rattle.element.proofs.Table.{rule}
use Rattle.element.proofs.Symbols.{no-single, capital, Capital}
use Rattle.element.proofs.single.Goals as goal

-- the entry at a place
single_at : ℕ → ℕ
single_at k = single_of (65 + k)

entry : (a : ℕ) → Capital a → single_at (a - 65) ≡ single_of a
unfolding single_at
entry a l = ap single_of (omega (arith, l.low))

pub returns-then-a : goal.returns-then-a
returns-then-a c = rw (no-single c.args.a c.if-a.true)

pub overflow_sub-a : goal.overflow_sub-a
overflow_sub-a c = (capital c.args.a c.if-a.false).low

pub returns : goal.returns
unfolding single_at single_of number_of index_from symbols same_bytes listed starts
returns c = let l : Capital c.args.a = capital c.args.a c.if-a.false in
    let h : c.args.a - 65 < 26 = omega (arith, l.high) in
    rw (c.meaning.ensures, rule single_at 26) (ap symbol_alone (entry c.args.a l))
