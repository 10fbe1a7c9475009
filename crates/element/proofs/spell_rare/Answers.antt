use Prim.Native.Nat.{ℕ, ◌+◌, ◌*◌, ◌/◌, ◌%◌, ◌<◌}
use mathlib.Core.Path.{◌≡◌, sym, ap}
use native.Mathlib.Omega.{arith}
use lib.ListN.{get_or}
use Rattle.element.specs.Symbols.{symbols}
use Rattle.element.specs.Lookup.{bytes_of, spelling}
use Rattle.element.specs.declared.Spelling.{Spelling}
use Rattle.element.proofs.Table.{rule}
use Rattle.element.proofs.Answers.{no_bytes}
use Rattle.element.proofs.spell_rare.Goals as goal

-- the entry at a place
byte_at : ℕ → ℕ
byte_at k = get_or (bytes_of (k / 2)) (k % 2) 0

entries : (e : ℕ) → ◌≡◌ {A = Spelling} (record { first = byte_at (2 * e); second = byte_at (2 * e + 1) }) (spelling (bytes_of e))
unfolding byte_at
entries e =
    let d : 2 * e / 2 ≡ e = omega arith in
    let m : 2 * e % 2 ≡ 0 = omega arith in
    let d' : (2 * e + 1) / 2 ≡ e = omega arith in
    let m' : (2 * e + 1) % 2 ≡ 1 = omega arith in
    simp (d, m, d', m')

pub returns-then-e-gt118 : goal.returns-then-e-gt118
returns-then-e-gt118 c = sym (ap spelling (no_bytes c.args.e c.if-e-gt118.true))

pub returns : goal.returns
unfolding byte_at bytes_of symbols
returns c = let h : 2 * c.args.e < 238 = omega arith in
    let g : 2 * c.args.e + 1 < 238 = omega arith in
    rw (rule byte_at 238 _ (2 * c.args.e), rule byte_at 238 _ (2 * c.args.e + 1)) (entries c.args.e)
