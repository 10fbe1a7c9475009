use Rattle.writer.proofs.Assembly.{fit, held, numbered-walk, counted}
use native.Mathlib.Omega.{arith}
use mathlib.Core.Path.{◌≡◌, sym, ap}
use Prim.Native.Nat.{ℕ}
use lib.ListN.{length, replicate, length-replicate}
use Rattle.writer.proofs.text_sized.Goals as goal

replicated : (k x : ℕ) → replicate k x ≡ replicate (length (replicate k x)) x
replicated k x = ap (λ (j : ℕ). replicate j x) (sym (length-replicate k x))

pub overflow_cast-head : goal.overflow_cast-head
overflow_cast-head g c = omega (arith, c.requires.valid.bonds_few)

pub walk-requires : goal.walk-requires
walk-requires g c = record { bonds_fit = fit c.requires.valid; room = record { order = omega (arith, length-replicate {A = ℕ}, c.requires.room.0); number = c.requires.number_value.1; up = omega (arith, length-replicate {A = ℕ}, c.requires.room.0); kind = omega (arith, length-replicate {A = ℕ}, c.requires.room.0) }; number_value = c.requires.number_value.0; head_value = (replicated _ _, replicated _ _); places = record { heads = omega (arith, length-replicate {A = ℕ}, c.requires.room.0); afters = omega (arith, length-replicate {A = ℕ}, c.requires.room.1); behinds = omega (arith, length-replicate {A = ℕ}, c.requires.room.1); firsts = omega (arith, length-replicate {A = ℕ}, c.requires.room.1); seconds = omega (arith, length-replicate {A = ℕ}, c.requires.room.1); kinds = omega (arith, length-replicate {A = ℕ}, c.requires.room.1) }; n_in_bounds = omega (arith, length-replicate {A = ℕ}, c.requires.room.0) }

pub turn-requires : goal.turn-requires
turn-requires g c = let w = c.walk in
    record { valid = c.requires.valid; m_value = c.requires.m_value; bonds_fit = fit c.requires.valid; numbered = numbered-walk (record { order = omega (arith, length-replicate {A = ℕ}, c.requires.room.0); number = c.requires.number_value.1; up = omega (arith, length-replicate {A = ℕ}, c.requires.room.0); kind = omega (arith, length-replicate {A = ℕ}, c.requires.room.0) }) w.ensures.kept w.ensures.walked c.requires.valid; written_value = (replicated _ _, omega (arith, length-replicate {A = ℕ}, c.requires.room.0)) }

pub draw-requires : goal.draw-requires
draw-requires g c = let w = c.walk in
    record { bond_room = record { los = omega (arith, length-replicate {A = ℕ}, c.requires.room.1); his = omega (arith, length-replicate {A = ℕ}, c.requires.room.1); kinds = omega (arith, length-replicate {A = ℕ}, c.requires.room.1) }; marks_value = (replicated _ _, omega (arith, length-replicate {A = ℕ}, c.requires.room.0)); n_in_bounds = omega (arith, length-replicate {A = ℕ}, c.requires.room.0); held = (c.args.tables.bonds.now, held (record { order = omega (arith, length-replicate {A = ℕ}, c.requires.room.0); number = c.requires.number_value.1; up = omega (arith, length-replicate {A = ℕ}, c.requires.room.0); kind = omega (arith, length-replicate {A = ℕ}, c.requires.room.0) }) w.ensures.kept w.ensures.walked _ c.requires.valid w.ensures.wired (omega (arith, length-replicate {A = ℕ}, w.auto.ea, c.requires.room.1)) (omega (arith, length-replicate {A = ℕ}, w.auto.eb, c.requires.room.1)) (omega (arith, length-replicate {A = ℕ}, w.auto.ks, c.requires.room.1)) w.ensures.sums_after (omega (arith, length-replicate {A = ℕ}, c.requires.room.0)) c.turn.ensures) }

pub shape_of-number : goal.shape_of-number
shape_of-number g c = c.walk.ensures.kept.number

pub returns : goal.returns
returns g c = let w = c.walk in
    record { said = c.draw.ensures c.args.tables.bonds.now (held (record { order = omega (arith, length-replicate {A = ℕ}, c.requires.room.0); number = c.requires.number_value.1; up = omega (arith, length-replicate {A = ℕ}, c.requires.room.0); kind = omega (arith, length-replicate {A = ℕ}, c.requires.room.0) }) w.ensures.kept w.ensures.walked _ c.requires.valid w.ensures.wired (omega (arith, length-replicate {A = ℕ}, w.auto.ea, c.requires.room.1)) (omega (arith, length-replicate {A = ℕ}, w.auto.eb, c.requires.room.1)) (omega (arith, length-replicate {A = ℕ}, w.auto.ks, c.requires.room.1)) w.ensures.sums_after (omega (arith, length-replicate {A = ℕ}, c.requires.room.0)) c.turn.ensures); counted = counted (record { order = omega (arith, length-replicate {A = ℕ}, c.requires.room.0); number = c.requires.number_value.1; up = omega (arith, length-replicate {A = ℕ}, c.requires.room.0); kind = omega (arith, length-replicate {A = ℕ}, c.requires.room.0) }) w.ensures.kept w.ensures.walked }
