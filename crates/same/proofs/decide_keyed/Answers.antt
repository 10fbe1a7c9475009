use Prim.Native.Nat.{ℕ}
use native.Mathlib.Omega.{arith}
use lib.ListN.{length-replicate}
use Rattle.same.proofs.Deciding.{bounded, decided}
use Rattle.same.proofs.decide_keyed.Goals as goal

pub first_row-yes-requires : goal.first_row-yes-requires
first_row-yes-requires c = record { valid = c.requires.ready.valid; valid_2 = c.requires.ready_2.valid; bonds1_value = (c.requires.ready.long, c.requires.ready_2.long); m1_in_bounds = (c.requires.ready.room, c.requires.ready_2.room); fewer = record { few = c.requires.ready.few; room = omega (arith, c.requires.ready.few, length-replicate {A = ℕ} 64 0); bounded = bounded _ _ c.requires.ready_2 c.scattered-on.result c.fill_pairs-2.ensures c.requires.keys1_value.1 }; bounded = bounded _ _ c.requires.ready c.scattered-on.result c.fill_pairs.ensures c.requires.keys1_value.0 }

pub hand_out-requires : goal.hand_out-requires
hand_out-requires c = (c.requires.ready.few, c.requires.n_in_bounds, omega (arith, c.requires.ready.few, c.first_row-yes.ensures.size, length-replicate {A = ℕ} 64 0))

pub returns : goal.returns
returns c = decided _ _ _ _ _ _ _ _ _ c.requires.ready c.requires.ready_2 c.requires.keys1_value.0 c.requires.keys1_value.1 c.scattered-on.result c.fill_pairs.ensures c.fill_pairs-2.ensures _ c.fill_matches.ensures c.first_row-yes.ensures c.requires.n_in_bounds (omega (arith, c.requires.ready.few, c.first_row-yes.ensures.size, length-replicate {A = ℕ} 64 0)) c.hand_out.ensures
