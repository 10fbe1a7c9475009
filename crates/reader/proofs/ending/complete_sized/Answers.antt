use native.Mathlib.Omega.{arith}
use Prim.Native.Nat.{ℕ}
use lib.ListN.{length-replicate}
use Rattle.reader.proofs.ending.complete_sized.Goals as goal

pub complete_in-requires : goal.complete_in-requires
complete_in-requires g c = record {
  valid = c.requires.valid;
  room = record { atoms = omega (arith, length-replicate {A = ℕ}); firsts = omega (arith, length-replicate {A = ℕ}); seconds = omega (arith, length-replicate {A = ℕ}); elided = omega (arith, length-replicate {A = ℕ}); summed = omega (arith, length-replicate {A = ℕ}) };
  sums_value = (simp length-replicate, c.requires.room.2);
}
