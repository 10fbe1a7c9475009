-- What is laid into a buffer with room for it ends within the buffer. Assumes nothing.
use Prim.Native.Nat.{ℕ, ◌≤◌}
use mathlib.Core.List.{List}
use native.Mathlib.Omega.{arith}
use lib.ListN.{length}
use Rattle.buffer.specs.Buffer.{buffer_at, Wrote}
use Rattle.buffer.proofs.Laws.{Laid, laid}

pub ends-within : {l out after : List ℕ} {r : ℕ} → Wrote l (buffer_at out 0) (buffer_at after r) → length l ≤ length out → r ≤ length after
ends-within {l} {out} {after} {r} w h =
    let d : Laid l out 0 after r = laid w (omega arith) in
    omega (arith, d.place, d.size)
