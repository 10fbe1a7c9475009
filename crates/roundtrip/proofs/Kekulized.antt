-- The text of a kekulized molecule, as the report prints it, is read back as that molecule. Assumes nothing.
use mathlib.Core.Path.{◌≡◌, ap}
use mathlib.Core.Bool.{true}
use mathlib.Core.List.{List}
use Prim.Native.Nat.{ℕ}
use lib.IntN.{ℤ}
use Rattle.table.specs.Cells.{number}
use Rattle.table.specs.Valid.{enough}
use Rattle.kekule.specs.Kekule.{kekulized_of}
use Rattle.kekule.proofs.Kekulized.{kekulize-settles}
use Rattle.writing.specs.Write.{write_of}
use Rattle.roundtrip.specs.Claims.{RoundTrip}
use Rattle.roundtrip.proofs.Claims.{written, unselected-round-trip}

-- 01, "the settled text": kekulizing by a matching that is not refused, and writing that is not refused, give a text that is read back and written again
pub kekulized-round-trip : (atoms bonds : List ℤ) (n m : ℕ) (row : List ℕ) → (kekulized_of atoms bonds n m row).code ≡ 0 → (out ren : List ℕ)
    → (write_of (kekulized_of atoms bonds n m row).atoms (kekulized_of atoms bonds n m row).bonds n m out ren).code ≡ 0 → (A B : List ℤ) → enough A B ≡ true
    → RoundTrip (kekulized_of atoms bonds n m row).atoms (kekulized_of atoms bonds n m row).bonds n m A B
unfolding number
kekulized-round-trip atoms bonds n m row h out ren w A B l =
    let K = kekulized_of atoms bonds n m row in
    let s = kekulize-settles atoms bonds n m row h in
    unselected-round-trip K.atoms K.bonds n m (written K.atoms K.bonds n m out ren w).0 A B l (λ a k. ap number (s.unselected a k))
