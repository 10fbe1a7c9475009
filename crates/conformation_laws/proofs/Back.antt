-- Demand 2 and the row of sides: what is read of a written text is the molecule renumbered, so its sides follow. Assumes nothing.
use Prim.Native.Nat.{ℕ, ◌<◌}
use mathlib.Core.Path.{◌≡◌, sym, ap, ◌∙◌}
use mathlib.Core.Bool.{true}
use mathlib.Core.List.{List}
use lib.ListN.{get_or}
use lib.IntN.{ℤ}
use Rattle.table.specs.Sound.{sound}
use Rattle.conformation.specs.Sides.{sides_of}
use Rattle.conformation.proofs.Claims.{row-cell}
use Rattle.writing.specs.Write.{renumbering}
use Rattle.roundtrip.specs.Claims.{Same, RoundTrip}
use Rattle.roundtrip.proofs.Claims.{renumbering-permutes}
use Rattle.conformation_laws.specs.Claims.{Renumbers, Follows, cell_after, SidesFollow}
use Rattle.conformation_laws.proofs.Claims.{sides-follow}

module _ (atoms bonds : List ℤ) (n m : ℕ) (h : sound atoms bonds n m ≡ true) where
  -- what holds the molecule under its renumbering is the molecule renumbered
  pub renumbers : {T U : List ℤ} → Same atoms bonds n m T U → Renumbers n m (renumbering bonds n m) bonds U
  renumbers s = record { injective = (renumbering-permutes atoms bonds n m h).injective; permuted = s.permuted }

  module _ {A B : List ℤ} (t : RoundTrip atoms bonds n m A B) where
    -- DEMAND 2: the sides of the molecule that is read are those of the one that was written, under its renumbering
    pub sides-read-back : SidesFollow n m (renumbering bonds n m) bonds t.U
    sides-read-back = sides-follow atoms bonds n m (renumbering bonds n m) t.U h (renumbers t.same)

    -- DEMAND 2: and so are the rows that the call hands out for the two
    pub rows-read-back : (old new : List ℕ) → (sides_of atoms bonds n m old).code ≡ 0 → (sides_of t.T t.U n m new).code ≡ 0 → (b c : ℕ) → b < m → c < m → Follows (renumbering bonds n m) bonds t.U b c
        → get_or (sides_of t.T t.U n m new).row c 0 ≡ cell_after (renumbering bonds n m) bonds m b (get_or (sides_of atoms bonds n m old).row b 0)
    rows-read-back old new p q b c l k f =
        row-cell t.T t.U n m new q c k ∙ sides-read-back.cells b c l f ∙ ap (cell_after (renumbering bonds n m) bonds m b) (sym (row-cell atoms bonds n m old p b l))
