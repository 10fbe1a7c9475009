-- What holds of a state that is not refused as 25. Assumes nothing.
use Prim.Native.Nat.{ℕ, ◌<◌, ◌≤◌}
use native.Mathlib.Omega.{arith}
use native.Mathlib.Decide.{ℕ_discrete, dec_lt}
use mathlib.Core.Path.{◌≡◌, refl, sym, ◌∙◌}
use mathlib.Core.Bool.{Bool, true, false}
use mathlib.Core.List.{List}
use lib.ListN.{get_or}
use lib.IntN.{ℤ}
use Rattle.ids.specs.Limits.{max_text, max_depth, bridges}
use Rattle.table.specs.Valid.{Valid, valid}
use Rattle.table.proofs.Valid.{facts, facts-back}
use Rattle.reading_pieces.specs.declared.Paused.{Paused}
use Rattle.reading_pieces.specs.Broken.{broken_of, FieldAbove, Broken}
use Rattle.reading_pieces.proofs.Broken.{broken-says}

-- none of what P11 lists
module _ (p : Paused) (atoms bonds : List ℤ) (e : broken_of p atoms bonds ≡ false) where
  fine : Broken p atoms bonds → ⊥
  fine w = let h : true ≡ false = sym ((broken-says p atoms bonds).back w) ∙ e in let z : ◌≡◌ {A = ℕ} 0 1 = cc in omega arith

  pub sound-tables : Valid atoms bonds p.atoms p.bonds
  sound-tables = split (valid atoms bonds p.atoms p.bonds) refl
    where
      split : (t : Bool) → valid atoms bonds p.atoms p.bonds ≡ t → Valid atoms bonds p.atoms p.bonds
      split true h = facts atoms bonds p.atoms p.bonds h
      split false h = absurd (fine (Broken.tables (λ v. let h : true ≡ false = sym (facts-back v) ∙ h in let z : ◌≡◌ {A = ℕ} 0 1 = cc in omega arith)))

  pub sound-bytes : p.read ≤ max_text
  sound-bytes = split (dec_lt max_text p.read)
    where
      split : Dec (max_text < p.read) → p.read ≤ max_text
      split (yes h) = absurd (fine (Broken.bytes h))
      split (no h) = omega arith

  pub sound-field : 10 ≤ p.mode → FieldAbove p → ⊥
  sound-field l f = fine (Broken.field l f)

  pub sound-digit : p.mode ≡ 7 → p.tens ≤ 9
  sound-digit m = split (dec_lt 9 p.tens)
    where
      split : Dec (9 < p.tens) → p.tens ≤ 9
      split (yes h) = absurd (fine (Broken.digit m h))
      split (no h) = omega arith

  -- while the reading goes on
  module _ (g : p.told ≡ 0) where
    pub sound-early : p.atoms ≡ 0 → p.hub ≡ 0
    sound-early z = split (ℕ_discrete p.hub 0)
      where
        split : Dec (p.hub ≡ 0) → p.hub ≡ 0
        split (yes h) = h
        split (no h) = absurd (fine (Broken.early_hub g z h))

    pub sound-hub : 0 < p.atoms → p.hub < p.atoms
    sound-hub l = split (dec_lt p.hub p.atoms)
      where
        split : Dec (p.hub < p.atoms) → p.hub < p.atoms
        split (yes h) = h
        split (no h) = absurd (fine (Broken.hub g l (omega arith)))

    pub sound-branch : (i : ℕ) → i < p.depth → get_or p.hubs i 0 < p.atoms
    sound-branch i l = split (dec_lt (get_or p.hubs i 0) p.atoms)
      where
        split : Dec (get_or p.hubs i 0 < p.atoms) → get_or p.hubs i 0 < p.atoms
        split (yes h) = h
        split (no h) = absurd (fine (Broken.branch g i l (omega arith)))

    pub sound-bridge : (r : ℕ) → r < bridges → get_or p.openers r 0 ≤ p.atoms
    sound-bridge r l = split (dec_lt p.atoms (get_or p.openers r 0))
      where
        split : Dec (p.atoms < get_or p.openers r 0) → get_or p.openers r 0 ≤ p.atoms
        split (yes h) = absurd (fine (Broken.bridge g r l h))
        split (no h) = omega arith

    pub sound-depth : p.depth ≤ max_depth
    sound-depth = split (dec_lt max_depth p.depth)
      where
        split : Dec (max_depth < p.depth) → p.depth ≤ max_depth
        split (yes h) = absurd (fine (Broken.branches g h))
        split (no h) = omega arith
