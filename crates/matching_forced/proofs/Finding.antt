-- Looking for a bond: what the loops over the bonds give. Assumes nothing.
use mathlib.Core.Path.{◌≡◌, sym, ◌∙◌}
use mathlib.Core.Bool.{Bool, true}
use mathlib.Core.List.{List}
use Prim.Native.Nat.{ℕ, ◌<◌, ◌≤◌}
use lib.ListN.{length}
use Rattle.matching.specs.Graph.{Bond, nth_bond}
use Rattle.matching.specs.Model.{free, free_at, bonds_of, BondTables}
use Rattle.matching_forced.specs.Forced.{free_of, free_bond}
use Rattle.matching_forced.specs.Steps.{lowest_free}
use Rattle.matching_forced.proofs.Counts.{Sought, sought-here, sought-end}
use Rattle.matching_forced.proofs.Tables.{nth-bonds, bonds_long}

module _ {ea eb el need : List ℕ} (t : BondTables ea eb el need 0) where
  abbrev bs : List Bond
  bs = bonds_of ea eb el

  pub found-bond : (v : ℕ) {i : ℕ} {r : Bool} → Sought (free_of bs need v) (length ea) i → i < length ea → r ≡ free_of bs need v i → r ≡ true → i ≡ free_bond bs need v
  unfolding free_bond
  found-bond v w h e y = rw (bonds_long t) (sought-here w h (sym e ∙ y))

  pub no-bond : (v : ℕ) {i : ℕ} → Sought (free_of bs need v) (length ea) i → length ea ≤ i → length ea ≡ free_bond bs need v
  unfolding free_bond
  no-bond v w h = rw (bonds_long t) (sought-end w h)

  -- the lowest free bond
  pub free-there : {i : ℕ} → i < length ea → free (nth_bond bs i) need ≡ free_at ea eb el need i
  free-there {i} h = rw (nth-bonds ea eb el i t.second t.third h)

  pub found-free : {i : ℕ} {r : Bool} → Sought (λ k. free (nth_bond bs k) need) (length ea) i → i < length ea → r ≡ free_at ea eb el need i → r ≡ true → i ≡ lowest_free bs need
  unfolding lowest_free
  found-free w h e y = rw (bonds_long t) (sought-here w h (free-there h ∙ sym e ∙ y))

  pub no-free : {i : ℕ} → Sought (λ k. free (nth_bond bs k) need) (length ea) i → length ea ≤ i → length ea ≡ lowest_free bs need
  unfolding lowest_free
  no-free w h = rw (bonds_long t) (sought-end w h)
