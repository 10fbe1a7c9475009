-- 02, P5: "Settling checks 20 again over the new double bonds, last of its checks": what is claimed of it; a kept atom is delocalized, settling is kekulizing
use Rattle.std.specs.Prelude.{ℕ, ◌<◌, ◌≡◌, Bool, true, false, ◌&&◌, not, List, length, ℤ}
use Rattle.loops.specs.Loop.{each}
use Rattle.table.specs.Sound.{sound}
use Rattle.table.specs.Marks.{crowded}
use Rattle.table.specs.Edits.{unselected_atoms, doubled_bonds}
use Rattle.table_graph.specs.Graph.{delocalized_at}
use Rattle.kekule.specs.Kekule.{roomy, is_matching_of, KekulizeReply, kekulize_reply, kekulized}

-- "Two marked neighbours of one end on the same side", the end being a kept atom: of the atom a
abbrev pub crowded_kept : List ℤ → List ℤ → ℕ → ℕ → Bool
crowded_kept atoms bonds m a = delocalized_at atoms bonds m a && crowded bonds m a

-- none of n atoms is such an end; no row is read
unfoldable pub none_kept_crowded : List ℤ → List ℤ → ℕ → ℕ → Bool
none_kept_crowded atoms bonds n m = each (λ a. not (crowded_kept atoms bonds m a)) 0 n

-- the same in words: such an atom
pub record CrowdedKept (atoms bonds : List ℤ) (n m : ℕ) : Type 0 where
  pub atom : ℕ
  pub used : atom < n
  pub kept : delocalized_at atoms bonds m atom ≡ true
  pub full : crowded bonds m atom ≡ true

-- what kekulizing hands back, for all tables and rows: 1, 13, 12 or 20 and the tables as they were, or sound tables
pub data Kekulizing (atoms bonds : List ℤ) (n m : ℕ) (row : List ℕ) : KekulizeReply → Type 0 where
  says_1 : roomy atoms bonds (length row) ≡ false → Kekulizing atoms bonds n m row (kekulize_reply 1 atoms bonds)
  says_13 : roomy atoms bonds (length row) ≡ true → sound atoms bonds n m ≡ false → Kekulizing atoms bonds n m row (kekulize_reply 13 atoms bonds)
  says_12 : roomy atoms bonds (length row) ≡ true → sound atoms bonds n m ≡ true → is_matching_of atoms bonds n m row ≡ false → Kekulizing atoms bonds n m row (kekulize_reply 12 atoms bonds)
  says_20 : roomy atoms bonds (length row) ≡ true → sound atoms bonds n m ≡ true → is_matching_of atoms bonds n m row ≡ true → CrowdedKept atoms bonds n m → Kekulizing atoms bonds n m row (kekulize_reply 20 atoms bonds)
  settles : roomy atoms bonds (length row) ≡ true → sound atoms bonds n m ≡ true → is_matching_of atoms bonds n m row ≡ true → ¬ CrowdedKept atoms bonds n m → sound (unselected_atoms n atoms) (doubled_bonds row m bonds) n m ≡ true → Kekulizing atoms bonds n m row (kekulized atoms bonds n m row)
