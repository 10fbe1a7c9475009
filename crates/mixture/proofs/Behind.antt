-- A memory that is another one with n atoms, m bonds and δ bytes before it.
use Prim.Native.Nat.{ℕ, zero, suc, ◌+◌, ◌*◌, ◌≤◌, ◌<◌}
use mathlib.Core.Path.{◌≡◌}
use mathlib.Core.List.{List, map}
use lib.ListN.{get_or}
use Rattle.table.specs.Limits.{max_atoms, max_bonds}
use Rattle.table.specs.Rows.{atom_row}
use lib.IntN.{ℤ}
use Rattle.reading_state.specs.State.{Steering}
use Rattle.reading_grammar.specs.Fold.{keeps, refuses}
use Rattle.reading.specs.Memory.{Memory}
use Rattle.reading.specs.Act.{Acts}
use Rattle.mixture_rows.specs.Beside.{BondsBeside}

-- a number that is none, or a number and one that is moved up by n: the opener of a bridge (an atom), a key (an offset)
abbrev pub raised : ℕ → ℕ → ℕ
raised n zero = 0
raised n (suc a) = suc (n + a)

-- the state and the tables, apart from the hub: counts, open branches, open bridges, flags, keys and rows of the second are those of the first moved up; φ: the keys of the m bonds
pub record Ground (n m δ : ℕ) (φ : List ℕ) (s z : Steering) (atoms atoms' bonds bonds' : List ℤ) : Type 0 where
  pub atoms_count : z.atoms ≡ n + s.atoms
  pub bonds_count : z.bonds ≡ m + s.bonds
  pub depth : z.depth ≡ s.depth
  pub stack : (k : ℕ) → k < s.depth → get_or z.stack k 0 ≡ n + get_or s.stack k 0
  pub opener : z.opener ≡ map (raised n) s.opener
  pub symbol : (r : ℕ) → 0 < get_or s.opener r 0 → get_or z.symbol r 0 ≡ get_or s.symbol r 0
  pub offset : (r : ℕ) → 0 < get_or s.opener r 0 → get_or z.offset r 0 ≡ δ + get_or s.offset r 0
  pub front : (c : ℕ) → c < 2 * m → get_or z.keys c 0 ≡ get_or φ c 0
  pub keys : (c : ℕ) → get_or z.keys (2 * m + c) 0 ≡ raised δ (get_or s.keys c 0)
  pub outside : (a : ℕ) → a < s.atoms → get_or z.outside (n + a) 0 ≡ get_or s.outside a 0
  pub atom_rows : (a : ℕ) → a < s.atoms → atom_row atoms' (n + a) ≡ atom_row atoms a
  pub bond_rows : BondsBeside n m s.bonds bonds' bonds bonds'

abbrev pub Grounded : ℕ → ℕ → ℕ → List ℕ → Memory → Memory → Type 0
Grounded n m δ φ μ κ = Ground n m δ φ μ.st κ.st μ.atoms κ.atoms μ.bonds κ.bonds

-- and once an atom was read: the hub, the pending joint and the bracket being read
pub record Behind (n m δ : ℕ) (φ : List ℕ) (μ κ : Memory) : Type 0 where
  pub ground : Grounded n m δ φ μ κ
  pub hub : κ.st.hub.0 ≡ n + μ.st.hub.0
  pub pending : κ.pending ≡ μ.pending
  pub draft : κ.draft ≡ μ.draft

-- ---- what a byte does to both
-- no key is behind those of the bonds
abbrev pub Clear : Memory → Type 0
Clear μ = (c : ℕ) → 2 * μ.st.bonds ≤ c → get_or μ.st.keys c 0 ≡ 0

-- the counts only grow, and the keys with them
pub record Grown (μ ν : Memory) : Type 0 where
  pub atoms : μ.st.atoms ≤ ν.st.atoms
  pub bonds : μ.st.bonds ≤ ν.st.bonds
  pub clear : Clear μ → Clear ν

-- with n atoms and m bonds before it, the memory is within the limits
pub record Room (n m : ℕ) (ν : Memory) : Type 0 where
  pub atoms : n + ν.st.atoms ≤ max_atoms
  pub bonds : m + ν.st.bonds ≤ max_bonds

-- the byte is taken, and leaves a memory behind
abbrev pub Side : ℕ → ℕ → ℕ → List ℕ → Memory → Acts → Type 0
Side n m δ φ ν (keeps κ) = Behind n m δ φ ν κ
Side n m δ φ ν (refuses c p) = ⊥

-- where the first goes on and there is room, so does the second
abbrev pub Both : ℕ → ℕ → ℕ → List ℕ → Memory → Acts → Acts → Type 0
Both n m δ φ μ (keeps ν) a = Grown μ ν × (Room n m ν → Side n m δ φ ν a)
Both n m δ φ μ (refuses c p) a = Unit {0}
