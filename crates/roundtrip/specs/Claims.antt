-- What is claimed of writing and reading together: the round trip, the renumbering, and demand 2 in one statement
use Rattle.std.specs.Prelude.{◌≡◌, true, false, List, map, ℕ, ◌*◌, ◌<◌, ◌≤◌, leb, length, get_or, take, ℤ, pos}
use Rattle.loops.specs.Loop.{up_to}
use Rattle.parity.specs.Parity.{odd, odd_number, Swaps, ascending}
use Rattle.parity.specs.Mark.{mark_if}
use Rattle.table_graph.specs.Graph.{matchable}
use Rattle.table.specs.Limits.{atom_cells, bond_cells, MARK}
use Rattle.table.specs.Cells.{atom_cell, mark}
use Rattle.table.specs.Sound.{sound}
use Rattle.table.specs.Orders.{bonds_at}
use Rattle.ids.specs.Limits.{max_text}
use Rattle.reading.specs.Read.{ReadResult, refused, read_of}
use Rattle.writing_walk.specs.Token.{Bond, bond_between}
use Rattle.writing_walk.specs.Same.{Perm}
use Rattle.writing.specs.Write.{walk_bond, bond_list, tokens, text_of, renumbering, few_bridges, shallow, lent, write_of}
use Rattle.writing.specs.Write as write
use Rattle.writing.specs.Conditions.{ManyBridges, DeepBranch, LongText, WithinLimits}

-- sound tables that writing does not refuse: neither 13, 14, 15 nor 16
pub record Writable (atoms bonds : List ℤ) (n m : ℕ) : Type 0 where
  pub tables : sound atoms bonds n m ≡ true
  pub bridges : few_bridges (tokens bonds n m) ≡ true
  pub branches : shallow (tokens bonds n m) ≡ true
  pub bytes : leb (length (text_of atoms bonds n m)) max_text ≡ true

-- the number of an atom, and a bond, under a renumbering: the lower number is the first end
abbrev pub numbered : List ℕ → ℕ → ℕ
numbered r v = get_or r v 0

abbrev pub renamed : List ℕ → Bond → Bond
renamed r b = bond_between (numbered r b.lo) (numbered r b.hi) b.kind

-- what an accepted reading hands back, k atoms being over-full
abbrev pub accepted : ℕ → ℕ → ℕ → List ℤ → List ℤ → ReadResult
accepted n m k atoms bonds = record { code = 0; offset = 0; atom_count = n; bond_count = m; overfull = k; atoms = atoms; bonds = bonds }

-- the new numbers of the bonds at the atom v, in the order of their old ones
abbrev pub new_numbers : (ℕ → ℕ) → List ℤ → ℕ → ℕ → List ℕ
new_numbers new bonds m v = map new (bonds_at bonds m v)

-- 01, Writing: "reading back keeps every atom cell, every bond and its kind under" the renumbering: the tables T and U hold the molecule of atoms and bonds so, with 0 in the cells after
pub record Same (atoms bonds : List ℤ) (n m : ℕ) (T U : List ℤ) : Type 0 where
  pub cells : (v f : ℕ) → v < n → f < atom_cells → (f ≡ MARK → ⊥) → atom_cell T (numbered (renumbering bonds n m) v) f ≡ atom_cell atoms v f
  pub permuted : Perm (bond_list U m) (map (renamed (renumbering bonds n m)) (bond_list bonds m))
  -- the new number of each bond, under which the same bond stands
  pub new : ℕ → ℕ
  pub new_bond : (b : ℕ) → b < m → (new b < m) × (walk_bond U (new b) ≡ renamed (renumbering bonds n m) (walk_bond bonds b))
  -- 02, P8: the seventh cell, "turned exactly where the old and the new bond numbers put an atom's bonds in orders an odd number of swaps apart"
  pub marks : (v : ℕ) → v < n → atom_cell T (numbered (renumbering bonds n m) v) MARK ≡ pos (mark_if (odd (new_numbers new bonds m v)) (mark atoms v))
  -- which is so of every number of swaps that brings the new numbers, standing in the order of the old ones, into their own order
  pub swaps : (v : ℕ) → v < n → {order : List ℕ} {k : ℕ} → Swaps (new_numbers new bonds m v) order k → ascending order ≡ true → odd (new_numbers new bonds m v) ≡ odd_number k
  pub atoms_after : (j : ℕ) → atom_cells * n ≤ j → get_or T j (pos 0) ≡ pos 0
  pub bonds_after : (j : ℕ) → bond_cells * m ≤ j → get_or U j (pos 0) ≡ pos 0

-- the text is read into tables T and U that hold the molecule (the number of over-full atoms, which brackets hide, is as its definition says); they are sound, and writing them is accepted with the same bytes, every atom keeping its number
pub record RoundTrip (atoms bonds : List ℤ) (n m : ℕ) (A B : List ℤ) : Type 0 where
  pub T : List ℤ
  pub U : List ℤ
  pub overfull : ℕ
  pub told : read_of (text_of atoms bonds n m) A B ≡ accepted n m overfull T U
  pub same : Same atoms bonds n m T U
  pub atoms_long : length T ≡ length A
  pub bonds_long : length U ≡ length B
  pub still_sound : sound T U n m ≡ true
  pub again : (out ren : List ℕ) → lent T U out ren ≡ true → write_of T U n m out ren ≡ write.write_accepted (text_of atoms bonds n m) (up_to (λ v. v) 0 n) out ren

-- "The renumbering gives each atom's walk number": a permutation of the numbers below n
pub record Permutes (n : ℕ) (r : List ℕ) : Type 0 where
  pub long : length r ≡ n
  pub below : (v : ℕ) → v < n → numbered r v < n
  pub injective : (v w : ℕ) → v < n → w < n → numbered r v ≡ numbered r w → v ≡ w
  pub onto : (a : ℕ) → a < n → (v : ℕ) × ((v < n) × (numbered r v ≡ a))

-- what an accepted writing left in out and ren, and what reading that text into buffers A and B hands back
pub record WrittenAndRead (atoms bonds : List ℤ) (n m : ℕ) (out ren : List ℕ) (A B : List ℤ) : Type 0 where
  pub text : take (write_of atoms bonds n m out ren).size (write_of atoms bonds n m out ren).output ≡ text_of atoms bonds n m
  pub numbers : take n (write_of atoms bonds n m out ren).numbers ≡ renumbering bonds n m
  pub permutes : Permutes n (renumbering bonds n m)
  -- a molecule with a matching is read back
  pub matching : matchable atoms bonds n m ≡ true → RoundTrip atoms bonds n m A B
  -- "A sound molecule without a placement is written by the same rules; reading its text gives 11."
  pub no_matching : matchable atoms bonds n m ≡ false → read_of (text_of atoms bonds n m) A B ≡ refused 11 0 A B

-- DEMAND 2: what writing sound tables into long enough buffers hands back, and what reading its text gives: one of four
pub data Demand2 (atoms bonds : List ℤ) (n m : ℕ) (out ren : List ℕ) (A B : List ℤ) : write.WriteResult → Type 0 where
  written : WithinLimits atoms bonds n m → WrittenAndRead atoms bonds n m out ren A B → Demand2 atoms bonds n m out ren A B (write.write_accepted (text_of atoms bonds n m) (renumbering bonds n m) out ren)
  says_14 : ManyBridges bonds n m → Demand2 atoms bonds n m out ren A B (write.write_refused 14 out ren)
  says_15 : ¬ ManyBridges bonds n m → DeepBranch bonds n m → Demand2 atoms bonds n m out ren A B (write.write_refused 15 out ren)
  says_16 : ¬ ManyBridges bonds n m → ¬ DeepBranch bonds n m → LongText atoms bonds n m → Demand2 atoms bonds n m out ren A B (write.write_refused 16 out ren)
