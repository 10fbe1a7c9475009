-- 01, Hydrogens and kept atoms: the calls on tables, refusals in the order of 01. A placement is a matching, settling is kekulizing.
use Rattle.std.specs.Prelude.{ℕ, ◌≤◌, List, Bool, ◌&&◌, length, take, get_or, replicate, ℤ, eqb, leb, Result, Ok, Err, true, ◌≡◌}
use Rattle.loops.specs.Loop.{pick, each}
use Rattle.table.specs.Limits.{max_atoms, max_bonds}
use Rattle.table.specs.Valid.{enough, check_code}
use Rattle.table.specs.Sound.{sound}
use Rattle.table.specs.Marks.{none_crowded}
use Rattle.table.specs.Edits.{unselected_atoms, doubled_bonds}
use Rattle.refusal.specs.declared.Refusal.{Refusal}
use Rattle.matching.specs.Enumeration.{Reply, is_row, row_call}
use Rattle.matching.specs.declared.Call.{Call}
use Rattle.table_graph.specs.Graph.{matching_of}
use Rattle.kekule_answers.specs.Answers.{Found, found_of, found_code}

-- what a call for a matching hands back: 01's number for its answer, and the row as it is then
pub record CallReply : Type 0 where
  pub code : ℕ
  pub row : List ℕ

abbrev pub call_reply : ℕ → List ℕ → CallReply
call_reply c row = record { code = c; row = row }

abbrev pub out : Found → List ℕ → CallReply
out a row = call_reply (found_code a) row

abbrev pub call_reply_of : Reply → CallReply
call_reply_of g = out (found_of g.answer) g.row

-- 1 is given exactly when this fails: the tables and a row of the length len are as long as 01 asks
abbrev pub roomy : List ℤ → List ℤ → ℕ → Bool
roomy atoms bonds len = leb max_bonds len && enough atoms bonds

-- one of the two calls: "if a table or the row is too short, every call gives 1 and nothing changes"; 13 with a zeroed row
unfoldable pub call_on : Call → List ℤ → List ℤ → ℕ → ℕ → List ℕ → CallReply
call_on c atoms bonds n m row =
    pick (roomy atoms bonds (length row))
    (pick (sound atoms bonds n m) (call_reply_of (row_call (matching_of atoms bonds n m) m c row)) (call_reply 13 (replicate (length row) 0)))
    (call_reply 1 row)

-- neither 1 nor 13 is due: the tables and the row are long enough, the tables are sound, and the row stays
pub record Admits (atoms bonds : List ℤ) (n m : ℕ) (row row' : List ℕ) : Type 0 where
  pub long : roomy atoms bonds (length row) ≡ true
  pub is_sound : sound atoms bonds n m ≡ true
  pub same : row' ≡ row

-- the refusals 1 and 13 of both calls: a refusal is what each call answers
abbrev pub Admitted : List ℤ → List ℤ → ℕ → ℕ → List ℕ → Result (Unit {0}) Refusal → List ℕ → Type 0
Admitted atoms bonds n m row (Ok _) row' = Admits atoms bonds n m row row'
Admitted atoms bonds n m row (Err e) row' = (c : Call) → out (Err e) row' ≡ call_on c atoms bonds n m row

-- the row, up to the last bond, is a matching; "in a row handed in, cells past the last bond are not looked at"
abbrev pub is_matching_of : List ℤ → List ℤ → ℕ → ℕ → List ℕ → Bool
is_matching_of atoms bonds n m row = is_row m (take m row) && matching_of atoms bonds n m (take m row)

-- m cells of a row are 0
unfoldable pub all_zero : ℕ → List ℕ → Bool
all_zero m row = each (λ b. eqb (get_or row b 0) 0) 0 m

-- the question whether a row is a matching: 1, 13, then 12
unfoldable pub asked_of : List ℤ → List ℤ → ℕ → ℕ → List ℕ → ℕ
asked_of atoms bonds n m row = pick (roomy atoms bonds (length row)) (pick (sound atoms bonds n m) (pick (is_matching_of atoms bonds n m row) 0 12) 13) 1

-- what kekulizing hands back: 01's number for its answer, and the tables as they are then
pub record KekulizeReply : Type 0 where
  pub code : ℕ
  pub atoms : List ℤ
  pub bonds : List ℤ

abbrev pub kekulize_reply : ℕ → List ℤ → List ℤ → KekulizeReply
kekulize_reply c atoms bonds = record { code = c; atoms = atoms; bonds = bonds }

abbrev pub tables : Result (Unit {0}) Refusal → List ℤ → List ℤ → KekulizeReply
tables a atoms bonds = kekulize_reply (check_code a) atoms bonds

-- 01, Settling: makes the matching's bonds kind 2 and clears every selected cell; all else stays
abbrev pub kekulized : List ℤ → List ℤ → ℕ → ℕ → List ℕ → KekulizeReply
kekulized atoms bonds n m row = kekulize_reply 0 (unselected_atoms n atoms) (doubled_bonds row m bonds)

-- "a refusal leaves those tables untouched": 1, 13, then 12; "Settling checks 20 again over the new double bonds, last of its checks" (02, P5)
unfoldable pub kekulized_of : List ℤ → List ℤ → ℕ → ℕ → List ℕ → KekulizeReply
kekulized_of atoms bonds n m row =
    pick (roomy atoms bonds (length row))
    (pick (sound atoms bonds n m)
    (pick (is_matching_of atoms bonds n m row)
    (pick (none_crowded (doubled_bonds row m bonds) m) (kekulized atoms bonds n m row) (kekulize_reply 20 atoms bonds))
    (kekulize_reply 12 atoms bonds))
    (kekulize_reply 13 atoms bonds))
    (kekulize_reply 1 atoms bonds)

-- the counts are within the limits, and the row has a cell for each bond
pub record Counted (n m : ℕ) (row : List ℕ) : Type 0 where
  pub atoms_few : n ≤ max_atoms
  pub bonds_few : m ≤ max_bonds
  pub room : m ≤ length row
