-- What a line says depends on its first bytes, and has a bounded length. Assumes nothing.
use Prim.Native.Nat.{ℕ, zero, suc, ◌*◌, ◌≤◌, ◌<◌}
use mathlib.Core.Path.{◌≡◌, refl, sym, ap, ◌∙◌}
use mathlib.Core.List.{List}
use mathlib.Core.Bool.{Bool, true, false}
use mathlib.Core.Logic.{◌⊎◌, inl, inr, ⊎_elim}
use native.Mathlib.Omega.{arith}
use lib.ListN.{length, take, replicate, length-take}
use lib.IntN.{ℤ, pos}
use lib.Dec.{eqb, leb}
use lib.Seq.{take_all, length-take-le}
use borrow.Author.Tests.{eqb-true, leb-true, lt-leb}
use Rattle.loops.specs.Loop.{pick}
use Rattle.report_lines.specs.Cut.{max_line}
use Rattle.table.specs.Limits.{max_atoms, max_bonds, atom_cells, bond_cells}
use Rattle.table.specs.Valid.{enough}
use Rattle.table.specs.Sound.{sound}
use Rattle.ids.specs.Limits.{max_text}
use Rattle.reading.specs.Read as read
use Rattle.reading.proofs.Accepted.{read-valid}
use Rattle.writing.specs.Write as write
use Rattle.report_lines.proofs.Format.{accepted-within, refused-within}
use Rattle.report_entry.specs.Entry.{Entry, refused_as, accepted_as, of_molecule, of_read, entry_of, line_for, is_accepted, line_of, accepted_of}
use Rattle.report_entry.specs.Laid.{line_room}
use Rattle.standard.specs.Standard.{first_row, kekule_of, written_of}

-- ---- the first bytes

-- a text that is too long is refused as what is gathered of it
read-clipped : (s : List ℕ) (atoms bonds : List ℤ) → (length s ≤ max_line) ⊎ (max_line < length s) → read.read_of (take max_line s) atoms bonds ≡ read.read_of s atoms bonds
unfolding read.read_of
read-clipped s atoms bonds (inl h) = ap (λ t. read.read_of t atoms bonds) (take_all max_line s h)
read-clipped s atoms bonds (inr h) =
    let l : length (take max_line s) ≡ max_line = length-take-le max_line s (omega arith) in
    let a : leb (length (take max_line s)) max_text ≡ false = lt-leb (length (take max_line s)) max_text (omega arith) in
    let b : leb (length s) max_text ≡ false = lt-leb (length s) max_text (omega arith) in
    ap (λ t. pick (enough atoms bonds) (pick t (read.read_from (take max_line s) atoms bonds) (read.refused 2 max_text atoms bonds)) (read.short atoms bonds)) a
    ∙ sym (ap (λ t. pick (enough atoms bonds) (pick t (read.read_from s atoms bonds) (read.refused 2 max_text atoms bonds)) (read.short atoms bonds)) b)

le-or-lt : (a b : ℕ) → (a ≤ b) ⊎ (b < a)
le-or-lt zero b = inl (omega arith)
le-or-lt (suc a) zero = inr (omega arith)
le-or-lt (suc a) (suc b) = ⊎_elim (λ h. inl (omega (arith, h))) (λ h. inr (omega (arith, h))) (le-or-lt a b)

entry-clipped : (s : List ℕ) → entry_of (take max_line s) ≡ entry_of s
unfolding entry_of
entry-clipped s = ap of_read (read-clipped s _ _ (le-or-lt (length s) max_line))

-- THE LAW: of a line no more than its gathered bytes count
pub line-clipped : (k : ℕ) (s : List ℕ) → line_of k (take max_line s) ≡ line_of k s
unfolding line_of
line-clipped k s = ap (line_for k) (entry-clipped s)

pub accepted-clipped : (s : List ℕ) → accepted_of (take max_line s) ≡ accepted_of s
unfolding accepted_of
accepted-clipped s = ap is_accepted (entry-clipped s)

-- ---- the length

-- the size of a written text
accepted-size : (t : Bool) (text order out ren : List ℕ) → leb (length text) max_text ≡ t → (pick t (write.write_accepted text order out ren) (write.write_refused 16 out ren)).size ≤ max_text
accepted-size true text order out ren e = leb-true _ _ e
accepted-size false text order out ren e = omega arith

pick-size : (t : Bool) (a b : write.WriteResult) → a.size ≤ max_text → b.size ≤ max_text → (pick t a b).size ≤ max_text
pick-size true a b h g = h
pick-size false a b h g = g

pub size-within : (atoms bonds : List ℤ) (n m : ℕ) (out ren : List ℕ) → (write.write_of atoms bonds n m out ren).size ≤ max_text
unfolding write.write_of write.write_valid
size-within atoms bonds n m out ren =
    pick-size (write.lent atoms bonds out ren) _ _
    (pick-size (sound atoms bonds n m) _ _
    (pick-size (write.few_bridges (write.tokens bonds n m)) _ _
    (pick-size (write.shallow (write.tokens bonds n m)) _ _ (accepted-size _ (write.text_of atoms bonds n m) (write.renumbering bonds n m) out ren refl) (omega arith))
    (omega arith))
    (omega arith))
    (omega arith)

take_short : (n : ℕ) (l : List ℕ) → length (take n l) ≤ n
take_short n l = simp length-take (omega arith)

written-within : (k n m o : ℕ) (row : List ℕ) (w : write.WriteResult) (t : Bool) → m ≤ max_bonds → w.size ≤ max_text → length (line_for k (pick t (accepted_as n m o (take m row) (take w.size w.output)) (refused_as w.code 0))) ≤ line_room
written-within k n m o row w true h g =
    omega (arith, accepted-within k n m o (take m row) (take w.size w.output), take_short m row, take_short w.size w.output)
written-within k n m o row w false h g = omega (arith, refused-within k w.code 0)

kekulized-within : (k : ℕ) (x : Entry) (c : ℕ) (t : Bool) → length (line_for k x) ≤ line_room → length (line_for k (pick t x (refused_as c 0))) ≤ line_room
kekulized-within k x c true h = h
kekulized-within k x c false h = omega (arith, refused-within k c 0)

molecule-within : (k : ℕ) (atoms bonds : List ℤ) (n m o : ℕ) → m ≤ max_bonds → length (line_for k (of_molecule atoms bonds n m o)) ≤ line_room
unfolding of_molecule written_of
molecule-within k atoms bonds n m o h =
    kekulized-within k _ (kekule_of atoms bonds n m).code (eqb (kekule_of atoms bonds n m).code 0)
    (written-within k n m o (first_row atoms bonds n m) (written_of atoms bonds n m (replicate max_text 0)) (eqb (written_of atoms bonds n m (replicate max_text 0)).code 0) h (size-within _ _ n m _ _))

read-within : (k : ℕ) (t : read.ReadResult) (b : Bool) → (b ≡ true → t.bond_count ≤ max_bonds) → length (line_for k (pick b (of_molecule t.atoms t.bonds t.atom_count t.bond_count t.overfull) (refused_as t.code t.offset))) ≤ line_room
read-within k t true h = molecule-within k t.atoms t.bonds t.atom_count t.bond_count t.overfull (h refl)
read-within k t false h = omega (arith, refused-within k t.code t.offset)

-- room that is enough for a line
pub line-within : (k : ℕ) (s : List ℕ) → length (line_of k s) ≤ line_room
unfolding line_of entry_of
line-within k s =
    let t : read.ReadResult = read.read_of s (replicate (atom_cells * max_atoms) (pos 0)) (replicate (bond_cells * max_bonds) (pos 0)) in
    read-within k t (eqb t.code 0) (λ e. (read-valid s _ _ (eqb-true t.code 0 e)).bonds_few)
