-- From what the calls hand back to the entry. Assumes nothing.
use Prim.Native.Nat.{ℕ, ◌*◌, ◌≤◌}
use mathlib.Core.Path.{◌≡◌, sym, ap, subst, ◌∙◌}
use mathlib.Core.List.{List}
use native.Mathlib.Omega.{arith}
use lib.ListN.{length, take, replicate, length-replicate}
use lib.IntN.{ℤ, pos}
use lib.Dec.{eqb}
use Rattle.std.specs.Prelude.{Result, Ok, Err}
use Rattle.loops.specs.Loop.{pick}
use Rattle.refusal.specs.Code.{code_of}
use Rattle.refusal.specs.declared.Refusal.{Refusal}
use Rattle.table.specs.Limits.{max_atoms, max_bonds, atom_cells, bond_cells}
use Rattle.ids.specs.Limits.{max_text}
use Rattle.reading.specs.Read as read
use Rattle.reader.specs.Ending as reader
use Rattle.std.proofs.Common.{Result, Ok, Err}
use Rattle.reader.specs.declared.answer.Counts.{Counts}
use Rattle.reader.specs.declared.answer.TextRefusal.{TextRefusal}
use Rattle.kekule.specs.Kekule.{KekulizeReply, tables}
use Rattle.standard.specs.Standard.{first_row, written_of}
use Rattle.standard.specs.Standing.{Writable, Standing, Settled}
use Rattle.standard.proofs.Calls.{code-not-zero, standing-valid, read-standing, the-writing}
use Rattle.writing.specs.Write as write
use Rattle.writer.specs.Told.{told}
use Rattle.buffer.specs.Buffer.{BufferAt}
use Rattle.report_entry.specs.declared.Reported.{Reported}
use Rattle.report_entry.specs.Entry.{Entry, refused_as, accepted_as, of_written, of_molecule, of_read, entry_of, line_of, accepted_of}
use Rattle.report_entry.specs.Laid.{Says, Reports}
use Rattle.report_entry.proofs.Laws.{size-within}

abbrev read_blank : List ℕ → read.ReadResult
read_blank s = read.read_of s (replicate (atom_cells * max_atoms) (pos 0)) (replicate (bond_cells * max_bonds) (pos 0))

-- the line of an entry under another name
pub said-as : {k : ℕ} {x y : Entry} {r : Reported} {p : BufferAt} {after : List ℕ} → x ≡ y → Says k y r p after → Says k x r p after
said-as {k} {r = r} {p = p} {after = after} e w = subst (λ o. Says k o r p after) (sym e) w

pub reported : {k : ℕ} {s : List ℕ} {r : Reported} {p : BufferAt} {after : List ℕ} → Says k (entry_of s) r p after → Reports k s r p after
unfolding line_of accepted_of
reported w = record { text = w.text; flag = w.flag }

-- ---- reading

module _ (s : List ℕ) (a b : List ℤ) (x : Result Counts TextRefusal) (told : reader.told x a b ≡ read_blank s) where
  pub read-refused : {r : Refusal} {p : ℕ} → x ≡ reader.refused_text r p → entry_of s ≡ refused_as (code_of r) p
  unfolding entry_of
  read-refused {r} {p} e =
      ap of_read (sym told) ∙ ap (λ y. of_read (reader.told y a b)) e ∙ ap (λ t. pick t (of_molecule a b 0 0 0) (refused_as (code_of r) p)) (code-not-zero r)

  pub read-molecule : {n m k : ℕ} → x ≡ reader.counted n m k → entry_of s ≡ of_molecule a b n m k
  unfolding entry_of
  read-molecule e = ap of_read (sym told) ∙ ap (λ y. of_read (reader.told y a b)) e

  pub read-stands : {n m k : ℕ} → x ≡ reader.counted n m k → Standing a b n m
  read-stands e = read-standing s a b x told e

-- ---- writing the molecule

abbrev write_blank : List ℤ → List ℤ → ℕ → ℕ → write.WriteResult
write_blank a b n m = write.write_of a b n m (replicate max_text 0) (replicate max_atoms 0)

-- the buffers have room for a text, and the row for a matching
pub text-long : max_text ≤ length {A = ℕ} (replicate max_text 0)
text-long = omega (arith, length-replicate {A = ℕ} max_text 0)

pub row_fits : {a b : List ℤ} {n m : ℕ} → Standing a b n m → (row : List ℕ) → length row ≡ length {A = ℕ} (replicate max_bonds 0) → m ≤ length row
row_fits {a} {b} {n} {m} w row e = omega (arith, (standing-valid a b n m w).bonds_few, e, length-replicate {A = ℕ} max_bonds 0)

-- what writing sound tables hands back
pub blank-written : {atoms bonds : List ℤ} {n m : ℕ} → Writable atoms bonds n m → (w : Result ℕ Refusal) (text numbers : List ℕ) → told w text numbers ≡ write.write_valid atoms bonds n m (replicate max_text 0) (replicate max_atoms 0) → told w text numbers ≡ write_blank atoms bonds n m
blank-written {atoms} {bonds} {n} {m} u w text numbers e = the-writing atoms bonds n m 0 (replicate max_text 0) w text numbers e u text-long

module _ (atoms bonds : List ℤ) (n m k : ℕ) (row text numbers : List ℕ) (w : Result ℕ Refusal) (write : told w text numbers ≡ write_blank atoms bonds n m) where
  pub written-accepted : {size : ℕ} → w ≡ Ok size → of_written n m k row (write_blank atoms bonds n m) ≡ accepted_as n m k (take m row) (take size text)
  written-accepted e = ap (of_written n m k row) (sym write) ∙ ap (λ y. of_written n m k row (told y text numbers)) e

  pub written-refused : {r : Refusal} → w ≡ Err r → of_written n m k row (write_blank atoms bonds n m) ≡ refused_as (code_of r) 0
  written-refused {r} e =
      ap (of_written n m k row) (sym write) ∙ ap (λ y. of_written n m k row (told y text numbers)) e
      ∙ ap (λ t. pick t (accepted_as n m k (take m row) (take 0 text)) (refused_as (code_of r) 0)) (code-not-zero r)

-- ---- kekulizing it

module _ (atoms bonds : List ℤ) (n m k : ℕ) (row : List ℕ) (a b : List ℤ) (c : Result (Unit {0}) Refusal) (settled : Settled atoms bonds n m c a b row) where
  -- the entry, by what kekulizing hands back
  abbrev by_tables : KekulizeReply → Entry
  by_tables t = pick (eqb t.code 0) (of_written n m k (first_row atoms bonds n m) (write_blank t.atoms t.bonds n m)) (refused_as t.code 0)

  the-entry : {x : Result (Unit {0}) Refusal} → c ≡ x → of_molecule atoms bonds n m k ≡ by_tables (tables x a b)
  unfolding of_molecule written_of
  the-entry e = ap by_tables (sym settled.done) ∙ ap (λ (x : Result (Unit {0}) Refusal). by_tables (tables x a b)) e

  pub molecule-written : c ≡ Ok tt → of_molecule atoms bonds n m k ≡ of_written n m k row (write_blank a b n m)
  molecule-written e = the-entry e ∙ ap (λ r. of_written n m k r (write_blank a b n m)) (sym settled.first)

  pub molecule-refused : {r : Refusal} → c ≡ Err r → of_molecule atoms bonds n m k ≡ refused_as (code_of r) 0
  molecule-refused {r} e = the-entry e ∙ ap (λ t. pick t (of_written n m k (first_row atoms bonds n m) (write_blank a b n m)) (refused_as (code_of r) 0)) (code-not-zero r)

-- the text is within its buffer
pub text-within : (a b : List ℤ) (n m : ℕ) (text numbers : List ℕ) (w : Result ℕ Refusal) {size : ℕ} → told w text numbers ≡ write_blank a b n m → w ≡ Ok size → size ≤ max_text
text-within a b n m text numbers w e q =
    subst (λ (t : write.WriteResult). t.size ≤ max_text) (sym (ap (λ y. told y text numbers) (sym q) ∙ e)) (size-within a b n m _ _)

-- a number of cells that a buffer has
pub buffer-fits : (l : List ℕ) (n k : ℕ) → length l ≡ length {A = ℕ} (replicate k 0) → n ≤ k → n ≤ length l
buffer-fits l n k e h = omega (arith, e, h, length-replicate {A = ℕ} k 0)
