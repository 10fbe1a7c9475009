-- The withdrawal check: withdrawing a text, and whether a text is withdrawn in any drawing
use Rattle.std.specs.Prelude.{ℕ, zero, suc, ◌*◌, ◌<◌, ◌≡◌, Bool, true, false, ◌⊎◌, List, length, replicate, pos, eqb, ltb}
use Rattle.loops.specs.Loop.{pick}
use Rattle.table.specs.Limits.{max_atoms, max_bonds, atom_cells, bond_cells}
use Rattle.reading.specs.Read.{ReadResult, read_of}
use Rattle.register.specs.Layout.{size, valid, count, tag_of, body_of}
use Rattle.register.specs.Answers.{added_of}
use Rattle.same_model.specs.Same.{Molecule, molecule}
use Rattle.folding.specs.Folding.{folded}
use Rattle.redrawing.specs.Redrawn.{Redrawn}
use Rattle.drawing_key.specs.Key.{key_of}
use Rattle.withdrawal.specs.declared.verdict.Verdict.{Verdict}

-- ---- texts

-- what a text reads to, in zeroed tables of the lent lengths
unfoldable pub read_text : List ℕ → ReadResult
read_text s = read_of s (replicate (atom_cells * max_atoms) (pos 0)) (replicate (bond_cells * max_bonds) (pos 0))

abbrev pub accepted : List ℕ → Bool
accepted s = eqb (read_text s).code 0

-- the molecule of an accepted text
abbrev pub drawn : List ℕ → Molecule
drawn s = let t = read_text s in molecule t.atoms t.bonds t.atom_count t.bond_count

-- two texts draw one compound: both are accepted, and their molecules are redrawings
pub record Drawings (s q : List ℕ) : Type 0 where
  pub first : accepted s ≡ true
  pub second : accepted q ≡ true
  pub redrawn : Redrawn (drawn s) (drawn q)

-- ---- withdrawing

-- a code with its place, and the register as it is then
pub record WithdrawOut : Type 0 where
  pub code : ℕ
  pub place : ℕ
  pub register : List ℕ

abbrev pub withdrew : ℕ → ℕ → List ℕ → WithdrawOut
withdrew c p r = record { code = c; place = p; register = r }

-- "1 first, then reading's code and place, then 17, 18; adds the text as a body. Nothing changes on a refusal"
unfoldable pub withdraw_of : List ℕ → ℕ → List ℕ → WithdrawOut
withdraw_of r t s =
    pick (ltb (length r) size) (withdrew 1 0 r)
    (pick (accepted s) (withdrew (added_of r t s).code 0 (added_of r t s).register) (withdrew (read_text s).code (read_text s).offset r))

-- ---- withdrawn?

abbrev pub is_listed : Verdict → Bool
is_listed Verdict.Listed = true
is_listed Verdict.Other = false
is_listed Verdict.Unsure = false

abbrev pub is_unsure : Verdict → Bool
is_unsure Verdict.Listed = false
is_unsure Verdict.Other = false
is_unsure Verdict.Unsure = true

-- the first of n places where a test holds
pub data Place : Type 0 where
  nowhere : Place
  at : ℕ → Place

abbrev pub or_else : Place → Place → Place
or_else nowhere q = q
or_else (at p) q = at p

unfoldable pub first_of : (ℕ → Bool) → ℕ → Place
first_of f zero = nowhere
first_of f (suc n) = or_else (first_of f n) (pick (f n) (at n) nowhere)

-- a code with its place; 0 clear, 1 withdrawn, 2 undecided, with the tag and the place of the entry
pub record WithdrawnOut : Type 0 where
  pub code : ℕ
  pub place : ℕ
  pub answer : ℕ
  pub tag : ℕ
  pub entry : ℕ

abbrev pub refused_with : ℕ → ℕ → WithdrawnOut
refused_with c p = record { code = c; place = p; answer = 0; tag = 0; entry = 0 }

abbrev pub answers : ℕ → ℕ → ℕ → WithdrawnOut
answers a t p = record { code = 0; place = 0; answer = a; tag = t; entry = p }

-- "withdrawn, with the place and tag of the first entry found to be a redrawing; else undecided, with the place of the first entry that could not be decided; else clear"
abbrev pub of_unsure : Place → WithdrawnOut
of_unsure nowhere = answers 0 0 0
of_unsure (at p) = answers 2 0 p

abbrev pub of_listed : List ℕ → Place → Place → WithdrawnOut
of_listed r nowhere o = of_unsure o
of_listed r (at p) o = answers 1 (tag_of r p) p

unfoldable pub judged_by : (ℕ → Verdict) → List ℕ → WithdrawnOut
judged_by v r = of_listed r (first_of (λ p. is_listed (v p)) (count r)) (first_of (λ p. is_unsure (v p)) (count r))

-- verdicts that are true: "withdrawn only by an entry that is one", "clear only if every body is read and no entry is a redrawing"
pub record True (r s : List ℕ) (v : ℕ → Verdict) : Type 0 where
  pub yes : (p : ℕ) → p < count r → v p ≡ Verdict.Listed → Drawings (body_of r p) s
  pub no : (p : ℕ) → p < count r → v p ≡ Verdict.Other → (accepted (body_of r p) ≡ true) × (Redrawn (drawn (body_of r p)) (drawn s) → ⊥)

-- "could not be decided (its body is not read, or the search spent its steps)": a search there is only where the compounds have one key
abbrev pub Open : List ℕ → List ℕ → Type 0
Open b s = (accepted b ≡ false) ⊎ (key_of (folded (drawn b)) ≡ key_of (folded (drawn s)))

-- what is asked of a register of full length and right layout by an accepted text
pub record Judged (r s : List ℕ) (out : WithdrawnOut) : Type 0 where
  pub verdict : ℕ → Verdict
  pub true_verdicts : True r s verdict
  pub is : out ≡ judged_by verdict r
  pub undecided : out.answer ≡ 2 → (out.entry < count r) × Open (body_of r out.entry) s

-- "1 and 17, then a text that cannot be read is refused with its code and place"
pub record Answered (r s : List ℕ) (out : WithdrawnOut) : Type 0 where
  pub short : ltb (length r) size ≡ true → out ≡ refused_with 1 0
  pub invalid : ltb (length r) size ≡ false → valid r ≡ false → out ≡ refused_with 17 0
  pub unread : ltb (length r) size ≡ false → valid r ≡ true → accepted s ≡ false → out ≡ refused_with (read_text s).code (read_text s).offset
  pub judged : ltb (length r) size ≡ false → valid r ≡ true → accepted s ≡ true → Judged r s out
