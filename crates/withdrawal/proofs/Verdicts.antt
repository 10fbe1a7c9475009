-- From what reading, folding and comparing hand back to the verdict on an entry. Assumes nothing.
use Prim.Native.Nat.{ℕ, ◌*◌}
use native.Mathlib.Omega.{arith}
use mathlib.Core.Path.{◌≡◌, sym, ap, ◌∙◌, subst}
use mathlib.Core.Bool.{true, false}
use mathlib.Core.Logic.{inl, inr}
use mathlib.Core.List.{List}
use lib.ListN.{length, replicate, length-replicate}
use lib.IntN.{ℤ, pos}
use lib.Dec.{eqb}
use borrow.Author.Tests.{eq-eqb}
use Rattle.refusal.specs.declared.Refusal.{Refusal}
use Rattle.table.specs.Limits.{max_atoms, max_bonds, atom_cells, bond_cells}
use Rattle.table.specs.Valid.{Valid}
use Rattle.reading.specs.Read.{ReadResult, read_of}
use Rattle.reading.proofs.Accepted.{read-valid, read-accepted}
use Rattle.std.proofs.Common.{Result}
use Rattle.reader.specs.declared.answer.Counts.{Counts}
use Rattle.reader.specs.declared.answer.TextRefusal.{TextRefusal}
use Rattle.reader.specs.Ending.{told, counted, refused_text}
use Rattle.same_model.specs.Same.{Molecule, molecule}
use Rattle.folding.specs.Folding.{folded, Complete}
use Rattle.folding.proofs.Claims.{folded-complete}
use Rattle.withdrawal.specs.declared.verdict.Verdict.{Verdict}
use Rattle.withdrawal.specs.Withdrawal.{read_text, accepted, drawn}
use Rattle.withdrawal.specs.Verdict.{Tells, Says}
use Rattle.withdrawal.proofs.Calls.{code_not_zero}

-- ---- folding
pub fold-valid : {x z : Molecule} → Complete x → z ≡ folded x → Valid z.atoms z.bonds z.n z.m
fold-valid {x} c e = subst (λ (z : Molecule). Valid z.atoms z.bonds z.n z.m) (sym e) (folded-complete x c).valid

pub fold-tells : (z x y : Molecule) (v : Verdict) → z ≡ folded x → Tells z y v → Tells (folded x) y v
fold-tells z x y v e w = subst (λ (z : Molecule). Tells z y v) e w

-- ---- a text
abbrev atom_zeros : List ℤ
atom_zeros = replicate (atom_cells * max_atoms) (pos 0)

abbrev bond_zeros : List ℤ
bond_zeros = replicate (bond_cells * max_bonds) (pos 0)

-- that is refused
module _ (s : List ℕ) (a b : List ℤ) (x : Result Counts TextRefusal) (read : told x a b ≡ read_of s atom_zeros bond_zeros) {c : Refusal} {p : ℕ} (e : x ≡ refused_text c p) where
  pub text-refused : accepted s ≡ false
  unfolding read_text
  text-refused = sym (ap (λ (t : ReadResult). eqb t.code 0) (sym (ap (λ (y : Result Counts TextRefusal). told y a b) e) ∙ read)) ∙ code_not_zero c

  pub refused_says : (y : Molecule) → Says s y Verdict.Unsure
  refused_says y = inl text-refused

-- that is accepted
module _ (s : List ℕ) (a b : List ℤ) (x : Result Counts TextRefusal) (read : told x a b ≡ read_of s atom_zeros bond_zeros) {n m k : ℕ} (e : x ≡ counted n m k) where
  same : told (counted n m k) a b ≡ read_of s atom_zeros bond_zeros
  same = sym (ap (λ (y : Result Counts TextRefusal). told y a b) e) ∙ read

  fine : (read_of s atom_zeros bond_zeros).code ≡ 0
  fine = sym (ap (λ (t : ReadResult). t.code) same)

  pub text-complete : Complete (molecule a b n m)
  text-complete =
      let v : Valid a b n m = subst (λ (t : ReadResult). Valid t.atoms t.bonds t.atom_count t.bond_count) (sym same) (read-valid s atom_zeros bond_zeros fine) in
      let l = (read-accepted s atom_zeros bond_zeros fine).lengths in
      let p : length a ≡ atom_cells * max_atoms = ap (λ (t : ReadResult). length t.atoms) same ∙ l.0 ∙ length-replicate (atom_cells * max_atoms) (pos 0) in
      let q : length b ≡ bond_cells * max_bonds = ap (λ (t : ReadResult). length t.bonds) same ∙ l.1 ∙ length-replicate (bond_cells * max_bonds) (pos 0) in
      record { valid = v; atoms_room = omega (arith, v.atoms_few, p); bonds_room = omega (arith, v.bonds_few, q) }

  pub text-accepted : accepted s ≡ true
  unfolding read_text
  text-accepted = eq-eqb (read_of s atom_zeros bond_zeros).code 0 fine

  pub text-drawn : molecule a b n m ≡ drawn s
  unfolding read_text
  text-drawn = ap (λ (t : ReadResult). molecule t.atoms t.bonds t.atom_count t.bond_count) same

  pub text_says : (y : Molecule) (v : Verdict) → Tells (folded (molecule a b n m)) y v → Says s y v
  text_says y Verdict.Listed w = (text-accepted, subst (λ (z : Molecule). Tells (folded z) y Verdict.Listed) text-drawn w)
  text_says y Verdict.Other w = (text-accepted, subst (λ (z : Molecule). Tells (folded z) y Verdict.Other) text-drawn w)
  text_says y Verdict.Unsure w = inr (subst (λ (z : Molecule). Tells (folded z) y Verdict.Unsure) text-drawn w)
