-- From what reading and adding hand back to what withdrawing answers. Assumes nothing.
use Prim.Native.Nat.{ℕ, ◌*◌, ◌≤◌, ◌<◌}
use mathlib.Core.Path.{◌≡◌, sym, ap, ◌∙◌}
use mathlib.Core.Bool.{Bool, false}
use mathlib.Core.List.{List}
use lib.ListN.{length, replicate}
use lib.IntN.{ℤ, pos}
use lib.Dec.{eqb}
use native.Mathlib.Omega.{arith}
use borrow.Author.Tests.{ne_eqb, lt-ltb, le-ltb}
use Rattle.refusal.proofs.Codes.{code-range}
use Rattle.loops.specs.Loop.{pick}
use Rattle.refusal.specs.declared.Refusal.{Refusal}
use Rattle.refusal.specs.Code.{code_of}
use Rattle.table.specs.Limits.{max_atoms, max_bonds, atom_cells, bond_cells}
use Rattle.reading.specs.Read.{ReadResult, read_of}
use Rattle.std.proofs.Common.{Result}
use Rattle.reader.specs.declared.answer.Counts.{Counts}
use Rattle.reader.specs.declared.answer.TextRefusal.{TextRefusal}
use Rattle.reader.specs.Ending.{told, counted, refused_text}
use Rattle.register.specs.Layout.{size}
use Rattle.register.specs.Answers as register
use Rattle.withdrawal.specs.Withdrawal.{WithdrawOut, read_text, withdrew, withdraw_of}

-- a refusal's code is not 0
pub code_not_zero : (c : Refusal) → eqb (code_of c) 0 ≡ false
code_not_zero c = ne_eqb (code_of c) 0 (λ e. absurd (omega (arith, e, code-range c)))

abbrev pub read_blank : List ℕ → ReadResult
read_blank s = read_of s (replicate (atom_cells * max_atoms) (pos 0)) (replicate (bond_cells * max_bonds) (pos 0))

module _ (r : List ℕ) (t : ℕ) (s : List ℕ) where
  pub short-register : length r < size → withdrew 1 0 r ≡ withdraw_of r t s
  unfolding withdraw_of
  short-register l = rw (lt-ltb (length r) size l)

  module _ (l : size ≤ length r) (a b : List ℤ) (x : Result Counts TextRefusal) (read : told x a b ≡ read_blank s) where
    -- the answer by what reading hands back
    abbrev by_read : ReadResult → WithdrawOut
    by_read q = pick (eqb q.code 0) (withdrew (register.added_of r t s).code 0 (register.added_of r t s).register) (withdrew q.code q.offset r)

    by_read_lem : {y : Result Counts TextRefusal} → x ≡ y → by_read (told y a b) ≡ withdraw_of r t s
    unfolding withdraw_of read_text
    by_read_lem e = sym (ap (λ (y : Result Counts TextRefusal). by_read (told y a b)) e) ∙ ap by_read read ∙ rw (le-ltb (length r) size l)

    pub unread-text : {c : Refusal} {p : ℕ} → x ≡ refused_text c p → withdrew (code_of c) p r ≡ withdraw_of r t s
    unread-text {c} {p} e = sym (ap (λ (z : Bool). pick z (withdrew (register.added_of r t s).code 0 (register.added_of r t s).register) (withdrew (code_of c) p r)) (code_not_zero c)) ∙ by_read_lem e

    pub added-text : {n m k : ℕ} → x ≡ counted n m k → {q : List ℕ} {c : ℕ} → register.told c q ≡ register.added_of r t s → withdrew c 0 q ≡ withdraw_of r t s
    added-text e {q} {c} w = ap (λ (z : register.RegisterResult). withdrew z.code 0 z.register) w ∙ by_read_lem e
