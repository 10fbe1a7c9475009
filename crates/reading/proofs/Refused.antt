-- What a refusal leaves behind: nothing changed after 1, and zeros with zero counts after any other. Assumes nothing.
use Prim.Native.Nat.{ℕ, ◌<◌}
use native.Mathlib.Omega.{arith}
use mathlib.Core.Path.{◌≡◌, refl, ap, ◌∙◌}
use mathlib.Core.Bool.{true, false}
use mathlib.Core.Logic.{◌↔◌}
use mathlib.Core.List.{List}
use lib.ListN.{length, replicate}
use lib.IntN.{ℤ, pos}
use borrow.Author.Tests.{lt-leb}
use Rattle.reading_grammar.specs.declared.MachineState.{MachineState}
use Rattle.table.specs.Valid.{enough}
use Rattle.ids.specs.Limits.{max_text}
use Rattle.reading.specs.Memory.{Memory}
use Rattle.reading.specs.Read.{ReadResult, zeros, refused, read_of}
use Rattle.reading.specs.Conditions.{atoms_of}
use Rattle.reading.proofs.Sane.{Sane}
use Rattle.reading.proofs.Outcome.{Outcome, outcome}
use Rattle.reading.proofs.Accepted.{halt-code, read-sane, atoms-length}

module _ (s : List ℕ) (atoms bonds : List ℤ) where
  -- 1 exactly where a table is too short
  pub short-iff : ((read_of s atoms bonds).code ≡ 1) ↔ (enough atoms bonds ≡ false)
  unfolding read_of
  short-iff = (go (read_of s atoms bonds) (outcome s atoms bonds), λ e. rw e)
    where
      go : (t : ReadResult) → Outcome s atoms bonds t → t.code ≡ 1 → enough atoms bonds ≡ false
      go t (Outcome.too_short e) z = e
      go t (Outcome.too_long e l) z = absurd (omega arith)
      go t (Outcome.halts f e) z = let h = halt-code s atoms bonds e in absurd (omega arith)
      go t (Outcome.unfinished f e a) z = absurd (omega arith)
      go t (Outcome.unclosed f e a l) z = absurd (omega arith)
      go t (Outcome.late f e a l p) z = absurd (omega (arith, p.0))
      go t (Outcome.unmatched f e a l p m) z = absurd (omega arith)
      go t (Outcome.accepts f e a l p m) z = absurd (omega arith)

  -- then 2 exactly where the text is too long
  pub long-iff : ((read_of s atoms bonds).code ≡ 2) ↔ ((enough atoms bonds ≡ true) × (max_text < length s))
  unfolding read_of
  long-iff = (go (read_of s atoms bonds) (outcome s atoms bonds), λ e. rw (e.0, lt-leb (length s) max_text e.1))
    where
      go : (t : ReadResult) → Outcome s atoms bonds t → t.code ≡ 2 → (enough atoms bonds ≡ true) × (max_text < length s)
      go t (Outcome.too_short e) z = absurd (omega arith)
      go t (Outcome.too_long e l) z = (e, l)
      go t (Outcome.halts f e) z = let h = halt-code s atoms bonds e in absurd (omega arith)
      go t (Outcome.unfinished f e a) z = absurd (omega arith)
      go t (Outcome.unclosed f e a l) z = absurd (omega arith)
      go t (Outcome.late f e a l p) z = absurd (omega (arith, p.0))
      go t (Outcome.unmatched f e a l p m) z = absurd (omega arith)
      go t (Outcome.accepts f e a l p m) z = absurd (omega arith)

  -- the tables of a memory are as long as those handed in
  same-zeros : {σ : MachineState} {μ : Memory} (c p : ℕ) (t : List ℤ) → Sane (length atoms) (length bonds) σ (length s) μ → length t ≡ length μ.atoms → refused c p t μ.bonds ≡ refused c p atoms bonds
  same-zeros {σ} {μ} c p t w e =
      let a : zeros t ≡ zeros atoms = ap (λ (n : ℕ). replicate n (pos 0)) (e ∙ w.tables.atom-length) in
      let b : zeros μ.bonds ≡ zeros bonds = ap (λ (n : ℕ). replicate n (pos 0)) w.tables.bond-length in
      cc

  -- every other refusal zeroes both tables and both counts
  pub refusal-zeroes : ((read_of s atoms bonds).code ≡ 0 → ⊥) → ((read_of s atoms bonds).code ≡ 1 → ⊥) → read_of s atoms bonds ≡ refused (read_of s atoms bonds).code (read_of s atoms bonds).offset atoms bonds
  refusal-zeroes = go (read_of s atoms bonds) (outcome s atoms bonds)
    where
      go : (t : ReadResult) → Outcome s atoms bonds t → (t.code ≡ 0 → ⊥) → (t.code ≡ 1 → ⊥) → t ≡ refused t.code t.offset atoms bonds
      go t (Outcome.too_short e) n m = absurd (m refl)
      go t (Outcome.too_long e l) n m = refl
      go t (Outcome.halts f e) n m = refl
      go t (Outcome.unfinished f e a) n m = refl
      go t (Outcome.unclosed {σ} {μ} f e a l) n m = same-zeros _ _ μ.atoms (read-sane s atoms bonds f e) refl
      go t (Outcome.late {σ} {μ} f e a l p) n m =
          same-zeros _ _ (atoms_of μ) (read-sane s atoms bonds f e) (atoms-length s atoms bonds μ)
      go t (Outcome.unmatched {σ} {μ} f e a l p x) n m =
          same-zeros _ _ (atoms_of μ) (read-sane s atoms bonds f e) (atoms-length s atoms bonds μ)
      go t (Outcome.accepts f e a l p m) n k = absurd (n refl)
