-- Reading against the grammar: what passes is a text, and 3 stands at the place of the grammar. Assumes nothing.
use Prim.Native.Nat.{ℕ, ◌≤◌}
use native.Mathlib.Omega.{arith}
use native.Mathlib.Decide.{ℕ_discrete}
use mathlib.Core.Path.{◌≡◌, refl, sym, ap, subst, ◌∙◌}
use mathlib.Core.Bool.{true, false}
use mathlib.Core.Logic.{◌⊎◌, inl, inr}
use mathlib.Core.List.{List}
use lib.ListN.{length}
use lib.IntN.{ℤ}
use Rattle.reading_grammar.specs.Grammar.{Text}
use Rattle.reading_grammar.specs.Place.{Place}
use Rattle.reading_grammar.specs.declared.MachineState.{MachineState}
use Rattle.reading_grammar.specs.Machine.{accepting}
use Rattle.reading_grammar.specs.Fold.{Reading, going, halted, bad, finish, answer}
use Rattle.reading_grammar.proofs.Viable.{place-unique, text-no-place}
use Rattle.reading_grammar.proofs.Fold.{good-text, bad-3, other-first}
use Rattle.reading.specs.Memory.{Memory}
use Rattle.reading.specs.Act.{act}
use Rattle.reading.specs.Read.{ReadResult, zeros, refused, beginning, read_of}
use Rattle.reading.specs.Conditions.{bytes_read, Fits}
use Rattle.reading.specs.Claims.{ReadsTexts}
use Rattle.reading.proofs.Refusals.{never-3, in-time}
use Rattle.reading.proofs.Outcome.{Outcome, outcome}
use Rattle.reading.proofs.Accepted.{halt-code}

module _ (s : List ℕ) (atoms bonds : List ℤ) where
  answered : (r : Reading Memory) → bytes_read s atoms bonds ≡ r → answer act (beginning (zeros atoms) (zeros bonds)) s ≡ finish (length s) r
  unfolding answer
  answered r e = ap (finish (length s)) e

  is-text : {σ : MachineState} {μ : Memory} → bytes_read s atoms bonds ≡ going σ μ → accepting σ ≡ true → Text s
  is-text {σ} {μ} e a = good-text act (beginning (zeros atoms) (zeros bonds)) μ s (answered (going σ μ) e ∙ rw a)

  -- a text's outcome, and that of bytes that are refused
  of-text : (t : ReadResult) → Text s → ((t.code ≡ 3) → ⊥) → ReadsTexts s atoms bonds t
  of-text t x n = record { text = λ c. x; not_3 = λ y. n; place = λ c. absurd (n c); refused = λ p q. absurd (text-no-place s p x q) }

  of-place : (q : ℕ) (t : ReadResult) → Place s q → t.code ≡ 3 → t.offset ≡ q → ReadsTexts s atoms bonds t
  of-place q t x c o =
      record {
        text = absurd-code;
        not_3 = λ y d. text-no-place s q y x;
        place = λ d. subst (Place s) (sym o) x;
        refused = λ p y. inl (c, o ∙ place-unique s q p x y);
      }
    where
      absurd-code : (t.code ≡ 0) ⊎ (10 ≤ t.code) → Text s
      absurd-code (inl e) = absurd (omega arith)
      absurd-code (inr e) = absurd (omega arith)

  of-refusal : (c p : ℕ) → bytes_read s atoms bonds ≡ halted c p → ReadsTexts s atoms bonds (refused c p atoms bonds)
  of-refusal c p e = split (ℕ_discrete c 3)
    where
      said : answer act (beginning (zeros atoms) (zeros bonds)) s ≡ bad c p
      said = answered (halted c p) e

      within : (3 ≤ c) × (c ≤ 9)
      within = halt-code s atoms bonds e

      split : Dec (c ≡ 3) → ReadsTexts s atoms bonds (refused c p atoms bonds)
      split (yes q) = of-place p (refused c p atoms bonds) (bad-3 act never-3 (beginning (zeros atoms) (zeros bonds)) s p (said ∙ ap (λ (x : ℕ). bad x p) q)) q refl
      split (no n) =
          record {
            text = absurd-code;
            not_3 = λ y d. n d;
            place = λ d. absurd (n d);
            refused = λ k y. inr (omega (arith, within.0), within.1, other-first act in-time (beginning (zeros atoms) (zeros bonds)) s c p k n said y);
          }
        where
          absurd-code : (c ≡ 0) ⊎ (10 ≤ c) → Text s
          absurd-code (inl e) = absurd (omega (arith, within.0))
          absurd-code (inr e) = absurd (omega (arith, within.1))

  -- with long enough tables and a text that is not too long, reading refuses by the grammar exactly where 01 says
  pub reads-texts : Fits s atoms bonds → ReadsTexts s atoms bonds (read_of s atoms bonds)
  reads-texts = go (read_of s atoms bonds) (outcome s atoms bonds)
    where
      go : (t : ReadResult) → Outcome s atoms bonds t → Fits s atoms bonds → ReadsTexts s atoms bonds t
      go t (Outcome.too_short e) f = absurd (let r : true ≡ false = sym f.room ∙ e in let z : ◌≡◌ {A = ℕ} 0 1 = cc in omega arith)
      go t (Outcome.too_long e l) f = absurd (omega (arith, f.short))
      go t (Outcome.halts {c} {p} g e) f = of-refusal c p e
      go t (Outcome.unfinished {σ} {μ} g e a) f =
          of-place (length s) (refused 3 (length s) atoms bonds) (bad-3 act never-3 (beginning (zeros atoms) (zeros bonds)) s (length s) (answered (going σ μ) e ∙ rw a)) refl refl
      go t (Outcome.unclosed g e a l) f = of-text t (is-text e a) (λ z. omega arith)
      go t (Outcome.late g e a l p) f = of-text t (is-text e a) (λ z. omega (arith, p.0))
      go t (Outcome.unmatched g e a l p m) f = of-text t (is-text e a) (λ z. omega arith)
      go t (Outcome.accepts g e a l p m) f = of-text t (is-text e a) (λ z. omega arith)
