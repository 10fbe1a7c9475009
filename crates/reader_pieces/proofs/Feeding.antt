-- A piece that was read is what the definition hands back. Assumes nothing.
use Prim.Native.Nat.{ℕ, ◌+◌, ◌≤◌}
use mathlib.Core.Path.{◌≡◌, sym, ap, ◌∙◌, subst}
use mathlib.Core.Bool.{false}
use mathlib.Core.List.{List}
use lib.ListN.{length}
use lib.IntN.{ℤ}
use Rattle.refusal.specs.declared.Refusal.{Refusal}
use Rattle.refusal.specs.Code.{code_of}
use Rattle.ids.specs.Limits.{max_text, bridges}
use Rattle.reading_grammar.specs.Fold.{Reading, going, halted}
use Rattle.reading_state.specs.State.{key_count}
use Rattle.reading.specs.Memory.{Memory}
use Rattle.reading_pieces.specs.declared.Paused.{Paused}
use Rattle.reading_pieces.specs.Bounded.{read_on}
use Rattle.reading_pieces.specs.State.{mode_number, mode_letter, machine_of, memory_of, capped, pending_of, pending_number, paused_in, blank_state}
use Rattle.reading_pieces.specs.Broken.{broken_of}
use Rattle.reading_pieces.specs.Safe.{Bounded}
use Rattle.reading_pieces.specs.Calls.{answers, refused_in, fed_to}
use Rattle.reader_bytes.specs.declared.Head.{Head}
use Rattle.reader_bytes.specs.Step.{Lent, lent, steering_in, memory_in, reading_in, Ready}
use Rattle.reader_pieces.specs.Answer.{fed_is, replied}
use Rattle.reader_pieces.specs.Run.{head_of, TakesAll, RefusesOne, fed_on}
use Rattle.reader_pieces.proofs.TakenUp.{taken-ready, taken-same, paused-so}

-- the state of a mode's number and letter, a joint's number and a charge, the rest being as it stands
abbrev pub handed_back : ℕ → ℕ → ℕ → ℕ → ℤ → Head → Lent → Paused
handed_back i m a k z g l =
    record {
      told = 0;
      place = 0;
      read = i;
      mode = m;
      letter = a;
      pending = k;
      tens = g.tens;
      element = g.draft.element;
      selected = g.draft.selected;
      isotope = g.draft.isotope;
      hydrogens = g.draft.hydrogens;
      charge = z;
      extension = g.draft.extension;
      mark = g.draft.mark;
      hub = g.hub.0;
      atoms = g.atoms;
      bonds = g.bonds;
      depth = g.depth;
      hubs = l.hubs;
      openers = l.openers;
      symbols = l.symbols;
      offsets = l.offsets;
      outsides = l.outsides;
      keys = l.keys;
    }

module _ (p : Paused) (s : List ℕ) (atoms bonds : List ℤ) (h₀ : Head) (o y : List ℕ) (eh : h₀ ≡ head_of p) (eo : o ≡ capped bridges p.offsets) (ey : y ≡ capped key_count p.keys) where
  abbrev begun : Lent
  begun = lent p.hubs p.openers p.symbols o p.outsides y atoms bonds

  begins : reading_in h₀ begun ≡ going (machine_of p) (memory_of p atoms bonds)
  begins = rw (eh, eo, ey) (taken-same p atoms bonds)

  pub run-ready : p.told ≡ 0 → broken_of p atoms bonds ≡ false → length p.openers ≡ bridges → length p.offsets ≡ bridges → Ready h₀ begun
  run-ready g e n m = rw (eh, eo, ey) (taken-ready p atoms bonds g e n m)

  module _ (l : Lent) where
    module _ (g : Head) (taken : TakesAll p.read s (reading_in h₀ begun) g l) where
      pub run_short : p.read + length s ≤ max_text
      run_short = taken.short

      pub run-bounded : Bounded (steering_in g l)
      run-bounded = taken.ready.safe.bounded

      reads : read_on p.read (going (machine_of p) (memory_of p atoms bonds)) s ≡ reading_in g l
      reads = ap (λ (x : Reading Memory). read_on p.read x s) (sym begins) ∙ taken.is

      same-state : {m a k : ℕ} {z : ℤ} → m ≡ mode_number g.mode → a ≡ mode_letter g.mode → k ≡ pending_number (pending_of g.pending) → z ≡ g.draft.charge
          → handed_back (p.read + length s) m a k z g l ≡ paused_in (p.read + length s) g.mode (memory_in g l)
      same-state em ea ek ez = rw (em, ea, ek, ez)

      pub run-taken : {m a k : ℕ} {z : ℤ} → m ≡ mode_number g.mode → a ≡ mode_letter g.mode → k ≡ pending_number (pending_of g.pending) → z ≡ g.draft.charge
          → fed_is (replied 0 0 (handed_back (p.read + length s) m a k z g l)) l.atoms l.bonds ≡ fed_on p s atoms bonds
      run-taken em ea ek ez =
          ap (λ (x : Paused). record { result = answers 0 0 l.atoms l.bonds; state = x }) (same-state em ea ek ez ∙ sym (paused-so (p.read + length s) g l taken.ready))
          ∙ sym (ap (fed_to (p.read + length s) atoms bonds) reads)

    module _ (x : Refusal) (q : ℕ) (refused : RefusesOne p.read s (reading_in h₀ begun) (code_of x) q) where
      pub run-early : q ≤ max_text
      run-early = refused.early

      halts : read_on p.read (going (machine_of p) (memory_of p atoms bonds)) s ≡ halted (code_of x) q
      halts = ap (λ (x : Reading Memory). read_on p.read x s) (sym begins) ∙ refused.is

      pub run-refused : {c : ℕ} → c ≡ code_of x → length l.atoms ≡ length atoms → length l.bonds ≡ length bonds → refused_in c q (blank_state c q) l.atoms l.bonds ≡ fed_on p s atoms bonds
      run-refused ec ea eb = rw (ec, ea, eb) (sym (ap (fed_to (p.read + length s) atoms bonds) halts))
