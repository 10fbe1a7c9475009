-- P8's rule of reading, in the words of the paper: the order of an atom's neighbours in the text, the stored order, and the number of swaps between them. Assumes nothing.
use Prim.Native.Nat.{ℕ, ◌+◌, ◌*◌, ◌<◌}
use native.Mathlib.Omega.{arith}
use native.Mathlib.Decide.{ℕ_discrete}
use mathlib.Core.Path.{◌≡◌, sym, ap, subst, ◌∙◌}
use mathlib.Core.Bool.{Bool, true, false}
use mathlib.Core.List.{List}
use lib.ListN.{length, get_or}
use lib.IntN.{ℤ}
use lib.Dec.{eqb}
use Rattle.loops.proofs.Loops.{repeated-at}
use Rattle.loops.specs.Loop.{pick}
use Rattle.parity.specs.Parity.{Swaps, odd_number}
use Rattle.parity.specs.Mark.{mark_if}
use Rattle.table.specs.declared.Atom.{Atom}
use Rattle.table.specs.Cells.{number, mark, end2}
use Rattle.table.specs.Orders.{turns}
use Rattle.ids.specs.Limits.{bridges}
use Rattle.reading_grammar.specs.declared.MachineState.{MachineState}
use Rattle.reading_grammar.specs.declared.MachineState.TheVariants.{Start as start}
use Rattle.reading_grammar.specs.Fold.{going}
use Rattle.reading_state.specs.State.{key_count, started}
use Rattle.reading.specs.Memory.{Memory}
use Rattle.reading.specs.Read.{ReadResult, zeros, beginning, text_rank, read_of}
use Rattle.reading.specs.Conditions.{bytes_read, Fits}
use Rattle.reading.specs.Claims.{Accepted}
use Rattle.reading.proofs.Step.{sane-beginning}
use Rattle.reading.proofs.Accepted.{read-sane, read-accepted}
use Rattle.reading_orders.specs.Neighbours.{stored_order, text_order, TurnedBySwaps}
use Rattle.reading_orders.proofs.Swaps.{perm-swaps}
use Rattle.reading_orders.proofs.Told.{Told}
use Rattle.reading_orders.proofs.Orders.{same-neighbours, orders-turn}
use Rattle.reading_orders.proofs.Steps.{Reach, ReachReading, reach-read}

-- ---- what was read tells the order of the text
reach-beginning : (atoms bonds : List ℤ) → Reach 0 start (beginning atoms bonds)
unfolding started
reach-beginning atoms bonds =
    record {
      every = (
        record {
          behind = λ k. omega (arith, repeated-at {A = ℕ} key_count k 0);
          opened = λ r l. absurd (omega (arith, repeated-at {A = ℕ} bridges r 0));
          once = λ j k n l. absurd (omega (arith, repeated-at {A = ℕ} key_count j 0));
          waiting = λ r k l. absurd (omega (arith, repeated-at {A = ℕ} bridges r 0));
          others = λ r c n l. absurd (omega (arith, repeated-at {A = ℕ} bridges r 0));
          unwritten = λ k l. repeated-at {A = ℕ} key_count k 0;
        },
        λ b c x l g. absurd (omega arith),
      );
      sign = λ d e. absurd (let z : ◌≡◌ {A = ℕ} 0 1 = cc in omega arith);
      tens = λ d e. absurd (let z : ◌≡◌ {A = ℕ} 0 1 = cc in omega arith);
    }

-- two ends of two bonds have their keys at different places
places-differ : (b c : ℕ) (x y : Bool) → (b ≡ c → ⊥) → 2 * b + pick x 1 0 ≡ 2 * c + pick y 1 0 → ⊥
places-differ b c true true n e = n (omega arith)
places-differ b c true false n e = omega arith
places-differ b c false true n e = omega arith
places-differ b c false false n e = n (omega arith)

module _ (s : List ℕ) (atoms bonds : List ℤ) where
  pub read_told : {σ : MachineState} {μ : Memory} → Fits s atoms bonds → bytes_read s atoms bonds ≡ going σ μ → Told μ.st.keys μ.bonds μ.st.bonds
  read_told {σ} {μ} f e =
      let z : 0 + length s ≡ length s = omega arith in
      let w : Reach (length s) σ μ = subst (ReachReading (length s)) e (subst (λ (n : ℕ). ReachReading n (bytes_read s atoms bonds)) z (reach-read (length atoms) (length bonds) s 0 (going start (beginning (zeros atoms) (zeros bonds))) (sane-beginning atoms bonds f.room) (reach-beginning (zeros atoms) (zeros bonds)))) in
      let v = read-sane s atoms bonds f e in
      record {
        order = λ b l. (v.tables.bond_rows b l).order;
        apart = λ a b c n. w.every.0.once (2 * b + pick (eqb (end2 μ.bonds b) a) 1 0) (2 * c + pick (eqb (end2 μ.bonds c) a) 1 0) (places-differ b c (eqb (end2 μ.bonds b) a) (eqb (end2 μ.bonds c) a) n);
        later = λ a b c. w.every.1 b c (eqb (end2 μ.bonds c) a);
        short = λ a b. omega (arith, w.every.0.behind (2 * b + pick (eqb (end2 μ.bonds b) a) 1 0), f.short);
      }

  module _ {t : ReadResult} (w : Accepted s atoms bonds t) where
    accepted-told : Told w.memory.st.keys t.bonds t.bond_count
    accepted-told =
        let c = w.counts in
        let v = read_told w.fits w.reached in
        subst (λ (u : List ℤ). Told w.memory.st.keys u t.bond_count) (sym c.2) (subst (Told w.memory.st.keys w.memory.bonds) (sym c.1) v)

    -- the ranks by which reading turns marks compute how far the two orders are apart: an odd or an even number of swaps, whichever leads from one to the other
    pub text-order-turns : (a k : ℕ) → Swaps (stored_order t.atoms t.bonds t.bond_count a) (text_order w.memory.st.keys t.atoms t.bonds t.bond_count a) k
        → turns (text_rank w.memory.st.keys t.bonds a) t.atoms t.bonds t.bond_count a ≡ odd_number k
    text-order-turns a k = orders-turn accepted-told a t.atoms k

    -- the mark in the table is the stored one
    mark-stored : (a : ℕ) → a < t.atom_count → mark t.atoms a ≡ mark_if (turns (text_rank w.memory.st.keys t.bonds a) t.atoms t.bonds t.bond_count a) (mark w.memory.atoms a)
    unfolding number
    mark-stored a l = split (ℕ_discrete (get_or w.memory.st.outside a 0) 1)
      where
        split : Dec (get_or w.memory.st.outside a 0 ≡ 1) → mark t.atoms a ≡ mark_if (turns (text_rank w.memory.st.keys t.bonds a) t.atoms t.bonds t.bond_count a) (mark w.memory.atoms a)
        split (yes e) = ap (λ (x : Atom). number x.mark) ((w.rows a l).outside e)
        split (no n) = ap (λ (x : Atom). number x.mark) ((w.rows a l).bracket n)

    -- THE STATEMENT (02, P8): "reading turns it when the two orders differ by an odd number of swaps"
    pub turned-by-swaps : (a : ℕ) → a < t.atom_count → TurnedBySwaps w.memory.st.keys t a (mark w.memory.atoms a)
    turned-by-swaps a l =
        let r = perm-swaps (same-neighbours accepted-told a t.atoms) in
        record {
          some = r.number;
          lead = r.swaps;
          stored = λ n e. mark-stored a l ∙ ap (λ (x : Bool). mark_if x (mark w.memory.atoms a)) (text-order-turns a n e);
        }

  -- so of every text that is read with code 0
  pub read-by-swaps : (ok : (read_of s atoms bonds).code ≡ 0) (a : ℕ) → a < (read_of s atoms bonds).atom_count
      → let μ : Memory = (read-accepted s atoms bonds ok).memory in TurnedBySwaps μ.st.keys (read_of s atoms bonds) a (mark μ.atoms a)
  read-by-swaps ok a l = turned-by-swaps (read-accepted s atoms bonds ok) a l
