-- A branch: what is left to read before its `(` is what is left after its `)`. Assumes nothing.
use Prim.Native.Nat.{ℕ, suc, ◌+◌, ◌-◌, ◌≤◌, ◌<◌}
use native.Mathlib.Omega.{arith}
use native.Mathlib.Numerals.{add-one}
use mathlib.Core.Path.{◌≡◌, refl, sym, ap, ◌∙◌, subst}
use mathlib.Core.Bool.{Bool, true, false}
use mathlib.Core.List.{List}
use lib.ListN.{length, get_or}
use lib.IntN.{ℤ}
use lib.Dec.{eqb}
use borrow.Author.Tests.{eq-eqb, ne_eqb, eqb-true, eqb-false, le-leb, lt-leb}
use Rattle.loops.specs.Loop.{pick}
use Rattle.element.specs.Symbols.{among, letters}
use Rattle.element.specs.Lookup.{letter_of, selected_of}
use Rattle.refusal.specs.declared.Refusal.{Refusal}
use Rattle.refusal.specs.declared.Refusal.TheVariants.{Grammar}
use Rattle.reading_grammar.specs.Grammar.{nonzero, bond_symbols}
use Rattle.reading_grammar.specs.declared.Last.TheVariants.{Plain as plain}
use Rattle.reading_grammar.specs.declared.Mode.TheVariants.{Seq as seq, AtomNext as atomNext}
use Rattle.reading_grammar.specs.declared.Move.TheVariants.{Up as up, Down as down}
use Rattle.reading_grammar.specs.Machine.{next, resting, atom_or, bridge_or}
use Rattle.reading_grammar.specs.Fold.{keeps, good, bad}
use Rattle.table.specs.Limits.{max_atoms}
use Rattle.reading_state.specs.declared.Fields.{Fields}
use Rattle.ids.specs.Limits.{max_depth}
use Rattle.reading_state.specs.State.{Steering, opened, closed}
use Rattle.reading.specs.Memory.{Memory, nothing, moved}
use Rattle.reading.specs.Act.{mode_act, branch_act}
use Rattle.reading_fields.specs.Rest.{rest, memory}
use Rattle.reading_fields.specs.Field.{Peeked}
use Rattle.reading_fields.proofs.Rest.{rest_end, rest_up, rest-up-refused, rest-down}
use Rattle.reading_fields.proofs.Bytes.{there, byte-in}
use Rattle.reader.specs.declared.piece.Start.{Start}
use Rattle.std.specs.Prelude.{Result, Ok, Err}
use Rattle.reader.specs.declared.answer.TextRefusal.{TextRefusal}
use Rattle.reader.specs.Piece.{pending_of, Joined}
use Rattle.reader.specs.Added.{Reaches}
use Rattle.reader.specs.Outcome.{Bounded, Reached, Outcome, refused_at, Sequenced, Branched, Closable, branch_ended}
use Rattle.reader.proofs.Bridges.{set-le}

open_up : (b : ℕ) → b ≡ 40 → next (seq plain) b ≡ up
unfolding next atom_or bridge_or letters among nonzero bond_symbols
open_up b e = rw e

open-act : (b p : ℕ) (μ : Memory) → b ≡ 40 → mode_act (seq plain) b p μ ≡ branch_act p μ
unfolding mode_act letters among nonzero bond_symbols letter_of selected_of
open-act b p μ e = rw e

pub close_down : (b : ℕ) → b ≡ 41 → next (seq plain) b ≡ down
unfolding next atom_or bridge_or letters among nonzero bond_symbols
close_down b e = rw e

close-act : (b p : ℕ) (μ : Memory) → b ≡ 41 → mode_act (seq plain) b p μ ≡ keeps (moved (closed μ.st) μ)
unfolding mode_act letters among nonzero bond_symbols letter_of selected_of
close-act b p μ e = rw e

pub bounded-opened : {t u : Steering} → u ≡ opened t → Bounded t → t.depth < max_depth → Bounded u
unfolding opened
bounded-opened {t} e g h = rw e (record { atoms = g.atoms; bonds = g.bonds; depth = omega arith; hub = g.hub; stack = set-le t.stack t.depth t.hub.0 max_atoms g.hub g.stack; opener = g.opener; offset = g.offset })

bounded_closed : {t u : Steering} → u ≡ closed t → Bounded t → Bounded u
unfolding closed
bounded_closed {t} e g = rw e (record { atoms = g.atoms; bonds = g.bonds; depth = omega (arith, g.depth); hub = g.stack (t.depth - 1); stack = set-le t.stack (t.depth - 1) 0 max_atoms (omega arith) g.stack; opener = g.opener; offset = g.offset })

-- the text ends in a branch
ends-inside : (s : List ℕ) (p d : ℕ) (μ : Memory) → p ≡ length s → μ.st.depth ≡ suc d → rest s p (seq plain) μ ≡ bad 3 p
unfolding resting
ends-inside s p d μ z e =
    rest_end s p (seq plain) μ (omega arith) ∙ ap (λ (k : ℕ). pick (resting (seq plain) k) (good μ) (bad 3 (length s))) e ∙ ap (bad 3) (sym z)

-- ---- the end of a branch
module _ (s : List ℕ) (o : Reached) {c : ℕ} (k : Peeked s o.at c) where
  pub ended-closed : {v : Steering} → c ≡ 41 → v ≡ closed o.st → ◌≡◌ {A = Outcome} (Ok (record { at = o.at + 1; st = v })) (branch_ended s o)
  ended-closed z e = rw (e, eq-eqb (get_or s o.at 0) 41 (sym k.is ∙ z))

  pub ended-unclosed : (c ≡ 41 → ⊥) → refused_at Grammar o.at ≡ branch_ended s o
  ended-unclosed n = rw (ne_eqb (get_or s o.at 0) 41 (λ y. n (k.is ∙ y)))

module _ (s : List ℕ) (p : ℕ) (t : Steering) (a b : List ℤ) (l : p < length s) (e : get_or s p 0 ≡ 40) where
  pub deep-refused : max_depth ≤ t.depth → (i : ℕ) (f : Fields) → rest s p (seq plain) (memory t a b nothing i f) ≡ bad 6 p
  unfolding branch_act
  deep-refused h i f = rest-up-refused s p (seq plain) (memory t a b nothing i f) (there s p) l (open_up (get_or s p 0) e) (open-act (get_or s p 0) p (memory t a b nothing i f) e ∙ rw (le-leb max_depth t.depth h))

  module _ (h : t.depth < max_depth) {u : Steering} (eu : u ≡ opened t) {r : Start} (j : Joined s (p + 1) r) where
    goes_in : (i : ℕ) (f : Fields) → rest s p (seq plain) (memory t a b nothing i f) ≡ rest s r.at atomNext (memory u a b (pending_of r.joint) i f)
    unfolding branch_act opened
    goes_in i f =
        rest_up s p (seq plain) (memory t a b nothing i f) (there s p) l (open_up (get_or s p 0) e) {ν = memory (opened t) a b nothing i f}
        (open-act (get_or s p 0) p (memory t a b nothing i f) e ∙ rw (lt-leb max_depth t.depth h)) (add-one t.depth)
        ∙ j.is (opened t) a b i f ∙ ap (λ (v : Steering). rest s r.at atomNext (memory v a b (pending_of r.joint) i f)) (sym eu)

    -- where its sequence was read, the branch is open
    pub inner-closable : {a' b' : List ℤ} (o : Reached) → Sequenced s r.at r.joint u a b a' b' (Ok o) → Closable o.st
    unfolding opened
    inner-closable o g = (omega (arith, g.past.deep, ap (λ (v : Steering). v.depth) eu), g.past.bounded)

    module _ {a' b' : List ℤ} where
      -- the sequence of the branch was read up to q, and the branch closes there, or does not
      module _ {q : ℕ} {v : Steering} (g : Sequenced s r.at r.joint u a b a' b' (Ok (record { at = q; st = v }))) where
        inner-deep : v.depth ≡ t.depth + 1
        unfolding opened
        inner-deep = g.past.deep ∙ ap (λ (y : Steering). y.depth) eu

        inner : (i : ℕ) (f : Fields) → Reaches s (rest s p (seq plain) (memory t a b nothing i f)) q (seq plain) nothing v a' b'
        inner i f = let y = g.goes i f in record { tens = y.tens; draft = y.draft; is = goes_in i f ∙ y.is }

        branch_closes : get_or s q 0 ≡ 41 → Branched s p t a b a' b' (Ok (record { at = q + 1; st = closed v }))
        unfolding closed
        branch_closes z = let w = byte-in (there s q) z in record {
          goes = λ i f. let y = inner i f in record {
            tens = y.tens;
            draft = y.draft;
            is = y.is ∙ rest-down s q (seq plain) (memory v a' b' nothing y.tens y.draft) (there s q) w (close_down (get_or s q 0) z) {ν = memory (closed v) a' b' nothing y.tens y.draft}
                (close-act (get_or s q 0) q (memory v a' b' nothing y.tens y.draft) z) (omega (arith, inner-deep));
          };
          past = record {
            later = omega (arith, g.past.later, j.later);
            within = omega (arith, w);
            bounded = bounded_closed refl g.past.bounded;
            deep = omega (arith, inner-deep);
          };
        }

        branch-unclosed : (get_or s q 0 ≡ 41 → ⊥) → Branched s p t a b a' b' (refused_at Grammar q)
        branch-unclosed n =
            let d : v.depth ≡ suc t.depth = omega (arith, inner-deep) in
            record {
              goes = λ i f. let y = inner i f in y.is ∙ ends-inside s q t.depth (memory v a' b' nothing y.tens y.draft) (g.stops n) d;
              past = tt;
            }

      -- the branch ends as its sequence did
      pub branch-ends : (o : Reached) {x : Outcome} → Sequenced s r.at r.joint u a b a' b' (Ok o) → x ≡ branch_ended s o → Branched s p t a b a' b' x
      branch-ends o g ex = rw ex (split (eqb (get_or s o.at 0) 41) refl)
        where
          split : (z : Bool) → eqb (get_or s o.at 0) 41 ≡ z → Branched s p t a b a' b' (pick z (Ok (record { at = o.at + 1; st = closed o.st })) (refused_at Grammar o.at))
          split true e = branch_closes g (eqb-true (get_or s o.at 0) 41 e)
          split false e = branch-unclosed g (eqb-false (get_or s o.at 0) 41 e)

      pub branch-refused : (e : TextRefusal) → Sequenced s r.at r.joint u a b a' b' (Err e) → Branched s p t a b a' b' (Err e)
      branch-refused e g = record { goes = λ i f. goes_in i f ∙ g.goes i f; past = tt }
