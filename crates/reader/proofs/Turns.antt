-- The loop over the pieces of a sequence: a reading that stood where the sequence begins stands where the next piece begins. Assumes nothing.
use Prim.Native.Nat.{ℕ, ◌≤◌, ◌<◌}
use native.Mathlib.Omega.{arith}
use mathlib.Core.Path.{◌≡◌, refl, ap, ◌∙◌, subst, subst⁻¹}
use mathlib.Core.Bool.{Bool, true, false}
use mathlib.Core.List.{List, []}
use lib.ListN.{length, get_or, set}
use lib.IntN.{ℤ}
use lib.Dec.{eqb}
use Rattle.loops.specs.Loop.{pick}
use Rattle.refusal.specs.declared.Refusal.{Refusal}
use Rattle.refusal.specs.declared.Refusal.TheVariants.{Grammar, DeepBranch}
use Rattle.refusal.specs.Code.{code_of}
use Rattle.reading_grammar.specs.declared.Last.TheVariants.{Plain as plain}
use Rattle.reading_grammar.specs.declared.Mode.{Mode}
use Rattle.reading_grammar.specs.declared.Mode.TheVariants.{Seq as seq, AtomNext as atomNext}
use Rattle.reading_grammar.specs.Fold.{Verdict, bad}
use Rattle.table.specs.Limits.{max_atoms}
use Rattle.reading_state.specs.State.{Steering, steering, with_next_atom, keys_then, joined}
use Rattle.reading_state.specs.declared.State.{State}
use Rattle.reading_state.specs.declared.Fields.{Fields}
use Rattle.ids.specs.Limits.{bridges, max_depth, max_text}
use Rattle.reading.specs.Memory.{Memory, Pending, nothing}
use Rattle.reading.specs.Act.{bridge_act}
use Rattle.reading_fields.specs.Rest.{rest, memory}
use Rattle.reader.specs.declared.piece.Joint.{Joint}
use Rattle.reader.specs.declared.piece.Piece.{Piece}
use Rattle.std.specs.Prelude.{Result, Ok, Err}
use Rattle.reader.specs.declared.answer.TextRefusal.{TextRefusal}
use Rattle.reader.specs.Piece.{pending_of, kind_pending, start_mode, start_pending, after_bridge, Seen, SeenAtom, SeenBridge, SeenBranch, SeenEnd, SeenWrong}
use Rattle.reader.specs.Added.{Reaches, bonds_after, AddsAtom, AddsNot}
use Rattle.reader.specs.Outcome.{Bounded, Reached, Outcome, refused_at, Sequenced, Branched, Closable}
use Rattle.reader.specs.Bridge.{BridgeJoins, Bridges}
use Rattle.reader.proofs.Bridges.{bounded-joined, joined-deep}
use Rattle.reader.proofs.Branches.{deep-refused}

-- bounded, whatever the arrays beside the offsets are, and without any
pub bounded-beside : {st : State} {p x y x' y' : List ℕ} → Bounded (steering st p x y) → Bounded (steering st p x' y')
bounded-beside g = record { atoms = g.atoms; bonds = g.bonds; depth = g.depth; hub = g.hub; stack = g.stack; opener = g.opener; offset = g.offset }

pub bounded-alone : {st : State} {p x y : List ℕ} → Bounded (steering st p x y) → Bounded (steering st [] [] [])
bounded-alone g = record { atoms = g.atoms; bonds = g.bonds; depth = g.depth; hub = g.hub; stack = g.stack; opener = g.opener; offset = λ i. omega arith }

pub closable-alone : (st : State) (p x y : List ℕ) → Closable (steering st p x y) → Closable (steering st [] [] [])
closable-alone st p x y h = (h.0, bounded-alone h.1)

-- the machine rests only where it is not fresh
resting-older : (f : Bool) → start_mode f ≡ seq plain → f ≡ false
resting-older true e = let z : ◌≡◌ {A = Mode} atomNext (seq plain) = e in cc
resting-older false e = refl

-- a reading that reached p rests there
at_rest : {s : List ℕ} {x : Verdict Memory} {p q : ℕ} {m : Mode} {k : Pending} {u : Steering} {a b : List ℤ} → q ≡ p → m ≡ seq plain → k ≡ nothing → Reaches s x p m k u a b → Reaches s x q (seq plain) nothing u a b
at_rest {s} {x} {p} {q} {m} {k} {u} {a} {b} e n l y =
    subst (λ (z : Pending). Reaches s x q (seq plain) z u a b) l (subst (λ (z : Mode). Reaches s x q z k u a b) n (subst⁻¹ (λ (z : ℕ). Reaches s x z m k u a b) e y))

-- the reading where a sequence begins
abbrev begun : List ℕ → Joint → ℕ → Steering → List ℤ → List ℤ → ℕ → Fields → Verdict Memory
begun s j p t a b i d = rest s p atomNext (memory t a b (pending_of j) i d)

-- ---- what holds at each turn of the loop, from p₀ in t with the tables a₀, b₀ on
pub record Turn (s : List ℕ) (j : Joint) (p₀ : ℕ) (t : Steering) (a₀ b₀ : List ℤ) (p : ℕ) (f : Bool) (u : Steering) (a b : List ℤ) : Type 0 where
  pub stands : (i : ℕ) (d : Fields) → Reaches s (begun s j p₀ t a₀ b₀ i d) p (start_mode f) (start_pending f j) u a b
  pub within : p ≤ length s
  pub later : p₀ ≤ p
  pub moved : f ≡ false → p₀ < p
  pub bounded : Bounded u
  pub deep : u.depth ≡ t.depth
  pub long-a : length a ≡ length a₀
  pub long-b : length b ≡ length b₀

module _ {s : List ℕ} {j : Joint} {p₀ : ℕ} {t : Steering} {a₀ b₀ : List ℤ} where
  pub turn-start : p₀ ≤ length s → Bounded t → Turn s j p₀ t a₀ b₀ p₀ true t a₀ b₀
  turn-start l g = record {
    stands = λ i d. record { tens = i; draft = d; is = refl };
    within = l;
    later = omega arith;
    moved = λ e. let z : ◌≡◌ {A = ℕ} 0 1 = cc in absurd (omega arith);
    bounded = g;
    deep = refl;
    long-a = refl;
    long-b = refl;
  }

  refused-sequence : {a b : List ℤ} (e : TextRefusal) → ((i : ℕ) (d : Fields) → begun s j p₀ t a₀ b₀ i d ≡ bad (code_of e.refusal) e.at) → Sequenced s p₀ j t a₀ b₀ a b (Err e)
  refused-sequence e h = record { goes = h; past = tt; stops = tt }

  module _ {p : ℕ} {f : Bool} {u : Steering} {a b : List ℤ} (v : Turn s j p₀ t a₀ b₀ p f u a b) (r : Piece) (h : Seen s p (start_mode f) (start_pending f j) r) where
    -- ---- after an atom
    module _ {k : Joint} {q : ℕ} (e : r ≡ Piece.Atom k q) where
      atom-seen : SeenAtom s p (start_mode f) (start_pending f j) k q
      atom-seen = subst (Seen s p (start_mode f) (start_pending f j)) e h

      atom-stands : (i : ℕ) (d : Fields) → Reaches s (begun s j p₀ t a₀ b₀ i d) q atomNext (pending_of k) u a b
      atom-stands i d = let y = v.stands i d in record { tens = y.tens; draft = y.draft; is = y.is ∙ atom-seen.is u a b y.tens y.draft }

      pub atom-lies : q ≤ length s
      atom-lies = atom-seen.within

      module _ (a' b' : List ℤ) where
        module _ {o m : ℕ} {w : Bool} (atom-added : AddsAtom s q k u a b a' b' o w m) where
          pub atom-in : m ≤ length s
          atom-in = atom-added.within

          pub atom-later : p < m
          atom-later = omega (arith, atom-seen.later, atom-added.later)

          pub atom-room : u.atoms < max_atoms
          atom-room = atom-added.atoms

          pub turn-atom : {u' : Steering} → u' ≡ with_next_atom u o (bonds_after u w) → length a' ≡ length a → length b' ≡ length b → Turn s j p₀ t a₀ b₀ m false u' a' b'
          turn-atom eu ka kb = let w = atom-added in rw eu (record {
            stands = λ i d. let y = atom-stands i d in let c = w.is y.tens y.draft in record { tens = c.tens; draft = c.draft; is = y.is ∙ c.is };
            within = atom-in;
            later = omega (arith, v.later, atom-later);
            moved = λ n. omega (arith, v.later, atom-later);
            bounded = record { atoms = omega (arith, atom-room); bonds = w.bonds v.bounded.bonds; depth = v.bounded.depth; hub = omega (arith, atom-room); stack = v.bounded.stack; opener = v.bounded.opener; offset = v.bounded.offset };
            deep = v.deep;
            long-a = ka ∙ v.long-a;
            long-b = kb ∙ v.long-b;
          })

        pub end-atom : (e : TextRefusal) → AddsNot s q k u a b e.refusal e.at → Sequenced s p₀ j t a₀ b₀ a' b' (Err e)
        end-atom e w = refused-sequence e (λ i d. let z = atom-stands i d in z.is ∙ w.is z.tens z.draft)

    -- ---- after a bridge
    module _ {n k q m : ℕ} (e : r ≡ Piece.Bridge n k q m) where
      bridge-seen : SeenBridge s p (start_mode f) (start_pending f j) n k q m
      bridge-seen = subst (Seen s p (start_mode f) (start_pending f j)) e h

      bridge-stands : (i : ℕ) (d : Fields) → (i' : ℕ) × (d' : Fields) × (begun s j p₀ t a₀ b₀ i d ≡ after_bridge s m (bridge_act n q (memory u a b (kind_pending k) i' d')))
      bridge-stands i d = let y = v.stands i d in let z = bridge-seen.is u a b y.tens y.draft in (z.0, y.draft, y.is ∙ z.1)

      pub bridge-lies : (n < bridges) × (q < m) × (m ≤ length s)
      bridge-lies = (bridge-seen.number, bridge-seen.long, bridge-seen.within)

      pub bridge-later : p < m
      bridge-later = omega (arith, bridge-seen.later, bridge-seen.long)

      module _ (b' : List ℤ) (o' y' : List ℕ) where
        pub turn-bridge : BridgeJoins u n k q b b' o' y' → length s ≤ max_text → {st : State} {x : List ℕ} → steering st (set u.offset n (pick (eqb (get_or u.opener n 0) 0) q 0)) x (keys_then u n q) ≡ joined u n k q → length b' ≡ length b → Turn s j p₀ t a₀ b₀ m false (steering st o' x y') a b'
        turn-bridge y ls {st} {x} eu kb =
            let e : steering st o' x y' ≡ joined u n k q = ap (λ (z : List ℕ). steering st z x y') y.offsets ∙ ap (steering st (set u.offset n (pick (eqb (get_or u.opener n 0) 0) q 0)) x) y.keys ∙ eu in rw e (record {
              stands = λ i d. let z = bridge-stands i d in record { tens = z.0; draft = z.1; is = z.2 ∙ ap (after_bridge s m) (y.is a z.0 z.1) };
              within = bridge-lies.2;
              later = omega (arith, v.later, bridge-later);
              moved = λ n. omega (arith, v.later, bridge-later);
              bounded = bounded-joined u n k q v.bounded (omega (arith, bridge-lies.1, bridge-lies.2)) (y.bonds v.bounded.bonds);
              deep = joined-deep u n k q ∙ v.deep;
              long-a = v.long-a;
              long-b = kb ∙ v.long-b;
            })

        pub end-bridge : (e : TextRefusal) → Bridges u n k q b b' o' y' (Err e) → Sequenced s p₀ j t a₀ b₀ a b' (Err e)
        end-bridge e w = refused-sequence e (λ i d. let z = bridge-stands i d in z.2 ∙ ap (after_bridge s m) (w a z.0 z.1))

    -- ---- after a branch
    module _ {q : ℕ} (e : r ≡ Piece.Branch q) where
      branch-seen : SeenBranch s p (start_mode f) (start_pending f j) q
      branch-seen = subst (Seen s p (start_mode f) (start_pending f j)) e h

      branch-stands : (i : ℕ) (d : Fields) → Reaches s (begun s j p₀ t a₀ b₀ i d) q (seq plain) nothing u a b
      branch-stands i d = at_rest branch-seen.here branch-seen.mode branch-seen.joint (v.stands i d)

      pub branch-moved : p₀ < q
      branch-moved = omega (arith, branch-seen.here, v.moved (resting-older f branch-seen.mode))

      pub branch-lies : q ≡ p
      branch-lies = branch-seen.here

      pub branch_in : q < length s
      branch_in = omega (arith, branch-seen.here, branch-seen.within)

      pub branch-byte : get_or s q 0 ≡ 40
      branch-byte = ap (λ (z : ℕ). get_or s z 0) branch-seen.here ∙ branch-seen.byte

      pub end-deep : max_depth ≤ u.depth → Sequenced s p₀ j t a₀ b₀ a b (refused_at DeepBranch q)
      end-deep l = refused-sequence (record { refusal = DeepBranch; at = q }) (λ i d. let y = branch-stands i d in y.is ∙ deep-refused s q u a b branch_in branch-byte l y.tens y.draft)

      module _ {a' b' : List ℤ} (o : Reached) (g : Branched s q u a b a' b' (Ok o)) where
        pub turn-branch : length a' ≡ length a → length b' ≡ length b → Turn s j p₀ t a₀ b₀ o.at false o.st a' b'
        turn-branch ka kb = let y = g.past in record {
          stands = λ i d. let z = branch-stands i d in let c = g.goes z.tens z.draft in
              record { tens = c.tens; draft = c.draft; is = z.is ∙ c.is };
          within = y.within;
          later = omega (arith, branch-moved, y.later);
          moved = λ n. omega (arith, branch-moved, y.later);
          bounded = y.bounded;
          deep = y.deep ∙ v.deep;
          long-a = ka ∙ v.long-a;
          long-b = kb ∙ v.long-b;
        }

      pub end_branch : {a' b' : List ℤ} (e : TextRefusal) → Branched s q u a b a' b' (Err e) → Sequenced s p₀ j t a₀ b₀ a' b' (Err e)
      end_branch e g = refused-sequence e (λ i d. let y = branch-stands i d in y.is ∙ g.goes y.tens y.draft)

    -- ---- at the end of the sequence
    pub end-wrong : {q : ℕ} → r ≡ Piece.Wrong q → Sequenced s p₀ j t a₀ b₀ a b (refused_at Grammar q)
    end-wrong {q} e = let w : SeenWrong s p (start_mode f) (start_pending f j) q = subst (Seen s p (start_mode f) (start_pending f j)) e h in
        refused-sequence (record { refusal = Grammar; at = q }) (λ i d. let y = v.stands i d in y.is ∙ w.is u a b y.tens y.draft)

    pub end-fine : {q : ℕ} → r ≡ Piece.End q → Sequenced s p₀ j t a₀ b₀ a b (Ok (record { at = q; st = u }))
    end-fine {q} e = let w : SeenEnd s p (start_mode f) (start_pending f j) q = subst (Seen s p (start_mode f) (start_pending f j)) e h in
        record {
          goes = λ i d. at_rest w.here w.mode w.joint (v.stands i d);
          past = record { later = omega (arith, w.here, v.moved (resting-older f w.mode)); within = omega (arith, w.here, v.within); bounded = v.bounded; deep = v.deep };
          stops = λ n. w.here ∙ w.stops (λ z. n (ap (λ (y : ℕ). get_or s y 0) w.here ∙ z));
        }
