-- The memory stays sane at a bridge, a branch, a bond symbol and a dot. Assumes nothing.
use Prim.Native.Nat.{ℕ, zero, suc, ◌+◌, ◌-◌, ◌≤◌, ◌<◌}
use native.Mathlib.Omega.{arith}
use mathlib.Core.Path.{◌≡◌, refl, sym, ◌∙◌}
use mathlib.Core.Bool.{Bool, true, false, ◌&&◌, ◌||◌, not}
use mathlib.Core.List.{List}
use lib.IntN.{ℤ}
use lib.Dec.{eqb, leb}
use borrow.Author.Tests.{eqb-false, eq-eqb, leb-false, ltb-true, ltb-false, not-true, not-false}
use Rattle.loops.specs.Loop.{pick, each}
use Rattle.loops.proofs.Loops.{each_at}
use Rattle.kinds.specs.Kind.{max_kind, symbol_kind, turned, meet, clash}
use Rattle.kinds.proofs.Kind.{symbol-small, turned-small, meet-small}
use Rattle.reading_grammar.specs.declared.Last.TheVariants.{Plain as plain}
use Rattle.reading_grammar.specs.declared.Mode.TheVariants.{Seq as seq, Inside as inside}
use Rattle.reading_grammar.specs.declared.MachineState.TheVariants.{At as at}
use Rattle.reading_grammar.specs.Fold.{keeps}
use Rattle.reading_grammar.proofs.Ends.{never}
use Rattle.table.specs.Limits.{max_bonds}
use Rattle.table.specs.Cells.{end1, end2}
use Rattle.reading.specs.Memory.{Memory, dotted, symbol, kind_of, between, awaiting, moved, counting, joins, joined_already, close_refusal}
use Rattle.reading.specs.Act.{bridge_bond, or_refuse, bridge_act, branch_act}
use Rattle.reading.proofs.Cases.{by-test}
use Rattle.reading.proofs.Sane.{Tables, Sane, SaneAct}
use lib.ListN.{get_or}
use Rattle.table.specs.Rows.{with_bond}
use Rattle.ids.specs.Limits.{max_depth, bridges}
use Rattle.reading_state.specs.State.{opened, closed, keys_after, bridged, joined}
use Rattle.reading.proofs.Tables.{bond-added}
use Rattle.reading.proofs.Steering.{later, opened-steering, closed-steering, closed-hub, keys-after-length, keys-after, bridged-steering}
use Rattle.reading.proofs.Atoms.{Held}

-- ---- a bridge

-- what was not refused
pub record Allowed (bonds : List ℤ) (m u h : ℕ) : Type 0 where
  pub few : m < max_bonds
  pub apart : u ≡ h → ⊥
  pub fresh : (j : ℕ) → j < m → joins bonds u h j ≡ false

pub allowed : (bonds : List ℤ) (m u h j k : ℕ) → close_refusal bonds m u h j k ≡ 0 → Allowed bonds m u h
unfolding close_refusal joined_already
allowed bonds m u h j k =
    by-test (λ c. c ≡ 0 → Allowed bonds m u h) (leb max_bonds m) 5 _ (λ e (z : 5 ≡ 0). absurd (omega arith)) (λ few.
    by-test (λ c. c ≡ 0 → Allowed bonds m u h) (eqb u h) 7 _ (λ e (z : 7 ≡ 0). absurd (omega arith)) (λ apart.
    by-test (λ c. c ≡ 0 → Allowed bonds m u h) (not (each (λ x. not (joins bonds u h x)) 0 m)) 8 _ (λ e (z : 8 ≡ 0). absurd (omega arith)) (λ fresh.
    by-test (λ c. c ≡ 0 → Allowed bonds m u h) (clash j k) 9 0 (λ e (z : 9 ≡ 0). absurd (omega arith)) (λ same z.
    record {
      few = leb-false max_bonds m few;
      apart = eqb-false u h apart;
      fresh = λ i l. not-true (joins bonds u h i) (each_at (λ x. not (joins bonds u h x)) m i (not-false (each (λ x. not (joins bonds u h x)) 0 m) fresh) l);
    }))))

-- neither way round
no_way : (bonds : List ℤ) (u h j : ℕ) → joins bonds u h j ≡ false → end1 bonds j ≡ u → end2 bonds j ≡ h → ⊥
unfolding joins
no_way bonds u h j f a b = let z : true ≡ false = rw (eq-eqb (end1 bonds j) u a, eq-eqb (end2 bonds j) h b) at f in never (sym z)

no_way_back : (bonds : List ℤ) (u h j : ℕ) → joins bonds u h j ≡ false → end1 bonds j ≡ h → end2 bonds j ≡ u → ⊥
unfolding joins
no_way_back bonds u h j f a b = never (sym f ∙ rw (eq-eqb (end1 bonds j) h a, eq-eqb (end2 bonds j) u b) (or-true (eqb (end1 bonds j) u && eqb (end2 bonds j) h)))
  where
    or-true : (t : Bool) → (t || true) ≡ true
    or-true true = refl
    or-true false = refl

bridge-tables : {p q n m : ℕ} {atoms bonds : List ℤ} (u h k : ℕ) → Tables p q n m atoms bonds → Allowed bonds m u h → u < n → h < n → k ≤ max_kind
    → Tables p q n (m + 1) atoms (with_bond bonds m (between u h k))
bridge-tables {p} {q} {n} {m} {atoms} {bonds} u h k w a un hn k3 =
    by-test (λ x. Tables p q n (m + 1) atoms (with_bond bonds m x)) _ _ _
    (λ e. bond-added w u h k a.few (ltb-true u h e) hn k3 (λ j l. no_way bonds u h j (a.fresh j l)))
    (λ e. bond-added w h u (turned k) a.few (not-above (ltb-false u h e)) un (turned-small k k3) (λ j l. no_way_back bonds u h j (a.fresh j l)))
  where
    not-above : h ≤ u → h < u
    not-above g = omega (arith, a.apart)

module _ {p q d i : ℕ} {μ : Memory} (h : Held p q d i μ) where
  pub bridge-act : (r o : ℕ) → r < bridges → o ≤ i → SaneAct p q (at (seq plain) d) (suc i) (bridge_act r o μ)
  unfolding bridge_act joined
  bridge-act r o hr ho = split (eqb (get_or μ.st.opener r 0) 0) refl
    where
      k : ℕ
      k = kind_of μ.pending

      u : ℕ
      u = get_or μ.st.opener r 0 - 1

      split : (t : Bool) → eqb (get_or μ.st.opener r 0) 0 ≡ t
          → SaneAct p q (at (seq plain) d) (suc i)
          (pick t (keeps (moved (pick t (bridged μ.st r (μ.st.hub.0 + 1) k o μ.st.bonds μ.st.keys) (bridged μ.st r 0 0 0 (μ.st.bonds + 1) (keys_after μ.st r o))) μ))
          (or_refuse (close_refusal μ.bonds μ.st.bonds u μ.st.hub.0 (get_or μ.st.symbol r 0) k) o
          (moved (pick t (bridged μ.st r (μ.st.hub.0 + 1) k o μ.st.bonds μ.st.keys) (bridged μ.st r 0 0 0 (μ.st.bonds + 1) (keys_after μ.st r o))) (bridge_bond r μ))))
      split true e =
          record {
            tables = h.tables;
            steering = bridged-steering h.steering r (μ.st.hub.0 + 1) k o μ.st.bonds μ.st.keys hr (omega (arith, h.hub)) h.kind ho h.steering.keys_length (λ c. omega (arith, h.steering.keys c));
            kind = omega arith;
            stands = record { hub = h.hub; depth = h.depth; half = tt };
          }
      split false e = refusal (close_refusal μ.bonds μ.st.bonds u μ.st.hub.0 (get_or μ.st.symbol r 0) k) refl
        where
          below : u < μ.st.atoms
          below = omega (arith, h.steering.opener r, h.hub)

          refusal : (c : ℕ) → close_refusal μ.bonds μ.st.bonds u μ.st.hub.0 (get_or μ.st.symbol r 0) k ≡ c
              → SaneAct p q (at (seq plain) d) (suc i) (or_refuse c o (moved (bridged μ.st r 0 0 0 (μ.st.bonds + 1) (keys_after μ.st r o)) (bridge_bond r μ)))
          refusal zero z =
              let a = allowed μ.bonds μ.st.bonds u μ.st.hub.0 (get_or μ.st.symbol r 0) k z in
              let open? : 0 < get_or μ.st.opener r 0 = omega (arith, eqb-false (get_or μ.st.opener r 0) 0 e) in
              record {
                tables = bridge-tables u μ.st.hub.0 (meet (get_or μ.st.symbol r 0) k) h.tables a below h.hub (meet-small (get_or μ.st.symbol r 0) k (h.steering.symbol r) h.kind);
                steering = bridged-steering h.steering r 0 0 0 (μ.st.bonds + 1) (keys_after μ.st r o) hr (omega arith) (omega arith) (omega arith) (keys-after-length h.steering r o) (keys-after h.steering r o a.few open? ho);
                kind = omega arith;
                stands = record { hub = h.hub; depth = h.depth; half = tt };
              }
          refusal (suc c) z = tt

  -- ---- a branch
  pub branch-act : SaneAct p q (at inside (suc d)) (suc i) (branch_act i μ)
  unfolding branch_act opened
  branch-act =
      by-test (SaneAct p q (at inside (suc d)) (suc i)) (leb max_depth μ.st.depth) _ _ (λ e. tt) (λ e.
      record {
        tables = h.tables;
        steering = opened-steering h.steering (leb-false max_depth μ.st.depth e) h.hub;
        kind = omega arith;
        stands = record { hub = h.hub; depth = omega (arith, h.depth); half = tt };
      })

  pub unbranch-act : (e : ℕ) → d ≡ suc e → Sane p q (at (seq plain) e) (suc i) (moved (closed μ.st) μ)
  unfolding closed
  unbranch-act e f =
      let deep : 0 < μ.st.depth = omega (arith, h.depth) in
      record {
        tables = h.tables;
        steering = closed-steering h.steering deep;
        kind = omega arith;
        stands = record { hub = closed-hub h.steering deep; depth = omega (arith, h.depth); half = tt };
      }

  -- ---- a bond symbol or a dot
  joint-kind : (b : ℕ) → kind_of (pick (eqb b 46) dotted (symbol (symbol_kind b))) ≤ max_kind
  joint-kind b = by-test (λ x. kind_of x ≤ max_kind) (eqb b 46) dotted (symbol (symbol_kind b)) (λ e. omega arith) (λ e. symbol-small b)

  pub joint-held : (b : ℕ) → Held p q d (suc i) (awaiting (pick (eqb b 46) dotted (symbol (symbol_kind b))) μ)
  joint-held b = record { tables = h.tables; steering = later h.steering; kind = joint-kind b; depth = h.depth; hub = h.hub }

  pub counting-held : (t : ℕ) → Held p q d (suc i) (counting t μ)
  counting-held t = record { tables = h.tables; steering = later h.steering; kind = h.kind; depth = h.depth; hub = h.hub }
