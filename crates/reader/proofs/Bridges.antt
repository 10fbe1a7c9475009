-- Bridges: a law for each way that one can go. Assumes nothing.
use Prim.Native.Nat.{ℕ, zero, suc, ◌+◌, ◌-◌, ◌≤◌, ◌<◌}
use native.Mathlib.Omega.{arith}
use native.Mathlib.Decide.{ℕ_discrete}
use mathlib.Core.Path.{◌≡◌, refl, sym, ap, ◌∙◌, subst}
use mathlib.Core.Bool.{Bool, true, false, not, ◌&&◌, ◌||◌}
use mathlib.Core.List.{List, [], ◌∷◌}
use Rattle.std.specs.Prelude.{Option, Some, None, Result, Ok, Err}
use lib.ListN.{get_or, set}
use lib.IntN.{ℤ}
use lib.Dec.{eqb, ltb}
use Rattle.loops.specs.Loop.{pick}
use Rattle.loops.proofs.Loops.{Left, left-pass, left-fail, left_end, each_all}
use borrow.Author.Tests.{eq-eqb, ne_eqb, eqb-true, eqb-false, le-leb, lt-leb, lt-ltb}
use Rattle.refusal.specs.declared.Refusal.{Refusal}
use Rattle.refusal.specs.declared.Refusal.TheVariants.{ManyBonds, SelfBridge, RepeatedBond, SymbolClash}
use Rattle.ids.specs.Limits.{max_text}
use Rattle.table.specs.Limits.{max_atoms, max_bonds}
use Rattle.table.specs.Cells.{end1, end2}
use Rattle.table.proofs.Keys.{never}
use Rattle.table.specs.Rows.{with_bond, put_bond}
use Rattle.table.specs.declared.Bond.{Bond}
use Rattle.reading_state.specs.declared.Fields.{Fields}
use Rattle.reading_state.specs.declared.Opening.{Opening}
use Rattle.reading_state.specs.State.{Steering, keyed, keys_after, joined, bridged, opening_of}
use Rattle.kinds.specs.Kind.{meet, clash}
use Rattle.reading.specs.Memory.{nothing, symbol, kind_of, joins, joined_already, between, close_refusal, moved}
use Rattle.reading.specs.Act.{or_refuse, bridge_act, bridge_bond}
use Rattle.reading_fields.specs.Rest.{memory}
use Rattle.reader.specs.declared.answer.TextRefusal.{TextRefusal}
use Rattle.reader.specs.Piece.{kind_pending}
use Rattle.reader.specs.Outcome.{Bounded}
use Rattle.reader.specs.Bridge.{Away, Closes, BridgeJoins, Bridges}

module _ (bonds : List ℤ) (a b : ℕ) {m i : ℕ} (l : Left (λ j. not (joins bonds a b j)) m i) where
  pub found : i < m → joins bonds a b i ≡ true → true ≡ joined_already bonds m a b
  unfolding joined_already
  found h e = sym (ap not (left-fail l h (ap not e)))

  pub passed : i < m → joins bonds a b i ≡ false → Left (λ j. not (joins bonds a b j)) m (i + 1)
  passed h e = left-pass l h (ap not e)

  pub none_found : m ≤ i → false ≡ joined_already bonds m a b
  unfolding joined_already
  none_found h = sym (ap not (left_end l h))

-- ---- second ends that are neither of two atoms
or_left : (p q : Bool) → (p || q) ≡ false → p ≡ false
or_left false q e = refl
or_left true q e = e

or_right : (p q : Bool) → (p || q) ≡ false → q ≡ false
or_right false q e = e
or_right true q e = never (sym e)

or-neither : (p q : Bool) → p ≡ false → q ≡ false → (p || q) ≡ false
or-neither false q d e = e
or-neither true q d e = d

pub was-not : (p : Bool) → not p ≡ true → p ≡ false
was-not false e = refl
was-not true e = never e

no_join : (p q t u : Bool) → (t || u) ≡ false → ((p && u) || (q && t)) ≡ false
no_join p q true u e = never (sym e)
no_join p q false true e = never (sym e)
no_join true true false false e = refl
no_join true false false false e = refl
no_join false true false false e = refl
no_join false false false false e = refl

module _ {bonds : List ℤ} {a b : ℕ} where
  pub away-start : {c : Bool} → Away bonds a b 0 c
  away-start = record { all = λ e k l. absurd (omega arith) }

  pub away-step : {i : ℕ} {c : Bool} {y : ℕ} → y ≡ end2 bonds i → Away bonds a b i c → Away bonds a b (i + 1) ((c || eqb y a) || eqb y b)
  away-step {i} {c} {y} d v = record { all = λ e k l. split e k l (ℕ_discrete k i) }
    where
      split : ((c || eqb y a) || eqb y b) ≡ false → (k : ℕ) → k < i + 1 → Dec (k ≡ i) → (eqb (end2 bonds k) a || eqb (end2 bonds k) b) ≡ false
      split e k l (yes s) =
          rw (s, ← d) (or-neither (eqb y a) (eqb y b) (or_right c (eqb y a) (or_left (c || eqb y a) (eqb y b) e)) (or_right (c || eqb y a) (eqb y b) e))
      split e k l (no s) = v.all (or_left c (eqb y a) (or_left (c || eqb y a) (eqb y b) e)) k (omega arith)

  pub away-none : {m : ℕ} → Away bonds a b m false → false ≡ joined_already bonds m a b
  unfolding joined_already joins
  away-none {m} v =
      sym (ap not (each_all (λ i. not (joins bonds a b i)) m (λ j l. ap not (no_join (eqb (end1 bonds j) a) (eqb (end1 bonds j) b) (eqb (end2 bonds j) a) (eqb (end2 bonds j) b) (v.all refl j l)))))

-- ---- the refusals of a bridge that closes
module _ (bonds : List ℤ) (m u h j k i : ℕ) where
  pub closes-many : max_bonds ≤ m → Closes bonds m u h j k i (Err (record { refusal = ManyBonds; at = i }))
  unfolding close_refusal
  closes-many l = (refl, λ p μ. rw (le-leb max_bonds m l))

  module _ (l : m < max_bonds) where
    pub closes-self : u ≡ h → Closes bonds m u h j k i (Err (record { refusal = SelfBridge; at = i }))
    unfolding close_refusal
    closes-self e = (refl, λ p μ. rw (lt-leb max_bonds m l, eq-eqb u h e))

    module _ (n : u ≡ h → ⊥) where
      pub closes-again : true ≡ joined_already bonds m u h → Closes bonds m u h j k i (Err (record { refusal = RepeatedBond; at = i }))
      unfolding close_refusal
      closes-again e = (refl, λ p μ. rw (lt-leb max_bonds m l, ne_eqb u h n, ← e))

      module _ (e : false ≡ joined_already bonds m u h) where
        pub closes-clash : clash j k ≡ true → Closes bonds m u h j k i (Err (record { refusal = SymbolClash; at = i }))
        unfolding close_refusal
        closes-clash c = (refl, λ p μ. rw (lt-leb max_bonds m l, ne_eqb u h n, ← e, c))

        pub closes-bond : {x : Bond} {y : ℕ} → clash j k ≡ false → y ≡ meet j k → x ≡ between u h y → Closes bonds m u h j k i (Ok x)
        unfolding close_refusal
        closes-bond c ey ex = (rw (lt-leb max_bonds m l, ne_eqb u h n, ← e, c), l, ex ∙ ap (between u h) ey)

kind-kept : (k : ℕ) → kind_of (kind_pending k) ≡ k
kind-kept k = split (eqb k 0) refl
  where
    split : (x : Bool) → eqb k 0 ≡ x → kind_of (pick x nothing (symbol k)) ≡ k
    split true e = sym (eqb-true k 0 e)
    split false e = refl

-- a bound of all cells of a list stays one
pub set-le : (l : List ℕ) (r v n : ℕ) → v ≤ n → ((i : ℕ) → get_or l i 0 ≤ n) → (i : ℕ) → get_or (set l r v) i 0 ≤ n
set-le [] r v n h k i = k i
set-le (x ∷ l) zero v n h k zero = h
set-le (x ∷ l) zero v n h k (suc i) = k (suc i)
set-le (x ∷ l) (suc r) v n h k zero = k zero
set-le (x ∷ l) (suc r) v n h k (suc i) = set-le l r v n h (λ j. k (suc j)) i

-- ---- where a number was opened
module _ (t : Steering) (r : ℕ) {x : Option Opening} (ex : x ≡ opening_of t r) where
  opened-free : x ≡ None → get_or t.opener r 0 ≡ 0
  unfolding opening_of
  opened-free e = split (eqb (get_or t.opener r 0) 0) refl (sym ex ∙ e)
    where
      split : (y : Bool) → eqb (get_or t.opener r 0) 0 ≡ y → pick {A = Option Opening} y None (Some (record { atom = record { 0 = get_or t.opener r 0 - 1 }; symbol = get_or t.symbol r 0 })) ≡ None → get_or t.opener r 0 ≡ 0
      split true q h = eqb-true (get_or t.opener r 0) 0 q
      split false q h = absurd (let z : ◌≡◌ {A = ℕ} 0 1 = cc in omega arith)

  opened-at : {o : Opening} → x ≡ Some o → (get_or t.opener r 0 ≡ 0 → ⊥) × (o.atom.0 ≡ get_or t.opener r 0 - 1) × (o.symbol ≡ get_or t.symbol r 0)
  unfolding opening_of
  opened-at {o} e = split (eqb (get_or t.opener r 0) 0) refl (sym ex ∙ e)
    where
      split : (y : Bool) → eqb (get_or t.opener r 0) 0 ≡ y → pick {A = Option Opening} y None (Some (record { atom = record { 0 = get_or t.opener r 0 - 1 }; symbol = get_or t.symbol r 0 })) ≡ Some o
          → (get_or t.opener r 0 ≡ 0 → ⊥) × (o.atom.0 ≡ get_or t.opener r 0 - 1) × (o.symbol ≡ get_or t.symbol r 0)
      split true q h = absurd (let z : ◌≡◌ {A = ℕ} 0 1 = cc in omega arith)
      split false q h = let e : o ≡ record { atom = record { 0 = get_or t.opener r 0 - 1 }; symbol = get_or t.symbol r 0 } = cc in
          rw e (eqb-false (get_or t.opener r 0) 0 q, refl, refl)

  pub opened-small : {o : Opening} → x ≡ Some o → Bounded t → o.atom.0 < 65536
  opened-small e g = omega (arith, (opened-at e).1, g.opener r)

module _ (t : Steering) (r k p : ℕ) (b : List ℤ) {x : Option Opening} (ex : x ≡ opening_of t r) where
  -- a bridge that opens
  pub bridge-opens : {o' y' : List ℕ} → x ≡ None → o' ≡ set t.offset r p → y' ≡ t.keys → BridgeJoins t r k p b b o' y'
  unfolding bridge_act joined
  bridge-opens e eo ey = let q = eq-eqb (get_or t.opener r 0) 0 (opened-free t r ex e) in
      record { is = λ a i f. rw (q, kind-kept k); offsets = eo ∙ rw q; keys = ey ∙ rw q; bonds = λ l. rw q l }

  module _ {o : Opening} (e : x ≡ Some o) where
    free? : eqb (get_or t.opener r 0) 0 ≡ false
    free? = ne_eqb (get_or t.opener r 0) 0 (opened-at t r ex e).0

    -- the refusal that the action looks for, at the atom and with the symbol of the opening
    refusal-at : close_refusal b t.bonds (get_or t.opener r 0 - 1) t.hub.0 (get_or t.symbol r 0) k ≡ close_refusal b t.bonds o.atom.0 t.hub.0 o.symbol k
    refusal-at = rw ((opened-at t r ex e).1, (opened-at t r ex e).2)

    act-closes : {n : ℕ} → close_refusal b t.bonds o.atom.0 t.hub.0 o.symbol k ≡ n → (a : List ℤ) (i : ℕ) (f : Fields) → bridge_act r p (memory t a b (kind_pending k) i f)
        ≡ or_refuse n p (moved (joined t r k p) (bridge_bond r (memory t a b (kind_pending k) i f)))
    unfolding bridge_act
    act-closes z a i f = rw (free?, kind-kept k, refusal-at, z)

    pub bridge-closes : {y : Bond} {b' : List ℤ} {o' y' : List ℕ} → Closes b t.bonds o.atom.0 t.hub.0 o.symbol k p (Ok y) → b' ≡ put_bond b t.bonds y → o' ≡ set t.offset r 0
        → y' ≡ pick (ltb o.atom.0 t.hub.0) (keyed t.keys t.bonds (get_or t.offset r 0) p) (keyed t.keys t.bonds p (get_or t.offset r 0)) → BridgeJoins t r k p b b' o' y'
    unfolding joined put_bond
    bridge-closes {y} {b'} w eb eo ey =
        let v : b' ≡ with_bond b t.bonds (between (get_or t.opener r 0 - 1) t.hub.0 (meet (get_or t.symbol r 0) k)) = eb ∙ rw (lt-ltb t.bonds max_bonds w.1, w.2, (opened-at t r ex e).1, (opened-at t r ex e).2) in
        record {
          is = λ a i f. act-closes w.0 a i f ∙ rw (kind-kept k, v);
          offsets = eo ∙ rw free?;
          keys = ey ∙ rw (free?, (opened-at t r ex e).1);
          bonds = λ l. rw free? (omega (arith, w.1));
        }

    pub bridge-refused : (z : TextRefusal) (b' : List ℤ) (o' y' : List ℕ) → Closes b t.bonds o.atom.0 t.hub.0 o.symbol k p (Err z) → Bridges t r k p b b' o' y' (Err z)
    bridge-refused z b' o' y' h a i f = rw h.0 (act-closes refl a i f ∙ h.1 p (moved (joined t r k p) (bridge_bond r (memory t a b (kind_pending k) i f))))

-- ---- the state after a bridge
module _ (t : Steering) (r k p : ℕ) where
  pub bounded-joined : Bounded t → p ≤ max_text → (joined t r k p).bonds ≤ max_bonds → Bounded (joined t r k p)
  unfolding joined
  bounded-joined g lp l = split (eqb (get_or t.opener r 0) 0) refl
    where
      split : (y : Bool) → eqb (get_or t.opener r 0) 0 ≡ y → Bounded (joined t r k p)
      split true q = rw q (record { atoms = g.atoms; bonds = g.bonds; depth = g.depth; hub = g.hub; stack = g.stack; opener = set-le t.opener r (t.hub.0 + 1) (max_atoms + 1) (omega (arith, g.hub)) g.opener; offset = set-le t.offset r p max_text lp g.offset })
      split false q = let m : t.bonds + 1 ≤ max_bonds = subst (λ (z : Bool). (pick z (bridged t r (t.hub.0 + 1) k p t.bonds t.keys) (bridged t r 0 0 0 (t.bonds + 1) (keys_after t r p))).bonds ≤ max_bonds) q l in
          rw q (record { atoms = g.atoms; bonds = m; depth = g.depth; hub = g.hub; stack = g.stack; opener = set-le t.opener r 0 (max_atoms + 1) (omega arith) g.opener; offset = set-le t.offset r 0 max_text (omega arith) g.offset })

  pub joined-deep : (joined t r k p).depth ≡ t.depth
  unfolding joined
  joined-deep = split (eqb (get_or t.opener r 0) 0)
    where
      split : (y : Bool) → (pick y (bridged t r (t.hub.0 + 1) k p t.bonds t.keys) (bridged t r 0 0 0 (t.bonds + 1) (keys_after t r p))).depth ≡ t.depth
      split true = refl
      split false = refl
