-- What the bytes at an offset make the next piece: a law for each way. Assumes nothing.
use Prim.Native.Nat.{ℕ, zero, suc, ◌+◌, ◌-◌, ◌*◌, ◌≤◌, ◌<◌}
use native.Mathlib.Omega.{arith}
use mathlib.Core.Path.{◌≡◌, refl, sym, ap, ◌∙◌, subst⁻¹}
use mathlib.Core.Bool.{Bool, true, false, ◌&&◌, not}
use mathlib.Core.List.{List}
use lib.ListN.{length, get_or}
use lib.IntN.{ℤ}
use lib.Dec.{eqb, leb}
use borrow.Author.Tests.{ne_eqb, eqb-true, leb-true, not-true}
use Rattle.loops.specs.Loop.{pick}
use Rattle.loops.proofs.Loops.{and_left, and_right}
use Rattle.element.specs.Symbols.{among, letters}
use Rattle.element.specs.Lookup.{letter_of, selected_of}
use Rattle.element.specs.declared.Letter.{Letter}
use Rattle.element.specs.declared.Letter.TheVariants.{Plain as Alone, Selected, Half, Bracket as Opening, Nothing}
use Rattle.reading_grammar.specs.Grammar.{nonzero, digits, bond_symbols}
use Rattle.reading_grammar.specs.declared.Last.TheVariants.{Plain as plain}
use Rattle.reading_grammar.specs.declared.Mode.{Mode}
use Rattle.reading_grammar.specs.declared.Mode.TheVariants.{Seq as seq, Bond as bond, AtomNext as atomNext, Inside as inside, Percent as percent, Percent1 as percent1}
use Rattle.reading_grammar.specs.declared.Move.TheVariants.{Stop as stop, To as to}
use Rattle.reading_grammar.specs.Machine.{next, resting, atom_or, bridge_or}
use Rattle.reading_grammar.specs.Fold.{keeps, refuses}
use Rattle.reading_grammar.proofs.Ends.{each}
use Rattle.reading_state.specs.declared.Fields.{Fields}
use Rattle.reading_state.specs.State.{Steering, joined, keys_after, bridged}
use Rattle.kinds.specs.Kind.{elided, single, double, triple, up, down, symbol_kind}
use Rattle.reading.specs.Memory.{Memory, nothing, dotted, symbol, counting, moved, kind_of, close_refusal}
use Rattle.reading.specs.Bracket.{digit}
use Rattle.reading.specs.Act.{Acts, mode_act, bridge_act, or_refuse, bridge_bond}
use Rattle.reading_fields.specs.Rest.{rest, memory}
use Rattle.reading_fields.specs.Field.{Peeked}
use Rattle.reading_fields.proofs.Rest.{rest-to, rest-refused, rest-stop, rest-dead, alike, alike-in, alike-dead}
use Rattle.reading_fields.proofs.Bytes.{digit-high, nonzero-digit, digit-in, byte-in}
use Rattle.reading_fields.proofs.Letters.{nothing-first}
use Rattle.reader.specs.declared.piece.Joint.{Joint}
use Rattle.reader.specs.declared.piece.Piece.{Piece}
use Rattle.reader.specs.Piece.{joint_of, kind_mode, kind_pending, start_mode, start_pending, Loose, Free, after_bridge, SeenAtom, Seen, Joined}

-- ---- an atom, where no other piece can begin
plain-dot : (s : List ℕ) (p : ℕ) {b : ℕ} (μ : Memory) → Peeked s p b → p < length s → among b nonzero ≡ false → eqb b 37 ≡ false → among b bond_symbols ≡ false → eqb b 46 ≡ false → eqb b 40 ≡ false → eqb b 41 ≡ false
    → rest s p (seq plain) μ ≡ rest s p atomNext μ
unfolding next mode_act bridge_or
plain-dot s p {b} μ k l z h c d o e = by-letter (letter_of b) refl
  where
    same : next (seq plain) b ≡ next atomNext b
    same = rw (z, h, c, d, o, e)

    by-letter : (x : Letter) → letter_of b ≡ x → rest s p (seq plain) μ ≡ rest s p atomNext μ
    by-letter (Alone v) n = alike-in s p (seq plain) atomNext μ k l same (rw n)
    by-letter (Selected v) n = alike-in s p (seq plain) atomNext μ k l same (rw n)
    by-letter Half n = alike-in s p (seq plain) atomNext μ k l same (rw n)
    by-letter Opening n = alike-in s p (seq plain) atomNext μ k l same (rw n)
    by-letter Nothing n = rest-dead s p (seq plain) μ k l (same ∙ nothing-first b n stop) ∙ sym (rest-dead s p atomNext μ k l (nothing-first b n stop))

bond-dot : (s : List ℕ) (p : ℕ) {b : ℕ} (μ : Memory) → Peeked s p b → among b nonzero ≡ false → eqb b 37 ≡ false → rest s p bond μ ≡ rest s p atomNext μ
unfolding next mode_act bridge_or resting
bond-dot s p {b} μ k z h = by-letter (letter_of b) refl
  where
    same : next bond b ≡ next atomNext b
    same = rw (z, h)

    by-letter : (x : Letter) → letter_of b ≡ x → rest s p bond μ ≡ rest s p atomNext μ
    by-letter (Alone v) n = alike s p bond atomNext μ k same (rw n) refl
    by-letter (Selected v) n = alike s p bond atomNext μ k same (rw n) refl
    by-letter Half n = alike s p bond atomNext μ k same (rw n) refl
    by-letter Opening n = alike s p bond atomNext μ k same (rw n) refl
    by-letter Nothing n = alike-dead s p bond atomNext μ k (same ∙ nothing-first b n stop) (nothing-first b n stop) refl

inside-dot : (s : List ℕ) (p : ℕ) {b : ℕ} (μ : Memory) → Peeked s p b → among b bond_symbols ≡ false → eqb b 46 ≡ false → rest s p inside μ ≡ rest s p atomNext μ
unfolding next mode_act resting
inside-dot s p {b} μ k z h = by-letter (letter_of b) refl
  where
    same : next inside b ≡ next atomNext b
    same = rw (z, h)

    by-letter : (x : Letter) → letter_of b ≡ x → rest s p inside μ ≡ rest s p atomNext μ
    by-letter (Alone v) n = alike s p inside atomNext μ k same (rw n) refl
    by-letter (Selected v) n = alike s p inside atomNext μ k same (rw n) refl
    by-letter Half n = alike s p inside atomNext μ k same (rw n) refl
    by-letter Opening n = alike s p inside atomNext μ k same (rw n) refl
    by-letter Nothing n = alike-dead s p inside atomNext μ k (same ∙ nothing-first b n stop) (nothing-first b n stop) refl

-- ---- a bond symbol and a dot
pub no_kind : (b : ℕ) → symbol_kind b ≡ 0 → among b bond_symbols ≡ false
unfolding symbol_kind bond_symbols among
no_kind b h = split (eqb b 45) (eqb b 61) (eqb b 35) (eqb b 47) (eqb b 92) h
  where
    split : (t u v w x : Bool) → ◌≡◌ {A = ℕ} (pick t single (pick u double (pick v triple (pick w up (pick x down elided))))) 0 → pick t true (pick u true (pick v true (pick w true (pick x true false)))) ≡ false
    split true u v w x h = absurd (omega arith)
    split false true v w x h = absurd (omega arith)
    split false false true w x h = absurd (omega arith)
    split false false false true x h = absurd (omega arith)
    split false false false false true h = absurd (omega arith)
    split false false false false false h = refl

kind-symbol : (b : ℕ) → (symbol_kind b ≡ 0 → ⊥) → among b bond_symbols ≡ true
unfolding symbol_kind bond_symbols among
kind-symbol b h = split (eqb b 45) (eqb b 61) (eqb b 35) (eqb b 47) (eqb b 92) h
  where
    split : (t u v w x : Bool) → (◌≡◌ {A = ℕ} (pick t single (pick u double (pick v triple (pick w up (pick x down elided))))) 0 → ⊥) → pick t true (pick u true (pick v true (pick w true (pick x true false)))) ≡ true
    split true u v w x h = refl
    split false true v w x h = refl
    split false false true w x h = refl
    split false false false true x h = refl
    split false false false false true h = refl
    split false false false false false h = absurd (h refl)

-- what a bond symbol does after an atom, and at the start of a branch
record Joins (b : ℕ) : Type 0 where
  pub out : next (seq plain) b ≡ to bond
  pub inner : next inside b ≡ to atomNext
  pub letter : letter_of b ≡ Nothing
  pub digit : among b nonzero ≡ false
  pub percent : eqb b 37 ≡ false
  pub point : eqb b 46 ≡ false
  pub some : 0 < b

symbol-joins : (b : ℕ) → among b bond_symbols ≡ true → Joins b
unfolding next atom_or bridge_or letters among nonzero bond_symbols letter_of selected_of
symbol-joins = each Joins bond_symbols (record { out = refl; inner = refl; letter = refl; digit = refl; percent = refl; point = refl; some = omega arith }, (record { out = refl; inner = refl; letter = refl; digit = refl; percent = refl; point = refl; some = omega arith }, (record { out = refl; inner = refl; letter = refl; digit = refl; percent = refl; point = refl; some = omega arith }, (record { out = refl; inner = refl; letter = refl; digit = refl; percent = refl; point = refl; some = omega arith }, (record { out = refl; inner = refl; letter = refl; digit = refl; percent = refl; point = refl; some = omega arith }, tt)))))

module _ (s : List ℕ) (p : ℕ) {b : ℕ} (k : Peeked s p b) where
  module _ {x : ℕ} (e : x ≡ symbol_kind b) (n : x ≡ 0 → ⊥) where
    listed : among b bond_symbols ≡ true
    listed = kind-symbol b (λ z. n (e ∙ z))

    pub symbol-in : p < length s
    symbol-in = k.within (symbol-joins b listed).some

    symbol-step : (t : Steering) (a c : List ℤ) (i : ℕ) (f : Fields) → rest s p (seq plain) (memory t a c nothing i f) ≡ rest s (p + 1) bond (memory t a c (symbol x) i f)
    unfolding mode_act
    symbol-step t a c i f = let j = symbol-joins b listed in
        rest-to s p (seq plain) (memory t a c nothing i f) k symbol-in j.out {ν = memory t a c (symbol x) i f} (rw (j.letter, j.digit, j.percent, listed, j.point, e)) refl

    inner-step : (t : Steering) (a c : List ℤ) (i : ℕ) (f : Fields) → rest s p inside (memory t a c nothing i f) ≡ rest s (p + 1) atomNext (memory t a c (symbol x) i f)
    unfolding mode_act
    inner-step t a c i f = let j = symbol-joins b listed in
        rest-to s p inside (memory t a c nothing i f) k symbol-in j.inner {ν = memory t a c (symbol x) i f} (rw (j.letter, j.point, e)) refl

    pub joined-symbol : Joined s p (record { joint = Joint.Symbol x; at = p + 1 })
    joined-symbol = record { within = omega (arith, symbol-in); later = omega arith; is = inner-step }

    lift : (r : Piece) → Seen s (p + 1) bond (symbol x) r → Seen s p (seq plain) nothing r
    lift (Piece.Atom j q) h = record { within = h.within; later = omega (arith, h.later); is = λ t a c i f. symbol-step t a c i f ∙ h.is t a c i f }
    lift (Piece.Bridge r y q d) h = record { number = h.number; within = h.within; later = omega (arith, h.later); long = h.long; is = λ t a c i f. let w = h.is t a c i f in (w.0, symbol-step t a c i f ∙ w.1) }
    lift (Piece.Branch q) h = absurd (let m : bond ≡ seq plain = h.mode in let z : ◌≡◌ {A = ℕ} 0 1 = cc in omega arith)
    lift (Piece.End q) h = absurd (let m : bond ≡ seq plain = h.mode in let z : ◌≡◌ {A = ℕ} 0 1 = cc in omega arith)
    lift (Piece.Wrong q) h = record { later = omega (arith, h.later); is = λ t a c i f. symbol-step t a c i f ∙ h.is t a c i f }

    pub seen-symbol : (r : Piece) → Seen s (p + 1) (kind_mode x) (kind_pending x) r → Seen s p (seq plain) nothing r
    seen-symbol r h = lift r (rw (ne_eqb x 0 n) at h)

  module _ (e : b ≡ 46) where
    pub joined-dot : Joined s p (record { joint = Joint.Dot; at = p + 1 })
    unfolding next mode_act atom_or letters among bond_symbols letter_of selected_of
    joined-dot = record {
      within = omega (arith, byte-in k e);
      later = omega arith;
      is = λ t a c i f. rest-to s p inside (memory t a c nothing i f) k (byte-in k e) {m' = atomNext} (rw e) {ν = memory t a c dotted i f} (rw e) refl;
    }

    pub seen-dot : Seen s p (seq plain) nothing (Piece.Atom Joint.Dot (p + 1))
    unfolding next mode_act atom_or bridge_or letters among nonzero bond_symbols letter_of selected_of
    seen-dot = record {
      within = omega (arith, byte-in k e);
      later = omega arith;
      is = λ t a c i f. rest-to s p (seq plain) (memory t a c nothing i f) k (byte-in k e) {m' = atomNext} (rw e) {ν = memory t a c dotted i f} (rw e) refl;
    }

  pub joined-none : {x : ℕ} → p ≤ length s → (b ≡ 46 → ⊥) → x ≡ symbol_kind b → x ≡ 0 → Joined s p (record { joint = Joint.Elided; at = p })
  joined-none l n e z = record {
    within = l;
    later = omega arith;
    is = λ t a c i f. inside-dot s p (memory t a c nothing i f) k (no_kind b (sym e ∙ z)) (ne_eqb b 46 n);
  }

  -- a letter or `[`, which no other piece begins with
  pub seen-letter : p < length s → (leb 65 b && not (eqb b 92)) ≡ true → Seen s p (seq plain) nothing (Piece.Atom Joint.Elided p)
  unfolding bond_symbols among
  seen-letter l both = let h = leb-true 65 b (and_left (leb 65 b) (not (eqb b 92)) both) in let mark = not-true (eqb b 92) (and_right (leb 65 b) (not (eqb b 92)) both) in record {
    within = omega arith;
    later = omega arith;
    is = λ t a c i f. plain-dot s p (memory t a c nothing i f) k l (high (among b nonzero) refl) (ne_eqb b 37 (λ z. omega arith))
        (rw (ne_eqb b 45 (λ z. omega arith), ne_eqb b 61 (λ z. omega arith), ne_eqb b 35 (λ z. omega arith), ne_eqb b 47 (λ z. omega arith), mark))
        (ne_eqb b 46 (λ z. omega arith)) (ne_eqb b 40 (λ z. omega arith)) (ne_eqb b 41 (λ z. omega arith));
  }
    where
      high : (t : Bool) → among b nonzero ≡ t → t ≡ false
      high true e = absurd (omega (arith, digit-high b (nonzero-digit b e), leb-true 65 b (and_left (leb 65 b) (not (eqb b 92)) both)))
      high false e = refl

  pub seen-branch : b ≡ 40 → Seen s p (seq plain) nothing (Piece.Branch p)
  seen-branch e = record { here = refl; mode = refl; joint = refl; within = byte-in k e; byte = sym k.is ∙ e }

  pub seen-close : b ≡ 41 → Seen s p (seq plain) nothing (Piece.End p)
  seen-close e = record { here = refl; mode = refl; joint = refl; within = omega (arith, byte-in k e); stops = λ n. absurd (n (sym k.is ∙ e)) }

  pub loose : {x : ℕ} → p < length s → x ≡ symbol_kind b → x ≡ 0 → (b ≡ 40 → ⊥) → (b ≡ 41 → ⊥) → (b ≡ 46 → ⊥) → Loose s p
  loose l e z n m o = record {
    within = l;
    no_symbol = ap (λ (y : ℕ). among y bond_symbols) (sym k.is) ∙ no_kind b (sym e ∙ z);
    no_dot = ap (λ (y : ℕ). eqb y 46) (sym k.is) ∙ ne_eqb b 46 o;
    no_open = ap (λ (y : ℕ). eqb y 40) (sym k.is) ∙ ne_eqb b 40 n;
    no_close = ap (λ (y : ℕ). eqb y 41) (sym k.is) ∙ ne_eqb b 41 m;
  }

pub seen_end : (s : List ℕ) (p : ℕ) → p ≤ length s → length s ≤ p → Seen s p (seq plain) nothing (Piece.End p)
seen_end s p l h = record { here = refl; mode = refl; joint = refl; within = l; stops = λ n. omega arith }

-- ---- a bridge
joined-depth : (t : Steering) (r k p : ℕ) → (joined t r k p).depth ≡ t.depth
unfolding joined
joined-depth t r k p = split (eqb (get_or t.opener r 0) 0)
  where
    split : (x : Bool) → (pick x (bridged t r (t.hub.0 + 1) k p t.bonds t.keys) (bridged t r 0 0 0 (t.bonds + 1) (keys_after t r p))).depth ≡ t.depth
    split true = refl
    split false = refl

pub bridge-depth : (r p : ℕ) (μ ν : Memory) → bridge_act r p μ ≡ keeps ν → ν.st.depth ≡ μ.st.depth
unfolding bridge_act
bridge-depth r p μ ν h =
    split (eqb (get_or μ.st.opener r 0) 0) (close_refusal μ.bonds μ.st.bonds (get_or μ.st.opener r 0 - 1) μ.st.hub.0 (get_or μ.st.symbol r 0) (kind_of μ.pending)) h
  where
    after : Steering
    after = joined μ.st r (kind_of μ.pending) p

    split : (x : Bool) (c : ℕ) → pick x (keeps (moved after μ)) (or_refuse c p (moved after (bridge_bond r μ))) ≡ keeps ν → ν.st.depth ≡ μ.st.depth
    split true c h = let e : moved after μ ≡ ν = cc in ap (λ (ξ : Memory). ξ.st.depth) (sym e) ∙ joined-depth μ.st r (kind_of μ.pending) p
    split false zero h = let e : moved after (bridge_bond r μ) ≡ ν = cc in ap (λ (ξ : Memory). ξ.st.depth) (sym e) ∙ joined-depth μ.st r (kind_of μ.pending) p
    split false (suc c) h = absurd (let z : ◌≡◌ {A = ℕ} 0 1 = cc in omega arith)

-- the byte that completes a bridge
bridge-rest : (s : List ℕ) (p : ℕ) {b : ℕ} (m : Mode) (μ : Memory) (r q : ℕ) → Peeked s p b → p < length s → next m b ≡ to (seq plain) → mode_act m b p μ ≡ bridge_act r q μ
    → rest s p m μ ≡ after_bridge s (p + 1) (bridge_act r q μ)
bridge-rest s p m μ r q k l e a = split (bridge_act r q μ) refl
  where
    split : (x : Acts) → bridge_act r q μ ≡ x → rest s p m μ ≡ after_bridge s (p + 1) x
    split (keeps ν) h = rest-to s p m μ k l e (a ∙ h) (bridge-depth r q μ ν h)
    split (refuses c o) h = rest-refused s p m μ k l e (a ∙ h)

-- a mode by whether a symbol came before
abbrev mode_by : Bool → Mode
mode_by x = pick x (seq plain) bond

record Numbers (b : ℕ) : Type 0 where
  pub out : next (seq plain) b ≡ to (seq plain)
  pub after : next bond b ≡ to (seq plain)
  pub letter : letter_of b ≡ Nothing

digit-numbers : (b : ℕ) → among b nonzero ≡ true → Numbers b
unfolding next atom_or bridge_or letters among nonzero letter_of selected_of
digit-numbers = each Numbers nonzero (
  record { out = refl; after = refl; letter = refl },
  (
    record { out = refl; after = refl; letter = refl },
    (
      record { out = refl; after = refl; letter = refl },
      (
        record { out = refl; after = refl; letter = refl },
        (
          record { out = refl; after = refl; letter = refl },
          (
            record { out = refl; after = refl; letter = refl },
            (record { out = refl; after = refl; letter = refl }, (record { out = refl; after = refl; letter = refl }, (record { out = refl; after = refl; letter = refl }, tt))),
          ),
        ),
      ),
    ),
  ),
)

digit-out : (x : Bool) (b : ℕ) → among b nonzero ≡ true → next (mode_by x) b ≡ to (seq plain)
digit-out true b h = (digit-numbers b h).out
digit-out false b h = (digit-numbers b h).after

digit-act : (x : Bool) (b p : ℕ) (μ : Memory) → among b nonzero ≡ true → mode_act (mode_by x) b p μ ≡ bridge_act (digit b) p μ
unfolding mode_act
digit-act true b p μ h = rw ((digit-numbers b h).letter, h)
digit-act false b p μ h = rw ((digit-numbers b h).letter, h)

percent-out : (x : Bool) → next (mode_by x) 37 ≡ to percent
unfolding next atom_or bridge_or letters among nonzero
percent-out true = refl
percent-out false = refl

percent-act : (x : Bool) (p : ℕ) (μ : Memory) → mode_act (mode_by x) 37 p μ ≡ keeps μ
unfolding mode_act letters among nonzero letter_of selected_of
percent-act true p μ = refl
percent-act false p μ = refl

module _ (s : List ℕ) (p x : ℕ) {b : ℕ} (k : Peeked s p b) where
  pub seen-digit : {v : ℕ} → among b nonzero ≡ true → v ≡ digit b → Seen s p (kind_mode x) (kind_pending x) (Piece.Bridge v x p (p + 1))
  seen-digit {v} h e = let d = nonzero-digit b h in record {
    number = omega (arith, digit-high b d);
    within = omega (arith, digit-in k d);
    later = omega arith;
    long = omega arith;
    is = λ t a c i f. (
      i,
      bridge-rest s p (kind_mode x) (memory t a c (kind_pending x) i f) v p k (digit-in k d) (digit-out (eqb x 0) b h)
          (digit-act (eqb x 0) b p (memory t a c (kind_pending x) i f) h ∙ ap (λ (r : ℕ). bridge_act r p (memory t a c (kind_pending x) i f)) (sym e)),
    );
  }

  pub seen-atom : {j : Joint} → p ≤ length s → Free s p x → among b nonzero ≡ false → (b ≡ 37 → ⊥) → j ≡ joint_of x → Seen s p (kind_mode x) (kind_pending x) (Piece.Atom j p)
  seen-atom l g z n e = rw e (split (eqb x 0) refl)
    where
      split : (y : Bool) → eqb x 0 ≡ y → SeenAtom s p (mode_by y) (pick y nothing (symbol x)) (pick y Joint.Elided (Joint.Symbol x)) p
      split true q = let o = g (eqb-true x 0 q) in record {
        within = l;
        later = omega arith;
        is = λ t a c i f. plain-dot s p (memory t a c nothing i f) k o.within z (ne_eqb b 37 n)
            (ap (λ (y : ℕ). among y bond_symbols) k.is ∙ o.no_symbol) (ap (λ (y : ℕ). eqb y 46) k.is ∙ o.no_dot)
            (ap (λ (y : ℕ). eqb y 40) k.is ∙ o.no_open) (ap (λ (y : ℕ). eqb y 41) k.is ∙ o.no_close);
      }
      split false q = record {
        within = l;
        later = omega arith;
        is = λ t a c i f. bond-dot s p (memory t a c (symbol x) i f) k z (ne_eqb b 37 n);
      }

  module _ (e : b ≡ 37) where
    percent-step : (μ : Memory) → rest s p (kind_mode x) μ ≡ rest s (p + 1) percent μ
    percent-step μ = rest-to s p (kind_mode x) μ k (byte-in k e) {m' = percent} (ap (next (kind_mode x)) e ∙ percent-out (eqb x 0)) {ν = μ} (ap (λ (y : ℕ). mode_act (kind_mode x) y p μ) e ∙ percent-act (eqb x 0) p μ) refl

    pub seen-wrong : {c : ℕ} → Peeked s (p + 1) c → among c nonzero ≡ false → Seen s p (kind_mode x) (kind_pending x) (Piece.Wrong (p + 1))
    unfolding next resting
    seen-wrong {c} j h = record {
      later = omega arith;
      is = λ t a o i f. let μ = memory t a o (kind_pending x) i f in percent-step μ ∙ rest-stop s (p + 1) percent μ j (omega (arith, byte-in k e)) (rw h) refl;
    }

    module _ {c : ℕ} (j : Peeked s (p + 1) c) (h : among c nonzero ≡ true) where
      tens-in : p + 1 < length s
      tens-in = digit-in j (nonzero-digit c h)

      tens-step : (μ : Memory) → rest s p (kind_mode x) μ ≡ rest s (p + 2) percent1 (counting (digit c) μ)
      unfolding next mode_act
      tens-step μ = let w : p + 1 + 1 ≡ p + 2 = omega arith in
          percent-step μ ∙ rest-to s (p + 1) percent μ j tens-in {m' = percent1} (rw h) {ν = counting (digit c) μ} refl refl ∙ rw w

      pub seen-wrong-2 : {d : ℕ} → Peeked s (p + 2) d → among d digits ≡ false → Seen s p (kind_mode x) (kind_pending x) (Piece.Wrong (p + 2))
      unfolding next resting
      seen-wrong-2 {d} q n = record {
        later = omega arith;
        is = λ t a o i f. let μ = memory t a o (kind_pending x) i f in tens-step μ ∙ rest-stop s (p + 2) percent1 (counting (digit c) μ) q (omega (arith, tens-in)) (rw n) refl;
      }

      pub seen-percent : {d v w : ℕ} → Peeked s (p + 2) d → among d digits ≡ true → v ≡ digit c → w ≡ digit d → Seen s p (kind_mode x) (kind_pending x) (Piece.Bridge (10 * v + w) x p (p + 3))
      unfolding next mode_act
      seen-percent {d} {v} {w} q g ev ew =
          let z : p + 2 + 1 ≡ p + 3 = omega arith in
          let y : p + 2 - 2 ≡ p = omega arith in
          record {
            number = omega (arith, digit-high c (nonzero-digit c h), digit-high d g);
            within = omega (arith, digit-in q g);
            later = omega arith;
            long = omega arith;
            is = λ t a o i f. let μ = memory t a o (kind_pending x) i f in
                (digit c, tens-step μ ∙ bridge-rest s (p + 2) percent1 (counting (digit c) μ) (10 * v + w) p q (digit-in q g) (rw g) (rw (y, ev, ew)) ∙ rw z);
          }

-- ---- the next piece, fresh or not
pub seen-fresh : (s : List ℕ) (p : ℕ) (j : Joint) {f : Bool} → f ≡ true → p ≤ length s → Seen s p (start_mode f) (start_pending f j) (Piece.Atom j p)
seen-fresh s p j e l = subst⁻¹ (λ (z : Bool). Seen s p (start_mode z) (start_pending z j) (Piece.Atom j p)) e (record { within = l; later = omega arith; is = λ t a b n f. refl })

pub seen-older : (s : List ℕ) (p : ℕ) (j : Joint) (r : Piece) {f : Bool} → f ≡ false → Seen s p (seq plain) nothing r → Seen s p (start_mode f) (start_pending f j) r
seen-older s p j r e h = subst⁻¹ (λ (z : Bool). Seen s p (start_mode z) (start_pending z j) r) e h
