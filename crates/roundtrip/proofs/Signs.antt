-- Reading the bytes between atoms: bond symbols, dots and bridges. Assumes nothing.
use mathlib.Core.Path.{◌≡◌, refl, ap, ◌∙◌, subst}
use mathlib.Core.Bool.{Bool, true, false}
use mathlib.Core.List.{List, [], ◌∷◌, ◌++◌}
use Prim.Native.Nat.{ℕ, zero, suc, ◌+◌, ◌-◌, ◌*◌, ◌/◌, ◌%◌, ◌<◌, ◌≤◌}
use native.Mathlib.Omega.{arith}
use lib.Dec.{ltb}
use lib.ListN.{length, length-append}
use borrow.Author.Tests.{ltb-true, ltb-false, le-ltb, lt-ltb}
use Rattle.kinds.specs.Kind.{max_kind, symbol_kind, bond_symbol}
use Rattle.loops.specs.Loop.{pick}
use Rattle.element.specs.Symbols.{among, letters}
use Rattle.element.specs.Lookup.{letter_of, selected_of}
use Rattle.reading_grammar.specs.Grammar.{nonzero, bond_symbols}
use Rattle.reading_grammar.proofs.Ends as over
use Rattle.reading_grammar.specs.declared.Last.{Last}
use Rattle.reading_grammar.specs.declared.Last.TheVariants.{Plain as plain}
use Rattle.reading_grammar.specs.declared.Mode.{Mode}
use Rattle.reading_grammar.specs.declared.Mode.TheVariants.{Seq as seq, Bond as bond, AtomNext as atomNext, Inside as inside, Percent as percent, Percent1 as percent1}
use Rattle.reading_grammar.specs.declared.Move.{Move}
use Rattle.reading_grammar.specs.declared.Move.TheVariants.{To as to}
use Rattle.reading_grammar.specs.declared.MachineState.{MachineState}
use Rattle.reading_grammar.specs.declared.MachineState.TheVariants.{At as at}
use Rattle.reading_grammar.specs.Machine.{turn, step, next, atom_or, bridge_or}
use Rattle.reading_grammar.specs.Fold.{keeps}
use Rattle.table.specs.declared.Atom.{Atom}
use Rattle.ids.specs.Limits.{bridges}
use Rattle.reading.specs.Memory.{Memory, Pending, nothing, dotted, symbol, kind_of, after_dot, awaiting, counting}
use Rattle.reading.specs.Bracket.{digit}
use Rattle.reading.specs.Act.{act, mode_act, bridge_act}
use Rattle.writing_walk.specs.Keyed.{Keyed, state_of}
use Rattle.writing.specs.Spell.{digit_byte, decimal, kind_bytes, bridge_bytes}
use Rattle.roundtrip.proofs.Feed.{Takes, stays, joins, byte}
use Rattle.roundtrip.proofs.Decimal.{digit-of, is_digit, is-nonzero, two}
use Rattle.roundtrip.proofs.Letters.{Begins, begins-seq, begins-bond, begins-dot, begins-inside}
use Rattle.roundtrip.proofs.Keying.{keying-later}
use Rattle.roundtrip.proofs.Simulation.{Holds, Keeps, Bridged}

-- where the machine stands between tokens: after an atom, or just inside a branch; d branches are open
pub data Stance : Bool → ℕ → MachineState → Type 0 where
  after : {x : Last} {d : ℕ} → Stance false d (at (seq x) d)
  fresh : {d : ℕ} → Stance true d (at inside d)

-- the bytes are a joint, which waits for the atom
pub record Jointed (i : ℕ) (σ : MachineState) (d : ℕ) (μ : Memory) (s : List ℕ) (k : Pending) : Type 0 where
  pub state : MachineState
  pub begins : Begins state d
  pub takes : Takes i σ μ s state (awaiting k μ)

pub takes-dot : {f : Bool} {d : ℕ} {σ : MachineState} (i : ℕ) (μ : Memory) → Stance f d σ → Jointed i σ d μ (46 ∷ []) dotted
unfolding step next atom_or bridge_or among letters nonzero bond_symbols act mode_act letter_of selected_of
takes-dot i μ (after {x} {d}) = record { state = at atomNext d; begins = begins-dot d; takes = byte 46 [] refl refl refl stays }
takes-dot i μ (fresh {d}) = record { state = at atomNext d; begins = begins-dot d; takes = byte 46 [] refl refl refl stays }

-- the byte of a bond symbol of the kind k
record Symbol (k : ℕ) : Type 0 where
  sign : ℕ
  bytes : kind_bytes k ≡ sign ∷ []
  after-goes : (x : Last) → next (seq x) sign ≡ to bond
  after-does : (x : Last) (i : ℕ) (μ : Memory) → mode_act (seq x) sign i μ ≡ keeps (awaiting (symbol k) μ)
  fresh-goes : next inside sign ≡ to atomNext
  fresh-does : (i : ℕ) (μ : Memory) → mode_act inside sign i μ ≡ keeps (awaiting (symbol k) μ)

symbol-of : (k : ℕ) → 0 < k → k ≤ max_kind → Symbol k
unfolding kind_bytes bond_symbol symbol_kind next atom_or bridge_or among letters nonzero bond_symbols mode_act letter_of selected_of
symbol-of zero h l = absurd (omega arith)
symbol-of (suc zero) h l = record { sign = 45; bytes = refl; after-goes = λ x. refl; after-does = λ x i μ. refl; fresh-goes = refl; fresh-does = λ i μ. refl }
symbol-of (suc (suc zero)) h l = record { sign = 61; bytes = refl; after-goes = λ x. refl; after-does = λ x i μ. refl; fresh-goes = refl; fresh-does = λ i μ. refl }
symbol-of (suc (suc (suc zero))) h l = record { sign = 35; bytes = refl; after-goes = λ x. refl; after-does = λ x i μ. refl; fresh-goes = refl; fresh-does = λ i μ. refl }
symbol-of (suc (suc (suc (suc zero)))) h l = record { sign = 47; bytes = refl; after-goes = λ x. refl; after-does = λ x i μ. refl; fresh-goes = refl; fresh-does = λ i μ. refl }
symbol-of (suc (suc (suc (suc (suc zero))))) h l = record { sign = 92; bytes = refl; after-goes = λ x. refl; after-does = λ x i μ. refl; fresh-goes = refl; fresh-does = λ i μ. refl }
symbol-of (suc (suc (suc (suc (suc (suc k)))))) h l = absurd (omega arith)

-- what waits for an atom or a bridge after the bytes of a kind
abbrev pub waiting : ℕ → Pending
waiting zero = nothing
waiting (suc k) = symbol (suc k)

pub waiting-kind : (k : ℕ) → (kind_of (waiting k) ≡ k) × (after_dot (waiting k) ≡ false)
waiting-kind zero = (refl, refl)
waiting-kind (suc k) = (refl, refl)

stance-begins : {f : Bool} {d : ℕ} {σ : MachineState} → Stance f d σ → Begins σ d
stance-begins (after {x} {d}) = begins-seq x d
stance-begins (fresh {d}) = begins-inside d

waits-still : (μ : Memory) → μ.pending ≡ nothing → μ ≡ awaiting nothing μ
waits-still μ e = ap (λ (k : Pending). awaiting k μ) e

pub takes-kind : {f : Bool} {d : ℕ} {σ : MachineState} (i : ℕ) (μ : Memory) (k : ℕ) → k ≤ max_kind → μ.pending ≡ nothing → Stance f d σ → Jointed i σ d μ (kind_bytes k) (waiting k)
unfolding kind_bytes bond_symbol step act
takes-kind {σ = σ} i μ zero l e v = record { state = σ; begins = stance-begins v; takes = subst (Takes i σ μ [] σ) (waits-still μ e) stays }
takes-kind i μ (suc k) l e v = go v (symbol-of (suc k) (omega arith) l)
  where
    go : {f : Bool} {d : ℕ} {σ : MachineState} → Stance f d σ → Symbol (suc k) → Jointed i σ d μ (kind_bytes (suc k)) (symbol (suc k))
    go (after {x} {d}) y = record { state = at bond d; begins = begins-bond d; takes = rw y.bytes (byte y.sign [] (ap (λ (o : Move). turn o d) (y.after-goes x)) refl (y.after-does x i μ) stays) }
    go (fresh {d}) y = record { state = at atomNext d; begins = begins-dot d; takes = rw y.bytes (byte y.sign [] (ap (λ (o : Move). turn o d) y.fresh-goes) refl (y.fresh-does i μ) stays) }

-- ---- bridges
-- a mode in which a bridge may begin
pub record Rings (m : Mode) : Type 0 where
  pub short-goes : (b : ℕ) → among b nonzero ≡ true → next m b ≡ to (seq plain)
  pub short-does : (b : ℕ) → among b nonzero ≡ true → (i : ℕ) (μ : Memory) → mode_act m b i μ ≡ bridge_act (digit b) i μ
  pub long-goes : next m 37 ≡ to percent
  pub long-does : (i : ℕ) (μ : Memory) → mode_act m 37 i μ ≡ keeps μ

rings-seq : (x : Last) → Rings (seq x)
unfolding next atom_or bridge_or among letters nonzero mode_act letter_of selected_of
rings-seq x = record {
  short-goes = over.each (λ b. next (seq x) b ≡ to (seq plain)) nonzero (refl, (refl, (refl, (refl, (refl, (refl, (refl, (refl, (refl, tt)))))))));
  short-does = over.each (λ b. (i : ℕ) (μ : Memory) → mode_act (seq x) b i μ ≡ bridge_act (digit b) i μ) nonzero ((λ i μ. refl), ((λ i μ. refl), ((λ i μ. refl), ((λ i μ. refl), ((λ i μ. refl), ((λ i μ. refl), ((λ i μ. refl), ((λ i μ. refl), ((λ i μ. refl), tt)))))))));
  long-goes = refl;
  long-does = λ i μ. refl;
}

rings-bond : Rings bond
unfolding next atom_or bridge_or among letters nonzero mode_act letter_of selected_of
rings-bond = record {
  short-goes = over.each (λ b. next bond b ≡ to (seq plain)) nonzero (refl, (refl, (refl, (refl, (refl, (refl, (refl, (refl, (refl, tt)))))))));
  short-does = over.each (λ b. (i : ℕ) (μ : Memory) → mode_act bond b i μ ≡ bridge_act (digit b) i μ) nonzero ((λ i μ. refl), ((λ i μ. refl), ((λ i μ. refl), ((λ i μ. refl), ((λ i μ. refl), ((λ i μ. refl), ((λ i μ. refl), ((λ i μ. refl), ((λ i μ. refl), tt)))))))));
  long-goes = refl;
  long-does = λ i μ. refl;
}

-- the bytes are a kind, after which a bridge may begin
record Tied (i : ℕ) (x : Last) (d : ℕ) (μ : Memory) (k : ℕ) : Type 0 where
  mode : Mode
  rings : Rings mode
  takes : Takes i (at (seq x) d) μ (kind_bytes k) (at mode d) (awaiting (waiting k) μ)

takes-tie : (i : ℕ) (x : Last) (d : ℕ) (μ : Memory) (k : ℕ) → k ≤ max_kind → μ.pending ≡ nothing → Tied i x d μ k
unfolding kind_bytes bond_symbol step act
takes-tie i x d μ zero l e = record { mode = seq x; rings = rings-seq x; takes = subst (Takes i (at (seq x) d) μ [] (at (seq x) d)) (waits-still μ e) stays }
takes-tie i x d μ (suc k) l e =
    let y = symbol-of (suc k) (omega arith) l in
    record { mode = bond; rings = rings-bond; takes = rw y.bytes (byte y.sign [] (ap (λ (o : Move). turn o d) (y.after-goes x)) refl (y.after-does x i μ) stays) }

-- the bytes are a bridge, and what is read is z
pub record Ringed (row : ℕ → Atom) (flag : ℕ → ℕ) (p q : ℕ) (z : Keyed) (i : ℕ) (σ : MachineState) (d : ℕ) (μ : Memory) (l : List ℕ) : Type 0 where
  pub memory : Memory
  pub waits : memory.pending ≡ nothing
  pub holds : Holds row flag p q (state_of z) memory
  pub keys : Keeps z (i + length l) memory
  pub takes : Takes i σ μ l (at (seq plain) d) memory

module _ (row : ℕ → Atom) (flag : ℕ → ℕ) (p q : ℕ) (s : Keyed) (r : ℕ) (l : suc r < bridges) where
  takes-number : (i : ℕ) (m : Mode) (d : ℕ) (μ : Memory) → Rings m → ((t : ℕ) → Bridged row flag p q s r i (counting t μ)) → Ringed row flag p q s i (at m d) d μ (bridge_bytes r)
  unfolding bridge_bytes step next act mode_act
  takes-number i m d μ v h = go (ltb r 9) refl
    where
      go : (x : Bool) → ltb r 9 ≡ x → Ringed row flag p q s i (at m d) d μ (pick x (digit_byte (r + 1) ∷ []) (37 ∷ decimal (r + 1)))
      go true e =
          let g = ltb-true r 9 e in
          let b = digit_byte (r + 1) in
          let w = h μ.tens in
          let n = is-nonzero (r + 1) (omega arith) (omega arith) in
          let z : digit b ≡ suc r = omega arith in
          record {
            memory = w.memory;
            waits = w.waits;
            holds = w.holds;
            keys = keying-later (omega arith) w.keys;
            takes = byte b [] (ap (λ (o : Move). turn o d) (v.short-goes b n)) refl (v.short-does b n i μ ∙ ap (λ (y : ℕ). bridge_act y i μ) z ∙ w.is) stays;
          }
      go false e =
          let g = ltb-false r 9 e in
          let a = digit_byte ((r + 1) / 10) in
          let b = digit_byte ((r + 1) % 10) in
          let w = h (digit a) in
          let na = is-nonzero ((r + 1) / 10) (omega arith) (omega arith) in
          let nb = is_digit ((r + 1) % 10) (omega arith) in
          let z : 10 * digit a + digit b ≡ suc r = rw (digit-of ((r + 1) / 10), digit-of ((r + 1) % 10)) (omega arith) in
          let o : suc (suc i) - 2 ≡ i = omega arith in
          rw (two (r + 1) (le-ltb (r + 1) 10 (omega arith)) (lt-ltb (r + 1) 100 (omega arith)))
          (record {
            memory = w.memory;
            waits = w.waits;
            holds = w.holds;
            keys = keying-later (omega arith) w.keys;
            takes = byte 37 (a ∷ b ∷ []) (ap (λ (o : Move). turn o d) v.long-goes) refl (v.long-does i μ)
                (byte {τ = at percent1 d} {ν = counting (digit a) μ} a (b ∷ []) (rw na) refl refl
                (byte {τ = at (seq plain) d} b [] (rw nb) refl ((λ j. bridge_act (z j) (o j) (counting (digit a) μ)) ∙ w.is) stays));
          })

  -- THE BRIDGE: the bytes of its kind and its number
  pub takes-ring : (i : ℕ) (x : Last) (d : ℕ) (μ : Memory) (k : ℕ) → k ≤ max_kind → μ.pending ≡ nothing → ((t : ℕ) → Bridged row flag p q s r (i + length (kind_bytes k)) (counting t (awaiting (waiting k) μ))) → Ringed row flag p q s i (at (seq x) d) d μ (kind_bytes k ++ bridge_bytes r)
  takes-ring i x d μ k g e h =
      let y = takes-tie i x d μ k g e in
      let z = takes-number (i + length (kind_bytes k)) y.mode d (awaiting (waiting k) μ) y.rings h in
      record {
        memory = z.memory;
        waits = z.waits;
        holds = z.holds;
        keys = keying-later (let a = length-append (kind_bytes k) (bridge_bytes r) in omega arith) z.keys;
        takes = joins (kind_bytes k) (bridge_bytes r) y.takes z.takes;
      }
