-- A byte outside brackets: the machine and the action walked together once, for any property of where they lead. Assumes nothing.
use Prim.Native.Nat.{ℕ, zero, suc, ◌+◌, ◌-◌, ◌*◌, ◌≤◌, ◌<◌}
use native.Mathlib.Omega.{arith}
use mathlib.Core.Path.{◌≡◌, refl}
use mathlib.Core.Bool.{Bool, true, false}
use mathlib.Core.Logic.{⊎_elim}
use lib.Dec.{eqb}
use borrow.Author.Tests.{eqb-true}
use Rattle.loops.specs.Loop.{pick}
use Rattle.element.specs.declared.Letter.{Letter}
use Rattle.element.specs.declared.Letter.TheVariants.{Nothing}
use Rattle.element.specs.Symbols.{among}
use Rattle.element.specs.Lookup.{letter_of}
use Rattle.reading_grammar.specs.Grammar.{nonzero, digits, bond_symbols}
use Rattle.reading_grammar.specs.declared.Last.{Last}
use Rattle.reading_grammar.specs.declared.Last.TheVariants.{Plain as plain, AfterC as afterC, AfterB as afterB}
use Rattle.reading_grammar.specs.declared.Mode.TheVariants.{Seq as seq, Bond as bond, AtomNext as atomNext, Inside as inside, Percent as percent, Percent1 as percent1}
use Rattle.reading_grammar.specs.declared.Move.{Move}
use Rattle.reading_grammar.specs.declared.Move.TheVariants.{Stop as stop, To as to, Up as up, Down as down}
use Rattle.reading_grammar.specs.declared.MachineState.{MachineState}
use Rattle.reading_grammar.specs.declared.MachineState.TheVariants.{At as at}
use Rattle.reading_grammar.specs.Machine.{alive, turn, next, atom_or, bridge_or}
use Rattle.reading_grammar.specs.Machine as machine
use Rattle.reading_grammar.specs.Fold.{keeps}
use Rattle.reading_grammar.proofs.Ends.{never}
use Rattle.ids.specs.Limits.{bridges}
use Rattle.reading_state.specs.State.{closed}
use Rattle.reading.specs.Memory.{Memory, moved, counting}
use Rattle.reading.specs.Bracket.{digit}
use Rattle.reading.specs.Act.{Acts, or_atom, atom_act, bridge_act, branch_act, joint_act, second_letter, letter_act, mode_act}
use Rattle.reading.proofs.Draft.{any-digit, nonzero-digit}
use Rattle.reading.proofs.Letters.{Begins, begins}

-- the byte b is the second letter of the atom just read
abbrev pub Second : Last → ℕ → Type 0
Second plain b = ⊥
Second afterC b = b ≡ 108
Second afterB b = b ≡ 114

or-begins : {l : Letter} {o : Move} (a k : Acts) → Begins l o → or_atom l a k ≡ a
or-begins a k (Begins.plain s) = refl
or-begins a k (Begins.selected s t) = refl
or-begins a k Begins.letter-a = refl
or-begins a k Begins.letter-t = refl
or-begins a k Begins.opening = refl

module _ (P : MachineState → Acts → Type 0) (d i : ℕ) (μ : Memory) (b : ℕ) where
  -- ---- an atom begins, or something else follows
  module _ (first : (o : Move) → Begins (letter_of b) o → P (turn o d) (atom_act b i μ)) where
    or-atom : (o : Move) (a : Acts) → (alive (turn o d) ≡ true → P (turn o d) a) → alive (turn (atom_or b o) d) ≡ true → P (turn (atom_or b o) d) (or_atom (letter_of b) (atom_act b i μ) a)
    or-atom o a other = ⊎_elim one two (begins b o)
      where
        one : Begins (letter_of b) (atom_or b o) → alive (turn (atom_or b o) d) ≡ true → P (turn (atom_or b o) d) (or_atom (letter_of b) (atom_act b i μ) a)
        one w v = rw (or-begins (atom_act b i μ) a w) (first (atom_or b o) w)

        two : (letter_of b ≡ Nothing) × (atom_or b o ≡ o) → alive (turn (atom_or b o) d) ≡ true → P (turn (atom_or b o) d) (or_atom (letter_of b) (atom_act b i μ) a)
        two e = rw (e.0, e.1) other

    pub only-atom : alive (turn (atom_or b stop) d) ≡ true → P (turn (atom_or b stop) d) (atom_act b i μ)
    only-atom = ⊎_elim (λ w v. first (atom_or b stop) w) (λ e v. never (rw e.1 at v)) (begins b stop)

  -- a second letter, or nothing
  pub second-letter : (e : ℕ) (t : Bool) → (t ≡ true → P (at (seq plain) d) (second_letter e μ)) → alive (turn (pick t (to (seq plain)) stop) d) ≡ true → P (turn (pick t (to (seq plain)) stop) d) (second_letter e μ)
  second-letter e true f v = f refl
  second-letter e false f v = never v

  -- what is to be shown of each step
  pub record Outside : Type 0 where
    pub atom : (o : Move) → Begins (letter_of b) o → P (turn o d) (atom_act b i μ)
    pub bridge : (r p : ℕ) → r < bridges → p ≤ i → P (at (seq plain) d) (bridge_act r p μ)
    pub symbol : P (at bond d) (joint_act b μ)
    pub joint : P (at atomNext d) (joint_act b μ)
    pub branch : P (at inside (suc d)) (branch_act i μ)
    pub unbranch : (e : ℕ) → d ≡ suc e → P (at (seq plain) e) (keeps (moved (closed μ.st) μ))
    pub sign : P (at percent d) (keeps μ)
    pub tens : (t : ℕ) → 1 ≤ t → t ≤ 9 → P (at percent1 d) (keeps (counting t μ))

  module _ (w : Outside) where
    digit-bridge : among b nonzero ≡ true → P (at (seq plain) d) (bridge_act (digit b) i μ)
    digit-bridge e = w.bridge (digit b) i (omega (arith, (nonzero-digit b e).1)) (omega arith)

    goes_down : (e : ℕ) → d ≡ e → alive (turn down e) ≡ true → P (turn down e) (keeps (moved (closed μ.st) μ))
    goes_down zero q v = never v
    goes_down (suc e) q v = w.unbranch e q

    goes_on_lem : (x : Last) → (Second x b → (e : ℕ) → e ≤ 118 → P (at (seq plain) d) (second_letter e μ)) → alive (turn (machine.goes_on x b) d) ≡ true → P (turn (machine.goes_on x b) d) (letter_act x μ)
    goes_on_lem plain f v = never v
    goes_on_lem afterC f v = second-letter 17 (eqb b 108) (λ e. f (eqb-true b 108 e) 17 (omega arith)) v
    goes_on_lem afterB f v = second-letter 35 (eqb b 114) (λ e. f (eqb-true b 114 e) 35 (omega arith)) v

    pub in_sequence : (x : Last) → (Second x b → (e : ℕ) → e ≤ 118 → P (at (seq plain) d) (second_letter e μ)) → alive (turn (next (seq x) b) d) ≡ true → P (turn (next (seq x) b) d) (mode_act (seq x) b i μ)
    unfolding next mode_act bridge_or
    in_sequence x f = or-atom w.atom _ _ (split (among b nonzero) (eqb b 37) (among b bond_symbols) (eqb b 46) (eqb b 40) (eqb b 41) refl)
      where
        split : (t1 t2 t3 t4 t5 t6 : Bool) → among b nonzero ≡ t1
            → let τ : MachineState = turn (pick t1 (to (seq plain)) (pick t2 (to percent) (pick t3 (to bond) (pick t4 (to atomNext) (pick t5 up (pick t6 down (machine.goes_on x b))))))) d in
            alive τ ≡ true
            → P τ (pick t1 (bridge_act (digit b) i μ) (pick t2 (keeps μ) (pick t3 (joint_act b μ) (pick t4 (joint_act b μ) (pick t5 (branch_act i μ) (pick t6 (keeps (moved (closed μ.st) μ)) (letter_act x μ)))))))
        split true t2 t3 t4 t5 t6 e v = digit-bridge e
        split false true t3 t4 t5 t6 e v = w.sign
        split false false true t4 t5 t6 e v = w.symbol
        split false false false true t5 t6 e v = w.joint
        split false false false false true t6 e v = w.branch
        split false false false false false true e v = goes_down d refl v
        split false false false false false false e v = goes_on_lem x f v

    pub in-bond : alive (turn (next bond b) d) ≡ true → P (turn (next bond b) d) (mode_act bond b i μ)
    unfolding next mode_act bridge_or
    in-bond = or-atom w.atom _ _ (split (among b nonzero) (eqb b 37) refl)
      where
        split : (t1 t2 : Bool) → among b nonzero ≡ t1 → let τ : MachineState = turn (pick t1 (to (seq plain)) (pick t2 (to percent) stop)) d in alive τ ≡ true → P τ (pick t1 (bridge_act (digit b) i μ) (keeps μ))
        split true t2 e v = digit-bridge e
        split false true e v = w.sign
        split false false e v = never v

    pub in_branch : alive (turn (next inside b) d) ≡ true → P (turn (next inside b) d) (mode_act inside b i μ)
    unfolding next mode_act
    in_branch = or-atom w.atom _ _ (split (among b bond_symbols) (eqb b 46))
      where
        split : (t1 t2 : Bool) → let τ : MachineState = turn (pick t1 (to atomNext) (pick t2 (to atomNext) stop)) d in alive τ ≡ true → P τ (joint_act b μ)
        split true t2 v = w.joint
        split false true v = w.joint
        split false false v = never v

    pub in-percent : alive (turn (next percent b) d) ≡ true → P (turn (next percent b) d) (mode_act percent b i μ)
    unfolding next mode_act
    in-percent = split (among b nonzero) refl
      where
        split : (t : Bool) → among b nonzero ≡ t → let τ : MachineState = turn (pick t (to percent1) stop) d in alive τ ≡ true → P τ (keeps (counting (digit b) μ))
        split true e v = w.tens (digit b) (nonzero-digit b e).0 (nonzero-digit b e).1
        split false e v = never v

    pub in-percent1 : μ.tens ≤ 9 → alive (turn (next percent1 b) d) ≡ true → P (turn (next percent1 b) d) (mode_act percent1 b i μ)
    unfolding next mode_act
    in-percent1 l = split (among b digits) refl
      where
        split : (t : Bool) → among b digits ≡ t → let τ : MachineState = turn (pick t (to (seq plain)) stop) d in alive τ ≡ true → P τ (bridge_act (10 * μ.tens + digit b) (i - 2) μ)
        split true e v = w.bridge (10 * μ.tens + digit b) (i - 2) (omega (arith, any-digit b e)) (omega arith)
        split false e v = never v
