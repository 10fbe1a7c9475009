-- Every byte, in every mode of the machine, read by a memory and by the one that has n atoms, m bonds and δ bytes before it. Assumes nothing.
use Prim.Native.Nat.{ℕ, zero, suc, ◌+◌, ◌-◌, ◌*◌, ◌<◌}
use native.Mathlib.Omega.{arith}
use mathlib.Core.Path.{◌≡◌, refl, sym, ap, subst, ◌∙◌}
use mathlib.Core.Bool.{Bool, true, false, ◌&&◌, not}
use mathlib.Core.Logic.{⊎_elim}
use mathlib.Core.List.{List, [], ◌∷◌}
use lib.Dec.{eqb}
use borrow.Author.Tests.{ne_eqb, eqb-true}
use Rattle.loops.specs.Loop.{pick}
use Rattle.element.specs.declared.Letter.{Letter}
use Rattle.element.specs.declared.Letter.TheVariants.{Plain, Selected, Half, Bracket, Nothing}
use Rattle.element.specs.Symbols.{among, listed, symbols, letters}
use Rattle.element.specs.Lookup.{letter_of, number_of}
use Rattle.reading_grammar.specs.Grammar.{nonzero, digits, several, bond_symbols, signs}
use Rattle.reading_grammar.specs.declared.Last.{Last}
use Rattle.reading_grammar.specs.declared.Last.TheVariants.{Plain as plain, AfterC as afterC, AfterB as afterB}
use Rattle.reading_grammar.specs.declared.Mode.{Mode}
use Rattle.reading_grammar.specs.declared.Mode.TheVariants.{Seq as seq, Bond as bond, AtomNext as atomNext, Inside as inside, Percent as percent, Percent1 as percent1, LetterA as letterA, LetterT as letterT, Bracket as bracket, Isotope as isotope, Symbol1 as symbol1, Symbolled as symbolled, At1 as at1, At2 as at2, Hydrogen as hydrogen, Hydrogens as hydrogens, Sign as sign, Charged as charged, Colon as colon, Extension as extension}
use Rattle.reading_grammar.specs.declared.Move.{Move}
use Rattle.reading_grammar.specs.declared.Move.TheVariants.{Stop as stop}
use Rattle.reading_grammar.specs.declared.MachineState.{MachineState}
use Rattle.reading_grammar.specs.declared.MachineState.TheVariants.{At as at}
use Rattle.reading_grammar.specs.Machine.{alive, turn, next, atom_or, bridge_or}
use Rattle.reading_grammar.specs.Fold.{keeps}
use Rattle.reading_grammar.proofs.Ends.{never}
use Rattle.reading_state.specs.State.{closed}
use Rattle.reading_state.specs.declared.Fields.{Fields}
use Rattle.reading.specs.Memory.{Memory, Pending, dotted, symbol, kind_of, after_dot, row_of, bare_row, bonded, described, awaiting, moved, counting, drafted}
use Rattle.reading.specs.Bracket.{digit, isotoped, elemented, marked, hydrogened, signed, positive, extended}
use Rattle.reading.specs.Bracket as fields
use Rattle.kinds.specs.Kind.{symbol_kind}
use Rattle.reading.specs.Act.{Acts, or_atom, atom_act, second_letter, letter_act, bridge_act, joint_act, close_act, charge_act, hydrogen_act, mark_act, isotope_act, mode_act}
use Rattle.reading.proofs.Sane.{Sane}
use Rattle.reading.proofs.Letters.{Begins, begins}
use Rattle.reading.proofs.Atoms.{Held, ready, held_of}
use Rattle.mixture.proofs.Behind.{Behind, Grown, Both}
use Rattle.mixture.proofs.Steps.{Jointly, described-behind, atom-both}
use Rattle.mixture.proofs.Bridges.{bridge-both, branch-both, unbranch-behind}

-- ---- tests that are asked of the byte alone
by_both : (R : Acts → Acts → Type 0) (t : Bool) (a b c d : Acts) → (t ≡ true → R a c) → (t ≡ false → R b d) → R (pick t a b) (pick t c d)
by_both R true a b c d f g = f refl
by_both R false a b c d f g = g refl

or-both : (R : Acts → Acts → Type 0) (l : Letter) (a k c d : Acts) → ((l ≡ Nothing → ⊥) → R a c) → R k d → R (or_atom l a k) (or_atom l c d)
or-both R (Plain e) a k c d f g = f (λ q. let z : ◌≡◌ {A = ℕ} 0 1 = cc in omega arith)
or-both R (Selected e) a k c d f g = f (λ q. let z : ◌≡◌ {A = ℕ} 0 1 = cc in omega arith)
or-both R Half a k c d f g = f (λ q. let z : ◌≡◌ {A = ℕ} 0 1 = cc in omega arith)
or-both R Bracket a k c d f g = f (λ q. let z : ◌≡◌ {A = ℕ} 0 1 = cc in omega arith)
or-both R Nothing a k c d f g = g

-- ---- what the machine rules out
begins-some : {l : Letter} {o : Move} → Begins l o → l ≡ Nothing → ⊥
begins-some (Begins.plain s) q = let z : ◌≡◌ {A = ℕ} 0 1 = cc in omega arith
begins-some (Begins.selected s t) q = let z : ◌≡◌ {A = ℕ} 0 1 = cc in omega arith
begins-some Begins.letter-a q = let z : ◌≡◌ {A = ℕ} 0 1 = cc in omega arith
begins-some Begins.letter-t q = let z : ◌≡◌ {A = ℕ} 0 1 = cc in omega arith
begins-some Begins.opening q = let z : ◌≡◌ {A = ℕ} 0 1 = cc in omega arith

-- where only an atom may begin, the byte begins one
pub only-atom : (b d : ℕ) → alive (turn (atom_or b stop) d) ≡ true → letter_of b ≡ Nothing → ⊥
only-atom b d v = ⊎_elim (λ w. begins-some w) (λ e f. never (rw e.1 at v)) (begins b stop)

-- a branch closes where one is open
deep : (x : Last) (d : ℕ) → alive (turn (next (seq x) 41) d) ≡ true → 0 < d
unfolding next atom_or bridge_or among letters nonzero bond_symbols
deep x zero v = never v
deep x (suc d) v = omega arith

-- the first digit after `%` is the same where it is waited for, and the `%` stands δ bytes later
abbrev pub SamePercent : ℕ → ℕ → ℕ → MachineState → Memory → Memory → Type 0
SamePercent δ o e σ μ κ = (d : ℕ) → σ ≡ at percent1 d → (κ.tens ≡ μ.tens) × (e - 2 ≡ δ + (o - 2))

module _ {n m δ p q d i p' q' d' j : ℕ} {φ : List ℕ} {μ κ : Memory} (h : Held p q d i μ) (k : Held p' q' d' j κ) (w : Behind n m δ φ μ κ) where
  still : Grown μ μ
  still = record { atoms = omega arith; bonds = omega arith; clear = λ x. x }

  same : Both n m δ φ μ (keeps μ) (keeps κ)
  same = (still, λ r. w)

  jointly : Jointly n μ κ
  jointly = record { alike = alike; hub = λ b. w.hub; kind = λ b. ap kind_of w.pending }
    where
      none : eqb κ.st.atoms 0 ≡ eqb μ.st.atoms 0
      none = ne_eqb κ.st.atoms 0 (λ e. omega (arith, k.hub)) ∙ sym (ne_eqb μ.st.atoms 0 (λ e. omega (arith, h.hub)))

      alike : bonded κ ≡ bonded μ
      alike = λ v. not (none v) && not (after_dot (w.pending v))

  awaits : (x : Pending) → Both n m δ φ μ (keeps (awaiting x μ)) (keeps (awaiting x κ))
  awaits x = (record { atoms = omega arith; bonds = omega arith; clear = λ x. x }, λ r. record { ground = w.ground; hub = w.hub; pending = refl; draft = w.draft })

  counts : (x : ℕ) → Both n m δ φ μ (keeps (counting x μ)) (keeps (counting x κ))
  counts x = (record { atoms = omega arith; bonds = omega arith; clear = λ x. x }, λ r. record { ground = w.ground; hub = w.hub; pending = w.pending; draft = w.draft })

  drafts : (f : Fields → Fields) → Both n m δ φ μ (keeps (drafted (f μ.draft) μ)) (keeps (drafted (f κ.draft) κ))
  drafts f = (record { atoms = omega arith; bonds = omega arith; clear = λ x. x }, λ r. record { ground = w.ground; hub = w.hub; pending = w.pending; draft = ap f w.draft })

  second : (e : ℕ) → Both n m δ φ μ (second_letter e μ) (second_letter e κ)
  second e = (record { atoms = omega arith; bonds = omega arith; clear = λ x. x }, λ r. described-behind h k w (bare_row e 0))

  letters-both : (x : Last) → Both n m δ φ μ (letter_act x μ) (letter_act x κ)
  letters-both plain = same
  letters-both afterC = second 17
  letters-both afterB = second 35

  joints : (b : ℕ) → Both n m δ φ μ (joint_act b μ) (joint_act b κ)
  joints b = awaits (pick (eqb b 46) dotted (symbol (symbol_kind b)))

  unbranch : 0 < μ.st.depth → Both n m δ φ μ (keeps (moved (closed μ.st) μ)) (keeps (moved (closed κ.st) κ))
  unfolding closed
  unbranch l = (record { atoms = omega arith; bonds = omega arith; clear = λ x. x }, λ r. unbranch-behind h k w l)

  -- ---- outside brackets
  atoms : (b o e : ℕ) → (letter_of b ≡ Nothing → ⊥) → Both n m δ φ μ (atom_act b o μ) (atom_act b e κ)
  atoms b o e f = atom-both (ready h) (ready k) w.ground jointly b o e f

  in_sequence : (x : Last) (b o e : ℕ) → e ≡ δ + o → (b ≡ 41 → 0 < μ.st.depth) → Both n m δ φ μ (mode_act (seq x) b o μ) (mode_act (seq x) b e κ)
  unfolding mode_act
  in_sequence x b o e later f =
      or-both (Both n m δ φ μ) (letter_of b) _ _ _ _ (atoms b o e)
      (by_both (Both n m δ φ μ) (among b nonzero) _ _ _ _ (λ t. bridge-both h k w (digit b) o e later) (λ t.
      by_both (Both n m δ φ μ) (eqb b 37) _ _ _ _ (λ t. same) (λ t.
      by_both (Both n m δ φ μ) (among b bond_symbols) _ _ _ _ (λ t. joints b) (λ t.
      by_both (Both n m δ φ μ) (eqb b 46) _ _ _ _ (λ t. joints b) (λ t.
      by_both (Both n m δ φ μ) (eqb b 40) _ _ _ _ (λ t. branch-both h k w o e) (λ t.
      by_both (Both n m δ φ μ) (eqb b 41) _ _ _ _ (λ t. unbranch (f (eqb-true b 41 t))) (λ t. letters-both x)))))))

  in-bond : (b o e : ℕ) → e ≡ δ + o → Both n m δ φ μ (mode_act bond b o μ) (mode_act bond b e κ)
  unfolding mode_act
  in-bond b o e later = or-both (Both n m δ φ μ) (letter_of b) _ _ _ _ (atoms b o e) (by_both (Both n m δ φ μ) (among b nonzero) _ _ _ _ (λ t. bridge-both h k w (digit b) o e later) (λ t. same))

  in_branch : (b o e : ℕ) → Both n m δ φ μ (mode_act inside b o μ) (mode_act inside b e κ)
  unfolding mode_act
  in_branch b o e = or-both (Both n m δ φ μ) (letter_of b) _ _ _ _ (atoms b o e) (joints b)

  in-percent1 : (b o e : ℕ) → e - 2 ≡ δ + (o - 2) → κ.tens ≡ μ.tens → Both n m δ φ μ (mode_act percent1 b o μ) (mode_act percent1 b e κ)
  unfolding mode_act
  in-percent1 b o e later t =
      subst (λ (x : ℕ). Both n m δ φ μ (bridge_act (10 * μ.tens + digit b) (o - 2) μ) (bridge_act (10 * x + digit b) (e - 2) κ)) (sym t) (bridge-both h k w (10 * μ.tens + digit b) (o - 2) (e - 2) later)

  -- ---- in a bracket
  closes : (b : ℕ) → Both n m δ φ μ (close_act b μ) (close_act b κ)
  closes b = split (eqb b 93)
    where
      split : (t : Bool) → Both n m δ φ μ (keeps (pick t (described (row_of μ.draft) μ) μ)) (keeps (pick t (described (row_of κ.draft) κ) κ))
      split true = (
        record { atoms = omega arith; bonds = omega arith; clear = λ x. x },
        λ r. subst (λ (f : Fields). Behind n m δ φ (described (row_of μ.draft) μ) (described (row_of f) κ)) (sym w.draft) (described-behind h k w (row_of μ.draft)),
      )
      split false = same

  charges : (b : ℕ) → Both n m δ φ μ (charge_act b μ) (charge_act b κ)
  charges b = by_both (Both n m δ φ μ) (among b signs) _ _ _ _ (λ t. drafts (fields.charged (signed (eqb b 43) 1))) (λ t. closes b)

  hydrates : (b : ℕ) → Both n m δ φ μ (hydrogen_act b μ) (hydrogen_act b κ)
  hydrates b = by_both (Both n m δ φ μ) (eqb b 72) _ _ _ _ (λ t. drafts (hydrogened 1)) (λ t. charges b)

  -- `@`, the first or the second
  marks : (x b : ℕ) → Both n m δ φ μ (mark_act x b μ) (mark_act x b κ)
  marks x b = by_both (Both n m δ φ μ) (eqb b 64) _ _ _ _ (λ t. drafts (marked x)) (λ t. hydrates b)

  isotopes : (b : ℕ) → Both n m δ φ μ (isotope_act b μ) (isotope_act b κ)
  isotopes b = drafts (λ f. pick (among b digits) (isotoped b f) (fields.symbolled b f))

-- ---- every mode
module _ {n m δ p q i p' q' j : ℕ} {φ : List ℕ} {μ κ : Memory} where
  pub mode-both : (x : Mode) {d : ℕ} → Sane p q (at x d) i μ → Sane p' q' (at x d) j κ → Behind n m δ φ μ κ → (b o e : ℕ) → e ≡ δ + o → SamePercent δ o e (at x d) μ κ → alive (turn (next x b) d) ≡ true → Both n m δ φ μ (mode_act x b o μ) (mode_act x b e κ)
  unfolding next mode_act
  mode-both (seq x) {d} h k w b o e later t v =
      in_sequence (held_of h) (held_of k) w x b o e later (λ f. let l = deep x d (subst (λ (c : ℕ). alive (turn (next (seq x) c) d) ≡ true) f v) in omega (arith, h.stands.depth))
  mode-both bond h k w b o e later t v = in-bond (held_of h) (held_of k) w b o e later
  mode-both atomNext {d} h k w b o e later t v = atoms (held_of h) (held_of k) w b o e (only-atom b d v)
  mode-both inside h k w b o e later t v = in_branch (held_of h) (held_of k) w b o e
  mode-both percent h k w b o e later t v = counts (held_of h) (held_of k) w (digit b)
  mode-both percent1 {d} h k w b o e later t v = in-percent1 (held_of h) (held_of k) w b o e (t d refl).1 (t d refl).0
  mode-both letterA h k w b o e later t v = second (held_of h) (held_of k) w 85
  mode-both letterT h k w b o e later t v = second (held_of h) (held_of k) w 117
  mode-both bracket h k w b o e later t v = isotopes (held_of h) (held_of k) w b
  mode-both (isotope y) h k w b o e later t v = isotopes (held_of h) (held_of k) w b
  mode-both (symbol1 a) h k w b o e later t v =
      by_both (Both n m δ φ μ) (listed (a ∷ b ∷ []) symbols) _ _ _ _ (λ y. drafts (held_of h) (held_of k) w (elemented (number_of (a ∷ b ∷ [])) 0)) (λ y. marks (held_of h) (held_of k) w 1 b)
  mode-both symbolled h k w b o e later t v = marks (held_of h) (held_of k) w 1 b
  mode-both at1 h k w b o e later t v = marks (held_of h) (held_of k) w 2 b
  mode-both at2 h k w b o e later t v = hydrates (held_of h) (held_of k) w b
  mode-both hydrogen h k w b o e later t v = by_both (Both n m δ φ μ) (among b several) _ _ _ _ (λ y. drafts (held_of h) (held_of k) w (hydrogened (digit b))) (λ y. charges (held_of h) (held_of k) w b)
  mode-both hydrogens h k w b o e later t v = charges (held_of h) (held_of k) w b
  mode-both sign h k w b o e later t v =
      by_both (Both n m δ φ μ) (among b several) _ _ _ _ (λ y. drafts (held_of h) (held_of k) w (λ f. fields.charged (signed (positive f.charge) (digit b)) f)) (λ y. closes (held_of h) (held_of k) w b)
  mode-both charged h k w b o e later t v = closes (held_of h) (held_of k) w b
  mode-both colon h k w b o e later t v = drafts (held_of h) (held_of k) w (extended b)
  mode-both (extension y) h k w b o e later t v = by_both (Both n m δ φ μ) (among b digits) _ _ _ _ (λ z. drafts (held_of h) (held_of k) w (extended b)) (λ z. closes (held_of h) (held_of k) w b)
