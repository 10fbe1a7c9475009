-- What a byte does in each mode, from what its functions ensure, and what a byte that the grammar takes is. Assumes nothing.
use Prim.Native.Nat.{ℕ, ◌+◌, ◌*◌, ◌≤◌, ◌<◌}
use native.Mathlib.Omega.{arith}
use mathlib.Core.Path.{◌≡◌, refl, sym, ap, ◌∙◌, subst}
use mathlib.Core.Bool.{Bool, true, false}
use lib.Dec.{eqb}
use Rattle.loops.specs.Loop.{pick}
use Rattle.element.specs.declared.Letter.{Letter}
use Rattle.element.specs.Symbols.{among}
use Rattle.element.specs.Lookup.{letter_of}
use Rattle.reading_grammar.specs.Grammar.{nonzero, digits, bond_symbols}
use Rattle.reading_grammar.specs.declared.Last.{Last}
use Rattle.reading_grammar.specs.declared.Mode.{Mode}
use Rattle.reading_grammar.specs.declared.Mode.TheVariants.{Seq, Bond, AtomNext, Inside, Percent, Percent1, LetterA, LetterT, Bracket, Isotope, Symbol1, Symbolled, At1, At2, Hydrogen, Hydrogens, Sign, Charged, Colon, Extension}
use Rattle.reading_grammar.specs.declared.Move.TheVariants.{Stop as stop, To as to}
use Rattle.reading_grammar.specs.Machine.{next}
use Rattle.reading_grammar.specs.Fold.{keeps}
use Rattle.reading_state.specs.declared.Fields.{Fields}
use Rattle.reading_state.specs.State.{closed}
use Rattle.reading.specs.Memory.{Memory, moved}
use Rattle.reading.specs.Bracket.{digit}
use Rattle.reading.specs.Act.{Acts, or_atom, atom_act, bridge_act, branch_act, joint_act, letter_act, close_act, charge_act, hydrogen_act, mark_act, isotope_act, mode_act}
use Rattle.reading.proofs.Letters.{nonzero-is-digit, digit-closes-not}
use Rattle.reading_fields.proofs.Letters.{nothing-first}
use Rattle.reading_deeds.specs.declared.Deed.{Deed}
use Rattle.reading_deeds.specs.Deed.{Acted, Drafts, Does, Fitting}
use Rattle.reading_deeds.proofs.Laws.{Starts, or-starts}

-- ---- what the grammar takes
-- the test of a move that does not stop
passed : (t : Bool) (n : Mode) → (pick t (to n) stop ≡ stop → ⊥) → t ≡ true
passed true n h = refl
passed false n h = absurd (h refl)

module _ (b : ℕ) {m : Mode} where
  pub percent-takes : (next m b ≡ stop → ⊥) → m ≡ Percent → among b digits ≡ true
  unfolding next
  percent-takes h e = nonzero-is-digit b (passed (among b nonzero) _ (λ z. h (ap (λ n. next n b) e ∙ z)))

  pub percent1-takes : (next m b ≡ stop → ⊥) → m ≡ Percent1 → among b digits ≡ true
  unfolding next
  percent1-takes h e = passed (among b digits) _ (λ z. h (ap (λ n. next n b) e ∙ z))

  pub colon-takes : (next m b ≡ stop → ⊥) → m ≡ Colon → among b digits ≡ true
  unfolding next
  colon-takes h e = nonzero-is-digit b (passed (among b nonzero) _ (λ z. h (ap (λ n. next n b) e ∙ z)))

  pub atom-takes : (next m b ≡ stop → ⊥) → m ≡ AtomNext → Starts (letter_of b)
  unfolding next
  atom-takes h e = split (letter_of b) refl
    where
      split : (l : Letter) → letter_of b ≡ l → Starts l
      split (Letter.Plain n) q = tt
      split (Letter.Selected n) q = tt
      split Letter.Half q = tt
      split Letter.Bracket q = tt
      split Letter.Nothing q = h (ap (λ n. next n b) e ∙ nothing-first b q stop)

-- ---- one digit more fits
module _ {m : Mode} (t : ℕ) (f : Fields) where
  pub tens-fit : Fitting m t f → m ≡ Percent1 → t ≤ 9
  tens-fit h e = subst (λ n. Fitting n t f) e h

  pub bracket-fits : Fitting m t f → m ≡ Bracket → f.isotope ≤ 999
  bracket-fits h e = subst (λ n. Fitting n t f) e h

  pub isotope-fits : {k : ℕ} → Fitting m t f → m ≡ Isotope k → f.isotope ≤ 999
  isotope-fits h e = subst (λ n. Fitting n t f) e h

  pub colon-fits : (b : ℕ) → Fitting m t f → m ≡ Colon → among b digits ≡ true → f.extension ≤ 999
  colon-fits b h e d = subst (λ n. Fitting n t f) e h

  pub extension-fits : (b : ℕ) {k : ℕ} → (next m b ≡ stop → ⊥) → Fitting m t f → m ≡ Extension k → among b digits ≡ true → f.extension ≤ 999
  unfolding next
  extension-fits b {k} w h e d = subst (λ n. Fitting n t f) e h (λ z. w (ap (λ n. next n b) (e ∙ ap Extension z) ∙ digit-closes-not b d))

-- ---- by mode
module _ (b t : ℕ) (f : Fields) {m : Mode} {r : Deed} where
  -- an act that asks for nothing, and one that asks for the fields
  acted : {a : ℕ → Memory → Acts} → ((i : ℕ) (μ : Memory) → mode_act m b i μ ≡ a i μ) → Acted a r → Does m b t f r
  acted e w = record { is = λ i μ d h. e i μ ∙ w.is i μ; number = w.number }

  drafted : {a : Memory → Acts} → ((i : ℕ) (μ : Memory) → mode_act m b i μ ≡ a μ) → Drafts f a r → Does m b t f r
  drafted e w = record { is = λ i μ d h. e i μ ∙ w.is i μ h; number = w.number }

  pub in_sequence : {x : Last} → m ≡ Seq x
      → Acted (λ i μ. or_atom (letter_of b) (atom_act b i μ) (pick (among b nonzero) (bridge_act (digit b) i μ) (pick (eqb b 37) (keeps μ) (pick (among b bond_symbols) (joint_act b μ) (pick (eqb b 46) (joint_act b μ) (pick (eqb b 40) (branch_act i μ) (pick (eqb b 41) (keeps (moved (closed μ.st) μ)) (letter_act x μ)))))))) r
      → Does m b t f r
  unfolding mode_act
  in_sequence e w = acted (λ i μ. rw e) w

  pub in-bond : m ≡ Bond → Acted (λ i μ. or_atom (letter_of b) (atom_act b i μ) (pick (among b nonzero) (bridge_act (digit b) i μ) (keeps μ))) r → Does m b t f r
  unfolding mode_act
  in-bond e w = acted (λ i μ. rw e) w

  pub at-atom : m ≡ AtomNext → Starts (letter_of b) → Acted (λ i μ. or_atom (letter_of b) (atom_act b i μ) (keeps μ)) r → Does m b t f r
  unfolding mode_act
  at-atom e s w = acted (λ i μ. rw e (sym (or-starts (letter_of b) (atom_act b i μ) (keeps μ) s))) w

  pub in_branch : m ≡ Inside → Acted (λ i μ. or_atom (letter_of b) (atom_act b i μ) (joint_act b μ)) r → Does m b t f r
  unfolding mode_act
  in_branch e w = acted (λ i μ. rw e) w

  pub in-bracket : m ≡ Bracket → Drafts f (isotope_act b) r → Does m b t f r
  unfolding mode_act
  in-bracket e w = drafted (λ i μ. rw e) w

  pub in-isotope : {k : ℕ} → m ≡ Isotope k → Drafts f (isotope_act b) r → Does m b t f r
  unfolding mode_act
  in-isotope e w = drafted (λ i μ. rw e) w

  pub after-letter : {a : ℕ} → m ≡ Symbol1 a → Drafts f (mode_act (Symbol1 a) b 0) r → Does m b t f r
  unfolding mode_act
  after-letter e w = drafted (λ i μ. rw e) w

  pub after_symbol : m ≡ Symbolled → Drafts f (mark_act 1 b) r → Does m b t f r
  unfolding mode_act
  after_symbol e w = drafted (λ i μ. rw e) w

  pub after-at : m ≡ At1 → Drafts f (mark_act 2 b) r → Does m b t f r
  unfolding mode_act
  after-at e w = drafted (λ i μ. rw e) w

  pub after-mark : m ≡ At2 → Drafts f (hydrogen_act b) r → Does m b t f r
  unfolding mode_act
  after-mark e w = drafted (λ i μ. rw e) w

  pub after-hydrogen : m ≡ Hydrogen → Drafts f (mode_act Hydrogen b 0) r → Does m b t f r
  unfolding mode_act
  after-hydrogen e w = drafted (λ i μ. rw e) w

  pub after-hydrogens : m ≡ Hydrogens → Drafts f (charge_act b) r → Does m b t f r
  unfolding mode_act
  after-hydrogens e w = drafted (λ i μ. rw e) w

  pub after-sign : m ≡ Sign → Drafts f (mode_act Sign b 0) r → Does m b t f r
  unfolding mode_act
  after-sign e w = drafted (λ i μ. rw e) w

  pub after-charge : m ≡ Charged → Acted (λ i. close_act b) r → Does m b t f r
  unfolding mode_act
  after-charge e w = acted (λ i μ. rw e) w

  pub after-colon : m ≡ Colon → among b digits ≡ true → Drafts f (mode_act (Extension 0) b 0) r → Does m b t f r
  unfolding mode_act
  after-colon e h w = drafted (λ i μ. rw (e, h)) w

  pub in-extension : {k : ℕ} → m ≡ Extension k → Drafts f (mode_act (Extension 0) b 0) r → Does m b t f r
  unfolding mode_act
  in-extension e w = drafted (λ i μ. rw e) w

module _ (b t : ℕ) (f : Fields) {m : Mode} where
  pub tens-does : {n : ℕ} → m ≡ Percent → n ≡ digit b → Does m b t f (Deed.Tens n)
  unfolding mode_act
  tens-does e h = record { is = λ i μ d g. rw (e, h); number = tt }

  pub number-does : {n : ℕ} → m ≡ Percent1 → t ≤ 9 → n ≡ digit b → n < 10 → Does m b t f (Deed.Bridge (10 * t + n) 2)
  unfolding mode_act
  number-does e l h s = record { is = λ i μ d g. rw (e, h, d); number = omega arith }

  pub astatine : m ≡ LetterA → Does m b t f (Deed.Second 85)
  unfolding mode_act
  astatine e = record { is = λ i μ d g. rw e; number = tt }

  pub tennessine : m ≡ LetterT → Does m b t f (Deed.Second 117)
  unfolding mode_act
  tennessine e = record { is = λ i μ d g. rw e; number = tt }
