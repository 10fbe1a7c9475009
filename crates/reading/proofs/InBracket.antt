-- The memory stays sane at each byte of a bracket. Assumes nothing.
use Prim.Native.Nat.{ℕ, zero, suc, ◌≤◌}
use native.Mathlib.Omega.{arith}
use mathlib.Core.Path.{◌≡◌, refl, sym, ◌∙◌}
use mathlib.Core.Bool.{Bool, true, false}
use mathlib.Core.List.{[], ◌∷◌}
use lib.Dec.{eqb}
use borrow.Author.Tests.{eqb-true}
use Rattle.loops.specs.Loop.{pick}
use Rattle.element.specs.Symbols.{among, listed, symbols, starts, marks}
use Rattle.element.specs.Lookup.{number_of}
use Rattle.reading_grammar.specs.Grammar.{nonzero, digits, several, signs}
use Rattle.reading_grammar.specs.declared.Last.TheVariants.{Plain as plain}
use Rattle.reading_grammar.specs.declared.Mode.{Mode}
use Rattle.reading_grammar.specs.declared.Mode.TheVariants.{Seq as seq, Bracket as bracket, Isotope as isotope, Symbol1 as symbol1, Symbolled as symbolled, At1 as at1, At2 as at2, Hydrogen as hydrogen, Hydrogens as hydrogens, Sign as sign, Charged as charged, Colon as colon, Extension as extension}
use Rattle.reading_grammar.specs.declared.Move.{Move}
use Rattle.reading_grammar.specs.declared.Move.TheVariants.{Stop as stop, To as to}
use Rattle.reading_grammar.specs.declared.MachineState.{MachineState}
use Rattle.reading_grammar.specs.Machine.{alive, turn, symbol_or, next}
use Rattle.reading_grammar.specs.Machine as machine
use Rattle.reading_grammar.specs.Fold.{keeps}
use Rattle.reading_grammar.proofs.Ends.{never}
use Rattle.table.specs.Valid.{max_mark}
use Rattle.reading.specs.Memory.{Memory, row_of, described, drafted}
use Rattle.reading.specs.Bracket.{digit, isotoped, elemented, marked, hydrogened, signed, positive}
use Rattle.reading.specs.Bracket as fields
use Rattle.reading.specs.Act.{Acts, close_act, charge_act, hydrogen_act, mark_act, isotope_act, mode_act}
use Rattle.reading.proofs.Sane.{InRange, HalfRead, SaneAct, isotope_most, extension_most}
use Rattle.reading.proofs.Draft.{any-digit, nonzero-digit, several-digit, number_small, wider, isotoped-range, elemented-range, symbolled-range, marked-range, hydrogened-range, charged-range, extended-range, isotope-digit, extension-digit, isotope-most, extension-most, row-of-fields}
use Rattle.reading.proofs.Letters.{digit-no-symbol, digit-closes-not, nonzero-is-digit}
use Rattle.reading.proofs.Atoms.{Held, sane-of, held-later, held-drafted, held-described}

-- what follows a byte, the machine being alive
abbrev pub Follows : ℕ → ℕ → ℕ → MachineState → Acts → Type 0
Follows p q i τ a = alive τ ≡ true → SaneAct p q τ (suc i) a

module _ {p q d i : ℕ} {μ : Memory} (h : Held p q d i μ) where
  -- `]`
  pub close-act : {e : ℕ} → InRange 999 e μ.draft → e ≤ 9999 → (b : ℕ) → Follows p q i (turn (machine.closing b) d) (close_act b μ)
  unfolding machine.closing
  close-act r l b = split (eqb b 93)
    where
      split : (t : Bool) → Follows p q i (turn (pick t (to (seq plain)) stop) d) (keeps (pick t (described (row_of μ.draft) μ) μ))
      split true v = sane-of (seq plain) (held-later (held-described (row_of μ.draft) (row-of-fields (wider r 999 9999 (omega arith) l)) h)) tt
      split false v = never v

  -- `:` or `]`
  pub extend-act : InRange 999 0 μ.draft → (b : ℕ) → Follows p q i (turn (machine.extending b) d) (close_act b μ)
  unfolding machine.extending
  extend-act r b = split (eqb b 58) refl
    where
      split : (t : Bool) → eqb b 58 ≡ t → Follows p q i (turn (pick t (to colon) (machine.closing b)) d) (close_act b μ)
      split true e v = let k : b ≡ 58 = eqb-true b 58 e in rw k (sane-of colon (held-later h) r)
      split false e v = close-act r (omega arith) b v

  pub charge-act : InRange 999 0 μ.draft → (b : ℕ) → Follows p q i (turn (machine.charging b) d) (charge_act b μ)
  unfolding machine.charging
  charge-act r b = split (among b signs)
    where
      split : (t : Bool) → Follows p q i (turn (pick t (to sign) (machine.extending b)) d) (pick t (keeps (drafted (fields.charged (signed (eqb b 43) 1) μ.draft) μ)) (close_act b μ))
      split true v = sane-of sign (held-drafted (fields.charged (signed (eqb b 43) 1) μ.draft) h) (charged-range r (eqb b 43) 1 (omega arith) (omega arith))
      split false v = extend-act r b v

  pub hydrate-act : InRange 999 0 μ.draft → (b : ℕ) → Follows p q i (turn (machine.hydrating b) d) (hydrogen_act b μ)
  unfolding machine.hydrating
  hydrate-act r b = split (eqb b 72)
    where
      split : (t : Bool) → Follows p q i (turn (pick t (to hydrogen) (machine.charging b)) d) (pick t (keeps (drafted (hydrogened 1 μ.draft) μ)) (charge_act b μ))
      split true v = sane-of hydrogen (held-drafted (hydrogened 1 μ.draft) h) (hydrogened-range r 1 (omega arith))
      split false v = charge-act r b v

  -- `@`, after which the mark is k and the mode m
  pub mark-act : InRange 999 0 μ.draft → (k : ℕ) (m : Mode) → k ≤ max_mark → ((ν : Memory) → InRange 999 0 ν.draft → HalfRead m ν) → (b : ℕ) → Follows p q i (turn (pick (eqb b 64) (to m) (machine.hydrating b)) d) (mark_act k b μ)
  mark-act r k m l half b = split (eqb b 64)
    where
      split : (t : Bool) → Follows p q i (turn (pick t (to m) (machine.hydrating b)) d) (pick t (keeps (drafted (marked k μ.draft) μ)) (hydrogen_act b μ))
      split true v = sane-of m (held-drafted (marked k μ.draft) h) (half (drafted (marked k μ.draft) μ) (marked-range r k l))
      split false v = hydrate-act r b v

  pub first-mark : InRange 999 0 μ.draft → (b : ℕ) → Follows p q i (turn (machine.marking b) d) (mark_act 1 b μ)
  unfolding machine.marking
  first-mark r b = mark-act r 1 at1 (omega arith) (λ ν w. w) b

  pub second-mark : InRange 999 0 μ.draft → (b : ℕ) → Follows p q i (turn (next at1 b) d) (mark_act 2 b μ)
  unfolding next
  second-mark r b = mark-act r 2 at2 (omega arith) (λ ν w. w) b

  -- ---- a symbol, or a digit of the isotope before it
  symbol-act : InRange 999 0 μ.draft → (b : ℕ) (k : Move) → alive (turn k d) ≡ false → Follows p q i (turn (symbol_or b k) d) (keeps (drafted (fields.symbolled b μ.draft) μ))
  unfolding symbol_or
  symbol-act r b k n = split (starts b symbols) (among b marks)
    where
      after : Held p q d (suc i) (drafted (fields.symbolled b μ.draft) μ)
      after = held-drafted (fields.symbolled b μ.draft) h

      split : (t u : Bool) → Follows p q i (turn (pick t (to (symbol1 b)) (pick u (to symbolled) k)) d) (keeps (drafted (fields.symbolled b μ.draft) μ))
      split true u v = sane-of (symbol1 b) after (symbolled-range r b)
      split false true v = sane-of symbolled after (symbolled-range r b)
      split false false v = never (sym n ∙ v)

  -- with a digit the machine goes to o, where the isotope with that digit is in range
  isotope-act : InRange 999 0 μ.draft → (b : ℕ) (k : Move) → (among b digits ≡ false → alive (turn k d) ≡ false)
      → (among b digits ≡ true → Follows p q i (turn k d) (keeps (drafted (isotoped b μ.draft) μ)))
      → Follows p q i (turn (symbol_or b k) d) (isotope_act b μ)
  isotope-act r b k off on = split (among b digits) refl
    where
      split : (t : Bool) → among b digits ≡ t → Follows p q i (turn (symbol_or b k) d) (keeps (drafted (pick t (isotoped b μ.draft) (fields.symbolled b μ.draft)) μ))
      split true e v = rw (digit-no-symbol b e k) (on e (rw (digit-no-symbol b e k) at v))
      split false e v = symbol-act r b k (off e) v

  pub bracket-step : InRange 0 0 μ.draft → (b : ℕ) → Follows p q i (turn (next bracket b) d) (isotope_act b μ)
  unfolding next
  bracket-step r b = isotope-act (wider r 999 0 (omega arith) (omega arith)) b (pick (among b nonzero) (to (isotope 2)) stop) (off (among b nonzero) refl) (on (among b nonzero) refl)
    where
      off : (t : Bool) → among b nonzero ≡ t → among b digits ≡ false → alive (turn (pick t (to (isotope 2)) stop) d) ≡ false
      off true e f = never (sym f ∙ nonzero-is-digit b e)
      off false e f = refl

      on : (t : Bool) → among b nonzero ≡ t → among b digits ≡ true → Follows p q i (turn (pick t (to (isotope 2)) stop) d) (keeps (drafted (isotoped b μ.draft) μ))
      on true e f v = sane-of (isotope 2) (held-drafted (isotoped b μ.draft) h) (omega arith, isotoped-range r b 9 (omega (arith, any-digit b f)))
      on false e f v = never v

  pub isotope-step : (k : ℕ) → k ≤ 2 → InRange (isotope_most k) 0 μ.draft → (b : ℕ) → Follows p q i (turn (next (isotope k) b) d) (isotope_act b μ)
  unfolding next
  isotope-step zero l r b = isotope-act r b stop (λ e. refl) (λ e v. never v)
  isotope-step (suc k) l r b = isotope-act (wider r 999 0 (isotope-most (suc k)) (omega arith)) b (pick (among b digits) (to (isotope k)) stop) (off (among b digits)) (on (among b digits) refl)
    where
      off : (t : Bool) → t ≡ false → alive (turn (pick t (to (isotope k)) stop) d) ≡ false
      off true e = e
      off false e = refl

      on : (t : Bool) → among b digits ≡ t → t ≡ true → Follows p q i (turn (pick t (to (isotope k)) stop) d) (keeps (drafted (isotoped b μ.draft) μ))
      on true e f v = sane-of (isotope k) (held-drafted (isotoped b μ.draft) h) (omega arith, isotope-digit k l r b (any-digit b e))
      on false e f v = never v

  pub symbol-step : (a : ℕ) → InRange 999 0 μ.draft → (b : ℕ) → Follows p q i (turn (next (symbol1 a) b) d) (mode_act (symbol1 a) b i μ)
  unfolding next mode_act
  symbol-step a r b = split (listed (a ∷ b ∷ []) symbols) (listed (a ∷ []) symbols)
    where
      split : (t u : Bool) → Follows p q i (turn (pick t (to symbolled) (pick u (machine.marking b) stop)) d) (pick t (keeps (drafted (elemented (number_of (a ∷ b ∷ [])) 0 μ.draft) μ)) (mark_act 1 b μ))
      split true u v = sane-of symbolled (held-drafted (elemented (number_of (a ∷ b ∷ [])) 0 μ.draft) h) (elemented-range r (number_of (a ∷ b ∷ [])) 0 (number_small (a ∷ b ∷ [])) (omega arith) refl)
      split false true v = first-mark r b v
      split false false v = never v

  -- ---- after the symbol
  pub hydrogen-step : InRange 999 0 μ.draft → (b : ℕ) → Follows p q i (turn (next hydrogen b) d) (mode_act hydrogen b i μ)
  unfolding next mode_act
  hydrogen-step r b = split (among b several) refl
    where
      split : (t : Bool) → among b several ≡ t → Follows p q i (turn (pick t (to hydrogens) (machine.charging b)) d) (pick t (keeps (drafted (hydrogened (digit b) μ.draft) μ)) (charge_act b μ))
      split true e v = sane-of hydrogens (held-drafted (hydrogened (digit b) μ.draft) h) (hydrogened-range r (digit b) (several-digit b e).1)
      split false e v = charge-act r b v

  pub sign-step : InRange 999 0 μ.draft → (b : ℕ) → Follows p q i (turn (next sign b) d) (mode_act sign b i μ)
  unfolding next mode_act
  sign-step r b = split (among b several) refl
    where
      split : (t : Bool) → among b several ≡ t → Follows p q i (turn (pick t (to charged) (machine.extending b)) d) (pick t (keeps (drafted (fields.charged (signed (positive μ.draft.charge) (digit b)) μ.draft) μ)) (close_act b μ))
      split true e v = sane-of charged (held-drafted (fields.charged (signed (positive μ.draft.charge) (digit b)) μ.draft) h) (charged-range r (positive μ.draft.charge) (digit b) (omega (arith, (several-digit b e).0)) (several-digit b e).1)
      split false e v = extend-act r b v

  pub colon-step : InRange 999 0 μ.draft → (b : ℕ) → Follows p q i (turn (next colon b) d) (mode_act colon b i μ)
  unfolding next mode_act
  colon-step r b = split (among b nonzero) refl
    where
      split : (t : Bool) → among b nonzero ≡ t → Follows p q i (turn (pick t (to (extension 3)) stop) d) (keeps (drafted (fields.extended b μ.draft) μ))
      split true e v = sane-of (extension 3) (held-drafted (fields.extended b μ.draft) h) (omega arith, extended-range r b 9 (omega (arith, (nonzero-digit b e).1)))
      split false e v = never v

  pub extension-step : (k : ℕ) → k ≤ 3 → InRange 999 (extension_most k) μ.draft → (b : ℕ) → Follows p q i (turn (next (extension k) b) d) (mode_act (extension k) b i μ)
  unfolding next mode_act
  extension-step zero l r b = split (among b digits) refl
    where
      split : (t : Bool) → among b digits ≡ t → Follows p q i (turn (machine.closing b) d) (pick t (keeps (drafted (fields.extended b μ.draft) μ)) (close_act b μ))
      split true e v = never (rw (digit-closes-not b e) at v)
      split false e v = close-act r (omega arith) b v
  extension-step (suc k) l r b = split (among b digits) refl
    where
      split : (t : Bool) → among b digits ≡ t → Follows p q i (turn (pick t (to (extension k)) (machine.closing b)) d) (pick t (keeps (drafted (fields.extended b μ.draft) μ)) (close_act b μ))
      split true e v = sane-of (extension k) (held-drafted (fields.extended b μ.draft) h) (omega arith, extension-digit k l r b (any-digit b e))
      split false e v = close-act r (extension-most (suc k)) b v
