-- A text is complete in the modes between the atoms of a sequence. Assumes nothing.
use Prim.Native.Nat.{ℕ, zero, suc}
use native.Mathlib.Omega.{arith}
use mathlib.Core.Path.{◌≡◌, refl}
use mathlib.Core.Bool.{Bool, true, false, ◌&&◌}
use mathlib.Core.List.{List, [], ◌∷◌}
use lib.ListN.{get_or}
use lib.Dec.{eqb, leb}
use borrow.Author.Tests.{eq-eqb, ne_eqb, le-leb, lt-leb}
use Rattle.loops.specs.Loop.{pick}
use Rattle.reading_grammar.specs.declared.Last.{Last}
use Rattle.reading_grammar.specs.declared.Last.TheVariants.{Plain as plain, AfterC as afterC, AfterB as afterB}
use Rattle.reading_grammar.specs.declared.Mode.{Mode}
use Rattle.reading_grammar.specs.declared.Mode.TheVariants.{Seq as seq, Bond as bond, Inside as inside, Percent as percent, Percent1 as percent1, LetterA as letterA, LetterT as letterT, Bracket as bracket, Isotope as isotope, Symbol1 as symbol1, Symbolled as symbolled, At1 as at1, At2 as at2, Hydrogen as hydrogen, Hydrogens as hydrogens, Sign as sign, Charged as charged, Colon as colon, Extension as extension}
use Rattle.reading_grammar.specs.Machine.{resting, accepting}
use Rattle.reading_pieces.specs.declared.Paused.{Paused}
use Rattle.reading_pieces.specs.State.{isotope_mode, extension_mode, mode_of, machine_of}

-- modes in which no text ends
abbrev Unfinished : ℕ → List Mode → Type 0
Unfinished d [] = Unit {0}
Unfinished d (m ∷ l) = (resting m d ≡ false) × Unfinished d l

unfinished-at : (d : ℕ) (l : List Mode) (m : ℕ) (z : Mode) → Unfinished d l → resting z d ≡ false → resting (get_or l m z) d ≡ false
unfinished-at d [] m z h e = e
unfinished-at d (x ∷ l) zero z h e = h.0
unfinished-at d (x ∷ l) (suc m) z h e = unfinished-at d l m z h.1 e

module _ (a i e d : ℕ) where
  isotope-rests : resting (isotope_mode i) d ≡ false
  unfolding resting
  isotope-rests = split (eqb i 0) (pick (leb i 9) 2 (pick (leb i 99) 1 0))
    where
      split : (t : Bool) (k : ℕ) → resting (pick t bracket (isotope k)) d ≡ false
      split true k = refl
      split false k = refl

  extension-rests : resting (extension_mode e) d ≡ false
  unfolding resting
  extension-rests = split (eqb e 0) (pick (leb e 9) 3 (pick (leb e 99) 2 (pick (leb e 999) 1 0)))
    where
      split : (t : Bool) (k : ℕ) → resting (pick t colon (extension k)) d ≡ false
      split true k = refl
      split false k = refl

  seq-rests : (x : Last) → eqb d 0 ≡ resting (seq x) d
  unfolding resting
  seq-rests x = go d
    where
      go : (d : ℕ) → eqb d 0 ≡ resting (seq x) d
      go zero = refl
      go (suc d) = ne_eqb (suc d) 0 (λ z. omega arith)

  abbrev later : List Mode
  later = bond ∷ inside ∷ percent ∷ percent1 ∷ letterA ∷ letterT ∷ isotope_mode i ∷ symbol1 a ∷ symbolled ∷ at1 ∷ at2 ∷ hydrogen ∷ hydrogens ∷ sign ∷ charged ∷ []

  later-rests : Unfinished d later
  unfolding resting
  later-rests = (refl, (refl, (refl, (refl, (refl, (refl, (isotope-rests, (refl, (refl, (refl, (refl, (refl, (refl, (refl, (refl, tt)))))))))))))))

  mode-rests : (m : ℕ) → (leb 1 m && leb m 3 && eqb d 0) ≡ resting (mode_of m a i e) d
  unfolding mode_of resting
  mode-rests zero = refl
  mode-rests (suc zero) = seq-rests plain
  mode-rests (suc (suc zero)) = seq-rests afterC
  mode-rests (suc (suc (suc zero))) = seq-rests afterB
  mode-rests (suc (suc (suc (suc m)))) = rw (le-leb 1 (suc (suc (suc (suc m)))) (omega arith), lt-leb (suc (suc (suc (suc m)))) 3 (omega arith), unfinished-at d later m (extension_mode e) later-rests extension-rests)

module _ (p : Paused) where
  pub empty-rests : p.atoms ≡ 0 → true ≡ accepting (machine_of p)
  unfolding accepting
  empty-rests e = rw (eq-eqb p.atoms 0 e)

  pub sequence-rests : (p.atoms ≡ 0 → ⊥) → (leb 1 p.mode && leb p.mode 3 && eqb p.depth 0) ≡ accepting (machine_of p)
  unfolding accepting
  sequence-rests n = rw (ne_eqb p.atoms 0 n) (mode-rests p.letter p.isotope p.extension p.depth p.mode)
