-- A state that goes on and is not refused as 25 is taken up safely, and handed back as it stands. Assumes nothing.
use Prim.Native.Nat.{ℕ, zero, suc, ◌+◌, ◌≤◌, ◌<◌}
use native.Mathlib.Omega.{arith}
use native.Mathlib.Decide.{dec_lt}
use native.Mathlib.Nat.{add-zero}
use mathlib.Core.Path.{◌≡◌, refl, sym, ap, subst}
use mathlib.Core.Bool.{Bool, true, false, ◌&&◌}
use mathlib.Core.List.{List, [], ◌∷◌}
use lib.ListN.{length, get_or, get_or-eq_default}
use lib.IntN.{ℤ}
use lib.Dec.{eqb, leb}
use borrow.Author.Tests.{eq-eqb, eqb-true, lt-leb, leb-false}
use Rattle.loops.specs.Loop.{pick}
use Rattle.kinds.specs.Kind.{max_kind}
use Rattle.ids.specs.Limits.{bridges}
use Rattle.table.specs.Limits.{max_atoms}
use Rattle.reading_grammar.specs.declared.Last.TheVariants.{Plain as plain, AfterC as afterC, AfterB as afterB}
use Rattle.reading_grammar.specs.declared.Mode.{Mode}
use Rattle.reading_grammar.specs.declared.Mode.TheVariants.{Seq as seq, Bond as bond, AtomNext as atomNext, Inside as inside, Percent as percent, Percent1 as percent1, LetterA as letterA, LetterT as letterT, Bracket as bracket, Isotope as isotope, Symbol1 as symbol1, Symbolled as symbolled, At1 as at1, At2 as at2, Hydrogen as hydrogen, Hydrogens as hydrogens, Sign as sign, Charged as charged, Colon as colon, Extension as extension}
use Rattle.reading_grammar.specs.declared.MachineState.TheVariants.{Start as start, At as at}
use Rattle.reading_grammar.specs.Fold.{going}
use Rattle.reading_state.specs.declared.Fields.{Fields}
use Rattle.reading.specs.Memory.{dotted, symbol}
use Rattle.reading_pieces.specs.declared.Paused.{Paused}
use Rattle.reading_pieces.specs.State.{isotope_mode, extension_mode, mode_of, machine_of, memory_of, steering_of, fields_of, extension_in, pending_of, pending_number, paused_in, paused_at}
use Rattle.reading_pieces.specs.Broken.{broken_of, FieldAbove}
use Rattle.reading_pieces.specs.Safe.{Bounded, Half}
use Rattle.reader_bytes.specs.declared.Head.{Head}
use Rattle.reader_bytes.specs.Step.{Lent, memory_in, machine_in, reading_in, Ready}
use Rattle.reader_pieces.specs.Run.{mode_in, head_of, lent_of}
use Rattle.reader_pieces.proofs.Capped.{capped-most}
use Rattle.reader_pieces.proofs.Sound.{sound-tables, sound-field, sound-digit, sound-early, sound-hub, sound-branch, sound-bridge, sound-depth}

-- ---- the fields by the mode's number

-- what holds of each of a list of modes, by its number from k on
abbrev Along : (ℕ → Mode → Type 0) → ℕ → List Mode → Type 0
Along Q k [] = Unit {0}
Along Q k (m ∷ l) = Q k m × Along Q (suc k) l

along-at : (Q : ℕ → Mode → Type 0) (k : ℕ) (l : List Mode) (z : Mode) (m : ℕ) → Along Q k l → ((j : ℕ) → k + length l ≤ j → Q j z) → Q (k + m) (get_or l m z)
along-at Q k [] z m h e = e (k + m) (omega arith)
along-at Q k (x ∷ l) z zero h e = subst (λ (j : ℕ). Q j x) (sym (add-zero k)) h.0
along-at Q k (x ∷ l) z (suc m) h e =
    let q : suc k + m ≡ k + suc m = omega arith in
    subst (λ (j : ℕ). Q j (get_or l m z)) q (along-at Q (suc k) l z m h.1 (λ j u. e j (omega arith)))

-- the fields with an extension
abbrev with_extension : Fields → ℕ → Fields
with_extension f e = record { element = f.element; selected = f.selected; isotope = f.isotope; hydrogens = f.hydrogens; charge = f.charge; extension = e; mark = f.mark }

module _ (a e t : ℕ) (f : Fields) where
  isotope-half : f.isotope ≤ 999 → Half (isotope_mode f.isotope) t (with_extension f 0)
  isotope-half l = split (eqb f.isotope 0) refl
    where
      split : (x : Bool) → eqb f.isotope 0 ≡ x → Half (pick x bracket (isotope (pick (leb f.isotope 9) 2 (pick (leb f.isotope 99) 1 0)))) t (with_extension f 0)
      split true h = (eqb-true f.isotope 0 h, refl)
      split false h = (rw h, l, refl)

  extension-half : e ≤ 9999 → Half (extension_mode e) t (with_extension f e)
  extension-half l = split (eqb e 0) refl
    where
      split : (x : Bool) → eqb e 0 ≡ x → Half (pick x colon (extension (pick (leb e 9) 3 (pick (leb e 99) 2 (pick (leb e 999) 1 0))))) t (with_extension f e)
      split true h = eqb-true e 0 h
      split false h = (rw h, l)

  abbrev HalfAt : ℕ → Mode → Type 0
  HalfAt m x = (m ≡ 7 → t ≤ 9) → (10 ≤ m → (f.isotope ≤ 999) × (e ≤ 9999)) → Half x t (with_extension f (extension_in m e))

  mode-half : (m : ℕ) → HalfAt m (mode_of m a f.isotope e)
  unfolding mode_of
  mode-half m =
      let q : 0 + m ≡ m = omega arith in
      subst (λ (j : ℕ). HalfAt j (mode_of m a f.isotope e)) q
      (along-at HalfAt 0
      (atomNext ∷ seq plain ∷ seq afterC ∷ seq afterB ∷ bond ∷ inside ∷ percent ∷ percent1 ∷ letterA ∷ letterT
      ∷ isotope_mode f.isotope ∷ symbol1 a ∷ symbolled ∷ at1 ∷ at2 ∷ hydrogen ∷ hydrogens ∷ sign ∷ charged ∷ [])
      (extension_mode e) m (
        (λ x y. tt),
        (
          (λ x y. tt),
          (
            (λ x y. tt),
            (
              (λ x y. tt),
              (
                (λ x y. tt),
                (
                  (λ x y. tt),
                  (
                    (λ x y. tt),
                    (
                      (λ x y. x refl),
                      (
                        (λ x y. tt),
                        (
                          (λ x y. tt),
                          ((λ x y. isotope-half (y (omega arith)).0), ((λ x y. refl), ((λ x y. refl), ((λ x y. refl), ((λ x y. refl), ((λ x y. refl), ((λ x y. refl), ((λ x y. refl), ((λ x y. refl), tt))))))))),
                        ),
                      ),
                    ),
                  ),
                ),
              ),
            ),
          ),
        ),
      )
      (λ j u x y. late j u (extension-half (y (omega arith)).1)))
    where
      and-false : (b : Bool) → (b && false) ≡ false
      and-false true = refl
      and-false false = refl

      late : (j : ℕ) → 19 ≤ j → Half (extension_mode e) t (with_extension f e) → Half (extension_mode e) t (with_extension f (extension_in j e))
      late j u h = rw (lt-leb j 18 (omega arith), and-false (leb 10 j)) h

-- ---- a state that is taken up
module _ (p : Paused) (atoms bonds : List ℤ) (g : p.told ≡ 0) (e : broken_of p atoms bonds ≡ false) where
  hub-below : p.hub < max_atoms
  hub-below = split (dec_lt 0 p.atoms)
    where
      split : Dec (0 < p.atoms) → p.hub < max_atoms
      split (yes l) = omega (arith, sound-hub p atoms bonds e g l, (sound-tables p atoms bonds e).atoms_few)
      split (no l) = let z : p.atoms ≡ 0 = omega arith in omega (arith, sound-early p atoms bonds e g z)

  openers-below : length p.openers ≡ bridges → (r : ℕ) → get_or p.openers r 0 ≤ max_atoms
  openers-below n r = split (dec_lt r bridges)
    where
      split : Dec (r < bridges) → get_or p.openers r 0 ≤ max_atoms
      split (yes l) = omega (arith, sound-bridge p atoms bonds e g r l, (sound-tables p atoms bonds e).atoms_few)
      split (no l) = rw (get_or-eq_default p.openers 0 {n = r} (omega (arith, n))) (omega arith)

  state-bounded : length p.openers ≡ bridges → length p.offsets ≡ bridges → Bounded (steering_of p)
  state-bounded n m =
      record {
        atoms = (sound-tables p atoms bonds e).atoms_few;
        bonds = (sound-tables p atoms bonds e).bonds_few;
        depth = sound-depth p atoms bonds e g;
        hub = hub-below;
        stack = λ k l. omega (arith, sound-branch p atoms bonds e g k l, (sound-tables p atoms bonds e).atoms_few);
        opener = openers-below n;
        offset = capped-most bridges p.offsets (omega (arith, m));
      }

  no-branch : p.atoms ≡ 0 → p.depth ≡ 0
  no-branch z = split (dec_lt 0 p.depth)
    where
      split : Dec (0 < p.depth) → p.depth ≡ 0
      split (yes l) = absurd (omega (arith, sound-branch p atoms bonds e g 0 l, z))
      split (no l) = omega arith

  isotope-small : 10 ≤ p.mode → p.isotope ≤ 999
  isotope-small l = split (dec_lt 999 p.isotope)
    where
      split : Dec (999 < p.isotope) → p.isotope ≤ 999
      split (yes h) = absurd (sound-field p atoms bonds e l (FieldAbove.isotope h))
      split (no h) = omega arith

  extension-small : 10 ≤ p.mode → p.extension ≤ 9999
  extension-small l = split (dec_lt 9999 p.extension)
    where
      split : Dec (9999 < p.extension) → p.extension ≤ 9999
      split (yes h) = absurd (sound-field p atoms bonds e l (FieldAbove.extension h))
      split (no h) = omega arith

  mode-safe : Half (mode_of p.mode p.letter p.isotope p.extension) p.tens (fields_of p)
  mode-safe = mode-half p.letter p.extension p.tens (fields_of p) p.mode (sound-digit p atoms bonds e) (λ l. (isotope-small l, extension-small l))

  state-half : Half (mode_in p) p.tens (fields_of p)
  state-half = split (eqb p.atoms 0)
    where
      split : (x : Bool) → Half (pick x atomNext (mode_of p.mode p.letter p.isotope p.extension)) p.tens (fields_of p)
      split true = tt
      split false = mode-safe

  pub taken-ready : length p.openers ≡ bridges → length p.offsets ≡ bridges → Ready (head_of p) (lent_of p atoms bonds)
  taken-ready n m =
      record {
        safe = record { bounded = state-bounded n m; depth = refl; half = state-half };
        waits = λ z. rw (eq-eqb p.atoms 0 z);
        shallow = no-branch;
      }

-- it stands for the same reading
pub taken-same : (p : Paused) (atoms bonds : List ℤ) → reading_in (head_of p) (lent_of p atoms bonds) ≡ going (machine_of p) (memory_of p atoms bonds)
taken-same p atoms bonds = split (eqb p.atoms 0)
  where
    split : (x : Bool) → going (pick x start (at (pick x atomNext (mode_of p.mode p.letter p.isotope p.extension)) p.depth)) (memory_of p atoms bonds)
        ≡ going (pick x start (at (mode_of p.mode p.letter p.isotope p.extension) p.depth)) (memory_of p atoms bonds)
    split true = refl
    split false = refl

-- its numbers, from those that were made of it
pub head-so : (p : Paused) {m : Mode} {z : ℤ} {x : ℕ} → m ≡ mode_in p → z ≡ p.charge → x ≡ extension_in p.mode p.extension
    → ◌≡◌ {A = Head} (record {
      mode = m;
      pending = p.pending;
      tens = p.tens;
      draft = record { element = p.element; selected = p.selected; isotope = p.isotope; hydrogens = p.hydrogens; charge = z; extension = x; mark = p.mark };
      hub = record { 0 = p.hub };
      atoms = p.atoms;
      bonds = p.bonds;
      depth = p.depth;
    }) (head_of p)
head-so p em ez ex = rw (em, ez, ex)

-- ---- a state that is handed back
pub pending-again : (k : ℕ) → k ≤ 7 → k ≡ pending_number (pending_of k)
pending-again zero h = refl
pending-again (suc k) h = split (leb k max_kind) refl
  where
    split : (x : Bool) → leb k max_kind ≡ x → suc k ≡ pending_number (pick x (symbol k) dotted)
    split true e = refl
    split false e = omega (arith, leb-false k max_kind e)

pub pending-above : (k : ℕ) → 7 < k → 7 ≡ pending_number (pending_of k)
pending-above zero h = absurd (omega arith)
pending-above (suc k) h = rw (lt-leb k max_kind (omega arith))

pub paused-so : (i : ℕ) (h : Head) (l : Lent) → Ready h l → paused_at i (machine_in h) (memory_in h l) ≡ paused_in i h.mode (memory_in h l)
paused-so i h l w = split (eqb h.atoms 0) refl
  where
    split : (x : Bool) → eqb h.atoms 0 ≡ x → paused_at i (pick x start (at h.mode h.depth)) (memory_in h l) ≡ paused_in i h.mode (memory_in h l)
    split true e = ap (λ (m : Mode). paused_in i m (memory_in h l)) (sym (w.waits (eqb-true h.atoms 0 e)))
    split false e = refl
