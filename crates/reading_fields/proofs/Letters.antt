-- The letters outside brackets: what the machine does at an atom's bytes is what looking them up says. Assumes nothing.
use Prim.Native.Nat.{ℕ, zero, suc, ◌+◌, ◌≤◌, ◌<◌}
use native.Mathlib.Omega.{arith}
use mathlib.Core.Path.{◌≡◌, refl, sym, ap, ◌∙◌}
use mathlib.Core.Bool.{Bool, true, false, ◌||◌, ◌&&◌}
use Rattle.std.specs.Prelude.{Ok, Err}
use mathlib.Core.List.{List, [], ◌∷◌}
use lib.ListN.{length}
use lib.IntN.{ℤ, pos}
use lib.Dec.{eqb}
use mir.Val.{to_z}
use mir.Syntax.{w32}
use mir.Facts.{to_z_pos}
use borrow.Author.Tests.{ne_eqb, eqb-true}
use Rattle.loops.specs.Loop.{pick}
use Rattle.loops.proofs.Loops.{and_left, and_right}
use Rattle.element.specs.Symbols.{among, letters}
use Rattle.element.specs.Lookup.{letter_of, selected_of, number_of}
use Rattle.element.specs.declared.Letter.{Letter}
use Rattle.element.specs.declared.Letter.TheVariants.{Plain as Alone, Selected, Half, Bracket as Opening, Nothing}
use Rattle.reading_grammar.specs.Grammar.{nonzero, bond_symbols}
use Rattle.reading_grammar.specs.declared.Last.{Last}
use Rattle.reading_grammar.specs.declared.Last.TheVariants.{Plain as plain, AfterC as afterC, AfterB as afterB}
use Rattle.reading_grammar.specs.declared.Mode.{Mode}
use Rattle.reading_grammar.specs.declared.Mode.TheVariants.{Seq as seq, AtomNext as atomNext, LetterA as letterA, LetterT as letterT, Bracket as bracket}
use Rattle.reading_grammar.specs.declared.Move.{Move}
use Rattle.reading_grammar.specs.declared.Move.TheVariants.{Stop as stop, To as to}
use Rattle.reading_grammar.specs.Machine.{next, resting, atom_or, bridge_or, last_of, goes_on}
use Rattle.reading_grammar.specs.Fold.{keeps}
use Rattle.reading_grammar.proofs.Ends.{each}
use Rattle.table.specs.declared.Atom.{Atom}
use Rattle.reading_state.specs.declared.Fields.{Fields}
use Rattle.reading.specs.Memory.{Memory, begun, described, bare_row, row_of, blank}
use Rattle.reading.specs.Act.{mode_act, atom_act, first_byte_of}
use Rattle.reading_fields.specs.Rest.{rest}
use Rattle.reading_fields.specs.Field.{Peeked, Bracketed}
use Rattle.reading_fields.specs.Spelled.{Begins, Admitted, SpellsRow, Spells}
use Rattle.reading_fields.specs.declared.byte.Read.{Read}
use Rattle.reading_fields.specs.declared.bracket.Broken.{Broken}
use Rattle.reading_fields.specs.declared.spelled.Spelled.{Spelled}
use Rattle.reading_fields.specs.declared.spelled.Unspelled.{Unspelled}
use Rattle.reading_fields.proofs.Rest.{rest-stop, rest-to, alike, alike-dead}
use Rattle.reading_fields.proofs.Element.{selected-letter, selected_letters}
use Rattle.table.proofs.Rows.{with-atom-twice}

-- A and T
abbrev half_mode : ℕ → Mode
half_mode b = pick (eqb b 65) letterA letterT

-- what the machine does where a letter, a bracket or nothing begins
abbrev first_out : ℕ → Letter → Move → Move
first_out b (Alone e) k = to (seq (last_of b))
first_out b (Selected e) k = to (seq plain)
first_out b Half k = to (half_mode b)
first_out b Opening k = to bracket
first_out b Nothing k = k

star-first : (b : ℕ) → b ≡ 42 → (k : Move) → atom_or b k ≡ to (seq (last_of b))
unfolding atom_or letters among
star-first b e k = rw e

selected-first : (b : ℕ) → among b selected_letters ≡ true → (k : Move) → atom_or b k ≡ to (seq plain)
unfolding atom_or letters among
selected-first = each (λ b. (k : Move) → atom_or b k ≡ to (seq plain)) selected_letters ((λ k. refl), ((λ k. refl), ((λ k. refl), ((λ k. refl), ((λ k. refl), tt)))))

pub letter-first : (b : ℕ) (k : Move) → atom_or b k ≡ first_out b (letter_of b) k
unfolding letter_of atom_or
letter-first b k = split (eqb b 42) (eqb (selected_of b) 0) refl refl
  where
    others : (t u v w : Bool) → eqb b 65 ≡ u → pick t (to (seq (last_of b))) (pick u (to letterA) (pick v (to letterT) (pick w (to bracket) k)))
        ≡ first_out b (pick t (Alone (number_of (b ∷ []))) (pick (u || v) Half (pick w Opening Nothing))) k
    others true u v w e = refl
    others false true v w e = rw e
    others false false true w e = rw e
    others false false false true e = refl
    others false false false false e = refl

    split : (t u : Bool) → eqb b 42 ≡ t → eqb (selected_of b) 0 ≡ u
        → atom_or b k ≡ first_out b (pick t (Alone 0) (pick u (pick (among b letters) (Alone (number_of (b ∷ []))) (pick (eqb b 65 || eqb b 84) Half (pick (eqb b 91) Opening Nothing))) (Selected (selected_of b)))) k
    split true u e f = star-first b (eqb-true b 42 e) k
    split false false e f = selected-first b (selected-letter b f) k
    split false true e f = others (among b letters) (eqb b 65) (eqb b 84) (eqb b 91) refl

pub nothing-first : (b : ℕ) → letter_of b ≡ Nothing → (k : Move) → atom_or b k ≡ k
nothing-first b e k = letter-first b k ∙ ap (λ (l : Letter). first_out b l k) e

-- after an atom the byte does the same whatever the atom's letter was, unless it is the letter's second one
pub last-free : (s : List ℕ) (p : ℕ) (x : Last) (μ : Memory) {c : ℕ} → Peeked s p c → goes_on x c ≡ stop → rest s p (seq x) μ ≡ rest s p (seq plain) μ
unfolding next mode_act resting bridge_or
last-free s p x μ {c} k h = by-letter (letter_of c) refl
  where
    quiet : (d : ℕ) → resting (seq x) d ≡ resting (seq plain) d
    quiet zero = refl
    quiet (suc d) = refl

    same : next (seq x) c ≡ next (seq plain) c
    same = rw h

    onward : (t u v w y z : Bool) → among c nonzero ≡ t → eqb c 37 ≡ u → among c bond_symbols ≡ v → eqb c 46 ≡ w → eqb c 40 ≡ y → eqb c 41 ≡ z → letter_of c ≡ Nothing
        → rest s p (seq x) μ ≡ rest s p (seq plain) μ
    onward true u v w y z a b d e f g n = alike s p (seq x) (seq plain) μ k same (rw (n, a)) (quiet μ.st.depth)
    onward false true v w y z a b d e f g n = alike s p (seq x) (seq plain) μ k same (rw (n, a, b)) (quiet μ.st.depth)
    onward false false true w y z a b d e f g n = alike s p (seq x) (seq plain) μ k same (rw (n, a, b, d)) (quiet μ.st.depth)
    onward false false false true y z a b d e f g n = alike s p (seq x) (seq plain) μ k same (rw (n, a, b, d, e)) (quiet μ.st.depth)
    onward false false false false true z a b d e f g n = alike s p (seq x) (seq plain) μ k same (rw (n, a, b, d, e, f)) (quiet μ.st.depth)
    onward false false false false false true a b d e f g n = alike s p (seq x) (seq plain) μ k same (rw (n, a, b, d, e, f, g)) (quiet μ.st.depth)
    onward false false false false false false a b d e f g n = alike-dead s p (seq x) (seq plain) μ k (dead-at x h) (dead-at plain refl) (quiet μ.st.depth)
      where
        dead-at : (y : Last) → goes_on y c ≡ stop → next (seq y) c ≡ stop
        dead-at y q = letter-first c _ ∙ rw (n, a, b, d, e, f, g) q

    by-letter : (l : Letter) → letter_of c ≡ l → rest s p (seq x) μ ≡ rest s p (seq plain) μ
    by-letter (Alone e) n = alike s p (seq x) (seq plain) μ k same (rw n) (quiet μ.st.depth)
    by-letter (Selected e) n = alike s p (seq x) (seq plain) μ k same (rw n) (quiet μ.st.depth)
    by-letter Half n = alike s p (seq x) (seq plain) μ k same (rw n) (quiet μ.st.depth)
    by-letter Opening n = alike s p (seq x) (seq plain) μ k same (rw n) (quiet μ.st.depth)
    by-letter Nothing n = onward (among c nonzero) (eqb c 37) (among c bond_symbols) (eqb c 46) (eqb c 40) (eqb c 41) refl refl refl refl refl refl n

-- a letter that is not followed by its second one
pub last-stop : (b c : ℕ) → (eqb b 67 && eqb c 108) ≡ false → (eqb b 66 && eqb c 114) ≡ false → goes_on (last_of b) c ≡ stop
last-stop b c h k = split (eqb b 67) (eqb b 66) h k
  where
    split : (t u : Bool) → (t && eqb c 108) ≡ false → (u && eqb c 114) ≡ false → goes_on (pick t afterC (pick u afterB plain)) c ≡ stop
    split true u h k = rw h
    split false true h k = rw k
    split false false h k = refl

module _ (s : List ℕ) (at : ℕ) {b : ℕ} (k : Peeked s at b) (l : at < length s) where
  module _ {x : Letter} {m : Mode} (e : letter_of b ≡ x) (f : first_out b x stop ≡ to m) where
    goes_first : next atomNext b ≡ to m
    unfolding next
    goes_first = letter-first b stop ∙ ap (λ (y : Letter). first_out b y stop) e ∙ f

    begins : Begins s at
    begins = record { within = l; mode = m; goes = ap (next atomNext) (sym k.is) ∙ goes_first }

    first_step : (μ : Memory) → Admitted s at μ → (first_byte_of x μ).st.depth ≡ μ.st.depth → rest s at atomNext μ ≡ rest s (at + 1) m (first_byte_of x μ)
    unfolding mode_act
    first_step μ a d =
        rest-to s at atomNext μ k l goes_first (ap (λ (n : ℕ). atom_act n at μ) k.is ∙ a ∙ ap (λ (n : ℕ). keeps (first_byte_of (letter_of n) μ)) (sym k.is) ∙ ap (λ (y : Letter). keeps (first_byte_of y μ)) e) d

  pub spells-selected : {e : ℕ} {r : Spelled} → letter_of b ≡ Selected e → r ≡ record { row = bare_row e 1; outside = true; at = at + 1 } → Spells s at (Ok r)
  unfolding begun
  spells-selected e q = rw q (record {
    begins = begins e refl;
    within = omega arith;
    later = omega arith;
    is = λ μ a. (blank, first_step e refl μ a refl);
  })

  pub spells-letter : {e c : ℕ} {r : Spelled} → letter_of b ≡ Alone e → Peeked s (at + 1) c → (eqb b 67 && eqb c 108) ≡ false → (eqb b 66 && eqb c 114) ≡ false → r ≡ record { row = bare_row e 0; outside = true; at = at + 1 } → Spells s at (Ok r)
  unfolding begun
  spells-letter {e} {c} h j u v q = rw q (record {
    begins = begins h refl;
    within = omega arith;
    later = omega arith;
    is = λ μ a. (blank, first_step h refl μ a refl ∙ last-free s (at + 1) (last_of b) (described (bare_row e 0) (begun 1 μ)) j (last-stop b c u v));
  })

  -- the second letter describes the atom again
  two-letters : (e n : ℕ) {x : Letter} {m : Mode} {c : ℕ} → letter_of b ≡ x → first_out b x stop ≡ to m → ((μ : Memory) → first_byte_of x μ ≡ described (bare_row e 0) (begun 1 μ)) → Peeked s (at + 1) c → at + 1 < length s
      → next m c ≡ to (seq plain) → ((ν : Memory) → mode_act m c (at + 1) ν ≡ keeps (described (bare_row n 0) ν)) → SpellsRow s at (bare_row n 0) 1 (at + 2)
  unfolding begun
  two-letters e n {x} {m} h f d j w g r =
      let t : at + 1 + 1 ≡ at + 2 = omega arith in
      record {
        begins = begins h f;
        within = omega arith;
        later = omega arith;
        is = λ μ a. (
          blank,
          first_step h f μ a (ap (λ (ν : Memory). ν.st.depth) (d μ)) ∙ ap (rest s (at + 1) m) (d μ)
              ∙ rest-to s (at + 1) m (described (bare_row e 0) (begun 1 μ)) j w g (r (described (bare_row e 0) (begun 1 μ))) refl
              ∙ rw (t, with-atom-twice μ.atoms μ.st.atoms (bare_row e 0) (bare_row n 0)),
        );
      }

  module _ {c : ℕ} (j : Peeked s (at + 1) c) where
    second-in : {i : ℕ} → c ≡ suc i → at + 1 < length s
    second-in q = j.within (omega arith)

    pub spells-Cl : {e : ℕ} {r : Spelled} → letter_of b ≡ Alone e → (eqb b 67 && eqb c 108) ≡ true → r ≡ record { row = bare_row 17 0; outside = true; at = at + 2 } → Spells s at (Ok r)
    unfolding next mode_act atom_or bridge_or letters among nonzero bond_symbols letter_of selected_of
    spells-Cl {e} h t q =
        let p = eqb-true b 67 (and_left (eqb b 67) (eqb c 108) t) in
        let r = eqb-true c 108 (and_right (eqb b 67) (eqb c 108) t) in
        rw q (two-letters e 17 {m = seq afterC} h (rw p) (λ μ. refl) j (second-in r) (rw r) (λ ν. rw r))

    pub spells-Br : {e : ℕ} {r : Spelled} → letter_of b ≡ Alone e → (eqb b 66 && eqb c 114) ≡ true → r ≡ record { row = bare_row 35 0; outside = true; at = at + 2 } → Spells s at (Ok r)
    unfolding next mode_act atom_or bridge_or letters among nonzero bond_symbols letter_of selected_of
    spells-Br {e} h t q =
        let p = eqb-true b 66 (and_left (eqb b 66) (eqb c 114) t) in
        let r = eqb-true c 114 (and_right (eqb b 66) (eqb c 114) t) in
        rw q (two-letters e 35 {m = seq afterB} h (rw p) (λ μ. refl) j (second-in r) (rw r) (λ ν. rw r))

    pub spells-At : {r : Spelled} → letter_of b ≡ Half → b ≡ 65 → c ≡ 116 → r ≡ record { row = bare_row 85 0; outside = true; at = at + 2 } → Spells s at (Ok r)
    unfolding next mode_act
    spells-At h p r q = rw q (two-letters 0 85 {m = letterA} h (rw p) (λ μ. refl) j (second-in r) (rw r) (λ ν. refl))

    pub spells-Ts : {r : Spelled} → letter_of b ≡ Half → (b ≡ 65 → ⊥) → c ≡ 115 → r ≡ record { row = bare_row 117 0; outside = true; at = at + 2 } → Spells s at (Ok r)
    unfolding next mode_act
    spells-Ts h p r q = rw q (two-letters 0 117 {m = letterT} h (rw (ne_eqb b 65 p)) (λ μ. refl) j (second-in r) (rw r) (λ ν. refl))

    half-wrong : {m : Mode} → letter_of b ≡ Half → first_out b Half stop ≡ to m → next m c ≡ stop → ((d : ℕ) → resting m d ≡ false) → Spells s at (Err (Unspelled.Broken (at + 1)))
    unfolding begun
    half-wrong {m} h f g q = record {
      begins = begins h f;
      is = λ μ a. first_step h f μ a refl ∙ rest-stop s (at + 1) m (first_byte_of Half μ) j (omega arith) g (q μ.st.depth);
    }

    pub spells-no-At : letter_of b ≡ Half → b ≡ 65 → (c ≡ 116 → ⊥) → Spells s at (Err (Unspelled.Broken (at + 1)))
    unfolding next resting
    spells-no-At h p n = half-wrong {m = letterA} h (rw p) (rw (ne_eqb c 116 n)) (λ d. refl)

    pub spells-no-Ts : letter_of b ≡ Half → (b ≡ 65 → ⊥) → (c ≡ 115 → ⊥) → Spells s at (Err (Unspelled.Broken (at + 1)))
    unfolding next resting
    spells-no-Ts h p n = half-wrong {m = letterT} h (rw (ne_eqb b 65 p)) (rw (ne_eqb c 115 n)) (λ d. refl)

  module _ (h : letter_of b ≡ Opening) where
    pub spells-bracket : {o : Read Fields} {y : Atom} → Bracketed s (at + 1) (Ok o) → y ≡ row_of o.value → Spells s at (Ok (record { row = y; outside = false; at = o.at }))
    unfolding begun
    spells-bracket {o} w q = rw q (record {
      begins = begins h refl;
      within = w.within;
      later = omega (arith, w.later);
      is = λ μ a. (o.value, first_step h refl μ a refl ∙ w.is (begun 0 μ));
    })

    pub spells-broken : {e : Broken} → Bracketed s (at + 1) (Err e) → Spells s at (Err (Unspelled.Broken e.at))
    unfolding begun
    spells-broken w = record {
      begins = begins h refl;
      is = λ μ a. first_step h refl μ a refl ∙ w.is (begun 0 μ);
    }

pub spells_nothing : (s : List ℕ) (at : ℕ) {b : ℕ} → at ≤ length s → Peeked s at b → letter_of b ≡ Nothing → Spells s at (Err Unspelled.Nothing)
unfolding next resting
spells_nothing s at {b} l k e = record { is = λ μ. rest-stop s at atomNext μ k l (letter-first b stop ∙ ap (λ (y : Letter). first_out b y stop) e) refl }

pub spells-zero : (s : List ℕ) (at : ℕ) {b : ℕ} → at ≤ length s → Peeked s at b → b ≡ 0 → Spells s at (Err Unspelled.Nothing)
unfolding letter_of selected_of letters among
spells-zero s at l k e = spells_nothing s at l k (ap letter_of e)

-- ---- rows in the cells of a table
pub bare-row : (e y : ℕ) → e < 256 → y < 256 → ◌≡◌ {A = Atom} (record { element = to_z w32 e; selected = to_z w32 y; isotope = pos 0; hydrogens = pos 0; charge = pos 0; extension = pos 0; mark = pos 0 }) (bare_row e y)
bare-row e y h k = rw (to_z_pos w32 {n = e} (omega arith), to_z_pos w32 {n = y} (omega arith))

pub field_row : (f : Fields) {c : ℤ} → f.element < 65536 → f.selected < 65536 → f.isotope < 65536 → f.hydrogens < 65536 → f.extension < 65536 → f.mark < 65536 → c ≡ f.charge
    → ◌≡◌ {A = Atom} (record { element = to_z w32 f.element; selected = to_z w32 f.selected; isotope = to_z w32 f.isotope; hydrogens = to_z w32 f.hydrogens; charge = c; extension = to_z w32 f.extension; mark = to_z w32 f.mark }) (row_of f)
field_row f he hy hi hh hx hm e = simp (to_z_pos w32 {n = f.element} (omega arith), to_z_pos w32 {n = f.selected} (omega arith), to_z_pos w32 {n = f.isotope} (omega arith), to_z_pos w32 {n = f.hydrogens} (omega arith), to_z_pos w32 {n = f.extension} (omega arith), to_z_pos w32 {n = f.mark} (omega arith), e)
