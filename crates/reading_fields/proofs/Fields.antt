-- The fields of a bracket: a law for each way through a field. Assumes nothing.
use Prim.Native.Nat.{ℕ, zero, suc, ◌+◌, ◌-◌, ◌*◌, ◌≤◌, ◌<◌}
use native.Mathlib.Omega.{arith}
use mathlib.Core.Path.{◌≡◌, refl, sym, ap, ◌∙◌}
use mathlib.Core.Bool.{Bool, true, false}
use Rattle.std.specs.Prelude.{Ok, Err}
use mathlib.Core.List.{List}
use lib.ListN.{length, get_or}
use lib.IntN.{ℤ, pos, negsuc, ◌-ℤ◌}
use mir.Val.{SFits, to_z, of_z}
use mir.Syntax.{w32}
use mir.Facts.{to_z_pos, to_z-of_z}
use lib.Dec.{eqb}
use borrow.Author.Tests.{eq-eqb, ne_eqb, lt-ltb}
use Rattle.loops.specs.Loop.{pick}
use Rattle.element.specs.Symbols.{among}
use Rattle.reading_grammar.specs.Grammar.{nonzero, digits, several, signs, symbols, starts, marks}
use Rattle.reading_grammar.specs.declared.Mode.TheVariants.{Bracket as bracket, Isotope as isotope, Symbolled as symbolled, At1 as at1, At2 as at2, Hydrogen as hydrogen, Hydrogens as hydrogens, Sign as sign, Charged as charged, Colon as colon, Extension as extension, Seq as seq}
use Rattle.reading_grammar.specs.declared.Last.TheVariants.{Plain as plain}
use Rattle.reading_grammar.specs.declared.Move.TheVariants.{Stop as stop, To as to}
use Rattle.reading_grammar.specs.Machine.{next, resting, symbol_or, marking, hydrating, charging, extending, closing}
use Rattle.reading_grammar.specs.Fold.{bad}
use Rattle.reading.specs.Memory.{Memory, blank, row_of, drafted, described}
use Rattle.reading.specs.Bracket.{digit, signed, positive}
use Rattle.reading.specs.Act.{mode_act}
use Rattle.reading_fields.specs.Rest.{rest}
use Rattle.reading_fields.specs.Field.{Peeked, Grown, more_of, fields, rest_in, Isotoped, Marked, Hydrogened, Charged, Extended}
use Rattle.reading_state.specs.declared.Fields.{Fields}
use Rattle.reading_fields.specs.declared.byte.Read.{Read}
use Rattle.reading_fields.proofs.Rest.{rest-stop, rest-to, alike}
use Rattle.reading_fields.proofs.Bytes.{nonzero-digit, several-digit, digit-zero, no-nonzero, digit-no-symbol, digit-no-charge, digit-no-extension, digit-no-close, digit-in, byte-in, there}

module _ (s : List ℕ) where
  -- ---- the isotope
  iso-first : (μ : Memory) (at : ℕ) {b : ℕ} → Peeked s at b → among b nonzero ≡ true → rest_in s μ at bracket blank ≡ rest_in s μ (at + 1) (isotope 2) (fields (digit b) 0 0 0 0 (pos 0) 0)
  unfolding next mode_act
  iso-first μ at {b} k h =
      let d = nonzero-digit b h in
      let z : 10 * 0 + digit b ≡ digit b = omega arith in
      rest-to s at bracket (drafted blank μ) k (digit-in k d) (digit-no-symbol b d (pick (among b nonzero) (to (isotope 2)) stop) ∙ rw h) (rw (d, z)) refl

  iso-more : (μ : Memory) (k : ℕ) (n : Read ℕ) → rest_in s μ n.at (isotope (suc k)) (fields n.value 0 0 0 0 (pos 0) 0) ≡ rest_in s μ (more_of s n).at (isotope k) (fields (more_of s n).value 0 0 0 0 (pos 0) 0)
  unfolding next mode_act resting
  iso-more μ k n = split (among (get_or s n.at 0) digits) refl
    where
      m : Memory
      m = drafted (fields n.value 0 0 0 0 (pos 0) 0) μ

      lower : (j : ℕ) → among (get_or s n.at 0) digits ≡ false → next (isotope (suc k)) (get_or s n.at 0) ≡ next (isotope j) (get_or s n.at 0)
      lower zero h = rw h
      lower (suc j) h = rw h

      split : (t : Bool) → among (get_or s n.at 0) digits ≡ t → rest_in s μ n.at (isotope (suc k)) (fields n.value 0 0 0 0 (pos 0) 0) ≡ rest_in s μ (more_of s n).at (isotope k) (fields (more_of s n).value 0 0 0 0 (pos 0) 0)
      split true h = rw h (rest-to s n.at (isotope (suc k)) m (there s n.at) (digit-in (there s n.at) h)
          (digit-no-symbol (get_or s n.at 0) h (pick (among (get_or s n.at 0) digits) (to (isotope k)) stop) ∙ rw h) (rw h) refl)
      split false h = rw h (alike s n.at (isotope (suc k)) (isotope k) m (there s n.at) (lower k h) refl refl)

  pub iso-none : (at : ℕ) {b : ℕ} → at ≤ length s → Peeked s at b → among b digits ≡ false → Isotoped s at (Ok (record { value = 0; at = at }))
  unfolding next mode_act resting
  iso-none at {b} l k h = record {
    within = l;
    later = omega arith;
    is = λ μ. alike s at bracket (isotope 0) (drafted blank μ) k (rw (no-nonzero b h)) refl refl;
  }

  pub iso-zero : (at : ℕ) {b : ℕ} → at ≤ length s → Peeked s at b → b ≡ 48 → Isotoped s at (Err (record { at = at }))
  unfolding next resting symbol_or symbols starts marks among nonzero
  iso-zero at l k e = record {
    within = l;
    later = omega arith;
    is = λ μ. rest-stop s at bracket (drafted blank μ) k l (ap (next bracket) e) refl;
  }

  pub iso-all : (at : ℕ) {b v : ℕ} {m n : Read ℕ} → Peeked s at b → among b digits ≡ true → (b ≡ 48 → ⊥) → v ≡ digit b → Grown s (record { value = v; at = at + 1 }) m → Grown s m n → Isotoped s at (Ok n)
  iso-all at {b} {v} {m} {n} k h z e g f = record {
    within = f.within;
    later = omega (arith, g.later, f.later);
    is = λ μ. iso-first μ at k (digit-zero b h z) ∙ rw (← e) (iso-more μ 1 (record { value = v; at = at + 1 }) ∙ rw (← g.is) (iso-more μ 0 m ∙ rw (← f.is)));
  }

  -- ---- the mark
  pub mark-none : (at : ℕ) {b : ℕ} → at ≤ length s → Peeked s at b → (b ≡ 64 → ⊥) → Marked s at (record { value = 0; at = at })
  unfolding next mode_act resting marking
  mark-none at {b} l k n = record {
    within = l;
    later = omega arith;
    is = λ μ i e y. alike s at symbolled at2 (drafted (fields i e y 0 0 (pos 0) 0) μ) k (rw (ne_eqb b 64 n)) (rw (ne_eqb b 64 n)) refl;
  }

  module _ (at : ℕ) {b : ℕ} (k : Peeked s at b) (e : b ≡ 64) where
    mark-first : (μ : Memory) (i x y : ℕ) → rest_in s μ at symbolled (fields i x y 0 0 (pos 0) 0) ≡ rest_in s μ (at + 1) at1 (fields i x y 1 0 (pos 0) 0)
    unfolding next mode_act marking
    mark-first μ i x y = rest-to s at symbolled (drafted (fields i x y 0 0 (pos 0) 0) μ) k (byte-in k e) (rw (eq-eqb b 64 e)) (rw (eq-eqb b 64 e)) refl

    pub mark-one : {d : ℕ} → Peeked s (at + 1) d → (d ≡ 64 → ⊥) → Marked s at (record { value = 1; at = at + 1 })
    unfolding next mode_act resting
    mark-one {d} p n = record {
      within = omega (arith, byte-in k e);
      later = omega arith;
      is = λ μ i x y. mark-first μ i x y ∙ alike s (at + 1) at1 at2 (drafted (fields i x y 1 0 (pos 0) 0) μ) p (rw (ne_eqb d 64 n)) (rw (ne_eqb d 64 n)) refl;
    }

    pub mark-two : {d : ℕ} → Peeked s (at + 1) d → d ≡ 64 → Marked s at (record { value = 2; at = at + 2 })
    unfolding next mode_act
    mark-two {d} p q = let w : at + 1 + 1 ≡ at + 2 = omega arith in record {
      within = omega (arith, byte-in p q);
      later = omega arith;
      is = λ μ i x y. mark-first μ i x y ∙ rest-to s (at + 1) at1 (drafted (fields i x y 1 0 (pos 0) 0) μ) p (byte-in p q) {m' = at2} (rw (eq-eqb d 64 q)) {ν = drafted (fields i x y 2 0 (pos 0) 0) μ} (rw (eq-eqb d 64 q)) refl ∙ rw w;
    }

  -- ---- the hydrogens
  pub hydrogens-none : (at : ℕ) {b : ℕ} → at ≤ length s → Peeked s at b → (b ≡ 72 → ⊥) → Hydrogened s at (Ok (record { value = 0; at = at }))
  unfolding next mode_act resting hydrating
  hydrogens-none at {b} l k n = record {
    within = l;
    later = omega arith;
    is = λ μ i e y mk. alike s at at2 hydrogens (drafted (fields i e y mk 0 (pos 0) 0) μ) k (rw (ne_eqb b 72 n)) (rw (ne_eqb b 72 n)) refl;
  }

  module _ (at : ℕ) {b : ℕ} (k : Peeked s at b) (e : b ≡ 72) where
    hydrogens-first : (μ : Memory) (i x y mk : ℕ) → rest_in s μ at at2 (fields i x y mk 0 (pos 0) 0) ≡ rest_in s μ (at + 1) hydrogen (fields i x y mk 1 (pos 0) 0)
    unfolding next mode_act hydrating
    hydrogens-first μ i x y mk = rest-to s at at2 (drafted (fields i x y mk 0 (pos 0) 0) μ) k (byte-in k e) (rw (eq-eqb b 72 e)) (rw (eq-eqb b 72 e)) refl

    pub hydrogens-many : {d v : ℕ} → Peeked s (at + 1) d → among d several ≡ true → v ≡ digit d → Hydrogened s at (Ok (record { value = v; at = at + 2 }))
    unfolding next mode_act
    hydrogens-many {d} {v} p h q = let w : at + 1 + 1 ≡ at + 2 = omega arith in record {
      within = omega (arith, digit-in p (several-digit d h));
      later = omega arith;
      is = λ μ i x y mk. hydrogens-first μ i x y mk ∙ rest-to s (at + 1) hydrogen (drafted (fields i x y mk 1 (pos 0) 0) μ) p (digit-in p (several-digit d h)) {m' = hydrogens} (rw h) {ν = drafted (fields i x y mk (digit d) (pos 0) 0) μ} (rw h) refl ∙ rw (w, q);
    }

    pub hydrogens-wrong : {d : ℕ} → Peeked s (at + 1) d → among d several ≡ false → among d digits ≡ true → Hydrogened s at (Err (record { at = at + 1 }))
    unfolding next resting
    hydrogens-wrong {d} p n h = record {
      within = omega (arith, byte-in k e);
      later = omega arith;
      is = λ μ i x y mk. hydrogens-first μ i x y mk ∙ rest-stop s (at + 1) hydrogen (drafted (fields i x y mk 1 (pos 0) 0) μ) p (omega (arith, byte-in k e)) (rw n (digit-no-charge d h)) refl;
    }

    pub hydrogens-one : {d : ℕ} → Peeked s (at + 1) d → among d several ≡ false → Hydrogened s at (Ok (record { value = 1; at = at + 1 }))
    unfolding next mode_act resting
    hydrogens-one {d} p n = record {
      within = omega (arith, byte-in k e);
      later = omega arith;
      is = λ μ i x y mk. hydrogens-first μ i x y mk ∙ alike s (at + 1) hydrogen hydrogens (drafted (fields i x y mk 1 (pos 0) 0) μ) p (rw n) (rw n) refl;
    }

  -- ---- the charge
  pub charge-none : (at : ℕ) {b : ℕ} → at ≤ length s → Peeked s at b → among b signs ≡ false → Charged s at (Ok (record { value = (pos 0); at = at }))
  unfolding next mode_act resting charging
  charge-none at {b} l k n = record {
    within = l;
    later = omega arith;
    is = λ μ i e y mk h. alike s at hydrogens charged (drafted (fields i e y mk h (pos 0) 0) μ) k (rw n) (rw n) refl;
  }

  same_sign : (t : Bool) → positive (signed t 1) ≡ t
  same_sign true = refl
  same_sign false = refl

  module _ (at : ℕ) {b : ℕ} (k : Peeked s at b) (e : among b signs ≡ true) (l : at < length s) where
    charge-first : (μ : Memory) (i x y mk h : ℕ) → rest_in s μ at hydrogens (fields i x y mk h (pos 0) 0) ≡ rest_in s μ (at + 1) sign (fields i x y mk h (signed (eqb b 43) 1) 0)
    unfolding next mode_act charging
    charge-first μ i x y mk h = rest-to s at hydrogens (drafted (fields i x y mk h (pos 0) 0) μ) k l (rw e) (rw e) refl

    pub charge-many : {d n : ℕ} {v : ℤ} → Peeked s (at + 1) d → among d several ≡ true → n ≡ digit d → v ≡ signed (eqb b 43) n → Charged s at (Ok (record { value = v; at = at + 2 }))
    unfolding next mode_act
    charge-many {d} {n} {v} p h u q = let w : at + 1 + 1 ≡ at + 2 = omega arith in record {
      within = omega (arith, digit-in p (several-digit d h));
      later = omega arith;
      is = λ μ i x y mk z. charge-first μ i x y mk z ∙ rest-to s (at + 1) sign (drafted (fields i x y mk z (signed (eqb b 43) 1) 0) μ) p (digit-in p (several-digit d h)) {m' = charged} (rw h) {ν = drafted (fields i x y mk z (signed (eqb b 43) (digit d)) 0) μ} (rw (h, same_sign (eqb b 43))) refl ∙ rw (w, q, u);
    }

    pub charge-wrong : {d : ℕ} → Peeked s (at + 1) d → among d several ≡ false → among d digits ≡ true → Charged s at (Err (record { at = at + 1 }))
    unfolding next resting
    charge-wrong {d} p n h = record {
      within = omega arith;
      later = omega arith;
      is = λ μ i x y mk z. charge-first μ i x y mk z ∙ rest-stop s (at + 1) sign (drafted (fields i x y mk z (signed (eqb b 43) 1) 0) μ) p (omega arith) (rw n (digit-no-extension d h)) refl;
    }

    pub charge-one : {d : ℕ} {v : ℤ} → Peeked s (at + 1) d → among d several ≡ false → v ≡ signed (eqb b 43) 1 → Charged s at (Ok (record { value = v; at = at + 1 }))
    unfolding next mode_act resting
    charge-one {d} p n q = record {
      within = omega arith;
      later = omega arith;
      is = λ μ i x y mk z. charge-first μ i x y mk z ∙ alike s (at + 1) sign charged (drafted (fields i x y mk z (signed (eqb b 43) 1) 0) μ) p (rw n) (rw n) refl ∙ rw q;
    }

  -- ---- the extension
  pub extension-none : (at : ℕ) {b : ℕ} → at ≤ length s → Peeked s at b → (b ≡ 58 → ⊥) → Extended s at (Ok (record { value = 0; at = at }))
  unfolding next mode_act resting extending
  extension-none at {b} l k n = record {
    within = l;
    later = omega arith;
    is = λ μ i e y mk h c. split μ i e y mk h c (among b digits) refl;
  }
    where
      split : (μ : Memory) (i e y mk h : ℕ) (c : ℤ) (t : Bool) → among b digits ≡ t → rest_in s μ at charged (fields i e y mk h c 0) ≡ rest_in s μ at (extension 0) (fields i e y mk h c 0)
      split μ i e y mk h c true d =
          rest-stop s at charged (drafted (fields i e y mk h c 0) μ) k l (rw (ne_eqb b 58 n) (digit-no-close b d)) refl
          ∙ sym (rest-stop s at (extension 0) (drafted (fields i e y mk h c 0) μ) k l (digit-no-close b d) refl)
      split μ i e y mk h c false d = alike s at charged (extension 0) (drafted (fields i e y mk h c 0) μ) k (rw (ne_eqb b 58 n)) (rw d) refl

  extension-more : (μ : Memory) (i e y mk h : ℕ) (c : ℤ) (k : ℕ) (n : Read ℕ) → rest_in s μ n.at (extension (suc k)) (fields i e y mk h c n.value) ≡ rest_in s μ (more_of s n).at (extension k) (fields i e y mk h c (more_of s n).value)
  unfolding next mode_act resting
  extension-more μ i e y mk h c k n = split (among (get_or s n.at 0) digits) refl
    where
      m : Memory
      m = drafted (fields i e y mk h c n.value) μ

      lower : (j : ℕ) → among (get_or s n.at 0) digits ≡ false → next (extension (suc k)) (get_or s n.at 0) ≡ next (extension j) (get_or s n.at 0)
      lower zero h = rw h
      lower (suc j) h = rw h

      split : (t : Bool) → among (get_or s n.at 0) digits ≡ t → rest_in s μ n.at (extension (suc k)) (fields i e y mk h c n.value) ≡ rest_in s μ (more_of s n).at (extension k) (fields i e y mk h c (more_of s n).value)
      split true d = rw d (rest-to s n.at (extension (suc k)) m (there s n.at) (digit-in (there s n.at) d) (rw d) (rw d) refl)
      split false d = rw d (alike s n.at (extension (suc k)) (extension k) m (there s n.at) (lower k d) refl refl)

  module _ (at : ℕ) {b : ℕ} (k : Peeked s at b) (e : b ≡ 58) where
    extension-colon : (μ : Memory) (i x y mk h : ℕ) (c : ℤ) → rest_in s μ at charged (fields i x y mk h c 0) ≡ rest_in s μ (at + 1) colon (fields i x y mk h c 0)
    unfolding next mode_act extending
    extension-colon μ i x y mk h c = rest-to s at charged (drafted (fields i x y mk h c 0) μ) k (byte-in k e) (rw (eq-eqb b 58 e)) (rw e) refl

    pub extension-wrong : {d : ℕ} → Peeked s (at + 1) d → among d nonzero ≡ false → Extended s at (Err (record { at = at + 1 }))
    unfolding next resting
    extension-wrong {d} p n = record {
      within = omega (arith, byte-in k e);
      later = omega arith;
      is = λ μ i x y mk h c. extension-colon μ i x y mk h c ∙ rest-stop s (at + 1) colon (drafted (fields i x y mk h c 0) μ) p (omega (arith, byte-in k e)) (rw n) refl;
    }

    extension-first : {d : ℕ} → Peeked s (at + 1) d → among d nonzero ≡ true → (μ : Memory) (i x y mk h : ℕ) (c : ℤ) → rest_in s μ (at + 1) colon (fields i x y mk h c 0) ≡ rest_in s μ (at + 2) (extension 3) (fields i x y mk h c (digit d))
    unfolding next mode_act
    extension-first {d} p q μ i x y mk h c =
        let w : at + 1 + 1 ≡ at + 2 = omega arith in
        let z : 10 * 0 + digit d ≡ digit d = omega arith in
        rest-to s (at + 1) colon (drafted (fields i x y mk h c 0) μ) p (digit-in p (nonzero-digit d q)) {m' = extension 3} (rw q) refl refl ∙ rw (w, z)

    pub extension-all : {d v : ℕ} {m n o : Read ℕ} → Peeked s (at + 1) d → among d nonzero ≡ true → v ≡ digit d → Grown s (record { value = v; at = at + 2 }) m → Grown s m n → Grown s n o → Extended s at (Ok o)
    extension-all {d} {v} {m} {n} {o} p q u g f w = record {
      within = w.within;
      later = omega (arith, g.later, f.later, w.later);
      is = λ μ i x y mk h c. extension-colon μ i x y mk h c ∙ extension-first p q μ i x y mk h c
          ∙ rw (← u) (extension-more μ i x y mk h c 2 (record { value = v; at = at + 2 }) ∙ rw (← g.is) (extension-more μ i x y mk h c 1 m ∙ rw (← f.is) (extension-more μ i x y mk h c 0 n ∙ rw (← w.is))));
    }

  -- ---- the closing bracket
  pub bracket-closes : (μ : Memory) (at : ℕ) (f : Fields) {b : ℕ} → Peeked s at b → b ≡ 93 → rest_in s μ at (extension 0) f ≡ rest s (at + 1) (seq plain) (described (row_of f) (drafted f μ))
  unfolding next mode_act closing digits among
  bracket-closes μ at f k e = rest-to s at (extension 0) (drafted f μ) k (byte-in k e) (rw e) (rw e) refl

  pub bracket-open : (μ : Memory) (at : ℕ) (f : Fields) {b : ℕ} → at ≤ length s → Peeked s at b → (b ≡ 93 → ⊥) → rest_in s μ at (extension 0) f ≡ bad 3 at
  unfolding next resting closing
  bracket-open μ at f {b} l k n = rest-stop s at (extension 0) (drafted f μ) k l (rw (ne_eqb b 93 n)) refl

-- ---- the signed number of a charge
signed-fits : (t : Bool) (n : ℕ) → n < 10 → SFits w32 (signed t n)
signed-fits true n h = record { sfits = omega arith }
signed-fits false n h = record { sfits = omega arith }

with-fits : {z : ℤ} (t : Bool) (n : ℕ) → n < 10 → z ≡ signed t n → (z ≡ signed t n) × SFits w32 z
with-fits t n h e = (e, rw e (signed-fits t n h))

pub charge-plus : (b n : ℕ) → b ≡ 43 → n < 10 → (to_z w32 n ≡ signed (eqb b 43) n) × SFits w32 (to_z w32 n)
charge-plus b n e h = with-fits (eqb b 43) n h (rw (eq-eqb b 43 e) (to_z_pos w32 (omega arith)))

minus : (n : ℕ) → 0 < n → pos 0 -ℤ pos n ≡ negsuc (n - 1)
minus zero h = absurd (omega arith)
minus (suc k) h = let e : suc k - 1 ≡ k = omega arith in rw (lt-ltb 0 (suc k) (omega arith), e)

pub charge-fits : (n : ℕ) → 0 < n → n < 10 → SFits w32 (pos 0 -ℤ to_z w32 n)
charge-fits n z h = rw (to_z_pos w32 {n = n} (omega arith), minus n z) (record { sfits = omega arith })

pub charge-minus : (b n : ℕ) → (b ≡ 43 → ⊥) → 0 < n → n < 10
    → (to_z w32 (of_z w32 (pos 0 -ℤ to_z w32 n)) ≡ signed (eqb b 43) n) × SFits w32 (to_z w32 (of_z w32 (pos 0 -ℤ to_z w32 n)))
charge-minus b n e z h = with-fits (eqb b 43) n h (to_z-of_z (charge-fits n z h) ∙ rw (ne_eqb b 43 e, to_z_pos w32 {n = n} (omega arith)) (minus n z))
