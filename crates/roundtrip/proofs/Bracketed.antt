-- Reading the bytes of a bracket gives its fields: a law for each field, over any mode in which it may stand. Assumes nothing.
use mathlib.Core.Path.{◌≡◌, refl, ap, subst}
use mathlib.Core.Bool.{Bool, true, false}
use mathlib.Core.List.{List, [], ◌∷◌, ◌++◌}
use Prim.Native.Nat.{ℕ, zero, suc, ◌+◌, ◌-◌, ◌*◌, ◌<◌}
use native.Mathlib.Omega.{arith}
use lib.IntN.{ℤ, pos, negsuc}
use borrow.Author.Tests.{ne_eqb}
use Rattle.element.specs.Symbols.{among}
use Rattle.reading_grammar.specs.Grammar.{nonzero, digits, several, signs, Digits, none, more, Number, number}
use Rattle.reading_grammar.specs.declared.Last.TheVariants.{Plain as plain}
use Rattle.reading_grammar.specs.declared.Mode.{Mode}
use Rattle.reading_grammar.specs.declared.Mode.TheVariants.{Seq as seq, Symbolled as symbolled, At1 as at1, At2 as at2, Hydrogen as hydrogen, Hydrogens as hydrogens, Sign as sign, Charged as charged, Colon as colon, Extension as extension}
use Rattle.reading_grammar.specs.declared.Move.{Move}
use Rattle.reading_grammar.specs.declared.Move.TheVariants.{To as to}
use Rattle.reading_grammar.specs.declared.MachineState.TheVariants.{At as at}
use Rattle.reading_grammar.specs.Machine.{turn, step, next, closing, extending, charging, hydrating, marking}
use Rattle.reading_grammar.specs.Fold.{keeps}
use Rattle.reading_state.specs.declared.Fields.{Fields}
use Rattle.reading.specs.Memory.{Memory, row_of, described, drafted}
use Rattle.reading.specs.Bracket.{digit, signed}
use Rattle.reading.specs.Act.{act, mode_act}
use Rattle.writing.specs.Spell.{digit_byte, decimal, mark_bytes, hydrogen_bytes, size_bytes, charge_bytes, extension_bytes}
use Rattle.roundtrip.proofs.Feed.{Takes, stays, byte}
use Rattle.roundtrip.proofs.Decimal.{value, digit-of, is-several, spelled-long}

-- in the order of the text: k is the mark
abbrev pub fields : ℕ → ℕ → ℕ → ℕ → ℕ → ℤ → ℕ → Fields
fields e s i k h c x = record { element = e; selected = s; isotope = i; hydrogens = h; charge = c; extension = x; mark = k }

-- from a mode with the fields D the bytes lead out of the bracket, whose row has the fields E
pub record Ends (m : Mode) (D : Fields) (s : List ℕ) (E : Fields) : Type 0 where
  pub is : (i d : ℕ) (μ : Memory) → Takes i (at m d) (drafted D μ) s (at (seq plain) d) (described (row_of E) (drafted E μ))

-- a byte inside a bracket
pub record Moves (m : Mode) (D : Fields) (b : ℕ) (n : Mode) (E : Fields) : Type 0 where
  pub goes : next m b ≡ to n
  pub does : (i : ℕ) (μ : Memory) → mode_act m b i (drafted D μ) ≡ keeps (drafted E μ)

pub via : {m n : Mode} {D E F : Fields} {b : ℕ} {s : List ℕ} → Moves m D b n E → Ends n E s F → Ends m D (b ∷ s) F
unfolding step act
via {b = b} {s = s} v e = record { is = λ i d μ. byte b s (ap (λ (o : Move). turn o d) v.goes) refl (v.does i μ) (e.is (suc i) d μ) }

-- a mode in which the bracket may be shut
pub record Shuts (m : Mode) : Type 0 where
  pub goes : next m 93 ≡ to (seq plain)
  pub does : (i : ℕ) (μ : Memory) → mode_act m 93 i μ ≡ keeps (described (row_of μ.draft) μ)

shut : {m : Mode} (D : Fields) → Shuts m → Ends m D (93 ∷ []) D
unfolding step act
shut D v = record { is = λ i d μ. byte 93 [] (ap (λ (o : Move). turn o d) v.goes) refl (v.does i (drafted D μ)) stays }

-- one in which an extension may begin, a charge, the hydrogens, a mark
pub record Extends (m : Mode) : Type 0 where
  pub shuts : Shuts m
  pub goes : next m 58 ≡ to colon
  pub does : (i : ℕ) (μ : Memory) → mode_act m 58 i μ ≡ keeps μ

pub record Charges (m : Mode) : Type 0 where
  pub extends : Extends m
  pub plus : (D : Fields) → Moves m D 43 sign (fields D.element D.selected D.isotope D.mark D.hydrogens (pos 1) D.extension)
  pub minus : (D : Fields) → Moves m D 45 sign (fields D.element D.selected D.isotope D.mark D.hydrogens (negsuc 0) D.extension)

pub record Hydrates (m : Mode) : Type 0 where
  pub charges : Charges m
  pub one : (D : Fields) → Moves m D 72 hydrogen (fields D.element D.selected D.isotope D.mark 1 D.charge D.extension)

pub record Marks (m : Mode) : Type 0 where
  pub hydrates : Hydrates m
  pub at : (D : Fields) → Moves m D 64 at1 (fields D.element D.selected D.isotope 1 D.hydrogens D.charge D.extension)

shuts-extension : (n : ℕ) → Shuts (extension n)
unfolding next closing among digits mode_act
shuts-extension zero = record { goes = refl; does = λ i μ. refl }
shuts-extension (suc n) = record { goes = refl; does = λ i μ. refl }

extends-charged : Extends charged
unfolding next extending closing mode_act
extends-charged = record { shuts = record { goes = refl; does = λ i μ. refl }; goes = refl; does = λ i μ. refl }

extends-sign : Extends sign
unfolding next extending closing among several mode_act
extends-sign = record { shuts = record { goes = refl; does = λ i μ. refl }; goes = refl; does = λ i μ. refl }

charges-hydrogens : Charges hydrogens
unfolding next charging extending closing among signs mode_act
charges-hydrogens = record {
  extends = record { shuts = record { goes = refl; does = λ i μ. refl }; goes = refl; does = λ i μ. refl };
  plus = λ D. record { goes = refl; does = λ i μ. refl };
  minus = λ D. record { goes = refl; does = λ i μ. refl };
}

charges-hydrogen : Charges hydrogen
unfolding next charging extending closing among signs several mode_act
charges-hydrogen = record {
  extends = record { shuts = record { goes = refl; does = λ i μ. refl }; goes = refl; does = λ i μ. refl };
  plus = λ D. record { goes = refl; does = λ i μ. refl };
  minus = λ D. record { goes = refl; does = λ i μ. refl };
}

hydrates-at2 : Hydrates at2
unfolding next hydrating charging extending closing among signs mode_act
hydrates-at2 = record {
  charges = record {
    extends = record { shuts = record { goes = refl; does = λ i μ. refl }; goes = refl; does = λ i μ. refl };
    plus = λ D. record { goes = refl; does = λ i μ. refl };
    minus = λ D. record { goes = refl; does = λ i μ. refl };
  };
  one = λ D. record { goes = refl; does = λ i μ. refl };
}

hydrates-at1 : Hydrates at1
unfolding next hydrating charging extending closing among signs mode_act
hydrates-at1 = record {
  charges = record {
    extends = record { shuts = record { goes = refl; does = λ i μ. refl }; goes = refl; does = λ i μ. refl };
    plus = λ D. record { goes = refl; does = λ i μ. refl };
    minus = λ D. record { goes = refl; does = λ i μ. refl };
  };
  one = λ D. record { goes = refl; does = λ i μ. refl };
}

hydrates-symbolled : Hydrates symbolled
unfolding next marking hydrating charging extending closing among signs mode_act
hydrates-symbolled = record {
  charges = record {
    extends = record { shuts = record { goes = refl; does = λ i μ. refl }; goes = refl; does = λ i μ. refl };
    plus = λ D. record { goes = refl; does = λ i μ. refl };
    minus = λ D. record { goes = refl; does = λ i μ. refl };
  };
  one = λ D. record { goes = refl; does = λ i μ. refl };
}

pub marks-symbolled : Marks symbolled
unfolding next marking mode_act
marks-symbolled = record { hydrates = hydrates-symbolled; at = λ D. record { goes = refl; does = λ i μ. refl } }

abbrev sign_byte : Bool → ℕ
sign_byte true = 43
sign_byte false = 45

abbrev sized : Bool → ℕ → ℤ
sized q zero = pos 0
sized q (suc n) = signed q (suc n)

-- charges from -9 to 9
abbrev pub Slight : ℤ → Type 0
Slight (pos n) = n < 10
Slight (negsuc n) = suc n < 10

module _ (e s i k : ℕ) where
  -- the extension
  extension-digit : (h n : ℕ) (c : ℤ) (x b : ℕ) → among b digits ≡ true → Moves (extension (suc n)) (fields e s i k h c x) b (extension n) (fields e s i k h c (10 * x + digit b))
  unfolding next mode_act
  extension-digit h n c x b g = record { goes = rw g; does = λ j μ. rw g }

  digits-end : (h : ℕ) (c : ℤ) (x : ℕ) {n : ℕ} {ds : List ℕ} → Digits n ds → Ends (extension n) (fields e s i k h c x) (ds ++ 93 ∷ []) (fields e s i k h c (value x ds))
  digits-end h c x {n} none = shut (fields e s i k h c x) (shuts-extension n)
  digits-end h c x (more {n} {d = b} g r) = via (extension-digit h n c x b g) (digits-end h c (10 * x + digit b) r)

  colon-digit : (h : ℕ) (c : ℤ) (b : ℕ) → among b nonzero ≡ true → Moves colon (fields e s i k h c 0) b (extension 3) (fields e s i k h c (10 * 0 + digit b))
  unfolding next mode_act
  colon-digit h c b g = record { goes = rw g; does = λ j μ. refl }

  number-end : (h : ℕ) (c : ℤ) {ds : List ℕ} → Number 3 ds → Ends colon (fields e s i k h c 0) (ds ++ 93 ∷ []) (fields e s i k h c (value 0 ds))
  number-end h c (number {d = b} g r) = via (colon-digit h c b g) (digits-end h c (10 * 0 + digit b) r)

  takes-extension : {m : Mode} (h : ℕ) (c : ℤ) (x : ℕ) → x < 10000 → Extends m → Ends m (fields e s i k h c 0) (extension_bytes x ++ 93 ∷ []) (fields e s i k h c x)
  takes-extension h c zero l v = shut (fields e s i k h c 0) v.shuts
  takes-extension {m} h c (suc x) l v =
      let w = spelled-long (suc x) (omega arith) l in
      rw (ne_eqb (suc x) 0 (λ q. omega arith))
      (via {n = colon} {E = fields e s i k h c 0} (record { goes = v.goes; does = λ j μ. v.does j (drafted (fields e s i k h c 0) μ) })
      (subst (λ (y : ℕ). Ends colon (fields e s i k h c 0) (decimal (suc x) ++ 93 ∷ []) (fields e s i k h c y)) w.same (number-end h c w.number)))

  -- the charge
  sign-moves : {m : Mode} (h : ℕ) → Charges m → (q : Bool) → Moves m (fields e s i k h (pos 0) 0) (sign_byte q) sign (fields e s i k h (signed q 1) 0)
  sign-moves h v true = v.plus (fields e s i k h (pos 0) 0)
  sign-moves h v false = v.minus (fields e s i k h (pos 0) 0)

  sign-digit : (h : ℕ) (q : Bool) (b : ℕ) → among b several ≡ true → Moves sign (fields e s i k h (signed q 1) 0) b charged (fields e s i k h (signed q (digit b)) 0)
  unfolding next mode_act
  sign-digit h true b g = record { goes = rw g; does = λ j μ. rw g }
  sign-digit h false b g = record { goes = rw g; does = λ j μ. rw g }

  takes-size : {m : Mode} (q : Bool) (h n x : ℕ) → n < 10 → x < 10000 → Charges m → Ends m (fields e s i k h (pos 0) 0) (size_bytes (sign_byte q) n ++ (extension_bytes x ++ 93 ∷ [])) (fields e s i k h (sized q n) x)
  unfolding size_bytes
  takes-size q h zero x l g v = takes-extension h (pos 0) x g v.extends
  takes-size q h (suc zero) x l g v = via (sign-moves h v q) (takes-extension h (signed q 1) x g extends-sign)
  takes-size q h (suc (suc n)) x l g v =
      rw (ne_eqb (suc (suc n)) 0 (λ z. omega arith), ne_eqb (suc (suc n)) 1 (λ z. omega arith))
      (via (sign-moves h v q)
      (via (sign-digit h q (digit_byte (suc (suc n))) (is-several (suc (suc n)) (omega arith) l))
      (rw (digit-of (suc (suc n))) (takes-extension h (signed q (suc (suc n))) x g extends-charged))))

  takes-charge : {m : Mode} (h : ℕ) (c : ℤ) (x : ℕ) → Slight c → x < 10000 → Charges m → Ends m (fields e s i k h (pos 0) 0) (charge_bytes c ++ (extension_bytes x ++ 93 ∷ [])) (fields e s i k h c x)
  takes-charge {m} h (pos n) x l g v = subst (λ (z : ℤ). Ends m (fields e s i k h (pos 0) 0) (size_bytes 43 n ++ (extension_bytes x ++ 93 ∷ [])) (fields e s i k h z x)) (same n) (takes-size true h n x l g v)
    where
      same : (n : ℕ) → sized true n ≡ pos n
      same zero = refl
      same (suc n) = refl
  takes-charge {m} h (negsuc n) x l g v =
      let z : suc n - 1 ≡ n = omega arith in
      subst (λ (y : ℕ). Ends m (fields e s i k h (pos 0) 0) (size_bytes 45 (suc n) ++ (extension_bytes x ++ 93 ∷ [])) (fields e s i k h (negsuc y) x)) z (takes-size false h (suc n) x l g v)

  -- the hydrogens
  hydrogen-digit : (b : ℕ) → among b several ≡ true → Moves hydrogen (fields e s i k 1 (pos 0) 0) b hydrogens (fields e s i k (digit b) (pos 0) 0)
  unfolding next mode_act
  hydrogen-digit b g = record { goes = rw g; does = λ j μ. rw g }

  takes-hydrogens : {m : Mode} (h : ℕ) (c : ℤ) (x : ℕ) → h < 10 → Slight c → x < 10000 → Hydrates m → Ends m (fields e s i k 0 (pos 0) 0) (hydrogen_bytes h ++ (charge_bytes c ++ (extension_bytes x ++ 93 ∷ []))) (fields e s i k h c x)
  unfolding hydrogen_bytes
  takes-hydrogens zero c x j l g v = takes-charge 0 c x l g v.charges
  takes-hydrogens (suc zero) c x j l g v = via (v.one (fields e s i k 0 (pos 0) 0)) (takes-charge 1 c x l g charges-hydrogen)
  takes-hydrogens (suc (suc h)) c x j l g v =
      rw (ne_eqb (suc (suc h)) 0 (λ z. omega arith), ne_eqb (suc (suc h)) 1 (λ z. omega arith))
      (via (v.one (fields e s i k 0 (pos 0) 0))
      (via (hydrogen-digit (digit_byte (suc (suc h))) (is-several (suc (suc h)) (omega arith) j))
      (rw (digit-of (suc (suc h))) (takes-charge (suc (suc h)) c x l g charges-hydrogens))))

-- the mark
second_at : (e s i : ℕ) → Moves at1 (fields e s i 1 0 (pos 0) 0) 64 at2 (fields e s i 2 0 (pos 0) 0)
unfolding next mode_act
second_at e s i = record { goes = refl; does = λ j μ. refl }

pub takes-marks : (e s i : ℕ) {m : Mode} (k h : ℕ) (c : ℤ) (x : ℕ) → k < 3 → h < 10 → Slight c → x < 10000 → Marks m
    → Ends m (fields e s i 0 0 (pos 0) 0) (mark_bytes k ++ (hydrogen_bytes h ++ (charge_bytes c ++ (extension_bytes x ++ 93 ∷ [])))) (fields e s i k h c x)
unfolding mark_bytes
takes-marks e s i zero h c x j k l g v = takes-hydrogens e s i 0 h c x k l g v.hydrates
takes-marks e s i (suc zero) h c x j k l g v = via (v.at (fields e s i 0 0 (pos 0) 0)) (takes-hydrogens e s i 1 h c x k l g hydrates-at1)
takes-marks e s i (suc (suc zero)) h c x j k l g v = via (v.at (fields e s i 0 0 (pos 0) 0)) (via (second_at e s i) (takes-hydrogens e s i 2 h c x k l g hydrates-at2))
takes-marks e s i (suc (suc (suc k))) h c x j y l g v = absurd (omega arith)
