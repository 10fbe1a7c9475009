-- Reading the symbol of an element, and the bracket of an atom whole. Assumes nothing.
use mathlib.Core.Path.{◌≡◌, refl, sym, ap, ◌∙◌, subst}
use mathlib.Core.Bool.{Bool, true, false, ◌&&◌, ◌||◌, not}
use mathlib.Core.List.{List, [], ◌∷◌, ◌++◌}
use Prim.Native.Nat.{ℕ, zero, suc, ◌+◌, ◌*◌, ◌<◌}
use native.Mathlib.Omega.{arith}
use lib.Dec.{eqb}
use lib.IntN.{ℤ, pos}
use borrow.Author.Tests.{ne_eqb, eqb-true, not-true}
use mathlib.Core.Logic.{◌⊎◌, ⊎_elim}
use Rattle.loops.specs.Loop.{pick, each}
use Rattle.loops.proofs.Loops.{each_at, and_left, and_right}
use Rattle.element.specs.Symbols.{among, listed, starts, same_bytes, symbols, marks}
use Rattle.element.specs.Lookup.{index_from, number_of, selected_of, bytes_of, selected_bytes}
use Rattle.reading_grammar.specs.Grammar.{nonzero, digits, signs, Digits, none, more, Number, number}
use Rattle.reading_grammar.proofs.Ends as bytes
use Rattle.reading_grammar.specs.declared.Mode.{Mode}
use Rattle.reading_grammar.specs.declared.Mode.TheVariants.{Bracket as bracket, Isotope as isotope, Symbol1 as symbol1, Symbolled as symbolled}
use Rattle.reading_grammar.specs.declared.Move.{Move}
use Rattle.reading_grammar.specs.declared.Move.TheVariants.{Stop as stop, To as to}
use Rattle.reading_grammar.specs.Machine.{next, symbol_or, closing, extending, charging, hydrating, marking}
use Rattle.reading_grammar.specs.Fold.{keeps}
use Rattle.reading_state.specs.declared.Fields.{Fields}
use Rattle.table.specs.Valid.{selectable}
use Rattle.reading.specs.Memory.{Memory, drafted}
use Rattle.reading.specs.Bracket.{digit}
use Rattle.reading.specs.Bracket as spec
use Rattle.reading.specs.Act.{mode_act}
use Rattle.writing.specs.Spell.{isotope_bytes, symbol_bytes, mark_bytes, hydrogen_bytes, charge_bytes, extension_bytes}
use Rattle.roundtrip.proofs.Decimal.{value, spelled}
use Rattle.roundtrip.proofs.Bracketed.{fields, Ends, Moves, via, Hydrates, Marks, marks-symbolled, Slight, takes-marks}

-- a mode in which a symbol may begin
pub record Names (m : Mode) : Type 0 where
  pub goes : (b : ℕ) → (k : Move) × (next m b ≡ symbol_or b k)
  pub does : (b i : ℕ) (μ : Memory) → among b digits ≡ false → mode_act m b i μ ≡ keeps (drafted (spec.symbolled b μ.draft) μ)

names-bracket : Names bracket
unfolding next mode_act
names-bracket = record { goes = λ b. (pick (among b nonzero) (to (isotope 2)) stop, refl); does = λ b i μ h. rw h }

names-isotope : (n : ℕ) → Names (isotope n)
unfolding next mode_act
names-isotope zero = record { goes = λ b. (stop, refl); does = λ b i μ h. rw h }
names-isotope (suc n) = record { goes = λ b. (pick (among b digits) (to (isotope n)) stop, refl); does = λ b i μ h. rw h }

-- ---- the 118 symbols: one computed test
-- the letter a alone is the element e, and no symbol goes on with what may follow
unfoldable letter_ok : ℕ → ℕ → Bool
letter_ok e a =
    eqb (number_of (a ∷ [])) e && (eqb (selected_of a) 0 && (not (among a digits) && (starts a symbols && (listed (a ∷ []) symbols
    && (not (listed (a ∷ 93 ∷ []) symbols) && (not (listed (a ∷ 58 ∷ []) symbols) && (not (listed (a ∷ 43 ∷ []) symbols) && (not (listed (a ∷ 45 ∷ []) symbols) && (not (listed (a ∷ 72 ∷ []) symbols) && not (listed (a ∷ 64 ∷ []) symbols))))))))))

unfoldable pair_ok : ℕ → ℕ → ℕ → Bool
pair_ok e a b = eqb (number_of (a ∷ b ∷ [])) e && (eqb (selected_of a) 0 && (not (among a digits) && (starts a symbols && listed (a ∷ b ∷ []) symbols)))

abbrev word_ok : ℕ → List ℕ → Bool
word_ok e [] = false
word_ok e (a ∷ []) = letter_ok e a
word_ok e (a ∷ b ∷ []) = pair_ok e a b
word_ok e (a ∷ b ∷ c ∷ s) = false

all-ok : each (λ e. word_ok (suc e) (bytes_of (suc e))) 0 118 ≡ true
unfolding each letter_ok pair_ok bytes_of number_of index_from selected_of among digits starts listed same_bytes symbols
all-ok = refl

-- the first byte of a symbol, as the fields take it
abbrev Blank : ℕ → Fields
Blank i = fields 0 0 i 0 0 (pos 0) 0

first_does : {m : Mode} (i e a : ℕ) → Names m → among a digits ≡ false → eqb (selected_of a) 0 ≡ true → number_of (a ∷ []) ≡ e → (j : ℕ) (μ : Memory) → mode_act m a j (drafted (Blank i) μ) ≡ keeps (drafted (fields e 0 i 0 0 (pos 0) 0) μ)
unfolding spec.symbolled
first_does i e a v d s n j μ = v.does a j (drafted (Blank i) μ) d ∙ rw (s, n)

first_goes : {m : Mode} (a : ℕ) → Names m → starts a symbols ≡ true → next m a ≡ to (symbol1 a)
unfolding symbol_or
first_goes a v s = (v.goes a).1 ∙ rw s

module _ (a : ℕ) (h : listed (a ∷ []) symbols ≡ true) where
  hydrates-letter : listed (a ∷ 93 ∷ []) symbols ≡ false → listed (a ∷ 58 ∷ []) symbols ≡ false → listed (a ∷ 43 ∷ []) symbols ≡ false → listed (a ∷ 45 ∷ []) symbols ≡ false → listed (a ∷ 72 ∷ []) symbols ≡ false → Hydrates (symbol1 a)
  unfolding next marking hydrating charging extending closing among signs mode_act
  hydrates-letter p q r s t = record {
    charges = record {
      extends = record { shuts = record { goes = rw (p, h); does = λ i μ. rw p }; goes = rw (q, h); does = λ i μ. rw q };
      plus = λ D. record { goes = rw (r, h); does = λ i μ. rw r };
      minus = λ D. record { goes = rw (s, h); does = λ i μ. rw s };
    };
    one = λ D. record { goes = rw (t, h); does = λ i μ. rw t };
  }

  marks-letter : Hydrates (symbol1 a) → listed (a ∷ 64 ∷ []) symbols ≡ false → Marks (symbol1 a)
  unfolding next marking mode_act
  marks-letter v p = record { hydrates = v; at = λ D. record { goes = rw (p, h); does = λ i μ. rw p } }

pub five : (P : ℕ → Type 0) → P 6 → P 7 → P 8 → P 15 → P 16 → (e : ℕ) → selectable e ≡ true → P e
five P p6 p7 p8 p15 p16 e = go (eqb e 6) (eqb e 7) (eqb e 8) (eqb e 15) (eqb e 16) refl refl refl refl refl
  where
    go : (a b c d f : Bool) → eqb e 6 ≡ a → eqb e 7 ≡ b → eqb e 8 ≡ c → eqb e 15 ≡ d → eqb e 16 ≡ f → (a || b || c || d || f) ≡ true → P e
    go true b c d f ea eb ec ed ef h = subst P (sym (eqb-true e 6 ea)) p6
    go false true c d f ea eb ec ed ef h = subst P (sym (eqb-true e 7 eb)) p7
    go false false true d f ea eb ec ed ef h = subst P (sym (eqb-true e 8 ec)) p8
    go false false false true f ea eb ec ed ef h = subst P (sym (eqb-true e 15 ed)) p15
    go false false false false true ea eb ec ed ef h = subst P (sym (eqb-true e 16 ef)) p16
    go false false false false false ea eb ec ed ef h = absurd (let z : ◌≡◌ {A = ℕ} 0 1 = cc in omega arith)

-- ---- what follows a symbol, from any mode in which a mark may begin
abbrev Rest : ℕ → ℕ → ℕ → List ℕ → Fields → Type 0
Rest e s i r E = (m : Mode) → Marks m → Ends m (fields e s i 0 0 (pos 0) 0) r E

second-moves : (i e a b : ℕ) → number_of (a ∷ b ∷ []) ≡ e → listed (a ∷ b ∷ []) symbols ≡ true → Moves (symbol1 a) (fields (number_of (a ∷ [])) 0 i 0 0 (pos 0) 0) b symbolled (fields e 0 i 0 0 (pos 0) 0)
unfolding next mode_act
second-moves i e a b n l = record { goes = rw l; does = λ j μ. rw (l, n) }

module _ {m : Mode} (i : ℕ) (v : Names m) {r : List ℕ} {E : Fields} where
  takes-letter : (e a : ℕ) → letter_ok e a ≡ true → Rest e 0 i r E → Ends m (Blank i) (a ∷ r) E
  unfolding letter_ok
  takes-letter e a h k =
      let h1 = and_right (eqb (number_of (a ∷ [])) e) _ h in
      let h2 = and_right (eqb (selected_of a) 0) _ h1 in
      let h3 = and_right (not (among a digits)) _ h2 in
      let h4 = and_right (starts a symbols) _ h3 in
      let h5 = and_right (listed (a ∷ []) symbols) _ h4 in
      let h6 = and_right (not (listed (a ∷ 93 ∷ []) symbols)) _ h5 in
      let h7 = and_right (not (listed (a ∷ 58 ∷ []) symbols)) _ h6 in
      let h8 = and_right (not (listed (a ∷ 43 ∷ []) symbols)) _ h7 in
      let h9 = and_right (not (listed (a ∷ 45 ∷ []) symbols)) _ h8 in
      let h10 = and_right (not (listed (a ∷ 72 ∷ []) symbols)) _ h9 in
      let n = eqb-true (number_of (a ∷ [])) e (and_left (eqb (number_of (a ∷ [])) e) _ h) in
      let d = not-true (among a digits) (and_left (not (among a digits)) _ h2) in
      via {n = symbol1 a} {E = fields e 0 i 0 0 (pos 0) 0}
      (record { goes = first_goes a v (and_left (starts a symbols) _ h3); does = first_does i e a v d (and_left (eqb (selected_of a) 0) _ h1) n })
      (k (symbol1 a)
      (marks-letter a (and_left (listed (a ∷ []) symbols) _ h4)
      (hydrates-letter a (and_left (listed (a ∷ []) symbols) _ h4) (not-true (listed (a ∷ 93 ∷ []) symbols) (and_left _ _ h5)) (not-true (listed (a ∷ 58 ∷ []) symbols) (and_left _ _ h6))
      (not-true (listed (a ∷ 43 ∷ []) symbols) (and_left _ _ h7)) (not-true (listed (a ∷ 45 ∷ []) symbols) (and_left _ _ h8)) (not-true (listed (a ∷ 72 ∷ []) symbols) (and_left _ _ h9)))
      (not-true (listed (a ∷ 64 ∷ []) symbols) h10)))

  takes-pair : (e a b : ℕ) → pair_ok e a b ≡ true → Rest e 0 i r E → Ends m (Blank i) (a ∷ b ∷ r) E
  unfolding pair_ok
  takes-pair e a b h k =
      let h1 = and_right (eqb (number_of (a ∷ b ∷ [])) e) _ h in
      let h2 = and_right (eqb (selected_of a) 0) _ h1 in
      let h3 = and_right (not (among a digits)) _ h2 in
      let h4 = and_right (starts a symbols) _ h3 in
      let n = eqb-true (number_of (a ∷ b ∷ [])) e (and_left (eqb (number_of (a ∷ b ∷ [])) e) _ h) in
      let d = not-true (among a digits) (and_left (not (among a digits)) _ h2) in
      via {n = symbol1 a} {E = fields (number_of (a ∷ [])) 0 i 0 0 (pos 0) 0}
      (record { goes = first_goes a v (and_left (starts a symbols) _ h3); does = first_does i (number_of (a ∷ [])) a v d (and_left (eqb (selected_of a) 0) _ h1) refl })
      (via (second-moves i e a b n h4) (k symbolled marks-symbolled))

  takes-word : (e : ℕ) (w : List ℕ) → word_ok e w ≡ true → Rest e 0 i r E → Ends m (Blank i) (w ++ r) E
  takes-word e [] h k = absurd (let z : ◌≡◌ {A = ℕ} 0 1 = cc in omega arith)
  takes-word e (a ∷ []) h k = takes-letter e a h k
  takes-word e (a ∷ b ∷ []) h k = takes-pair e a b h k
  takes-word e (a ∷ b ∷ c ∷ s) h k = absurd (let z : ◌≡◌ {A = ℕ} 0 1 = cc in omega arith)

  -- `*` and the selected letters
  takes-mark : (e s b : ℕ) → among b digits ≡ false → ((k : Move) → symbol_or b k ≡ to symbolled) → ((D : Fields) → spec.symbolled b D ≡ spec.elemented e s D) → Rest e s i r E → Ends m (Blank i) (b ∷ r) E
  takes-mark e s b d g x k = via {n = symbolled} {E = fields e s i 0 0 (pos 0) 0}
      (record { goes = (v.goes b).1 ∙ g (v.goes b).0; does = λ j μ. v.does b j (drafted (Blank i) μ) d ∙ ap (λ (D : Fields). keeps (drafted D μ)) (x (Blank i)) })
      (k symbolled marks-symbolled)

  takes-plain : (e : ℕ) → e < 119 → Rest e 0 i r E → Ends m (Blank i) (bytes_of e ++ r) E
  unfolding bytes_of among digits symbol_or starts symbols marks spec.symbolled selected_of number_of index_from same_bytes
  takes-plain zero l k = takes-mark 0 0 42 refl (λ o. refl) (λ D. refl) k
  takes-plain (suc e) l k = takes-word (suc e) (bytes_of (suc e)) (each_at (λ e. word_ok (suc e) (bytes_of (suc e))) 118 e all-ok (omega arith)) k

  takes-selected : (e : ℕ) → selectable e ≡ true → Rest e 1 i r E → Ends m (Blank i) (selected_bytes e ++ r) E
  unfolding selected_bytes among digits symbol_or starts symbols marks spec.symbolled selected_of
  takes-selected = five (λ e. Rest e 1 i r E → Ends m (Blank i) (selected_bytes e ++ r) E)
      (takes-mark 6 1 99 refl (λ o. refl) (λ D. refl)) (takes-mark 7 1 110 refl (λ o. refl) (λ D. refl)) (takes-mark 8 1 111 refl (λ o. refl) (λ D. refl))
      (takes-mark 15 1 112 refl (λ o. refl) (λ D. refl)) (takes-mark 16 1 115 refl (λ o. refl) (λ D. refl))

-- an element with its selected cell, as valid tables have them
pub record Symbolic (e s : ℕ) : Type 0 where
  pub known : e < 119
  pub either : (s ≡ 0) ⊎ ((s ≡ 1) × (selectable e ≡ true))

takes-symbol : {m : Mode} (i : ℕ) → Names m → {r : List ℕ} {E : Fields} (e s : ℕ) → Symbolic e s → Rest e s i r E → Ends m (Blank i) (symbol_bytes e s ++ r) E
takes-symbol {m} i v {r} {E} e s x k = ⊎_elim
    (λ q. subst (λ (s : ℕ). Rest e s i r E → Ends m (Blank i) (symbol_bytes e s ++ r) E) (sym q) (takes-plain i v e x.known) k)
    (λ q. subst (λ (s : ℕ). Rest e s i r E → Ends m (Blank i) (symbol_bytes e s ++ r) E) (sym q.0) (takes-selected i v e q.1) k) x.either

-- ---- the isotope
no_symbol : (b : ℕ) → among b digits ≡ true → (k : Move) → symbol_or b k ≡ k
unfolding symbol_or starts symbols marks among digits
no_symbol = bytes.each (λ b. (k : Move) → symbol_or b k ≡ k) digits ((λ k. refl), ((λ k. refl), ((λ k. refl), ((λ k. refl), ((λ k. refl), ((λ k. refl), ((λ k. refl), ((λ k. refl), ((λ k. refl), ((λ k. refl), tt))))))))))

nonzero-digit : (b : ℕ) → among b nonzero ≡ true → among b digits ≡ true
unfolding among nonzero digits
nonzero-digit = bytes.each (λ b. among b digits ≡ true) nonzero (refl, (refl, (refl, (refl, (refl, (refl, (refl, (refl, (refl, tt)))))))))

isotope-digit : (n x b : ℕ) → among b digits ≡ true → Moves (isotope (suc n)) (Blank x) b (isotope n) (Blank (10 * x + digit b))
unfolding next mode_act
isotope-digit n x b g = record { goes = no_symbol b g (pick (among b digits) (to (isotope n)) stop) ∙ rw g; does = λ j μ. rw g }

bracket-digit : (b : ℕ) → among b nonzero ≡ true → Moves bracket (Blank 0) b (isotope 2) (Blank (10 * 0 + digit b))
unfolding next mode_act
bracket-digit b g = record { goes = no_symbol b (nonzero-digit b g) (pick (among b nonzero) (to (isotope 2)) stop) ∙ rw g; does = λ j μ. rw (nonzero-digit b g) }

takes-digits : {n : ℕ} {ds r : List ℕ} {E : Fields} (x : ℕ) → Digits n ds → ((n : ℕ) → Ends (isotope n) (Blank (value x ds)) r E) → Ends (isotope n) (Blank x) (ds ++ r) E
takes-digits {n} x none k = k n
takes-digits x (more {n} {d = b} g w) k = via (isotope-digit n x b g) (takes-digits (10 * x + digit b) w k)

takes-number : {ds r : List ℕ} {E : Fields} → Number 2 ds → ((n : ℕ) → Ends (isotope n) (Blank (value 0 ds)) r E) → Ends bracket (Blank 0) (ds ++ r) E
takes-number (number {d = b} g w) k = via (bracket-digit b g) (takes-digits (10 * 0 + digit b) w k)

takes-isotope : {r : List ℕ} {E : Fields} (i : ℕ) → i < 1000 → ((m : Mode) → Names m → Ends m (Blank i) r E) → Ends bracket (Blank 0) (isotope_bytes i ++ r) E
takes-isotope zero l k = k bracket names-bracket
takes-isotope {r} {E} (suc i) l k =
    let w = spelled 0 (suc i) (omega arith) l in
    rw (ne_eqb (suc i) 0 (λ q. omega arith)) (takes-number w.number (λ n. subst (λ (x : ℕ). Ends (isotope n) (Blank x) r E) (sym w.same) (k (isotope n) (names-isotope n))))

-- THE BRACKET: after `[`, the bytes of the fields lead out of it with the fields
pub takes-bracket : (e s i k h : ℕ) (c : ℤ) (x : ℕ) → Symbolic e s → i < 1000 → k < 3 → h < 10 → Slight c → x < 10000
    → Ends bracket (Blank 0) (isotope_bytes i ++ (symbol_bytes e s ++ (mark_bytes k ++ (hydrogen_bytes h ++ (charge_bytes c ++ (extension_bytes x ++ 93 ∷ [])))))) (fields e s i k h c x)
takes-bracket e s i k h c x y li lk lh lc lx = takes-isotope i li (λ m v. takes-symbol i v e s y (λ m w. takes-marks e s i k h c x lk lh lc lx w))
