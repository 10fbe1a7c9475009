-- What a byte does beside the grammar, as a deed: one law for each way through a function. Assumes nothing.
use Prim.Native.Nat.{ℕ, suc, ◌+◌, ◌-◌, ◌*◌, ◌≤◌}
use native.Mathlib.Omega.{arith}
use mathlib.Core.Path.{◌≡◌, refl, sym, ap, ◌∙◌, subst}
use mathlib.Core.Bool.{Bool, true, false}
use mathlib.Core.Logic.{⊎_elim}
use mathlib.Core.List.{List, [], ◌∷◌}
use lib.IntN.{ℤ, pos, negsuc}
use lib.Signed.{lt_z}
use lib.Dec.{eqb, ltb}
use borrow.Author.Tests.{eq-eqb, ne_eqb, eqb-true, ltb-true, le-leb}
use Rattle.loops.specs.Loop.{pick}
use Rattle.kinds.specs.Kind.{max_kind, symbol_kind}
use Rattle.kinds.proofs.Kind.{symbol-small}
use Rattle.element.specs.declared.Symbol.{Symbol}
use Rattle.element.specs.declared.Letter.{Letter}
use Rattle.element.specs.Symbols.{among, listed, starts, same_bytes, symbols}
use Rattle.element.specs.Lookup.{letter_of, symbol_of, selected_of, number_of, index_from}
use Rattle.element.proofs.Laws.{Tells, symbol-tells, listed-starts}
use Rattle.reading_grammar.specs.Grammar.{nonzero, digits, several}
use Rattle.reading_grammar.specs.declared.Mode.TheVariants.{Symbol1, Hydrogen, Sign, Extension}
use Rattle.reading_grammar.specs.Fold.{keeps}
use Rattle.reading_grammar.proofs.Ends.{never, all, all_listed}
use Rattle.reading_state.specs.declared.Fields.{Fields}
use Rattle.reading.specs.Memory.{Memory, drafted}
use Rattle.reading.specs.Bracket.{digit, elemented, symbolled, hydrogened, charged, signed, positive, extended}
use Rattle.reading.specs.Act.{Acts, or_atom, atom_act, bridge_act, joint_act, close_act, charge_act, mark_act, mode_act}
use Rattle.reading.proofs.Draft.{nonzero-digit}
use Rattle.reading_deeds.specs.declared.Deed.{Deed}
use Rattle.reading_deeds.specs.Deed.{beginning, Acted, Drafts, with_extension}

-- ---- an act that is another
pub acted-as : {a g : ℕ → Memory → Acts} {r : Deed} → ((i : ℕ) (μ : Memory) → a i μ ≡ g i μ) → Acted g r → Acted a r
acted-as e w = record { is = λ i μ. e i μ ∙ w.is i μ; number = w.number }

pub drafts-as : {f : Fields} {a g : Memory → Acts} {r : Deed} → ((μ : Memory) → a μ ≡ g μ) → Drafts f g r → Drafts f a r
drafts-as e w = record { is = λ i μ d. e μ ∙ w.is i μ d; number = w.number }

-- a deed that does not ask for the fields
pub any-draft : {f : Fields} {a : Memory → Acts} {r : Deed} → Acted (λ i. a) r → Drafts f a r
any-draft w = record { is = λ i μ e. w.is i μ; number = w.number }

-- other fields, by a change of those so far
pub drafts : {f : Fields} (g : Fields → Fields) {r : Deed} → r ≡ Deed.Draft (g f) → Drafts f (λ μ. keeps (drafted (g μ.draft) μ)) r
drafts {f} g e = subst (λ r. Drafts f (λ μ. keeps (drafted (g μ.draft) μ)) r) (sym e) (record { is = λ i μ d. ap (λ h. keeps (drafted (g h) μ)) d; number = tt })

-- ---- in a bracket

negative : (z : ℤ) → lt_z z (pos 0) ≡ true → positive z ≡ false
negative (pos n) h = let l = ltb-true n 0 h in absurd (omega arith)
negative (negsuc n) h = refl

not_negative : (z : ℤ) → lt_z z (pos 0) ≡ false → positive z ≡ true
not_negative (pos n) h = refl
not_negative (negsuc n) h = never (sym h)

module _ (b : ℕ) {f : Fields} {r : Deed} where
  pub count-here : {n : ℕ} → among b several ≡ true → n ≡ digit b → r ≡ Deed.Draft (hydrogened n f) → Drafts f (mode_act Hydrogen b 0) r
  unfolding mode_act
  count-here h n e = drafts-as (λ μ. rw h) (drafts (hydrogened (digit b)) (e ∙ ap (λ d. Deed.Draft (hydrogened d f)) n))

  pub count-on : among b several ≡ false → Drafts f (charge_act b) r → Drafts f (mode_act Hydrogen b 0) r
  unfolding mode_act
  count-on h w = drafts-as (λ μ. rw h) w

  size-here : {z : ℤ} → among b several ≡ true → z ≡ signed (positive f.charge) (digit b) → r ≡ Deed.Draft (charged z f) → Drafts f (mode_act Sign b 0) r
  unfolding mode_act
  size-here h z e = drafts-as (λ μ. rw h) (drafts (λ g. charged (signed (positive g.charge) (digit b)) g) (e ∙ ap (λ c. Deed.Draft (charged c f)) z))

  pub minus-here : {n : ℕ} {y z : ℤ} → among b several ≡ true → y ≡ f.charge → lt_z y (pos 0) ≡ true → z ≡ signed false n → n ≡ digit b → r ≡ Deed.Draft (charged z f) → Drafts f (mode_act Sign b 0) r
  minus-here {n} {y} h q l z v e = size-here h (z ∙ rw (sym q, negative y l, v)) e

  pub plus-here : {n : ℕ} {y z : ℤ} → among b several ≡ true → y ≡ f.charge → lt_z y (pos 0) ≡ false → z ≡ signed true n → n ≡ digit b → r ≡ Deed.Draft (charged z f) → Drafts f (mode_act Sign b 0) r
  plus-here {n} {y} h q l z v e = size-here h (z ∙ rw (sym q, not_negative y l, v)) e

  pub size-on : among b several ≡ false → Acted (λ i. close_act b) r → Drafts f (mode_act Sign b 0) r
  unfolding mode_act
  size-on h w = drafts-as (λ μ. rw h) (any-draft w)

  pub extension-here : {n : ℕ} → among b digits ≡ true → n ≡ digit b → r ≡ Deed.Draft (with_extension f (10 * f.extension + n)) → Drafts f (mode_act (Extension 0) b 0) r
  unfolding mode_act
  extension-here h n e = drafts-as (λ μ. rw h) (drafts (extended b) (e ∙ ap (λ d. Deed.Draft (with_extension f (10 * f.extension + d))) n))

  pub extension-on : among b digits ≡ false → Acted (λ i. close_act b) r → Drafts f (mode_act (Extension 0) b 0) r
  unfolding mode_act
  extension-on h w = drafts-as (λ μ. rw h) (any-draft w)

-- ---- a symbol
unlisted-index : (k : ℕ) (s : List ℕ) (l : List (List ℕ)) → listed s l ≡ false → index_from k s l ≡ 0
unfolding listed index_from
unlisted-index k s [] h = refl
unlisted-index k s (t ∷ l) h = split (same_bytes s t) h (unlisted-index (suc k) s l)
  where
    split : (u : Bool) → pick u true (listed s l) ≡ false → (listed s l ≡ false → index_from (suc k) s l ≡ 0) → pick u k (index_from (suc k) s l) ≡ 0
    split true g n = never (sym g)
    split false g n = n g

-- the second byte of a symbol is not 0
abbrev second : List ℕ → Bool
second [] = true
second (a ∷ []) = true
second (a ∷ b ∷ s) = ltb 0 b

no-pair : (a : ℕ) → listed (a ∷ 0 ∷ []) symbols ≡ true → false ≡ true
unfolding all symbols
no-pair a h = all_listed second symbols (a ∷ 0 ∷ []) refl h

-- the fields that a symbol's first byte leaves, by what looking it up says
abbrev pub named : Symbol → Fields → Fields
named (Symbol.Long e) f = elemented 0 0 f
named (Symbol.Brief e) f = elemented e 0 f
named (Symbol.Selected e) f = elemented e 1 f
named Symbol.Half f = elemented 0 0 f
named Symbol.Nothing f = elemented 0 0 f

star-named : (b : ℕ) → b ≡ 42 → (eqb (selected_of b) 0 ≡ true) × (number_of (b ∷ []) ≡ 0)
unfolding selected_of number_of index_from symbols same_bytes
star-named b e = (rw e, rw e)

no_number : (s : List ℕ) → listed s symbols ≡ false → number_of s ≡ 0
unfolding number_of
no_number s h = unlisted-index 1 s symbols h

symbol-named : (b : ℕ) (f : Fields) → named (symbol_of b 0) f ≡ symbolled b f
unfolding symbol_of symbolled
symbol-named b f = split (eqb b 42) (eqb (selected_of b) 0) (listed (b ∷ 0 ∷ []) symbols) (listed (b ∷ []) symbols) (starts b symbols) refl refl refl refl
  where
    split : (t u v w x : Bool) → eqb b 42 ≡ t → eqb (selected_of b) 0 ≡ u → listed (b ∷ 0 ∷ []) symbols ≡ v → listed (b ∷ []) symbols ≡ w
        → named (pick t (Symbol.Brief 0) (pick u (pick v (Symbol.Long (number_of (b ∷ 0 ∷ []))) (pick w (Symbol.Brief (number_of (b ∷ []))) (pick x Symbol.Half Symbol.Nothing))) (Symbol.Selected (selected_of b)))) f
        ≡ pick u (elemented (number_of (b ∷ [])) 0 f) (elemented (selected_of b) 1 f)
    split true true v w x e q g h = rw (star-named b (eqb-true b 42 e)).1
    split true false v w x e q g h = never (sym q ∙ (star-named b (eqb-true b 42 e)).0)
    split false false v w x e q g h = refl
    split false true true w x e q g h = never (no-pair b g)
    split false true false true x e q g h = refl
    split false true false false true e q g h = rw (no_number (b ∷ []) h)
    split false true false false false e q g h = rw (no_number (b ∷ []) h)

pub symbol-first : (b : ℕ) (f : Fields) {y : Symbol} {r : Deed} → symbol_of b 0 ≡ y → r ≡ Deed.Draft (named y f) → r ≡ Deed.Draft (symbolled b f)
symbol-first b f e q = q ∙ ap (λ y. Deed.Draft (named y f)) (sym e) ∙ ap Deed.Draft (symbol-named b f)

-- the symbol's second byte, by what looking both up says
module _ (a b : ℕ) where
  tells : {y : Symbol} → symbol_of a b ≡ y → Tells a b y
  tells e = subst (λ y. Tells a b y) e (symbol-tells a b)

  unlisted : starts a symbols ≡ false → listed (a ∷ b ∷ []) symbols ≡ false
  unlisted h = split (listed (a ∷ b ∷ []) symbols) refl
    where
      split : (t : Bool) → listed (a ∷ b ∷ []) symbols ≡ t → t ≡ false
      split true e = sym (listed-starts a (b ∷ []) symbols e) ∙ h
      split false e = refl

  star-alone : a ≡ 42 → listed (a ∷ b ∷ []) symbols ≡ false
  unfolding starts symbols
  star-alone e = unlisted (rw e)

  -- the number of the pair is the one that is told
  long-number : {n : ℕ} → symbol_of a b ≡ Symbol.Long n → n ≡ number_of (a ∷ b ∷ [])
  unfolding symbol_of
  long-number {n} = split (eqb a 42) (eqb (selected_of a) 0) (listed (a ∷ b ∷ []) symbols) (listed (a ∷ []) symbols) (starts a symbols)
    where
      split : (t u v w x : Bool) → pick t (Symbol.Brief 0) (pick u (pick v (Symbol.Long (number_of (a ∷ b ∷ []))) (pick w (Symbol.Brief (number_of (a ∷ []))) (pick x Symbol.Half Symbol.Nothing))) (Symbol.Selected (selected_of a))) ≡ Symbol.Long n → n ≡ number_of (a ∷ b ∷ [])
      split true u v w x e = never cc
      split false false v w x e = never cc
      split false true true w x e = cc
      split false true false true x e = never cc
      split false true false false true e = never cc
      split false true false false false e = never cc

module _ (a b : ℕ) {f : Fields} {r : Deed} where
  pair-on : listed (a ∷ b ∷ []) symbols ≡ false → Drafts f (mark_act 1 b) r → Drafts f (mode_act (Symbol1 a) b 0) r
  unfolding mode_act
  pair-on h w = drafts-as (λ μ. rw h) w

  pub long-here : {n : ℕ} → symbol_of a b ≡ Symbol.Long n → r ≡ Deed.Draft (elemented n 0 f) → Drafts f (mode_act (Symbol1 a) b 0) r
  unfolding mode_act
  long-here e q = drafts-as (λ μ. rw (tells a b e).pair) (drafts (elemented (number_of (a ∷ b ∷ [])) 0) (q ∙ ap (λ k. Deed.Draft (elemented k 0 f)) (long-number a b e)))

  pub brief-on : {n : ℕ} → symbol_of a b ≡ Symbol.Brief n → Drafts f (mark_act 1 b) r → Drafts f (mode_act (Symbol1 a) b 0) r
  brief-on e w = pair-on (⊎_elim (λ t. star-alone a b t.0) (λ t. t.no-pair) (tells a b e)) w

  pub selected-on : {n : ℕ} → symbol_of a b ≡ Symbol.Selected n → Drafts f (mark_act 1 b) r → Drafts f (mode_act (Symbol1 a) b 0) r
  selected-on e w = pair-on (unlisted a b (tells a b e).begins) w

  pub half-on : symbol_of a b ≡ Symbol.Half → Drafts f (mark_act 1 b) r → Drafts f (mode_act (Symbol1 a) b 0) r
  half-on e w = pair-on (tells a b e).no-pair w

  pub nothing-on : symbol_of a b ≡ Symbol.Nothing → Drafts f (mark_act 1 b) r → Drafts f (mode_act (Symbol1 a) b 0) r
  nothing-on e w = pair-on (unlisted a b (tells a b e).begins) w

-- ---- outside brackets
pub dot-joint : (b : ℕ) → b ≡ 46 → Acted (λ i. joint_act b) (Deed.Joint 7)
dot-joint b e = record { is = λ i μ. rw (eq-eqb b 46 e); number = tt }

pub kind-small : (b : ℕ) {k : ℕ} → k ≡ symbol_kind b → k ≤ max_kind
kind-small b e = omega (arith, symbol-small b)

pub symbol-joint : (b : ℕ) {k : ℕ} → (b ≡ 46 → ⊥) → k ≡ symbol_kind b → Acted (λ i. joint_act b) (Deed.Joint (k + 1))
symbol-joint b {k} h e = record { is = λ i μ. rw (ne_eqb b 46 h, one, le-leb k max_kind (kind-small b e), e); number = tt }
  where
    one : k + 1 ≡ suc k
    one = omega arith

-- what begins an atom
abbrev pub Starts : Letter → Type 0
Starts (Letter.Plain e) = Unit {0}
Starts (Letter.Selected e) = Unit {0}
Starts Letter.Half = Unit {0}
Starts Letter.Bracket = Unit {0}
Starts Letter.Nothing = ⊥

pub or-starts : (l : Letter) (a k : Acts) → Starts l → or_atom l a k ≡ a
or-starts (Letter.Plain e) a k s = refl
or-starts (Letter.Selected e) a k s = refl
or-starts Letter.Half a k s = refl
or-starts Letter.Bracket a k s = refl
or-starts Letter.Nothing a k s = absurd s

module _ (b : ℕ) {l : Letter} where
  pub atom-begins : {g : Letter} → l ≡ letter_of b → l ≡ g → Starts g → (a : ℕ → Memory → Acts) → Acted (λ i μ. or_atom (letter_of b) (atom_act b i μ) (a i μ)) (Deed.Atom l)
  unfolding atom_act beginning
  atom-begins e h s a =
      record {
        is = λ i μ. or-starts (letter_of b) (atom_act b i μ) (a i μ) (subst Starts (sym h ∙ e) s) ∙ ap (λ y. beginning y i μ) (sym e);
        number = tt;
      }

  pub no-atom : {k : Deed} → l ≡ letter_of b → l ≡ Letter.Nothing → (a : ℕ → Memory → Acts) → Acted a k → Acted (λ i μ. or_atom (letter_of b) (atom_act b i μ) (a i μ)) k
  no-atom e h a w = record { is = λ i μ. rw (sym e ∙ h) (w.is i μ); number = w.number }

none : (i : ℕ) → i ≡ i - 0
none i = omega arith

module _ (b : ℕ) (a : ℕ → Memory → Acts) where
  pub bridge-here : {n : ℕ} → among b nonzero ≡ true → n ≡ digit b → Acted (λ i μ. pick (among b nonzero) (bridge_act (digit b) i μ) (a i μ)) (Deed.Bridge n 0)
  bridge-here {n} h e = record { is = λ i μ. rw (h, e) (ap (λ p. bridge_act (digit b) p μ) (none i)); number = omega (arith, (nonzero-digit b h).1) }

  pub bridge-on : {k : Deed} → among b nonzero ≡ false → Acted a k → Acted (λ i μ. pick (among b nonzero) (bridge_act (digit b) i μ) (a i μ)) k
  bridge-on h w = acted-as (λ i μ. rw h) w

-- a byte that only moves the machine
pub kept : Acted (λ i μ. keeps μ) Deed.Keep
kept = record { is = λ i μ. refl; number = tt }
