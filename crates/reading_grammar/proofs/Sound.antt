-- What the machine accepts is a text: what is left to read from a state that is accepted completes what was begun there.
use mathlib.Core.Path.{◌≡◌, refl, sym, ap, subst, ◌∙◌}
use mathlib.Core.Bool.{Bool, true, false}
use mathlib.Core.List.{List, [], ◌∷◌, ◌++◌, append_assoc}
use Prim.Native.Nat.{ℕ, zero, suc}
use native.Mathlib.Omega.{arith}
use lib.Dec.{eqb}
use borrow.Author.Tests.{eqb-true}
use Rattle.reading_grammar.specs.Grammar.{starts, pick, among, listed, nonzero, digits, several, bond_symbols, signs, letters, marks, symbols, Digits, Number, number, Isotope, mark, element, Tetrahedral, Hydrogens, Charge, Extension, Atom, letter, Cl, Br, At, Ts, Bridge, short, long, Bond, elided, Joint, sequence, Pieces, Piece, branch, Text, empty, text}
use Rattle.reading_grammar.specs.Machine.{Last, plain, afterC, afterB, Mode, seq, bond, atomNext, inside, percent, percent1, letterA, letterT, bracket, isotope, symbol1, symbolled, at1, at2, hydrogen, hydrogens, sign, charged, colon, extension, Move, stop, to, up, down, start, at, last_of, goes_on, atom_or, bridge_or, closing, extending, charging, hydrating, marking, symbol_or, next, turn, step, run, resting, accepting}
use Rattle.reading_grammar.proofs.Ends.{EndExtension, EndCharge, EndHydrogens, EndMark, EndSymbol, EndIsotope, never, run-dead}

-- what completes the item that a mode is in
data After : Last → List ℕ → Type 0 where
  done : {x : Last} → After x []
  with-l : After afterC (108 ∷ [])
  with-r : After afterB (114 ∷ [])

data Bonded : List ℕ → Type 0 where
  atom : {u : List ℕ} → Atom u → Bonded u
  bridge : {u : List ℕ} → Bridge u → Bonded u

data Inner : List ℕ → Type 0 where
  inner : {j a : List ℕ} → Joint j → Atom a → Inner (j ++ a)

data Two : List ℕ → Type 0 where
  two : {d e : ℕ} → among d nonzero ≡ true → among e digits ≡ true → Two (d ∷ e ∷ [])

data One : List ℕ → Type 0 where
  one : {e : ℕ} → among e digits ≡ true → One (e ∷ [])

data Is : ℕ → List ℕ → Type 0 where
  is : {b : ℕ} → Is b (b ∷ [])

data IsotopeRest : ℕ → List ℕ → Type 0 where
  ends : {n : ℕ} {s t : List ℕ} → Digits n s → EndSymbol t → IsotopeRest n (s ++ t)

data SymbolRest : ℕ → List ℕ → Type 0 where
  alone : {a : ℕ} {t : List ℕ} → listed (a ∷ []) symbols ≡ true → EndMark t → SymbolRest a t
  pair : {a b : ℕ} {t : List ℕ} → listed (a ∷ b ∷ []) symbols ≡ true → EndMark t → SymbolRest a (b ∷ t)

-- after the first `@`
data MarkRest : List ℕ → Type 0 where
  none : {t : List ℕ} → EndHydrogens t → MarkRest t
  second : {t : List ℕ} → EndHydrogens t → MarkRest (64 ∷ t)

data HydrogenRest : List ℕ → Type 0 where
  none : {t : List ℕ} → EndCharge t → HydrogenRest t
  digit : {d : ℕ} {t : List ℕ} → among d several ≡ true → EndCharge t → HydrogenRest (d ∷ t)

data SignRest : List ℕ → Type 0 where
  none : {t : List ℕ} → EndExtension t → SignRest t
  digit : {d : ℕ} {t : List ℕ} → among d several ≡ true → EndExtension t → SignRest (d ∷ t)

data ColonRest : List ℕ → Type 0 where
  ends : {s : List ℕ} → Number 3 s → ColonRest (s ++ 93 ∷ [])

data ExtensionRest : ℕ → List ℕ → Type 0 where
  ends : {n : ℕ} {s : List ℕ} → Digits n s → ExtensionRest n (s ++ 93 ∷ [])

abbrev Half : Mode → List ℕ → Type 0
Half (seq x) u = After x u
Half bond u = Bonded u
Half atomNext u = Atom u
Half inside u = Inner u
Half percent u = Two u
Half percent1 u = One u
Half letterA u = Is 116 u
Half letterT u = Is 115 u
Half bracket u = EndIsotope u
Half (isotope n) u = IsotopeRest n u
Half (symbol1 a) u = SymbolRest a u
Half symbolled u = EndMark u
Half at1 u = MarkRest u
Half at2 u = EndHydrogens u
Half hydrogen u = HydrogenRest u
Half hydrogens u = EndCharge u
Half sign u = SignRest u
Half charged u = EndExtension u
Half colon u = ColonRest u
Half (extension n) u = ExtensionRest n u

-- pieces, and for each open branch ) and pieces
data Tail : ℕ → List ℕ → Type 0 where
  last : {p : List ℕ} → Pieces p → Tail 0 p
  close : {d : ℕ} {p t : List ℕ} → Pieces p → Tail d t → Tail (suc d) (p ++ 41 ∷ t)

-- what is left to read
data Rest : Mode → ℕ → List ℕ → Type 0 where
  rest : {m : Mode} {d : ℕ} (u : List ℕ) {t : List ℕ} → Half m u → Tail d t → Rest m d (u ++ t)

abbrev RestOut : Move → ℕ → List ℕ → Type 0
RestOut stop d s = ⊥
RestOut (to m) d s = Rest m d s
RestOut up d s = Rest inside (suc d) s
RestOut down zero s = ⊥
RestOut down (suc d) s = Rest (seq plain) d s

-- an atom begins with b
data AtomRest : ℕ → ℕ → List ℕ → Type 0 where
  begun : {b d : ℕ} {u t : List ℕ} → Atom (b ∷ u) → Tail d t → AtomRest b d (u ++ t)

on-pick : {G : Type 0} (d : ℕ) (s : List ℕ) (t : Bool) (a b : Move) → RestOut (pick t a b) d s → (t ≡ true → RestOut a d s → G) → (RestOut b d s → G) → G
on-pick d s true a b h f g = f refl h
on-pick d s false a b h f g = g h

map-rest : {m n : Mode} {d b : ℕ} {s : List ℕ} → ((u : List ℕ) → Half n u → Half m (b ∷ u)) → Rest n d s → Rest m d (b ∷ s)
map-rest {b = b} f (rest u h t) = rest (b ∷ u) (f u h) t

-- ---- atoms
last-C : (b : ℕ) → last_of b ≡ afterC → b ≡ 67
last-C b = split (eqb b 67) (eqb b 66) refl
  where
    split : (t u : Bool) → eqb b 67 ≡ t → pick t afterC (pick u afterB plain) ≡ afterC → b ≡ 67
    split true u e h = eqb-true b 67 e
    split false true e h = absurd (let z : ◌≡◌ {A = ℕ} 0 1 = cc in omega arith)
    split false false e h = absurd (let z : ◌≡◌ {A = ℕ} 0 1 = cc in omega arith)

last-B : (b : ℕ) → last_of b ≡ afterB → b ≡ 66
last-B b = split (eqb b 67) (eqb b 66) refl
  where
    split : (t u : Bool) → eqb b 66 ≡ u → pick t afterC (pick u afterB plain) ≡ afterB → b ≡ 66
    split true u e h = absurd (let z : ◌≡◌ {A = ℕ} 0 1 = cc in omega arith)
    split false true e h = eqb-true b 66 e
    split false false e h = absurd (let z : ◌≡◌ {A = ℕ} 0 1 = cc in omega arith)

after-letter : {x : Last} {u : List ℕ} (b : ℕ) → among b letters ≡ true → last_of b ≡ x → After x u → Atom (b ∷ u)
after-letter b e q done = letter e
after-letter b e q with-l = subst (λ (c : ℕ). Atom (c ∷ 108 ∷ [])) (sym (last-C b q)) Cl
after-letter b e q with-r = subst (λ (c : ℕ). Atom (c ∷ 114 ∷ [])) (sym (last-B b q)) Br

after-A : {u : List ℕ} (b : ℕ) → eqb b 65 ≡ true → Is 116 u → Atom (b ∷ u)
after-A b e is = subst (λ (c : ℕ). Atom (c ∷ 116 ∷ [])) (sym (eqb-true b 65 e)) At

after-T : {u : List ℕ} (b : ℕ) → eqb b 84 ≡ true → Is 115 u → Atom (b ∷ u)
after-T b e is = subst (λ (c : ℕ). Atom (c ∷ 115 ∷ [])) (sym (eqb-true b 84 e)) Ts

bracket-atom : {u : List ℕ} → EndIsotope u → Atom (91 ∷ u)
bracket-atom (EndIsotope.ends i (EndSymbol.ends y (EndMark.ends k (EndHydrogens.ends h (EndCharge.ends c (EndExtension.ends e)))))) = Atom.bracket i y k h c e

after-[ : {u : List ℕ} (b : ℕ) → eqb b 91 ≡ true → EndIsotope u → Atom (b ∷ u)
after-[ {u} b e x = subst (λ (c : ℕ). Atom (c ∷ u)) (sym (eqb-true b 91 e)) (bracket-atom x)

begin : {m : Mode} {b d : ℕ} {s : List ℕ} → ((u : List ℕ) → Half m u → Atom (b ∷ u)) → Rest m d s → AtomRest b d s
begin f (rest u h t) = begun (f u h) t

on-atom : {G : Type 0} (d : ℕ) (s : List ℕ) (b : ℕ) (k : Move) → RestOut (atom_or b k) d s → (AtomRest b d s → G) → (RestOut k d s → G) → G
unfolding atom_or
on-atom d s b k h f g =
    on-pick d s (among b letters) _ _ h (λ e x. f (begin (λ u a. after-letter b e refl a) x)) λ h.
    on-pick d s (eqb b 65) _ _ h (λ e x. f (begin (λ u a. after-A b e a) x)) λ h.
    on-pick d s (eqb b 84) _ _ h (λ e x. f (begin (λ u a. after-T b e a) x)) λ h.
    on-pick d s (eqb b 91) _ _ h (λ e x. f (begin (λ u a. after-[ b e a) x)) g

tail_of : {d : ℕ} {s : List ℕ} → Rest (seq plain) d s → Tail d s
tail_of (rest u done t) = t

push : {p t : List ℕ} {d : ℕ} → Piece p → Tail d t → Tail d (p ++ t)
push p (last q) = last (Pieces.more p q)
push {p} a (close {d} {p = q} {t = t} b c) = subst (λ (v : List ℕ). Tail (suc d) v) (append_assoc p q (41 ∷ t)) (close (Pieces.more a b) c)

-- ---- the fields of a bracket
-- b begins an item that the relation E tells
data Ends (E : List ℕ → Type 0) : ℕ → List ℕ → Type 0 where
  ends : {d : ℕ} {u t : List ℕ} → E u → Tail d t → Ends E d (u ++ t)

at_closing : (d : ℕ) (s : List ℕ) (b : ℕ) → RestOut (closing b) d s → Ends (λ u. Is 93 u) d (b ∷ s)
unfolding closing
at_closing d s b h = on-pick d s (eqb b 93) _ _ h
    (λ e x. subst (λ (c : ℕ). Ends (λ u. Is 93 u) d (c ∷ s)) (sym (eqb-true b 93 e)) (ends is (tail_of x)))
    λ z. absurd z

map-ends : {E F : List ℕ → Type 0} {d : ℕ} {s : List ℕ} → ((u : List ℕ) → E u → F u) → Ends E d s → Ends F d s
map-ends f (ends {u = u} e t) = ends (f u e) t

from-rest : {m : Mode} {F : List ℕ → Type 0} {d b : ℕ} {s : List ℕ} → ((u : List ℕ) → Half m u → F (b ∷ u)) → Rest m d s → Ends F d (b ∷ s)
from-rest {b = b} f (rest u h t) = ends {u = b ∷ u} (f u h) t

to-rest : {m : Mode} {d : ℕ} {s : List ℕ} → Ends (Half m) d s → Rest m d s
to-rest (ends {u = u} e t) = rest u e t

closed : (u : List ℕ) → Is 93 u → EndExtension u
closed u is = EndExtension.ends Extension.none

colon-ext : (b : ℕ) → b ≡ 58 → (u : List ℕ) → ColonRest u → EndExtension (b ∷ u)
colon-ext b q u (ColonRest.ends {s = s} n) = subst (λ (c : ℕ). EndExtension (c ∷ (s ++ 93 ∷ []))) (sym q) (EndExtension.ends (Extension.extension n))

at-extending : (d : ℕ) (s : List ℕ) (b : ℕ) → RestOut (extending b) d s → Ends EndExtension d (b ∷ s)
unfolding extending
at-extending d s b h = on-pick d s (eqb b 58) _ _ h (λ e x. from-rest (colon-ext b (eqb-true b 58 e)) x)
    λ h. map-ends closed (at_closing d s b h)

sign-charge : (b : ℕ) → among b signs ≡ true → (u : List ℕ) → SignRest u → EndCharge (b ∷ u)
sign-charge b e u (SignRest.none x) = EndCharge.ends (Charge.one e) x
sign-charge b e u (SignRest.digit f x) = EndCharge.ends (Charge.many e f) x

at-charging : (d : ℕ) (s : List ℕ) (b : ℕ) → RestOut (charging b) d s → Ends EndCharge d (b ∷ s)
unfolding charging
at-charging d s b h = on-pick d s (among b signs) _ _ h (λ e x. from-rest (sign-charge b e) x)
    λ h. map-ends (λ u x. EndCharge.ends Charge.none x) (at-extending d s b h)

hydrogen-ends : (b : ℕ) → b ≡ 72 → (u : List ℕ) → HydrogenRest u → EndHydrogens (b ∷ u)
hydrogen-ends b q u (HydrogenRest.none x) = subst (λ (c : ℕ). EndHydrogens (c ∷ u)) (sym q) (EndHydrogens.ends Hydrogens.one x)
hydrogen-ends b q u (HydrogenRest.digit f x) = subst (λ (c : ℕ). EndHydrogens (c ∷ u)) (sym q) (EndHydrogens.ends (Hydrogens.many f) x)

at-hydrating : (d : ℕ) (s : List ℕ) (b : ℕ) → RestOut (hydrating b) d s → Ends EndHydrogens d (b ∷ s)
unfolding hydrating
at-hydrating d s b h = on-pick d s (eqb b 72) _ _ h (λ e x. from-rest (hydrogen-ends b (eqb-true b 72 e)) x)
    λ h. map-ends (λ u x. EndHydrogens.ends Hydrogens.none x) (at-charging d s b h)

mark-ends : (b : ℕ) → b ≡ 64 → (u : List ℕ) → MarkRest u → EndMark (b ∷ u)
mark-ends b q u (MarkRest.none x) = subst (λ (c : ℕ). EndMark (c ∷ u)) (sym q) (EndMark.ends Tetrahedral.one x)
mark-ends b q u (MarkRest.second {t} x) = subst (λ (c : ℕ). EndMark (c ∷ 64 ∷ t)) (sym q) (EndMark.ends Tetrahedral.two x)

at-marking : (d : ℕ) (s : List ℕ) (b : ℕ) → RestOut (marking b) d s → Ends EndMark d (b ∷ s)
unfolding marking
at-marking d s b h = on-pick d s (eqb b 64) _ _ h (λ e x. from-rest (mark-ends b (eqb-true b 64 e)) x)
    λ h. map-ends (λ u x. EndMark.ends Tetrahedral.none x) (at-hydrating d s b h)

symbol-ends : (b : ℕ) (u : List ℕ) → SymbolRest b u → EndSymbol (b ∷ u)
symbol-ends b u (SymbolRest.alone e x) = EndSymbol.ends (element e) x
symbol-ends b u (SymbolRest.pair e x) = EndSymbol.ends (element e) x

on-symbol : {G : Type 0} (d : ℕ) (s : List ℕ) (b : ℕ) (k : Move) → RestOut (symbol_or b k) d s → (Ends EndSymbol d (b ∷ s) → G) → (RestOut k d s → G) → G
unfolding symbol_or
on-symbol d s b k h f g =
    on-pick d s (starts b symbols) _ _ h (λ e x. f (from-rest (symbol-ends b) x)) λ h.
    on-pick d s (among b marks) _ _ h (λ e x. f (from-rest (λ u y. EndSymbol.ends (mark e) y) x)) g

number-iso : {b : ℕ} → among b nonzero ≡ true → (u : List ℕ) → IsotopeRest 2 u → EndIsotope (b ∷ u)
number-iso e u (IsotopeRest.ends n x) = EndIsotope.ends (Isotope.isotope (number e n)) x

digit-iso : {n b : ℕ} → among b digits ≡ true → (u : List ℕ) → IsotopeRest n u → IsotopeRest (suc n) (b ∷ u)
digit-iso e u (IsotopeRest.ends r x) = IsotopeRest.ends (Digits.more e r) x

digit-ext : {n b : ℕ} → among b digits ≡ true → (u : List ℕ) → ExtensionRest n u → ExtensionRest (suc n) (b ∷ u)
digit-ext e u (ExtensionRest.ends r) = ExtensionRest.ends (Digits.more e r)

closed-ext : (n : ℕ) (u : List ℕ) → Is 93 u → ExtensionRest n u
closed-ext n u is = ExtensionRest.ends Digits.none

number-ext : {b : ℕ} → among b nonzero ≡ true → (u : List ℕ) → ExtensionRest 3 u → ColonRest (b ∷ u)
number-ext e u (ExtensionRest.ends r) = ColonRest.ends (number e r)

-- ---- pieces
branch-tail : {d : ℕ} {s : List ℕ} → Rest inside (suc d) s → Tail d (40 ∷ s)
branch-tail (rest u (inner {j = j} {a = a} x y) (close {d} {p = q} {t = t} p c)) =
    subst (λ (v : List ℕ). Tail d (40 ∷ v)) (simp append_assoc) (push (branch x (sequence y p)) c)

atom-tail : {b d : ℕ} {s : List ℕ} → AtomRest b d s → Tail d (b ∷ s)
atom-tail (begun a t) = push (Piece.atom elided a) t

bond-tail : {b d : ℕ} {s : List ℕ} → among b bond_symbols ≡ true → Rest bond d s → Tail d (b ∷ s)
bond-tail e (rest u (Bonded.atom a) t) = push (Piece.atom (Bond.symbol e) a) t
bond-tail e (rest u (Bonded.bridge a) t) = push (Piece.bridge (Bond.symbol e) a) t

dot-tail : {d : ℕ} {s : List ℕ} → Rest atomNext d s → Tail d (46 ∷ s)
dot-tail (rest u a t) = push (Piece.dot a) t

down-tail : (d : ℕ) (s : List ℕ) → RestOut down d s → Tail d (41 ∷ s)
down-tail zero s z = absurd z
down-tail (suc d) s x = close Pieces.none (tail_of x)

long-bridge : {b : ℕ} → b ≡ 37 → (u : List ℕ) → Two u → Bridge (b ∷ u)
long-bridge q u (two e f) = subst (λ (c : ℕ). Bridge (c ∷ u)) (sym q) (long e f)

on-bridge : {G : Type 0} (d : ℕ) (s : List ℕ) (b : ℕ) (k : Move) → RestOut (bridge_or b k) d s → (Ends Bridge d (b ∷ s) → G) → (RestOut k d s → G) → G
unfolding bridge_or
on-bridge d s b k h f g =
    on-pick d s (among b nonzero) _ _ h (λ e x. f (ends {u = b ∷ []} (short e) (tail_of x))) λ h.
    on-pick d s (eqb b 37) _ _ h (λ e x. f (from-rest (long-bridge (eqb-true b 37 e)) x)) g

bridge-tail : {d : ℕ} {s : List ℕ} → Ends Bridge d s → Tail d s
bridge-tail (ends r t) = push (Piece.bridge elided r) t

at_byte : (P : ℕ → Type 0) (b c : ℕ) → eqb b c ≡ true → P c → P b
at_byte P b c e x = subst P (sym (eqb-true b c e)) x

on-last : (x : Last) (d : ℕ) (s : List ℕ) (b : ℕ) → RestOut (goes_on x b) d s → Rest (seq x) d (b ∷ s)
on-last plain d s b h = absurd h
on-last afterC d s b h = on-pick d s (eqb b 108) _ _ h (λ e y. at_byte (λ c. Rest (seq afterC) d (c ∷ s)) b 108 e (rest (108 ∷ []) with-l (tail_of y))) λ z. absurd z
on-last afterB d s b h = on-pick d s (eqb b 114) _ _ h (λ e y. at_byte (λ c. Rest (seq afterB) d (c ∷ s)) b 114 e (rest (114 ∷ []) with-r (tail_of y))) λ z. absurd z

from-atom : {m : Mode} {d b : ℕ} {s : List ℕ} → ((u : List ℕ) → Atom u → Half m u) → AtomRest b d s → Rest m d (b ∷ s)
from-atom {b = b} f (begun {u = u} a t) = rest (b ∷ u) (f (b ∷ u) a) t

joint-inner : {b : ℕ} → Joint (b ∷ []) → (u : List ℕ) → Atom u → Inner (b ∷ u)
joint-inner j u a = inner j a

-- a byte read backwards
back : (m : Mode) (d : ℕ) (s : List ℕ) (b : ℕ) → RestOut (next m b) d s → Rest m d (b ∷ s)
unfolding next
back (seq x) d s b h =
    on-atom d s b _ h (λ y. rest [] done (atom-tail y)) λ h.
    on-bridge d s b _ h (λ y. rest [] done (bridge-tail y)) λ h.
    on-pick d s (among b bond_symbols) _ _ h (λ e y. rest [] done (bond-tail e y)) λ h.
    on-pick d s (eqb b 46) _ _ h (λ e y. rest [] done (at_byte (λ c. Tail d (c ∷ s)) b 46 e (dot-tail y))) λ h.
    on-pick d s (eqb b 40) _ _ h (λ e y. rest [] done (at_byte (λ c. Tail d (c ∷ s)) b 40 e (branch-tail y))) λ h.
    on-pick d s (eqb b 41) _ _ h (λ e y. rest [] done (at_byte (λ c. Tail d (c ∷ s)) b 41 e (down-tail d s y))) λ h.
    on-last x d s b h
back bond d s b h =
    on-atom d s b _ h (λ y. from-atom (λ u a. Bonded.atom a) y) λ h.
    on-bridge d s b _ h (λ y. to-rest (map-ends (λ u a. Bonded.bridge a) y)) λ z. absurd z
back atomNext d s b h = on-atom d s b _ h (λ y. from-atom (λ u a. a) y) λ z. absurd z
back inside d s b h =
    on-atom d s b _ h (λ y. from-atom (λ u a. inner (Joint.bond elided) a) y) λ h.
    on-pick d s (among b bond_symbols) _ _ h (λ e y. map-rest (joint-inner (Joint.bond (Bond.symbol e))) y) λ h.
    on-pick d s (eqb b 46) _ _ h (λ e y. at_byte (λ c. Rest inside d (c ∷ s)) b 46 e (map-rest (joint-inner Joint.dot) y)) λ z. absurd z
back percent d s b h = on-pick d s (among b nonzero) _ _ h (λ e y. map-rest (elim-one e) y) λ z. absurd z
  where
    elim-one : {c : ℕ} → among c nonzero ≡ true → (u : List ℕ) → One u → Two (c ∷ u)
    elim-one e u (one f) = two e f
back percent1 d s b h = on-pick d s (among b digits) _ _ h (λ e y. rest (b ∷ []) (one e) (tail_of y)) λ z. absurd z
back letterA d s b h = on-pick d s (eqb b 116) _ _ h (λ e y. at_byte (λ c. Rest letterA d (c ∷ s)) b 116 e (rest (116 ∷ []) is (tail_of y))) λ z. absurd z
back letterT d s b h = on-pick d s (eqb b 115) _ _ h (λ e y. at_byte (λ c. Rest letterT d (c ∷ s)) b 115 e (rest (115 ∷ []) is (tail_of y))) λ z. absurd z
back bracket d s b h =
    on-symbol d s b _ h (λ y. to-rest (map-ends (λ u x. EndIsotope.ends Isotope.none x) y)) λ h.
    on-pick d s (among b nonzero) _ _ h (λ e y. map-rest (number-iso e) y) λ z. absurd z
back (isotope zero) d s b h = on-symbol d s b _ h (λ y. to-rest (map-ends (λ u x. IsotopeRest.ends Digits.none x) y)) λ z. absurd z
back (isotope (suc n)) d s b h =
    on-symbol d s b _ h (λ y. to-rest (map-ends (λ u x. IsotopeRest.ends Digits.none x) y)) λ h.
    on-pick d s (among b digits) _ _ h (λ e y. map-rest (digit-iso e) y) λ z. absurd z
back (symbol1 a) d s b h =
    on-pick d s (listed (a ∷ b ∷ []) symbols) _ _ h (λ e y. map-rest (λ u x. SymbolRest.pair e x) y) λ h.
    on-pick d s (listed (a ∷ []) symbols) _ _ h (λ e y. to-rest (map-ends (λ u x. SymbolRest.alone e x) (at-marking d s b y))) λ z. absurd z
back symbolled d s b h = to-rest (at-marking d s b h)
back at1 d s b h =
    on-pick d s (eqb b 64) _ _ h (λ e y. at_byte (λ c. Rest at1 d (c ∷ s)) b 64 e (map-rest (λ u x. MarkRest.second x) y)) λ h.
    to-rest (map-ends (λ u x. MarkRest.none x) (at-hydrating d s b h))
back at2 d s b h = to-rest (at-hydrating d s b h)
back hydrogen d s b h =
    on-pick d s (among b several) _ _ h (λ e y. map-rest (λ u x. HydrogenRest.digit e x) y) λ h.
    to-rest (map-ends (λ u x. HydrogenRest.none x) (at-charging d s b h))
back hydrogens d s b h = to-rest (at-charging d s b h)
back sign d s b h =
    on-pick d s (among b several) _ _ h (λ e y. map-rest (λ u x. SignRest.digit e x) y) λ h.
    to-rest (map-ends (λ u x. SignRest.none x) (at-extending d s b h))
back charged d s b h = to-rest (at-extending d s b h)
back colon d s b h = on-pick d s (among b nonzero) _ _ h (λ e y. map-rest (number-ext e) y) λ z. absurd z
back (extension zero) d s b h = to-rest (map-ends (closed-ext 0) (at_closing d s b h))
back (extension (suc n)) d s b h =
    on-pick d s (among b digits) _ _ h (λ e y. map-rest (digit-ext e) y) λ h.
    to-rest (map-ends (closed-ext (suc n)) (at_closing d s b h))

-- ---- what is accepted from a state
back-out : (o : Move) (d : ℕ) (s : List ℕ) → accepting (run (turn o d) s) ≡ true
    → ((m : Mode) (d : ℕ) → accepting (run (at m d) s) ≡ true → Rest m d s) → RestOut o d s
unfolding accepting
back-out stop d s h f = never (sym (ap accepting (run-dead s)) ∙ h)
back-out (to m) d s h f = f m d h
back-out up d s h f = f inside (suc d) h
back-out down zero s h f = never (sym (ap accepting (run-dead s)) ∙ h)
back-out down (suc d) s h f = f (seq plain) d h

at-end : (m : Mode) (d : ℕ) → resting m d ≡ true → Rest m d []
unfolding resting
at-end (seq x) zero h = rest [] done (last Pieces.none)
at-end (seq x) (suc d) h = never h
at-end bond d h = never h
at-end atomNext d h = never h
at-end inside d h = never h
at-end percent d h = never h
at-end percent1 d h = never h
at-end letterA d h = never h
at-end letterT d h = never h
at-end bracket d h = never h
at-end (isotope n) d h = never h
at-end (symbol1 a) d h = never h
at-end symbolled d h = never h
at-end at1 d h = never h
at-end at2 d h = never h
at-end hydrogen d h = never h
at-end hydrogens d h = never h
at-end sign d h = never h
at-end charged d h = never h
at-end colon d h = never h
at-end (extension n) d h = never h

sound-at : (s : List ℕ) (m : Mode) (d : ℕ) → accepting (run (at m d) s) ≡ true → Rest m d s
unfolding run step accepting
sound-at [] m d h = at-end m d h
sound-at (b ∷ s) m d h = back m d s b (back-out (next m b) d s h (sound-at s))

text_of : {b : ℕ} {s : List ℕ} → AtomRest b 0 s → Text (b ∷ s)
text_of (begun a (last p)) = text (sequence a p)

-- what is accepted is a text
pub sound : (s : List ℕ) → accepting (run start s) ≡ true → Text s
unfolding run step
sound [] h = empty
sound (b ∷ s) h = on-atom 0 s b stop (back-out (atom_or b stop) 0 s h (sound-at s)) text_of λ z. absurd z
