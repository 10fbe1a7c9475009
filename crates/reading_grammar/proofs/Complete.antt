-- The machine reads each text of the grammar: by induction on its derivation.
use mathlib.Core.Path.{◌≡◌, refl, sym, ap, ◌∙◌}
use mathlib.Core.Bool.{Bool, true, false}
use mathlib.Core.List.{List, [], ◌∷◌, ◌++◌}
use Prim.Native.Nat.{ℕ, zero, suc}
use lib.Dec.{eqb, leb}
use Rattle.reading_grammar.specs.Grammar.{starts, pick, among, listed, same_bytes, nonzero, digits, several, bond_symbols, signs, letters, marks, symbols, Digits, number, Isotope, mark, element, Tetrahedral, Hydrogens, Charge, Extension, Atom, letter, Cl, Br, At, Ts, Bridge, short, long, Bond, elided, Joint, Sequence, sequence, Pieces, Piece, Text, empty, text}
use Rattle.reading_grammar.specs.Machine.{Last, plain, afterC, afterB, Mode, seq, bond, atomNext, inside, percent, percent1, letterA, letterT, bracket, isotope, symbol1, symbolled, at1, at2, hydrogen, hydrogens, sign, charged, colon, extension, Move, stop, to, up, down, MachineState, start, at, last_of, atom_or, bridge_or, closing, extending, charging, hydrating, marking, symbol_or, next, turn, step, run, resting, accepting}
use Rattle.reading_grammar.proofs.Ends.{EndExtension, EndCharge, EndHydrogens, EndMark, EndSymbol, EndIsotope, All, each, never, run-append, all, all_listed}

-- the machine goes from a state to a state over the bytes
pub record Runs (σ : MachineState) (s : List ℕ) (τ : MachineState) : Type 0 where
  pub is : run σ s ≡ τ

pub record Goes (m : Mode) (b : ℕ) (o : Move) : Type 0 where
  pub is : next m b ≡ o

pub via : {m : Mode} {b d : ℕ} {o : Move} {s : List ℕ} {τ : MachineState} → Goes m b o → Runs (turn o d) s τ → Runs (at m d) (b ∷ s) τ
unfolding run step
via {d = d} {s = s} g r = record { is = ap (λ (o : Move). run (turn o d) s) g.is ∙ r.is }

pub stay : {σ : MachineState} → Runs σ [] σ
unfolding run
stay = record { is = refl }

pub along : {σ τ υ : MachineState} {s t : List ℕ} → Runs σ s τ → Runs τ t υ → Runs σ (s ++ t) υ
along {σ = σ} {s = s} {t = t} p q = record { is = run-append s t σ ∙ ap (λ (ρ : MachineState). run ρ t) p.is ∙ q.is }

-- the extension and the closing bracket
to-digit : (n b : ℕ) → among b digits ≡ true → Goes (extension (suc n)) b (to (extension n))
unfolding next
to-digit n b e = record { is = rw e }

digits-ext : {n d : ℕ} {s : List ℕ} → Digits n s → Runs (at (extension n) d) (s ++ 93 ∷ []) (at (seq plain) d)
unfolding next closing among digits
digits-ext {n = zero} Digits.none = via (record { is = refl }) stay
digits-ext {n = suc n} Digits.none = via (record { is = refl }) stay
digits-ext (Digits.more {n} {d = b} e r) = via (to-digit n b e) (digits-ext r)

on-nonzero : (m : Mode) (o : Move) → All (λ b. Goes m b o) nonzero → (b : ℕ) → among b nonzero ≡ true → Goes m b o
on-nonzero m o h = each (λ b. Goes m b o) nonzero h

colon-digit : (b : ℕ) → among b nonzero ≡ true → Goes colon b (to (extension 3))
unfolding next
colon-digit b e = record { is = rw e }

takes-extension : (m : Mode) {d : ℕ} {t : List ℕ} → Goes m 93 (to (seq plain)) → Goes m 58 (to colon)
    → EndExtension t → Runs (at m d) t (at (seq plain) d)
takes-extension m g93 g58 (EndExtension.ends Extension.none) = via g93 stay
takes-extension m g93 g58 (EndExtension.ends (Extension.extension (number {d = b} e r))) = via g58 (via (colon-digit b e) (digits-ext r))

on-sign : (m : Mode) → Goes m 43 (to sign) → Goes m 45 (to sign) → (b : ℕ) → among b signs ≡ true → Goes m b (to sign)
unfolding signs
on-sign m p q = each (λ b. Goes m b (to sign)) signs (p, (q, tt))

sign-digit : (b : ℕ) → among b several ≡ true → Goes sign b (to charged)
unfolding next
sign-digit b e = record { is = rw e }

takes-charge : (m : Mode) {d : ℕ} {t : List ℕ} → Goes m 93 (to (seq plain)) → Goes m 58 (to colon) → Goes m 43 (to sign) → Goes m 45 (to sign)
    → EndCharge t → Runs (at m d) t (at (seq plain) d)
unfolding next charging extending closing among several
takes-charge m g93 g58 g43 g45 (EndCharge.ends Charge.none x) = takes-extension m g93 g58 x
takes-charge m g93 g58 g43 g45 (EndCharge.ends (Charge.one {c} e) x) =
    via (on-sign m g43 g45 c e) (takes-extension sign (record { is = refl }) (record { is = refl }) x)
takes-charge m g93 g58 g43 g45 (EndCharge.ends (Charge.many {c} {d = b} e f) x) =
    via (on-sign m g43 g45 c e) (via (sign-digit b f) (takes-extension charged (record { is = refl }) (record { is = refl }) x))

hydrogen-digit : (b : ℕ) → among b several ≡ true → Goes hydrogen b (to hydrogens)
unfolding next
hydrogen-digit b e = record { is = rw e }

takes-hydrogens : (m : Mode) {d : ℕ} {t : List ℕ} → Goes m 93 (to (seq plain)) → Goes m 58 (to colon) → Goes m 43 (to sign) → Goes m 45 (to sign) → Goes m 72 (to hydrogen)
    → EndHydrogens t → Runs (at m d) t (at (seq plain) d)
unfolding next charging extending closing among several signs
takes-hydrogens m g93 g58 g43 g45 g72 (EndHydrogens.ends Hydrogens.none x) = takes-charge m g93 g58 g43 g45 x
takes-hydrogens m g93 g58 g43 g45 g72 (EndHydrogens.ends Hydrogens.one x) =
    via g72 (takes-charge hydrogen (record { is = refl }) (record { is = refl }) (record { is = refl }) (record { is = refl }) x)
takes-hydrogens m g93 g58 g43 g45 g72 (EndHydrogens.ends (Hydrogens.many {d = b} e) x) =
    via g72 (via (hydrogen-digit b e) (takes-charge hydrogens (record { is = refl }) (record { is = refl }) (record { is = refl }) (record { is = refl }) x))

takes-mark : (m : Mode) {d : ℕ} {t : List ℕ} → Goes m 93 (to (seq plain)) → Goes m 58 (to colon) → Goes m 43 (to sign) → Goes m 45 (to sign) → Goes m 72 (to hydrogen) → Goes m 64 (to at1)
    → EndMark t → Runs (at m d) t (at (seq plain) d)
unfolding next hydrating charging extending closing among several signs
takes-mark m g93 g58 g43 g45 g72 g64 (EndMark.ends Tetrahedral.none x) = takes-hydrogens m g93 g58 g43 g45 g72 x
takes-mark m g93 g58 g43 g45 g72 g64 (EndMark.ends Tetrahedral.one x) =
    via g64 (takes-hydrogens at1 (record { is = refl }) (record { is = refl }) (record { is = refl }) (record { is = refl }) (record { is = refl }) x)
takes-mark m g93 g58 g43 g45 g72 g64 (EndMark.ends Tetrahedral.two x) =
    via g64 (via (record { is = refl }) (takes-hydrogens at2 (record { is = refl }) (record { is = refl }) (record { is = refl }) (record { is = refl }) (record { is = refl }) x))

-- symbols have one letter or two, and the second is a small one
shaped : List ℕ → Bool
shaped [] = false
shaped (a ∷ []) = true
shaped (a ∷ b ∷ []) = leb 97 b
shaped (a ∷ b ∷ c ∷ s) = false

symbol-shaped : (s : List ℕ) → listed s symbols ≡ true → shaped s ≡ true
unfolding all shaped symbols
symbol-shaped s e = all_listed shaped symbols s refl e

pub no_second : (a b : ℕ) → leb 97 b ≡ false → listed (a ∷ b ∷ []) symbols ≡ false
unfolding shaped
no_second a b h = split (listed (a ∷ b ∷ []) symbols) refl
  where
    split : (t : Bool) → listed (a ∷ b ∷ []) symbols ≡ t → t ≡ false
    split true e = sym (symbol-shaped (a ∷ b ∷ []) e) ∙ h
    split false e = refl

listed-starts : (a : ℕ) (r : List ℕ) (l : List (List ℕ)) → listed (a ∷ r) l ≡ true → starts a l ≡ true
unfolding listed starts same_bytes
listed-starts a r [] h = never h
listed-starts a r ([] ∷ l) h = listed-starts a r l h
listed-starts a r ((b ∷ t) ∷ l) h = split (eqb a b) h (listed-starts a r l)
  where
    split : (v : Bool) → pick (pick v (same_bytes r t) false) true (listed (a ∷ r) l) ≡ true → (listed (a ∷ r) l ≡ true → starts a l ≡ true) → pick v true (starts a l) ≡ true
    split true h k = refl
    split false h k = k h

alone : (a b : ℕ) {o : Move} → listed (a ∷ []) symbols ≡ true → leb 97 b ≡ false → marking b ≡ o → Goes (symbol1 a) b o
unfolding next
alone a b e h g = record { is = rw (no_second a b h, e) g }

-- a mode in which a symbol may begin
abbrev pub Symbols : Mode → Type 0
Symbols m = (b : ℕ) → (k : Move) × (next m b ≡ symbol_or b k)

on-mark : (b : ℕ) → among b marks ≡ true → (k : Move) → symbol_or b k ≡ to symbolled
unfolding marks symbol_or symbols starts among
on-mark = each (λ b. (k : Move) → symbol_or b k ≡ to symbolled) marks ((λ k. refl), ((λ k. refl), ((λ k. refl), ((λ k. refl), ((λ k. refl), ((λ k. refl), tt))))))

pub on-element : (a : ℕ) (r : List ℕ) → listed (a ∷ r) symbols ≡ true → (k : Move) → symbol_or a k ≡ to (symbol1 a)
unfolding symbol_or
on-element a r e k = rw (listed-starts a r symbols e)

goes : {m : Mode} {b : ℕ} {o : Move} → Symbols m → ((k : Move) → symbol_or b k ≡ o) → Goes m b o
goes {b = b} w h = record { is = (w b).1 ∙ h (w b).0 }

pair_goes : (a b : ℕ) → listed (a ∷ b ∷ []) symbols ≡ true → Goes (symbol1 a) b (to symbolled)
unfolding next
pair_goes a b e = record { is = rw e }

pub takes-element : (m : Mode) {d : ℕ} (y : List ℕ) {t : List ℕ} → Symbols m → listed y symbols ≡ true → EndMark t → Runs (at m d) (y ++ t) (at (seq plain) d)
unfolding next marking hydrating charging extending closing among several signs shaped
takes-element m [] w e x = never (symbol-shaped [] e)
takes-element m (a ∷ []) w e x =
    via (goes w (on-element a [] e)) (takes-mark (symbol1 a) (alone a 93 e refl refl) (alone a 58 e refl refl) (alone a 43 e refl refl) (alone a 45 e refl refl) (alone a 72 e refl refl) (alone a 64 e refl refl) x)
takes-element m (a ∷ b ∷ []) w e x =
    via (goes w (on-element a (b ∷ []) e)) (via (pair_goes a b e)
    (takes-mark symbolled (record { is = refl }) (record { is = refl }) (record { is = refl }) (record { is = refl }) (record { is = refl }) (record { is = refl }) x))
takes-element m (a ∷ b ∷ c ∷ s) w e x = never (symbol-shaped (a ∷ b ∷ c ∷ s) e)

takes-symbol : (m : Mode) {d : ℕ} {t : List ℕ} → Symbols m → EndSymbol t → Runs (at m d) t (at (seq plain) d)
unfolding next marking hydrating charging extending closing among several signs
takes-symbol m w (EndSymbol.ends (mark {b} e) x) =
    via (goes w (on-mark b e)) (takes-mark symbolled (record { is = refl }) (record { is = refl }) (record { is = refl }) (record { is = refl }) (record { is = refl }) (record { is = refl }) x)
takes-symbol m w (EndSymbol.ends (element {s} e) x) = takes-element m s w e x

symbols-isotope : (n : ℕ) → Symbols (isotope n)
unfolding next
symbols-isotope zero b = (stop, refl)
symbols-isotope (suc n) b = (pick (among b digits) (to (isotope n)) stop, refl)

isotope-digit : (n b : ℕ) → among b digits ≡ true → Goes (isotope (suc n)) b (to (isotope n))
unfolding next symbol_or symbols starts marks among digits
isotope-digit n = each (λ b. Goes (isotope (suc n)) b (to (isotope n))) digits (record { is = refl }, (record { is = refl }, (record { is = refl }, (record { is = refl }, (record { is = refl }, (record { is = refl }, (record { is = refl }, (record { is = refl }, (record { is = refl }, (record { is = refl }, tt))))))))))

digits-iso : {n d : ℕ} {s t : List ℕ} → Digits n s → EndSymbol t → Runs (at (isotope n) d) (s ++ t) (at (seq plain) d)
digits-iso {n = n} Digits.none x = takes-symbol (isotope n) (symbols-isotope n) x
digits-iso (Digits.more {n} {d = b} e r) x = via (isotope-digit n b e) (digits-iso r x)

bracket-digit : (b : ℕ) → among b nonzero ≡ true → Goes bracket b (to (isotope 2))
unfolding next symbol_or symbols starts marks among nonzero
bracket-digit = each (λ b. Goes bracket b (to (isotope 2))) nonzero (record { is = refl }, (record { is = refl }, (record { is = refl }, (record { is = refl }, (record { is = refl }, (record { is = refl }, (record { is = refl }, (record { is = refl }, (record { is = refl }, tt)))))))))

pub takes-bracket : {d : ℕ} {t : List ℕ} → EndIsotope t → Runs (at bracket d) t (at (seq plain) d)
unfolding next
takes-bracket (EndIsotope.ends Isotope.none x) = takes-symbol bracket (λ b. (pick (among b nonzero) (to (isotope 2)) stop, refl)) x
takes-bracket (EndIsotope.ends (Isotope.isotope (number {d = b} e r)) x) = via (bracket-digit b e) (digits-iso r x)

-- a state in which an atom may begin, at a depth
pub record Atoms (σ : MachineState) (d : ℕ) : Type 0 where
  pub begins : (b : ℕ) → (k : Move) × (step σ b ≡ turn (atom_or b k) d)

pub record Reaches (σ : MachineState) (s : List ℕ) (d : ℕ) : Type 0 where
  pub last : Last
  pub runs : Runs σ s (at (seq last) d)

by-atom : {σ τ : MachineState} {s : List ℕ} {d : ℕ} (b : ℕ) (o : Move) → Atoms σ d → ((k : Move) → atom_or b k ≡ o) → Runs (turn o d) s τ → Runs σ (b ∷ s) τ
unfolding run
by-atom {s = s} {d = d} b o w h r = record { is = ap (λ (ρ : MachineState). run ρ s) ((w.begins b).1 ∙ ap (λ (q : Move). turn q d) (h (w.begins b).0)) ∙ r.is }

on-letter : (b : ℕ) → among b letters ≡ true → (k : Move) → atom_or b k ≡ to (seq (last_of b))
unfolding atom_or
on-letter b e k = rw e

pub takes-atom : {σ : MachineState} {d : ℕ} {a : List ℕ} → Atoms σ d → Atom a → Reaches σ a d
unfolding atom_or bridge_or among letters next nonzero bond_symbols
takes-atom w (letter {b} e) = record { last = last_of b; runs = by-atom b (to (seq (last_of b))) w (on-letter b e) stay }
takes-atom w Cl = record { last = plain; runs = by-atom 67 (to (seq afterC)) w (λ k. refl) (via (record { is = refl }) stay) }
takes-atom w Br = record { last = plain; runs = by-atom 66 (to (seq afterB)) w (λ k. refl) (via (record { is = refl }) stay) }
takes-atom w At = record { last = plain; runs = by-atom 65 (to letterA) w (λ k. refl) (via (record { is = refl }) stay) }
takes-atom w Ts = record { last = plain; runs = by-atom 84 (to letterT) w (λ k. refl) (via (record { is = refl }) stay) }
takes-atom w (Atom.bracket i y k h c e) = record {
  last = plain;
  runs = by-atom 91 (to bracket) w (λ o. refl) (takes-bracket (EndIsotope.ends i (EndSymbol.ends y (EndMark.ends k (EndHydrogens.ends h (EndCharge.ends c (EndExtension.ends e)))))));
}

-- where atoms may begin
atoms-seq : (x : Last) (d : ℕ) → Atoms (at (seq x) d) d
unfolding step next
atoms-seq x d = record { begins = λ b. (_, refl) }

atoms-bond : (d : ℕ) → Atoms (at bond d) d
unfolding step next
atoms-bond d = record { begins = λ b. (_, refl) }

atoms-dot : (d : ℕ) → Atoms (at atomNext d) d
unfolding step next
atoms-dot d = record { begins = λ b. (_, refl) }

atoms-inside : (d : ℕ) → Atoms (at inside d) d
unfolding step next
atoms-inside d = record { begins = λ b. (_, refl) }

atoms-start : Atoms start 0
unfolding step
atoms-start = record { begins = λ b. (_, refl) }

-- bond symbols and bridges
seq-symbol : (x : Last) (b : ℕ) → among b bond_symbols ≡ true → Goes (seq x) b (to bond)
unfolding next atom_or bridge_or among letters nonzero bond_symbols
seq-symbol x = each (λ b. Goes (seq x) b (to bond)) bond_symbols (record { is = refl }, (record { is = refl }, (record { is = refl }, (record { is = refl }, (record { is = refl }, tt)))))

inside-symbol : (b : ℕ) → among b bond_symbols ≡ true → Goes inside b (to atomNext)
unfolding next atom_or among letters bond_symbols
inside-symbol = each (λ b. Goes inside b (to atomNext)) bond_symbols (record { is = refl }, (record { is = refl }, (record { is = refl }, (record { is = refl }, (record { is = refl }, tt)))))

on-bridge : (b : ℕ) → among b nonzero ≡ true → (k : Move) → atom_or b (bridge_or b k) ≡ to (seq plain)
unfolding atom_or bridge_or among letters nonzero
on-bridge = each (λ b. (k : Move) → atom_or b (bridge_or b k) ≡ to (seq plain)) nonzero ((λ k. refl), ((λ k. refl), ((λ k. refl), ((λ k. refl), ((λ k. refl), ((λ k. refl), ((λ k. refl), ((λ k. refl), ((λ k. refl), tt)))))))))

-- a mode in which a bridge may begin
pub record Bridges (m : Mode) : Type 0 where
  pub begins : (b : ℕ) → (k : Move) × (next m b ≡ atom_or b (bridge_or b k))

bridges-seq : (x : Last) → Bridges (seq x)
unfolding next
bridges-seq x = record { begins = λ b. (_, refl) }

bridges-bond : Bridges bond
unfolding next
bridges-bond = record { begins = λ b. (_, refl) }

percent-digit : (b : ℕ) → among b nonzero ≡ true → Goes percent b (to percent1)
unfolding next
percent-digit b e = record { is = rw e }

percent1-digit : (b : ℕ) → among b digits ≡ true → Goes percent1 b (to (seq plain))
unfolding next
percent1-digit b e = record { is = rw e }

takes-bridge : {m : Mode} {d : ℕ} {r : List ℕ} → Bridges m → Bridge r → Reaches (at m d) r d
unfolding atom_or bridge_or among letters nonzero
takes-bridge w (short {d = b} e) = record { last = plain; runs = via (record { is = (w.begins b).1 ∙ on-bridge b e (w.begins b).0 }) stay }
takes-bridge w (long {d = b} {e = c} e f) = record {
  last = plain;
  runs = via {o = to percent} (record { is = (w.begins 37).1 }) (via (percent-digit b e) (via (percent1-digit c f) stay));
}

pub onward : {σ τ : MachineState} {s t : List ℕ} {d : ℕ} → Runs σ s τ → Reaches τ t d → Reaches σ (s ++ t) d
onward p q = record { last = q.last; runs = along p q.runs }

one : {m n : Mode} {d : ℕ} {b : ℕ} → Goes m b (to n) → Runs (at m d) (b ∷ []) (at n d)
one g = via g stay

one_up : (x : Last) (d : ℕ) → Goes (seq x) 40 up
unfolding next atom_or bridge_or among letters nonzero bond_symbols
one_up x d = record { is = refl }

pub one_down : (x : Last) (d : ℕ) → Goes (seq x) 41 down
unfolding next atom_or bridge_or among letters nonzero bond_symbols
one_down x d = record { is = refl }

seq-dot : (x : Last) → Goes (seq x) 46 (to atomNext)
unfolding next atom_or bridge_or among letters nonzero bond_symbols
seq-dot x = record { is = refl }

inside-dot : Goes inside 46 (to atomNext)
unfolding next atom_or bridge_or among letters nonzero bond_symbols
inside-dot = record { is = refl }

takes-bonded : (x : Last) {d : ℕ} {b a : List ℕ} → Bond b → Atom a → Reaches (at (seq x) d) (b ++ a) d
takes-bonded x {d} elided a = takes-atom (atoms-seq x d) a
takes-bonded x {d} (Bond.symbol {b} e) a = onward (one (seq-symbol x b e)) (takes-atom (atoms-bond d) a)

takes-bridged : (x : Last) {d : ℕ} {b r : List ℕ} → Bond b → Bridge r → Reaches (at (seq x) d) (b ++ r) d
takes-bridged x {d} elided r = takes-bridge (bridges-seq x) r
takes-bridged x {d} (Bond.symbol {b} e) r = onward (one (seq-symbol x b e)) (takes-bridge bridges-bond r)

-- after ( and an optional bond symbol or dot an atom may begin
pub record Joined (j : List ℕ) (d : ℕ) : Type 0 where
  pub state : MachineState
  pub runs : Runs (at inside d) j state
  pub atoms : Atoms state d

takes-joint : (d : ℕ) {j : List ℕ} → Joint j → Joined j d
takes-joint d (Joint.bond elided) = record { state = at inside d; runs = stay; atoms = atoms-inside d }
takes-joint d (Joint.bond (Bond.symbol {b} e)) = record { state = at atomNext d; runs = one (inside-symbol b e); atoms = atoms-dot d }
takes-joint d Joint.dot = record { state = at atomNext d; runs = one inside-dot; atoms = atoms-dot d }

-- after ( : the joint, the sequence and )
takes-branch : {j s : List ℕ} (x : Last) (d : ℕ) → Joint j → ((σ : MachineState) → Atoms σ (suc d) → Reaches σ s (suc d)) → Reaches (at (seq x) d) (40 ∷ (j ++ (s ++ 41 ∷ []))) d
takes-branch x d j f =
    let u = takes-joint (suc d) j in
    let r = f u.state u.atoms in
    record { last = plain; runs = via (one_up x d) (along u.runs (along r.runs (via (one_down r.last d) stay))) }

takes-sequence : {s : List ℕ} → Sequence s → (σ : MachineState) (d : ℕ) → Atoms σ d → Reaches σ s d
takes-sequence q = elim q
    as (λ s q. (σ : MachineState) (d : ℕ) → Atoms σ d → Reaches σ s d)
    (λ p q. (x : Last) (d : ℕ) → Reaches (at (seq x) d) p d)
    (λ p q. (x : Last) (d : ℕ) → Reaches (at (seq x) d) p d) [
      | sequence a (p → hp) ↦ λ σ d w. let r = takes-atom w a in onward r.runs (hp r.last d)
      | Pieces.none ↦ λ x d. record { last = x; runs = stay }
      | Pieces.more (p → hp) (q → hq) ↦ λ x d. let r = hp x d in onward r.runs (hq r.last d)
      | Piece.atom b a ↦ λ x d. takes-bonded x b a
      | Piece.bridge b r ↦ λ x d. takes-bridged x b r
      | Piece.dot a ↦ λ x d. onward (one (seq-dot x)) (takes-atom (atoms-dot d) a)
      | Piece.branch j (s → hs) ↦ λ x d. takes-branch x d j (λ σ w. hs σ (suc d) w)
    ]

-- each text is accepted
pub complete : {s : List ℕ} → Text s → accepting (run start s) ≡ true
unfolding accepting resting run
complete empty = refl
complete (text q) = let r = takes-sequence q start 0 atoms-start in ap accepting r.runs.is
