-- A live state can be completed and a dead one cannot; the place of the machine's refusal is that of the grammar.
use mathlib.Core.Path.{◌≡◌, refl, sym, ap, subst, ◌∙◌}
use mathlib.Core.Bool.{Bool, true, false}
use mathlib.Core.Logic.{◌↔◌}
use mathlib.Core.List.{List, [], ◌∷◌, ◌++◌}
use Prim.Native.Nat.{ℕ, zero, suc, ◌≤◌, ◌<◌}
use native.Mathlib.Omega.{arith}
use native.Mathlib.Decide.{dec_lt, ℕ_discrete}
use lib.Dec.{eqb}
use lib.ListN.{length, take, drop, replicate, take-append-drop}
use borrow.Author.Tests.{eq-eqb}
use Rattle.reading_grammar.specs.Grammar.{starts, pick, among, listed, same_bytes, nonzero, digits, several, bond_symbols, signs, letters, marks, symbols, Tetrahedral, Hydrogens, Charge, Extension, Text}
use Rattle.reading_grammar.specs.Machine.{Last, plain, afterC, afterB, Mode, seq, bond, atomNext, inside, percent, percent1, letterA, letterT, bracket, isotope, symbol1, symbolled, at1, at2, hydrogen, hydrogens, sign, charged, colon, extension, Move, stop, to, up, down, MachineState, dead, start, at, goes_on, atom_or, bridge_or, closing, extending, charging, hydrating, marking, symbol_or, next, turn, step, run, resting, accepting, alive, reach, fine, refused, verdict}
use Rattle.reading_grammar.specs.Place.{Viable, Place}
use Rattle.reading_grammar.specs.Completion.{rest_of, fill, completion}
use Rattle.reading_grammar.proofs.Ends.{EndExtension, EndCharge, EndHydrogens, EndMark, never, run-append, run-dead}
use Rattle.reading_grammar.proofs.Complete.{Runs, Reaches, via, stay, onward, one_down, takes-element, on-element, complete}
use Rattle.reading_grammar.proofs.Sound.{sound}

-- ---- every state that is reached is sane: the letter that begins a symbol does begin one
pub sane : Mode → Bool
sane (seq x) = true
sane bond = true
sane atomNext = true
sane inside = true
sane percent = true
sane percent1 = true
sane letterA = true
sane letterT = true
sane bracket = true
sane (isotope n) = true
sane (symbol1 a) = starts a symbols
sane symbolled = true
sane at1 = true
sane at2 = true
sane hydrogen = true
sane hydrogens = true
sane sign = true
sane charged = true
sane colon = true
sane (extension n) = true

abbrev sane_out : Move → Bool
sane_out stop = true
sane_out (to m) = sane m
sane_out up = true
sane_out down = true

abbrev pub sane_state : MachineState → Bool
sane_state dead = true
sane_state start = true
sane_state (at m d) = sane m

either : (t : Bool) (a b : Move) → (t ≡ true → sane_out a ≡ true) → sane_out b ≡ true → sane_out (pick t a b) ≡ true
either true a b f h = f refl
either false a b f h = h

sane-atom : (b : ℕ) (k : Move) → sane_out k ≡ true → sane_out (atom_or b k) ≡ true
unfolding atom_or sane
sane-atom b k h = either (among b letters) _ _ (λ e. refl) (either (eqb b 65) _ _ (λ e. refl) (either (eqb b 84) _ _ (λ e. refl) (either (eqb b 91) _ _ (λ e. refl) h)))

sane-bridge : (b : ℕ) (k : Move) → sane_out k ≡ true → sane_out (bridge_or b k) ≡ true
unfolding bridge_or sane
sane-bridge b k h = either (among b nonzero) _ _ (λ e. refl) (either (eqb b 37) _ _ (λ e. refl) h)

sane-symbol : (b : ℕ) (k : Move) → sane_out k ≡ true → sane_out (symbol_or b k) ≡ true
unfolding symbol_or sane
sane-symbol b k h = either (starts b symbols) _ _ (λ e. e) (either (among b marks) _ _ (λ e. refl) h)

sane-closing : (b : ℕ) → sane_out (closing b) ≡ true
unfolding closing sane
sane-closing b = either (eqb b 93) _ _ (λ e. refl) refl

sane-extending : (b : ℕ) → sane_out (extending b) ≡ true
unfolding extending sane
sane-extending b = either (eqb b 58) _ _ (λ e. refl) (sane-closing b)

sane-charging : (b : ℕ) → sane_out (charging b) ≡ true
unfolding charging sane
sane-charging b = either (among b signs) _ _ (λ e. refl) (sane-extending b)

sane-hydrating : (b : ℕ) → sane_out (hydrating b) ≡ true
unfolding hydrating sane
sane-hydrating b = either (eqb b 72) _ _ (λ e. refl) (sane-charging b)

sane-marking : (b : ℕ) → sane_out (marking b) ≡ true
unfolding marking sane
sane-marking b = either (eqb b 64) _ _ (λ e. refl) (sane-hydrating b)

sane-last : (x : Last) (b : ℕ) → sane_out (goes_on x b) ≡ true
unfolding sane
sane-last plain b = refl
sane-last afterC b = either (eqb b 108) _ _ (λ e. refl) refl
sane-last afterB b = either (eqb b 114) _ _ (λ e. refl) refl

sane-next : (m : Mode) (b : ℕ) → sane_out (next m b) ≡ true
unfolding next sane
sane-next (seq x) b = sane-atom b _ (sane-bridge b _ (either (among b bond_symbols) _ _ (λ e. refl) (either (eqb b 46) _ _ (λ e. refl) (either (eqb b 40) _ _ (λ e. refl) (either (eqb b 41) _ _ (λ e. refl) (sane-last x b))))))
sane-next bond b = sane-atom b _ (sane-bridge b _ refl)
sane-next atomNext b = sane-atom b _ refl
sane-next inside b = sane-atom b _ (either (among b bond_symbols) _ _ (λ e. refl) (either (eqb b 46) _ _ (λ e. refl) refl))
sane-next percent b = either (among b nonzero) _ _ (λ e. refl) refl
sane-next percent1 b = either (among b digits) _ _ (λ e. refl) refl
sane-next letterA b = either (eqb b 116) _ _ (λ e. refl) refl
sane-next letterT b = either (eqb b 115) _ _ (λ e. refl) refl
sane-next bracket b = sane-symbol b _ (either (among b nonzero) _ _ (λ e. refl) refl)
sane-next (isotope zero) b = sane-symbol b _ refl
sane-next (isotope (suc n)) b = sane-symbol b _ (either (among b digits) _ _ (λ e. refl) refl)
sane-next (symbol1 a) b = either (listed (a ∷ b ∷ []) symbols) _ _ (λ e. refl) (either (listed (a ∷ []) symbols) _ _ (λ e. sane-marking b) refl)
sane-next symbolled b = sane-marking b
sane-next at1 b = either (eqb b 64) _ _ (λ e. refl) (sane-hydrating b)
sane-next at2 b = sane-hydrating b
sane-next hydrogen b = either (among b several) _ _ (λ e. refl) (sane-charging b)
sane-next hydrogens b = sane-charging b
sane-next sign b = either (among b several) _ _ (λ e. refl) (sane-extending b)
sane-next charged b = sane-extending b
sane-next colon b = either (among b nonzero) _ _ (λ e. refl) refl
sane-next (extension zero) b = sane-closing b
sane-next (extension (suc n)) b = either (among b digits) _ _ (λ e. refl) (sane-closing b)

sane-turn : (o : Move) (d : ℕ) → sane_out o ≡ true → sane_state (turn o d) ≡ true
unfolding sane
sane-turn stop d h = refl
sane-turn (to m) d h = h
sane-turn up d h = refl
sane-turn down zero h = refl
sane-turn down (suc d) h = refl

sane-step : (σ : MachineState) (b : ℕ) → sane_state (step σ b) ≡ true
unfolding step
sane-step dead b = refl
sane-step start b = sane-turn (atom_or b stop) 0 (sane-atom b stop refl)
sane-step (at m d) b = sane-turn (next m b) d (sane-next m b)

sane-run : (s : List ℕ) (σ : MachineState) → sane_state σ ≡ true → sane_state (run σ s) ≡ true
unfolding run
sane-run [] σ h = h
sane-run (b ∷ s) σ h = sane-run s (step σ b) (sane-step σ b)

-- ---- a sane state is completed
same_refl : (s : List ℕ) → same_bytes s s ≡ true
unfolding same_bytes
same_refl [] = refl
same_refl (x ∷ s) = rw (eq-eqb x x refl) (same_refl s)

starts-listed : (a : ℕ) (l : List (List ℕ)) → starts a l ≡ true → listed (a ∷ rest_of a l) l ≡ true
unfolding starts listed same_bytes rest_of
starts-listed a [] h = never h
starts-listed a ([] ∷ l) h = starts-listed a l h
starts-listed a ((b ∷ t) ∷ l) h = split (eqb a b) h (starts-listed a l)
  where
    split : (v : Bool) → pick v true (starts a l) ≡ true → (starts a l ≡ true → listed (a ∷ rest_of a l) l ≡ true)
        → pick (pick v (same_bytes (pick v t (rest_of a l)) t) false) true (listed (a ∷ pick v t (rest_of a l)) l) ≡ true
    split true h k = rw (same_refl t)
    split false h k = k h

plain_end : EndMark (93 ∷ [])
plain_end = EndMark.ends Tetrahedral.none (EndHydrogens.ends Hydrogens.none (EndCharge.ends Charge.none (EndExtension.ends Extension.none)))

fill-symbol : (a d : ℕ) → starts a symbols ≡ true → Runs (at (symbol1 a) d) (rest_of a symbols ++ 93 ∷ []) (at (seq plain) d)
unfolding next run step
fill-symbol a d h =
    let e : listed (a ∷ rest_of a symbols) symbols ≡ true = starts-listed a symbols h in
    let q : Runs (at bracket d) (a ∷ (rest_of a symbols ++ 93 ∷ [])) (at (seq plain) d) = takes-element bracket (a ∷ rest_of a symbols) (λ b. (_, refl)) e plain_end in
    record { is = ap (λ (o : Move). run (turn o d) (rest_of a symbols ++ 93 ∷ [])) (sym (on-element a (rest_of a symbols) e _)) ∙ q.is }

fills : (m : Mode) (d : ℕ) → sane m ≡ true → Reaches (at m d) (fill m) d
unfolding sane fill next run step atom_or bridge_or among letters bond_symbols nonzero digits several signs symbol_or starts symbols closing extending charging hydrating marking listed same_bytes marks
fills (seq x) d h = record { last = x; runs = stay }
fills bond d h = record { last = afterC; runs = record { is = refl } }
fills atomNext d h = record { last = afterC; runs = record { is = refl } }
fills inside d h = record { last = afterC; runs = record { is = refl } }
fills percent d h = record { last = plain; runs = record { is = refl } }
fills percent1 d h = record { last = plain; runs = record { is = refl } }
fills letterA d h = record { last = plain; runs = record { is = refl } }
fills letterT d h = record { last = plain; runs = record { is = refl } }
fills bracket d h = record { last = plain; runs = record { is = refl } }
fills (isotope zero) d h = record { last = plain; runs = record { is = refl } }
fills (isotope (suc n)) d h = record { last = plain; runs = record { is = refl } }
fills (symbol1 a) d h = record { last = plain; runs = fill-symbol a d h }
fills symbolled d h = record { last = plain; runs = record { is = refl } }
fills at1 d h = record { last = plain; runs = record { is = refl } }
fills at2 d h = record { last = plain; runs = record { is = refl } }
fills hydrogen d h = record { last = plain; runs = record { is = refl } }
fills hydrogens d h = record { last = plain; runs = record { is = refl } }
fills sign d h = record { last = plain; runs = record { is = refl } }
fills charged d h = record { last = plain; runs = record { is = refl } }
fills colon d h = record { last = plain; runs = record { is = refl } }
fills (extension zero) d h = record { last = plain; runs = record { is = refl } }
fills (extension (suc n)) d h = record { last = plain; runs = record { is = refl } }

closes : (d : ℕ) (x : Last) → Reaches (at (seq x) d) (replicate d 41) 0
closes zero x = record { last = x; runs = stay }
closes (suc d) x = let r = closes d plain in record { last = r.last; runs = via (one_down x d) r.runs }

pub completes : (σ : MachineState) → sane_state σ ≡ true → alive σ ≡ true → accepting (run σ (completion σ)) ≡ true
unfolding accepting resting completion run
completes dead h a = never a
completes start h a = refl
completes (at m d) h a =
    let r = fills m d h in
    let q = onward r.runs (closes d r.last) in
    ap accepting q.runs.is

-- ---- viable exactly if alive
pub viable : (s : List ℕ) → alive (run start s) ≡ true → Viable s
viable s a = (
  completion (run start s),
  sound (s ++ completion (run start s))
      (ap accepting (run-append s (completion (run start s)) start) ∙ completes (run start s) (sane-run s start refl) a),
)

alive-of : (σ : MachineState) (t : List ℕ) → accepting (run σ t) ≡ true → alive σ ≡ true
unfolding accepting
alive-of dead t h = never (sym (ap accepting (run-dead t)) ∙ h)
alive-of start t h = refl
alive-of (at m d) t h = refl

pub live : (s : List ℕ) → Viable s → alive (run start s) ≡ true
live s v = alive-of (run start s) v.0 (sym (ap accepting (run-append s v.0 start)) ∙ complete v.1)

pub viable-iff : (s : List ℕ) → Viable s ↔ (alive (run start s) ≡ true)
viable-iff s = (live s, viable s)

-- ---- the place
pub record Reached (σ : MachineState) (s : List ℕ) (p : ℕ) : Type 0 where
  pub fits : p ≤ length s
  pub before : (i : ℕ) → i ≤ p → alive (run σ (take i s)) ≡ true
  pub here : p < length s → alive (run σ (take (suc p) s)) ≡ false

pub reach-from : (s : List ℕ) (σ : MachineState) → alive σ ≡ true → Reached σ s (reach σ s)
unfolding reach run
reach-from [] σ a = record { fits = omega arith; before = now; here = λ h. absurd (omega arith) }
  where
    now : (i : ℕ) → i ≤ 0 → alive (run σ (take i [])) ≡ true
    now zero h = a
    now (suc i) h = a
reach-from (b ∷ s) σ a = split (alive (step σ b)) refl (reach-from s (step σ b))
  where
    split : (t : Bool) → alive (step σ b) ≡ t → (alive (step σ b) ≡ true → Reached (step σ b) s (reach (step σ b) s)) → Reached σ (b ∷ s) (pick t (suc (reach (step σ b) s)) 0)
    split true e k = record { fits = omega (arith, (k e).fits); before = before; here = λ h. (k e).here (omega arith) }
      where
        before : (i : ℕ) → i ≤ suc (reach (step σ b) s) → alive (run σ (take i (b ∷ s))) ≡ true
        before zero h = a
        before (suc i) h = (k e).before i (omega arith)
    split false e k = record { fits = omega arith; before = before; here = λ h. e }
      where
        before : (i : ℕ) → i ≤ 0 → alive (run σ (take i (b ∷ s))) ≡ true
        before zero h = a
        before (suc i) h = absurd (omega arith)

pub apart : (t : Bool) → t ≡ true → t ≡ false → ⊥
apart t h k = let z : ◌≡◌ {A = ℕ} 0 1 = cc in omega arith

-- the machine's place is a place
pub reach-place : (s : List ℕ) → accepting (run start s) ≡ false → Place s (reach start s)
reach-place s h =
    let r = reach-from s start refl in
    record {
      fits = r.fits;
      before = λ i q. viable (take i s) (r.before i q);
      here = λ q v. apart (alive (run start (take (suc (reach start s)) s))) (live (take (suc (reach start s)) s) v) (r.here q);
      ending = λ q t. apart (accepting (run start s)) (complete t) h;
    }

-- there is only one
not-below : (s : List ℕ) (p q : ℕ) → Place s p → Place s q → p < q → ⊥
not-below s p q a b h = a.here (omega (arith, b.fits)) (b.before (suc p) h)

pub place-unique : (s : List ℕ) (p q : ℕ) → Place s p → Place s q → p ≡ q
place-unique s p q a b = split (dec_lt p q) (dec_lt q p)
  where
    split : Dec (p < q) → Dec (q < p) → p ≡ q
    split (yes h) k = absurd (not-below s p q a b h)
    split (no h) (yes k) = absurd (not-below s q p b a k)
    split (no h) (no k) = omega arith

-- a text has none
pub text-no-place : (s : List ℕ) (p : ℕ) → Text s → Place s p → ⊥
text-no-place s p t a = split (ℕ_discrete p (length s))
  where
    split : Dec (p ≡ length s) → ⊥
    split (yes e) = a.ending e t
    split (no e) = a.here (omega (arith, a.fits)) (drop (suc p) s, subst Text (sym (take-append-drop (suc p) s)) t)

pub fine-iff : (s : List ℕ) → (verdict s ≡ fine) ↔ Text s
unfolding verdict
fine-iff s = (λ h. sound s (there (accepting (run start s)) h), λ t. rw (complete t))
  where
    there : (b : Bool) → pick b fine (refused (reach start s)) ≡ fine → b ≡ true
    there true h = refl
    there false h = absurd (let z : ◌≡◌ {A = ℕ} 0 1 = cc in omega arith)

pub refused-iff : (s : List ℕ) (p : ℕ) → (verdict s ≡ refused p) ↔ Place s p
unfolding verdict
refused-iff s p = (there (accepting (run start s)) refl, back (accepting (run start s)) refl)
  where
    there : (b : Bool) → accepting (run start s) ≡ b → pick b fine (refused (reach start s)) ≡ refused p → Place s p
    there true e h = absurd (let z : ◌≡◌ {A = ℕ} 0 1 = cc in omega arith)
    there false e h = let q : reach start s ≡ p = cc in subst (Place s) q (reach-place s e)

    back : (b : Bool) → accepting (run start s) ≡ b → Place s p → pick b fine (refused (reach start s)) ≡ refused p
    back true e a = absurd (text-no-place s p (sound s e) a)
    back false e a = ap refused (place-unique s (reach start s) p (reach-place s e) a)
