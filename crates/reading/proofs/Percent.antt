-- How the machine comes to the digits after `%`: the sign stands where a bridge may, the first digit after it. Assumes nothing.
use Prim.Native.Nat.{ℕ, zero, suc, ◌<◌}
use native.Mathlib.Omega.{arith}
use mathlib.Core.Path.{◌≡◌, refl, ap}
use mathlib.Core.Bool.{true}
use mathlib.Core.List.{[], ◌∷◌}
use lib.Dec.{eqb}
use borrow.Author.Tests.{eqb-true}
use Rattle.element.specs.Symbols.{among, letters, marks, listed, starts, symbols}
use Rattle.element.specs.Lookup.{letter_of, selected_of}
use Rattle.reading_grammar.specs.Grammar.{nonzero, digits, several, bond_symbols, signs}
use Rattle.reading_grammar.specs.declared.Last.{Last}
use Rattle.reading_grammar.specs.declared.Last.TheVariants.{Plain as plain, AfterC as afterC, AfterB as afterB}
use Rattle.reading_grammar.specs.declared.Mode.{Mode}
use Rattle.reading_grammar.specs.declared.Mode.TheVariants.{Seq as seq, Bond as bond, AtomNext as atomNext, Inside as inside, Percent as percent, Percent1 as percent1, LetterA as letterA, LetterT as letterT, Bracket as bracket, Isotope as isotope, Symbol1 as symbol1, Symbolled as symbolled, At1 as at1, At2 as at2, Hydrogen as hydrogen, Hydrogens as hydrogens, Sign as sign, Charged as charged, Colon as colon, Extension as extension}
use Rattle.reading_grammar.specs.declared.Move.{Move}
use Rattle.reading_grammar.specs.declared.Move.TheVariants.{Stop as stop, To as to, Up as up, Down as down}
use Rattle.reading_grammar.specs.declared.MachineState.{MachineState}
use Rattle.reading_grammar.specs.declared.MachineState.TheVariants.{Dead as dead, Start as start, At as at}
use Rattle.reading_grammar.specs.Machine.{turn, step, next, atom_or, bridge_or, symbol_or, closing, extending, charging, hydrating, marking, goes_on}
use Rattle.reading_grammar.specs.Fold.{keeps}
use Rattle.reading.specs.Memory.{Memory, counting}
use Rattle.reading.specs.Bracket.{digit}
use Rattle.reading.specs.Act.{mode_act, act}
use Rattle.reading.specs.Conditions.{BridgeMayStand}
use Rattle.reading.proofs.Cases.{by-test}

-- ---- which modes a byte leads to: 1 after `%`, 2 after its first digit, 0 any other
abbrev sort : Mode → ℕ
sort (seq x) = 0
sort bond = 0
sort atomNext = 0
sort inside = 0
sort percent = 1
sort percent1 = 2
sort letterA = 0
sort letterT = 0
sort bracket = 0
sort (isotope n) = 0
sort (symbol1 a) = 0
sort symbolled = 0
sort at1 = 0
sort at2 = 0
sort hydrogen = 0
sort hydrogens = 0
sort sign = 0
sort charged = 0
sort colon = 0
sort (extension n) = 0

abbrev sort_of : Move → ℕ
sort_of stop = 0
sort_of (to m) = sort m
sort_of up = 0
sort_of down = 0

-- what leads to a mode after `%` says so
led-to : (m : Mode) (o : Move) (d e : ℕ) → 0 < sort m → turn o d ≡ at m e → sort_of o ≡ sort m
led-to m stop d e h q = absurd (let z : ◌≡◌ {A = ℕ} 0 1 = cc in omega arith)
led-to m (to n) d e h q = let f : n ≡ m = cc in ap sort f
led-to m up d e h q = let f : inside ≡ m = cc in let g : 0 ≡ sort m = ap sort f in absurd (omega arith)
led-to m down zero e h q = absurd (let z : ◌≡◌ {A = ℕ} 0 1 = cc in omega arith)
led-to m down (suc d) e h q = let f : seq plain ≡ m = cc in let g : 0 ≡ sort m = ap sort f in absurd (omega arith)

-- what holds of 0, wherever a byte leads to another mode
module _ (P : ℕ → Type 0) (z : P 0) (b : ℕ) where
  abbrev Leads : Move → Type 0
  Leads o = P (sort_of o)

  atom-leads : (k : Move) → Leads k → Leads (atom_or b k)
  unfolding atom_or
  atom-leads k h = by-test Leads (among b letters) _ _ (λ e. z) (λ e. by-test Leads (eqb b 65) _ _ (λ e. z) (λ e. by-test Leads (eqb b 84) _ _ (λ e. z) (λ e. by-test Leads (eqb b 91) _ _ (λ e. z) (λ e. h))))

  symbol-leads : (k : Move) → Leads k → Leads (symbol_or b k)
  unfolding symbol_or
  symbol-leads k h = by-test Leads (starts b symbols) _ _ (λ e. z) (λ e. by-test Leads (among b marks) _ _ (λ e. z) (λ e. h))

  close-leads : Leads (closing b)
  unfolding closing
  close-leads = by-test Leads (eqb b 93) _ _ (λ e. z) (λ e. z)

  extend-leads : Leads (extending b)
  unfolding extending
  extend-leads = by-test Leads (eqb b 58) _ _ (λ e. z) (λ e. close-leads)

  charge-leads : Leads (charging b)
  unfolding charging
  charge-leads = by-test Leads (among b signs) _ _ (λ e. z) (λ e. extend-leads)

  hydrate-leads : Leads (hydrating b)
  unfolding hydrating
  hydrate-leads = by-test Leads (eqb b 72) _ _ (λ e. z) (λ e. charge-leads)

  mark-leads : Leads (marking b)
  unfolding marking
  mark-leads = by-test Leads (eqb b 64) _ _ (λ e. z) (λ e. hydrate-leads)

  bridge-leads : (k : Move) → (b ≡ 37 → P 1) → Leads k → Leads (bridge_or b k)
  unfolding bridge_or
  bridge-leads k w h = by-test Leads (among b nonzero) _ _ (λ e. z) (λ e. by-test Leads (eqb b 37) _ _ (λ f. w (eqb-true b 37 f)) (λ f. h))

  goes-leads : (x : Last) → Leads (goes_on x b)
  goes-leads plain = z
  goes-leads afterC = by-test Leads (eqb b 108) _ _ (λ e. z) (λ e. z)
  goes-leads afterB = by-test Leads (eqb b 114) _ _ (λ e. z) (λ e. z)

-- by mode: `%` comes where a bridge may stand, its first digit after it
module _ (b : ℕ) where
  record Led (m : Mode) (n : ℕ) : Type 0 where
    pub sign : (d : ℕ) → n ≡ 1 → BridgeMayStand (at m d) × (b ≡ 37)
    pub tens : n ≡ 2 → (m ≡ percent) × (among b nonzero ≡ true)

  elsewhere : (m : Mode) → Led m 0
  elsewhere m = record { sign = λ d q. absurd (omega arith); tens = λ q. absurd (omega arith) }

  sign-led : (m : Mode) → ((d : ℕ) → BridgeMayStand (at m d)) → b ≡ 37 → Led m 1
  sign-led m w e = record { sign = λ d q. (w d, e); tens = λ q. absurd (omega arith) }

  led : (m : Mode) → Led m (sort_of (next m b))
  unfolding next
  led (seq x) =
      let P = Led (seq x) in
      let z = elsewhere (seq x) in
      atom-leads P z b _ (bridge-leads P z b _ (sign-led (seq x) (λ d. BridgeMayStand.in_sequence))
      (by-test (Leads P z b) (among b bond_symbols) _ _ (λ e. z) (λ e.
      by-test (Leads P z b) (eqb b 46) _ _ (λ e. z) (λ e.
      by-test (Leads P z b) (eqb b 40) _ _ (λ e. z) (λ e.
      by-test (Leads P z b) (eqb b 41) _ _ (λ e. z) (λ e. goes-leads P z b x))))))
  led bond = let z = elsewhere bond in atom-leads (Led bond) z b _ (bridge-leads (Led bond) z b stop (sign-led bond (λ d. BridgeMayStand.after_symbol)) z)
  led atomNext = atom-leads (Led atomNext) (elsewhere atomNext) b stop (elsewhere atomNext)
  led inside = let z = elsewhere inside in atom-leads (Led inside) z b _ (by-test (Leads (Led inside) z b) (among b bond_symbols) _ _ (λ e. z) (λ e. by-test (Leads (Led inside) z b) (eqb b 46) _ _ (λ e. z) (λ e. z)))
  led percent =
      by-test (Leads (Led percent) (elsewhere percent) b) (among b nonzero) _ _ (λ e. record { sign = λ d q. absurd (omega arith); tens = λ q. (refl, e) }) (λ e. elsewhere percent)
  led percent1 = let z = elsewhere percent1 in by-test (Leads (Led percent1) z b) (among b digits) _ _ (λ e. z) (λ e. z)
  led letterA = let z = elsewhere letterA in by-test (Leads (Led letterA) z b) (eqb b 116) _ _ (λ e. z) (λ e. z)
  led letterT = let z = elsewhere letterT in by-test (Leads (Led letterT) z b) (eqb b 115) _ _ (λ e. z) (λ e. z)
  led bracket = let z = elsewhere bracket in symbol-leads (Led bracket) z b _ (by-test (Leads (Led bracket) z b) (among b nonzero) _ _ (λ e. z) (λ e. z))
  led (isotope zero) = symbol-leads (Led (isotope zero)) (elsewhere (isotope zero)) b stop (elsewhere (isotope zero))
  led (isotope (suc n)) = let z = elsewhere (isotope (suc n)) in symbol-leads (Led (isotope (suc n))) z b _ (by-test (Leads (Led (isotope (suc n))) z b) (among b digits) _ _ (λ e. z) (λ e. z))
  led (symbol1 a) =
      let z = elsewhere (symbol1 a) in
      by-test (Leads (Led (symbol1 a)) z b) (listed (a ∷ b ∷ []) symbols) _ _ (λ e. z) (λ e.
      by-test (Leads (Led (symbol1 a)) z b) (listed (a ∷ []) symbols) _ _ (λ e. mark-leads (Led (symbol1 a)) z b) (λ e. z))
  led symbolled = mark-leads (Led symbolled) (elsewhere symbolled) b
  led at1 = let z = elsewhere at1 in by-test (Leads (Led at1) z b) (eqb b 64) _ _ (λ e. z) (λ e. hydrate-leads (Led at1) z b)
  led at2 = hydrate-leads (Led at2) (elsewhere at2) b
  led hydrogen = let z = elsewhere hydrogen in by-test (Leads (Led hydrogen) z b) (among b several) _ _ (λ e. z) (λ e. charge-leads (Led hydrogen) z b)
  led hydrogens = charge-leads (Led hydrogens) (elsewhere hydrogens) b
  led sign = let z = elsewhere sign in by-test (Leads (Led sign) z b) (among b several) _ _ (λ e. z) (λ e. extend-leads (Led sign) z b)
  led charged = extend-leads (Led charged) (elsewhere charged) b
  led colon = let z = elsewhere colon in by-test (Leads (Led colon) z b) (among b nonzero) _ _ (λ e. z) (λ e. z)
  led (extension zero) = close-leads (Led (extension zero)) (elsewhere (extension zero)) b
  led (extension (suc n)) = let z = elsewhere (extension (suc n)) in by-test (Leads (Led (extension (suc n))) z b) (among b digits) _ _ (λ e. z) (λ e. close-leads (Led (extension (suc n))) z b)

-- the state before, and the byte
pub into-percent : (σ : MachineState) (b e : ℕ) → step σ b ≡ at percent e → BridgeMayStand σ × (b ≡ 37)
unfolding step
into-percent dead b e q = absurd (let z : ◌≡◌ {A = ℕ} 0 1 = cc in omega arith)
into-percent start b e q = absurd (let z = led-to percent (atom_or b stop) 0 e (omega arith) q in omega (arith, atom-leads (λ n. n ≡ 0) refl b stop refl))
into-percent (at m d) b e q = (led b m).sign d (led-to percent (next m b) d e (omega arith) q)

pub into-percent1 : (σ : MachineState) (b e : ℕ) → step σ b ≡ at percent1 e → ((d : ℕ) × (σ ≡ at percent d)) × (among b nonzero ≡ true)
unfolding step
into-percent1 dead b e q = absurd (let z : ◌≡◌ {A = ℕ} 0 1 = cc in omega arith)
into-percent1 start b e q = absurd (let z = led-to percent1 (atom_or b stop) 0 e (omega arith) q in omega (arith, atom-leads (λ n. n ≡ 0) refl b stop refl))
into-percent1 (at m d) b e q =
    let w = (led b m).tens (led-to percent1 (next m b) d e (omega arith) q) in
    ((d, ap (λ (n : Mode). at n d) w.0), w.1)

-- what the bytes do
pub at-percent : {σ : MachineState} → BridgeMayStand σ → (i : ℕ) (μ : Memory) → act σ 37 i μ ≡ keeps μ
unfolding act mode_act letter_of selected_of letters among nonzero
at-percent BridgeMayStand.in_sequence i μ = refl
at-percent BridgeMayStand.after_symbol i μ = refl

pub first-digit : (d b i : ℕ) (μ : Memory) → act (at percent d) b i μ ≡ keeps (counting (digit b) μ)
unfolding act mode_act
first-digit d b i μ = refl
