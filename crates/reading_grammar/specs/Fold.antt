-- 01, The text: reading as a fold that computes beside the grammar: an action at each byte changes the memory, or refuses with a number and a place
use Rattle.std.specs.Prelude.{List, [], ◌∷◌, ℕ, suc, length}
use Rattle.reading_grammar.specs.Grammar.{pick}
use Rattle.reading_grammar.specs.Machine.{MachineState, start, step, alive, accepting}

pub data Act (M : Type 0) : Type 0 where
  keeps : M → Act M
  refuses : ℕ → ℕ → Act M

-- at a state, for a byte, at a place
abbrev pub Action : Type 0 → Type 0
Action M = MachineState → ℕ → ℕ → M → Act M

pub data Reading (M : Type 0) : Type 0 where
  going : MachineState → M → Reading M
  halted : ℕ → ℕ → Reading M

abbrev pub after : {M : Type 0} → MachineState → Act M → Reading M
after σ (keeps μ) = going σ μ
after σ (refuses c p) = halted c p

-- the grammar is asked first: at one place 3 is the smallest number
unfoldable pub feed : {M : Type 0} → Action M → ℕ → Reading M → ℕ → Reading M
feed act i (going σ μ) b = pick (alive (step σ b)) (after (step σ b) (act σ b i μ)) (halted 3 i)
feed act i (halted c p) b = halted c p

unfoldable pub read : {M : Type 0} → Action M → ℕ → Reading M → List ℕ → Reading M
read act i r [] = r
read act i r (b ∷ s) = read act (suc i) (feed act i r b) s

pub data Verdict (M : Type 0) : Type 0 where
  good : M → Verdict M
  bad : ℕ → ℕ → Verdict M

abbrev pub finish : {M : Type 0} → ℕ → Reading M → Verdict M
finish n (going σ μ) = pick (accepting σ) (good μ) (bad 3 n)
finish n (halted c p) = bad c p

unfoldable pub answer : {M : Type 0} → Action M → M → List ℕ → Verdict M
answer act μ s = finish (length s) (read act 0 (going start μ) s)
