-- auxiliary: the work that remains: what reading from an offset on will answer. Every contract of the reader compares it at the start with it at the end
use Rattle.std.specs.Prelude.{ℕ, List, length, drop, ℤ}
use Rattle.reading_grammar.specs.declared.Mode.{Mode}
use Rattle.reading_grammar.specs.declared.MachineState.TheVariants.{At as at}
use Rattle.reading_grammar.specs.Fold.{Verdict, going, read, finish}
use Rattle.reading_state.specs.State.{Steering}
use Rattle.reading_state.specs.declared.Fields.{Fields}
use Rattle.reading.specs.Memory.{Memory, Pending}
use Rattle.reading.specs.Act.{act}

-- the answer of a reading that stands at the offset p of the text s, in a mode, with a memory
unfoldable pub rest : List ℕ → ℕ → Mode → Memory → Verdict Memory
rest s p m μ = finish (length s) (read act p (going (at m μ.st.depth) μ) (drop p s))

-- a memory, by its parts
abbrev pub memory : Steering → List ℤ → List ℤ → Pending → ℕ → Fields → Memory
memory t a b k n f = record { st = t; atoms = a; bonds = b; pending = k; tens = n; draft = f }
