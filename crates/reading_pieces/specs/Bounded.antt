-- 02, P11: the fold that reading is, taken up after any byte, within the limit of bytes
use Rattle.std.specs.Prelude.{ℕ, suc, List, [], ◌∷◌, ltb}
use Rattle.loops.specs.Loop.{pick}
use Rattle.ids.specs.Limits.{max_text}
use Rattle.reading_grammar.specs.Fold.{Reading, going, halted, feed}
use Rattle.reading.specs.Memory.{Memory}
use Rattle.reading.specs.Act.{act}

-- a byte, i bytes being read: "Refusal 2 is told when the first byte too many arrives unless a byte before it already gave a refusal"
unfoldable pub bounded : ℕ → Reading Memory → ℕ → Reading Memory
bounded i (going σ μ) b = pick (ltb i max_text) (feed act i (going σ μ) b) (halted 2 max_text)
bounded i (halted c p) b = halted c p

-- the bytes of a piece
unfoldable pub read_on : ℕ → Reading Memory → List ℕ → Reading Memory
read_on i r [] = r
read_on i r (b ∷ s) = read_on (suc i) (bounded i r b) s
