-- 02, P11: "However the text is cut, empty pieces included, the final answer, place and tables equal those of the whole text read at once": start, the pieces in turn, the end; and what is told of P11's one difference, 2
use Rattle.std.specs.Prelude.{ℕ, List, [], ◌∷◌, length, take, ℤ, leb}
use Rattle.loops.specs.Loop.{pick}
use Rattle.ids.specs.Limits.{max_text}
use Rattle.table.specs.Valid.{enough}
use Rattle.reading_grammar.specs.Fold.{Reading, going, halted}
use Rattle.reading.specs.Memory.{Memory}
use Rattle.reading.specs.Read.{ReadResult, refused, short, read_of}
use Rattle.reading.specs.Conditions.{bytes_read}
use Rattle.reading_pieces.specs.Calls.{Fed, start_of, fed_of, end_of}

-- each piece is fed with the state and the tables as they were left
unfoldable pub fed_all : List (List ℕ) → Fed → Fed
fed_all [] f = f
fed_all (s ∷ ps) f = fed_all ps (fed_of f.state s f.result.atoms f.result.bonds)

abbrev pub end_after : Fed → Fed
end_after f = end_of f.state f.result.atoms f.result.bonds

-- the last answer
abbrev pub in_pieces : List (List ℕ) → List ℤ → List ℤ → ReadResult
in_pieces ps atoms bonds = (end_after (fed_all ps (start_of atoms bonds))).result

-- a text over the limit, its first 16,384 bytes being read: what a byte of these refused, "else" 2
abbrev pub overlong : List ℤ → List ℤ → Reading Memory → ReadResult
overlong atoms bonds (going σ μ) = refused 2 max_text atoms bonds
overlong atoms bonds (halted c p) = refused c p atoms bonds

-- reading a text whole, but for "the one difference from reading whole, where 2 comes first"
unfoldable pub whole_of : List ℕ → List ℤ → List ℤ → ReadResult
whole_of s atoms bonds =
    pick (leb (length s) max_text) (read_of s atoms bonds)
    (pick (enough atoms bonds) (overlong atoms bonds (bytes_read (take max_text s) atoms bonds)) (short atoms bonds))

-- what a feed answers, the bytes so far being read: 0, or their refusal with its place
abbrev pub told_by : Reading Memory → ℕ
told_by (going σ μ) = 0
told_by (halted c p) = c

abbrev pub place_by : Reading Memory → ℕ
place_by (going σ μ) = 0
place_by (halted c p) = p
