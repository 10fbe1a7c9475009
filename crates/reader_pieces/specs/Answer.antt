-- What the calls hand back, as their definitions say it
use Rattle.std.specs.Prelude.{ℕ, List, ℤ, Option, Some, None}
use Rattle.loops.specs.Loop.{pick}
use Rattle.table.specs.Valid.{enough}
use Rattle.reading.specs.Read.{ended}
use Rattle.reading_pieces.specs.declared.Paused.{Paused}
use Rattle.reading_pieces.specs.State.{memory_of, blank_state, ended_code, has_ended}
use Rattle.reading_pieces.specs.Broken.{broken_of}
use Rattle.reading_pieces.specs.Calls.{Fed, rest_cleared}
use Rattle.reader_pieces.specs.declared.Fed as call

-- a call's answer, with the tables as they then stand
abbrev pub fed_is : call.Fed → List ℤ → List ℤ → Fed
fed_is r atoms bonds =
    record {
      result = record { code = r.code; offset = r.place; atom_count = r.atoms; bond_count = r.bonds; overfull = r.overfull; atoms = atoms; bonds = bonds };
      state = r.state;
    }

-- an answer without counts
abbrev pub replied : ℕ → ℕ → Paused → call.Fed
replied c q p = record { code = c; place = q; atoms = 0; bonds = 0; overfull = 0; state = p }

-- 1, 25 or 24, in this order, or none where a call goes on
abbrev pub guard_code : Paused → List ℤ → List ℤ → Option ℕ
guard_code p atoms bonds = pick (enough atoms bonds) (pick (broken_of p atoms bonds) (Some 25) (pick (has_ended p) (Some ended_code) None)) (Some 1)

-- the answer to the end of a complete text
abbrev pub concluded : Paused → List ℤ → List ℤ → Fed
concluded p atoms bonds = record { result = rest_cleared (ended (memory_of p atoms bonds)); state = blank_state ended_code 0 }
