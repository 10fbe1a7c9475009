-- What reading hands back: 01's number and values for each case of the answer
use Rattle.std.specs.Prelude.{ℕ, ◌≡◌, List, true, ◌⊎◌, ℤ, Result, Ok, Err}
use Rattle.refusal.specs.declared.Refusal.{Refusal}
use Rattle.refusal.specs.Code.{code_of}
use Rattle.table.specs.Valid.{enough}
use Rattle.reading_grammar.specs.Fold.{Verdict, good, bad, answer}
use Rattle.reading_state.specs.State.{Steering}
use Rattle.reading_state.specs.declared.Fields.{Fields}
use Rattle.reading.specs.Memory.{Memory, nothing, blank}
use Rattle.reading.specs.Act.{act}
use Rattle.reading.specs.Read.{ReadResult, zeros, beginning, ended}
use Rattle.reading_fields.specs.Rest.{memory}
use Rattle.reading_short.specs.Short.{Short}
use Rattle.reader.specs.declared.answer.Counts.{Counts}
use Rattle.reader.specs.declared.answer.TextRefusal.{TextRefusal}
use Rattle.reader.specs.Outcome.{Bounded, Outcome}

-- 0 with the counts, or the refusal's code with its offset and counts of 0; and both tables
abbrev pub told : Result Counts TextRefusal → List ℤ → List ℤ → ReadResult
told (Ok c) a b = record { code = 0; offset = 0; atom_count = c.atoms; bond_count = c.bonds; overfull = c.overfull; atoms = a; bonds = b }
told (Err e) a b = record { code = code_of e.refusal; offset = e.at; atom_count = 0; bond_count = 0; overfull = 0; atoms = a; bonds = b }

-- the answer with these counts, and the refusal at an offset
abbrev pub counted : ℕ → ℕ → ℕ → Result Counts TextRefusal
counted n m k = Ok (record { atoms = n; bonds = m; overfull = k })

abbrev pub refused_text : Refusal → ℕ → Result Counts TextRefusal
refused_text r p = Err (record { refusal = r; at = p })

-- what comes after the last byte, in a state and with tables
abbrev pub ended_of : Steering → List ℤ → List ℤ → ReadResult
ended_of t a b = ended (memory t a b nothing 0 blank)

-- reading the whole text into tables that stand so, as the byte machine answers
abbrev pub answer_of : List ℕ → List ℤ → List ℤ → Verdict Memory
answer_of s a b = answer act (beginning a b) s

-- the text was read whole: the machine is content with this state and these tables, or refuses as told
abbrev pub TextGoes : List ℕ → List ℤ → List ℤ → List ℤ → List ℤ → Outcome → Type 0
TextGoes s a b a' b' (Ok o) = (i : ℕ) × (f : Fields) × Bounded o.st × (answer_of s a b ≡ good (memory o.st a' b' nothing i f))
TextGoes s a b a' b' (Err e) = answer_of s a b ≡ bad (code_of e.refusal) e.at

pub record TextRead (s : List ℕ) (a b a' b' : List ℤ) (o : Outcome) : Type 0 where
  pub is : TextGoes s a b a' b' o

-- tables that are zeroed, and long enough for a text: as long as 01 asks, or with a row for each of its bytes
pub record Ready (s : List ℕ) (atoms bonds : List ℤ) : Type 0 where
  pub atoms_zero : atoms ≡ zeros atoms
  pub bonds_zero : bonds ≡ zeros bonds
  pub room : (enough atoms bonds ≡ true) ⊎ Short s atoms bonds

-- tables that are zeroed, and as long as 01 asks
pub record Blank (atoms bonds : List ℤ) : Type 0 where
  pub atoms_zero : atoms ≡ zeros atoms
  pub bonds_zero : bonds ≡ zeros bonds
  pub room : enough atoms bonds ≡ true
