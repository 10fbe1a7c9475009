-- What reading whole hands back has nothing after its rows: clearing the rest changes nothing. Assumes nothing.
use Prim.Native.Nat.{ℕ, zero, suc, ◌*◌, ◌≤◌}
use native.Mathlib.Omega.{arith}
use mathlib.Core.Path.{◌≡◌, refl, sym, ap, ◌∙◌}
use mathlib.Core.Bool.{Bool, true, false}
use mathlib.Core.List.{List, [], ◌∷◌}
use lib.ListN.{length, get_or, replicate, length-replicate}
use lib.IntN.{ℤ, pos}
use lib.Dec.{eqb}
use borrow.Author.Tests.{eqb-true, eqb-false}
use Rattle.table.specs.Limits.{atom_cells, bond_cells}
use Rattle.table.specs.Valid.{enough}
use Rattle.reading.specs.Read.{ReadResult, zeros, refused, read_of}
use Rattle.reading.proofs.Accepted.{read-accepted}
use Rattle.reading.proofs.Refused.{short-iff, refusal-zeroes}
use Rattle.reading_pieces.specs.Calls.{cleared_from, rest_cleared}

-- a list of zeros
all-zero : (t : List ℤ) → ((j : ℕ) → get_or t j (pos 0) ≡ pos 0) → zeros t ≡ t
all-zero [] h = refl
all-zero (x ∷ t) h =
    let e : x ≡ pos 0 = h 0 in
    let r : zeros t ≡ t = all-zero t (λ j. h (suc j)) in
    cc

-- a list whose cells from k on are 0
pub clear-same : (k : ℕ) (t : List ℤ) → ((j : ℕ) → k ≤ j → get_or t j (pos 0) ≡ pos 0) → cleared_from k t ≡ t
clear-same zero t h = all-zero t (λ j. h j (omega arith))
clear-same (suc k) [] h = refl
clear-same (suc k) (x ∷ t) h = ap (λ (l : List ℤ). x ∷ l) (clear-same k t (λ j l. h (suc j) (omega arith)))

pub zeros-cleared : (t : List ℤ) → cleared_from 0 (zeros t) ≡ zeros t
zeros-cleared t = ap (λ (n : ℕ). replicate n (pos 0)) (length-replicate (length t) (pos 0))

-- the result with other tables
abbrev with-tables : ReadResult → List ℤ → List ℤ → ReadResult
with-tables t a b = record { code = t.code; offset = t.offset; atom_count = t.atom_count; bond_count = t.bond_count; overfull = t.overfull; atoms = a; bonds = b }

tables-same : (t : ReadResult) {a b : List ℤ} → a ≡ t.atoms → b ≡ t.bonds → with-tables t a b ≡ t
tables-same t {b = b} e f = ap (λ (x : List ℤ). with-tables t x b) e ∙ ap (λ (y : List ℤ). with-tables t t.atoms y) f

pub refused-cleared : (c p : ℕ) (a b : List ℤ) → rest_cleared (refused c p a b) ≡ refused c p a b
refused-cleared c p a b = tables-same (refused c p a b) (zeros-cleared a) (zeros-cleared b)

module _ (s : List ℕ) (a b : List ℤ) (room : enough a b ≡ true) where
  -- an answer that is no acceptance zeroed both tables
  zeroed : ((read_of s a b).code ≡ 0 → ⊥) → read_of s a b ≡ refused (read_of s a b).code (read_of s a b).offset a b
  zeroed n = refusal-zeroes s a b n (λ e. let f : enough a b ≡ false = (short-iff s a b).0 e in let z : true ≡ false = sym room ∙ f in let y : ◌≡◌ {A = ℕ} 0 1 = cc in omega arith)

  pub read-cleared : rest_cleared (read_of s a b) ≡ read_of s a b
  read-cleared = split (eqb (read_of s a b).code 0) refl
    where
      split : (t : Bool) → eqb (read_of s a b).code 0 ≡ t → rest_cleared (read_of s a b) ≡ read_of s a b
      split true e =
          let w = read-accepted s a b (eqb-true (read_of s a b).code 0 e) in
          tables-same (read_of s a b) (clear-same (atom_cells * (read_of s a b).atom_count) (read_of s a b).atoms w.unused_atoms) (clear-same (bond_cells * (read_of s a b).bond_count) (read_of s a b).bonds w.unused_bonds)
      split false e =
          let z = zeroed (eqb-false (read_of s a b).code 0 e) in
          ap rest_cleared z ∙ refused-cleared (read_of s a b).code (read_of s a b).offset a b ∙ sym z

  pub read-lengths : (length (read_of s a b).atoms ≡ length a) × (length (read_of s a b).bonds ≡ length b)
  read-lengths = split (eqb (read_of s a b).code 0) refl
    where
      split : (t : Bool) → eqb (read_of s a b).code 0 ≡ t → (length (read_of s a b).atoms ≡ length a) × (length (read_of s a b).bonds ≡ length b)
      split true e = (read-accepted s a b (eqb-true (read_of s a b).code 0 e)).lengths
      split false e =
          let z = zeroed (eqb-false (read_of s a b).code 0 e) in
          (ap (λ (t : ReadResult). length t.atoms) z ∙ length-replicate (length a) (pos 0), ap (λ (t : ReadResult). length t.bonds) z ∙ length-replicate (length b) (pos 0))
