-- The common letters outside brackets: c, C, O, N and n. Assumes nothing.
use Prim.Native.Nat.{ℕ, suc, ◌<◌}
use native.Mathlib.Omega.{arith}
use mathlib.Core.Path.{◌≡◌}
use mathlib.Core.List.{List}
use lib.ListN.{length}
use Rattle.element.specs.Symbols.{same_bytes, symbols, among, letters}
use Rattle.element.specs.Lookup.{selected_of, number_of, index_from, letter_of}
use Rattle.element.specs.declared.Letter.TheVariants.{Plain as Alone, Selected}
use Rattle.reading_fields.specs.Field.{Peeked}
use Rattle.reading_fields.proofs.Bytes.{some_in}

-- a byte that is known, and not 0, lies within the text
pub known_in : {s : List ℕ} {at b k : ℕ} → Peeked s at b → b ≡ suc k → at < length s
known_in p e = some_in p (λ z. omega (arith, e, z))

module _ {b : ℕ} where
  pub is_c : b ≡ 99 → letter_of b ≡ Selected 6
  unfolding letter_of selected_of
  is_c e = rw e

  pub is-n : b ≡ 110 → letter_of b ≡ Selected 7
  unfolding letter_of selected_of
  is-n e = rw e

  pub is-C : b ≡ 67 → letter_of b ≡ Alone 6
  unfolding letter_of selected_of number_of index_from same_bytes symbols among letters
  is-C e = rw e

  pub is-O : b ≡ 79 → letter_of b ≡ Alone 8
  unfolding letter_of selected_of number_of index_from same_bytes symbols among letters
  is-O e = rw e

  pub is-N : b ≡ 78 → letter_of b ≡ Alone 7
  unfolding letter_of selected_of number_of index_from same_bytes symbols among letters
  is-N e = rw e
