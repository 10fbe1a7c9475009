-- Every redrawing keeps the keys of atoms and the key. Assumes nothing.
use mathlib.Core.Path.{◌≡◌, refl, sym, ap, ◌∙◌}
use mathlib.Core.List.{List}
use Prim.Native.Nat.{ℕ, zero, suc, ◌+◌, ◌*◌, ◌<◌, ◌%◌}
use native.Mathlib.Omega.{arith}
use lib.IntN.{pos, ◌+ℤ◌}
use Rattle.loops.specs.Loop.{pick, run, up_to}
use Rattle.loops.proofs.Loops.{up_to-at}
use Rattle.table.specs.Cells.{number}
use Rattle.same_model.specs.Same.{Molecule, image}
use Rattle.same_model.specs.Redrawing.{joined, Redrawing}
use Rattle.same_model.proofs.Cells.{alike}
use Rattle.same_model.proofs.Totals.{total, run-total, total-same, total-permuted}
use Rattle.same_keys.specs.Keys.{mixed, at, mixed_at}
use Rattle.drawing_key.specs.Key.{cells_number, joined_sum, hashed, first_key, next_round, key_rounds, atom_keys, word, half, mixed_again, summed, key_of}
use Rattle.drawing_key.proofs.Joined.{joined-sum}

module _ {x y : Molecule} (w : Redrawing x y) where
  abbrev t : List ℕ
  t = w.renumbering

  below : (a : ℕ) → a < x.n → image t a < y.n
  below a l = let q = w.renumbers.below a l in let e : x.n ≡ y.n = w.counts in omega arith

  -- sums over all atoms
  total_kept : (f g : ℕ → ℕ) → ((a : ℕ) → a < x.n → f a ≡ g (image t a)) → total f x.n ≡ total g y.n
  total_kept f g h =
      total-same f (λ a. g (image t a)) x.n h ∙ total-permuted x.n (image t) w.renumbers.below w.renumbers.one g ∙ ap (total g) w.counts

  -- sums over the atoms that one is joined to
  joined-kept : (f g : ℕ → ℕ) → ((b : ℕ) → b < x.n → f b ≡ g (image t b)) → (a : ℕ) → a < x.n → joined_sum x f a ≡ joined_sum y g (image t a)
  joined-kept f g h a l =
      joined-sum x f a
      ∙ total_kept (λ b. pick (joined x a b) (f b) 0) (λ b. pick (joined y (image t a) b) (g b) 0) (λ b k. λ i. pick (w.bonds a b l k i) (h b k i) 0)
      ∙ sym (joined-sum y g (image t a))

  -- the keys that atoms begin with
  cells-kept : (a : ℕ) → a < x.n → cells_number x.atoms a ≡ cells_number y.atoms (image t a)
  unfolding cells_number
  cells-kept a l =
      let c = alike x y a (image t a) (w.cells a l) in
      λ i. ((number (c.element i) * 1000 + number (c.isotope i)) * 10 + number (c.hydrogens i)) * 19 + number (c.charge i +ℤ pos 9)

  first-kept : (a : ℕ) → a < x.n → first_key x a ≡ first_key y (image t a)
  first-kept a l = λ i. hashed (cells-kept a l i) (w.sums a l i) (joined-kept (λ b. 1) (λ b. 1) (λ b k. refl) a l i)

  -- a round
  abbrev KeptBy : List ℕ → List ℕ → Type 0
  KeptBy keys1 keys2 = (a : ℕ) → a < x.n → at keys1 a ≡ at keys2 (image t a)

  round-kept : (keys1 keys2 : List ℕ) → KeptBy keys1 keys2 → KeptBy (next_round x keys1) (next_round y keys2)
  unfolding next_round
  round-kept keys1 keys2 k a l =
      up_to-at (λ a. at keys1 a + joined_sum x (mixed_at keys1) a) x.n a 0 l
      ∙ (λ i. k a l i + joined-kept (mixed_at keys1) (mixed_at keys2) (λ b h. ap mixed (k b h)) a l i)
      ∙ sym (up_to-at (λ a. at keys2 a + joined_sum y (mixed_at keys2) a) y.n (image t a) 0 (below a l))

  rounds-kept : (k r : ℕ) (keys1 keys2 : List ℕ) → KeptBy keys1 keys2 → KeptBy (run (λ (i : ℕ) (s : List ℕ). next_round x s) k r keys1) (run (λ (i : ℕ) (s : List ℕ). next_round y s) k r keys2)
  unfolding run
  rounds-kept k zero keys1 keys2 h = h
  rounds-kept k (suc r) keys1 keys2 h = rounds-kept (suc k) r (next_round x keys1) (next_round y keys2) (round-kept keys1 keys2 h)

  pub atoms-kept : (a : ℕ) → a < x.n → at (atom_keys x) a ≡ at (atom_keys y) (image t a)
  unfolding atom_keys
  atoms-kept =
      rounds-kept 0 key_rounds (up_to (first_key x) 0 x.n) (up_to (first_key y) 0 y.n)
      (λ a l. up_to-at (first_key x) x.n a 0 l ∙ first-kept a l ∙ sym (up_to-at (first_key y) y.n (image t a) 0 (below a l)))

  -- the sums of their keys
  half-kept : (f : ℕ → ℕ) → half f (atom_keys x) x.n ≡ half f (atom_keys y) y.n
  half-kept f =
      ap (λ (s : ℕ). s % word)
      (run-total (λ a. f (at (atom_keys x) a)) x.n
      ∙ total_kept (λ a. f (at (atom_keys x) a)) (λ a. f (at (atom_keys y) a)) (λ a l. ap f (atoms-kept a l))
      ∙ sym (run-total (λ a. f (at (atom_keys y) a)) y.n))

  pub key-kept : key_of x ≡ key_of y
  unfolding summed
  key-kept = λ i. half-kept mixed_again i * word + half-kept mixed i
