-- Laws of the orders of bonds and of turned marks: the bonds at an atom, what a turned table keeps, and how a turn is told by two orders. Assumes nothing.
use Prim.Native.Nat.{ℕ, zero, suc, ◌+◌, ◌*◌, ◌<◌, ◌≤◌}
use native.Mathlib.Omega.{arith}
use native.Mathlib.Nat.{add-zero}
use native.Mathlib.Numerals.{add-one}
use mathlib.Core.Path.{◌≡◌, refl, sym, ap, ◌∙◌}
use mathlib.Core.Bool.{Bool, true, false, ◌&&◌, not, true≢false}
use mathlib.Core.List.{List, [], ◌∷◌, ◌++◌, map}
use lib.ListN.{length, get_or, set, length-set, get_or-eq_default}
use lib.Seq.{get_or-set_same, get_or-set_other, set-get_or}
use lib.IntN.{ℤ, pos}
use lib.Dec.{eqb, ltb}
use borrow.Author.Tests.{eqb-true, eqb-false, lt-ltb, ltb-true, ltb-false}
use Rattle.loops.specs.Loop.{pick, run}
use Rattle.loops.proofs.Loops.{each_at, each_all, each_same}
use Rattle.parity.specs.Parity.{flip_if, oddly, odd_pairs, over, odd, absent, unlike, Swaps, odd_number, below, ascending}
use Rattle.parity.specs.Mark.{mark_if, turn_between}
use Rattle.parity.proofs.Swapped.{sorting-swaps}
use Rattle.parity.proofs.Turns.{Listed, turned-listed}
use Rattle.table.specs.Limits.{atom_cells, ELEMENT, SELECTED, ISOTOPE, HYDROGENS, CHARGE, EXTENSION, MARK}
use Rattle.table.specs.Cells.{number, atom_place, atom_cell, hydrogens, mark, touches}
use Rattle.table.specs.Valid.{max_mark, mark_ok, selected_ok, atom_ok, Valid}
use Rattle.table.specs.Sound.{count_bond, bond_degree, loose, none_loose, unfit, none_unfit, late_code, sound}
use Rattle.table.specs.Orders.{bonds_from, bonds_at, ranks_at, turns, turned_mark, turn_mark, turn_marks}
use Rattle.table.proofs.Valid.{range-of, range-high, atom-fine, atom-fine-back}
use Rattle.table.proofs.Sound.{run-last, sound-valid, sound-late, sound_back}

-- ---- the bonds at an atom

module _ (bonds : List ℤ) (a : ℕ) where
  -- as many as the atom has bonds
  from-length : (b m k : ℕ) → run (count_bond bonds a) b m k ≡ k + length (bonds_from bonds a b m)
  unfolding run bonds_from
  from-length b zero k = sym (add-zero k)
  from-length b (suc m) k = from-length (suc b) m (k + pick (touches bonds a b) 1 0) ∙ go (touches bonds a b)
    where
      go : (x : Bool) → (k + pick x 1 0) + length (bonds_from bonds a (suc b) m) ≡ k + length (pick x (b ∷ bonds_from bonds a (suc b) m) (bonds_from bonds a (suc b) m))
      go true = omega arith
      go false = omega arith

  pub bonds-length : (m : ℕ) → length (bonds_at bonds m a) ≡ bond_degree bonds m a
  unfolding bonds_at bond_degree
  bonds-length m = let e = from-length 0 m 0 in omega arith

  -- by ascending number
  from-below : (x b m : ℕ) → x < b → below x (bonds_from bonds a b m) ≡ true
  unfolding below bonds_from
  from-below x b zero h = refl
  from-below x b (suc m) h = go (touches bonds a b) (from-below x (suc b) m (omega arith))
    where
      go : (t : Bool) → below x (bonds_from bonds a (suc b) m) ≡ true → below x (pick t (b ∷ bonds_from bonds a (suc b) m) (bonds_from bonds a (suc b) m)) ≡ true
      go true r = rw (lt-ltb x b h) r
      go false r = r

  from-ascending : (b m : ℕ) → ascending (bonds_from bonds a b m) ≡ true
  unfolding ascending bonds_from
  from-ascending b zero = refl
  from-ascending b (suc m) = go (touches bonds a b) (from-ascending (suc b) m)
    where
      go : (t : Bool) → ascending (bonds_from bonds a (suc b) m) ≡ true → ascending (pick t (b ∷ bonds_from bonds a (suc b) m) (bonds_from bonds a (suc b) m)) ≡ true
      go true r = rw (from-below b (suc b) m (omega arith)) r
      go false r = r

  pub bonds-ascending : (m : ℕ) → ascending (bonds_at bonds m a) ≡ true
  unfolding bonds_at
  bonds-ascending m = from-ascending 0 m

  -- exactly those that touch it
  abbrev Found : ℕ → ℕ → ℕ → Type 0
  Found b m c = (b ≤ c) × (c < b + m) × (touches bonds a c ≡ true)

  from-listed : (b m c : ℕ) → Listed (bonds_from bonds a b m) c → Found b m c
  unfolding absent bonds_from
  from-listed b zero c h = absurd (true≢false h)
  from-listed b (suc m) c h = go (λ g. let r = from-listed (suc b) m c g in (omega (arith, r.0), omega (arith, r.1), r.2)) (touches bonds a b) refl h
    where
      first : (Listed (bonds_from bonds a (suc b) m) c → Found b (suc m) c) → (t : Bool) → eqb c b ≡ t → touches bonds a b ≡ true → (not t && absent c (bonds_from bonds a (suc b) m)) ≡ false → Found b (suc m) c
      first later true e f g = let q = eqb-true c b e in (omega arith, omega arith, ap (touches bonds a) q ∙ f)
      first later false e f g = later g

      go : (Listed (bonds_from bonds a (suc b) m) c → Found b (suc m) c) → (t : Bool) → touches bonds a b ≡ t → absent c (pick t (b ∷ bonds_from bonds a (suc b) m) (bonds_from bonds a (suc b) m)) ≡ false → Found b (suc m) c
      go later true f g = first later (eqb c b) refl f g
      go later false f g = later g

  from-has : (b m c : ℕ) → b ≤ c → c < b + m → touches bonds a c ≡ true → Listed (bonds_from bonds a b m) c
  unfolding absent bonds_from
  from-has b zero c l u f = absurd (omega arith)
  from-has b (suc m) c l u f = go (λ e. from-has (suc b) m c (omega (arith, eqb-false c b e)) (omega arith) f) (touches bonds a b) refl (eqb c b) refl
    where
      go : (eqb c b ≡ false → Listed (bonds_from bonds a (suc b) m) c) → (t : Bool) → touches bonds a b ≡ t → (x : Bool) → eqb c b ≡ x → absent c (pick t (b ∷ bonds_from bonds a (suc b) m) (bonds_from bonds a (suc b) m)) ≡ false
      go later true g true e = rw e
      go later true g false e = rw e (later e)
      go later false g true e = absurd (true≢false (sym f ∙ ap (touches bonds a) (eqb-true c b e) ∙ g))
      go later false g false e = later e

  pub bonds-listed : (m c : ℕ) → Listed (bonds_at bonds m a) c → (c < m) × (touches bonds a c ≡ true)
  unfolding bonds_at
  bonds-listed m c h = let r = from-listed 0 m c h in (omega (arith, r.1), r.2)

  pub bonds-has : (m c : ℕ) → c < m → touches bonds a c ≡ true → Listed (bonds_at bonds m a) c
  unfolding bonds_at
  bonds-has m c l f = from-has 0 m c (omega arith) (omega arith) f

  -- ranks that agree on them are the same ranks
  module _ (f g : ℕ → ℕ) where
    from-same : (b m : ℕ) → ((c : ℕ) → c < b + m → touches bonds a c ≡ true → f c ≡ g c) → map f (bonds_from bonds a b m) ≡ map g (bonds_from bonds a b m)
    unfolding bonds_from
    from-same b zero h = refl
    from-same b (suc m) h = go (touches bonds a b) refl (from-same (suc b) m (λ c l. h c (omega arith)))
      where
        go : (t : Bool) → touches bonds a b ≡ t → map f (bonds_from bonds a (suc b) m) ≡ map g (bonds_from bonds a (suc b) m) → map f (pick t (b ∷ bonds_from bonds a (suc b) m) (bonds_from bonds a (suc b) m)) ≡ map g (pick t (b ∷ bonds_from bonds a (suc b) m) (bonds_from bonds a (suc b) m))
        go true e rest = rw (h b (omega arith) e, rest)
        go false e rest = rest

    pub ranks-same : (m : ℕ) → ((c : ℕ) → c < m → touches bonds a c ≡ true → f c ≡ g c) → map f (bonds_at bonds m a) ≡ map g (bonds_at bonds m a)
    unfolding bonds_at
    ranks-same m h = from-same 0 m (λ c l. h c (omega arith))

-- ---- turns

-- ranks that agree on the bonds at the atom turn alike
pub turns_same : (f g : ℕ → ℕ) (atoms bonds : List ℤ) (m a : ℕ) → ((c : ℕ) → c < m → touches bonds a c ≡ true → f c ≡ g c) → turns f atoms bonds m a ≡ turns g atoms bonds m a
unfolding turns
turns_same f g atoms bonds m a h = rw (ranks-same bonds a f g m h)

-- in words: the ranks being all different, a mark is turned exactly if the number of swaps that sorts them is odd
pub turns-swaps : (rank : ℕ → ℕ) (atoms bonds : List ℤ) (m a : ℕ) {q : List ℕ} {k : ℕ} → Swaps (ranks_at rank atoms bonds m a) q k → unlike (ranks_at rank atoms bonds m a) ≡ true → ascending q ≡ true → turns rank atoms bonds m a ≡ odd_number k
unfolding turns
turns-swaps rank atoms bonds m a s u w = sorting-swaps s u w

-- of the atoms only the hydrogens of this one are looked at
pub turns-atoms : (f : ℕ → ℕ) (t u bonds : List ℤ) (m a : ℕ) → hydrogens t a ≡ hydrogens u a → turns f t bonds m a ≡ turns f u bonds m a
unfolding turns
turns-atoms f t u bonds m a e = rw e

map_same : (l : List ℕ) → map (λ (b : ℕ). b) l ≡ l
map_same [] = refl
map_same (b ∷ l) = ap (λ (r : List ℕ). b ∷ r) (map_same l)

with-hydrogen : (x : Bool) (l : List ℕ) → odd (pick x (1 ∷ []) [] ++ l) ≡ flip_if (x && oddly (over 1) l) (odd l)
unfolding odd odd_pairs
with-hydrogen true l = refl
with-hydrogen false l = refl

-- a turn is told by two orders of the bonds, that of their ranks and that of their numbers, and by the hydrogen, where an odd number of bonds stands before it
pub turns-between : (rank : ℕ → ℕ) (atoms bonds : List ℤ) (m a : ℕ) → turns rank atoms bonds m a
    ≡ turn_between (eqb (hydrogens atoms a) 1 && oddly (over 1) (map rank (bonds_at bonds m a))) rank (λ b. b) (bonds_at bonds m a)
unfolding turns turn_between
turns-between rank atoms bonds m a =
    with-hydrogen (eqb (hydrogens atoms a) 1) (map rank (bonds_at bonds m a))
    ∙ ap (flip_if (eqb (hydrogens atoms a) 1 && oddly (over 1) (map rank (bonds_at bonds m a))))
    (sym (turned-listed (bonds_at bonds m a) rank (λ b. b) (rw (map_same (bonds_at bonds m a)) (bonds-ascending bonds a m))))

-- ---- a table with turned marks

-- a turned mark is a mark exactly if it was one, and no larger
pub mark-zero : (x : Bool) (k : ℕ) → ltb 0 (mark_if x k) ≡ ltb 0 k
mark-zero true zero = refl
mark-zero true (suc zero) = refl
mark-zero true (suc (suc zero)) = refl
mark-zero true (suc (suc (suc k))) = refl
mark-zero false k = refl

pub mark-two : (x : Bool) (k : ℕ) → k ≤ max_mark → mark_if x k ≤ max_mark
mark-two true zero h = omega arith
mark-two true (suc zero) h = omega arith
mark-two true (suc (suc zero)) h = omega arith
mark-two true (suc (suc (suc k))) h = absurd (omega arith)
mark-two false k h = h

mark-none : (x : Bool) → mark_if x 0 ≡ 0
mark-none true = refl
mark-none false = refl

module _ (rank : ℕ → ℕ → ℕ) (bonds : List ℤ) (m : ℕ) where
  -- only the atom's hydrogens and its mark are looked at
  pub turned-mark-same : (t u : List ℤ) (a : ℕ) → hydrogens t a ≡ hydrogens u a → mark t a ≡ mark u a → turned_mark rank t bonds m a ≡ turned_mark rank u bonds m a
  unfolding turned_mark turns
  turned-mark-same t u a e f = rw (e, f)

  pub turned-marked : (t : List ℤ) (a : ℕ) → ltb 0 (turned_mark rank t bonds m a) ≡ ltb 0 (mark t a)
  unfolding turned_mark
  turned-marked t a = mark-zero (turns (rank a) t bonds m a) (mark t a)

  pub turned-small : (t : List ℤ) (a : ℕ) → mark t a ≤ max_mark → turned_mark rank t bonds m a ≤ max_mark
  unfolding turned_mark
  turned-small t a h = mark-two (turns (rank a) t bonds m a) (mark t a) h

  pub turned_none : (t : List ℤ) (a : ℕ) → mark t a ≡ 0 → turned_mark rank t bonds m a ≡ 0
  unfolding turned_mark
  turned_none t a e = rw e (mark-none (turns (rank a) t bonds m a))

  -- an atom without a mark stays
  pub unmarked-stays : (t : List ℤ) (a : ℕ) → atom_cell t a MARK ≡ pos 0 → turn_mark rank bonds m a t ≡ t
  unfolding number
  unmarked-stays t a e = rw (turned_none t a (ap number e)) (ap (set t (atom_place a MARK)) (sym e) ∙ set-get_or t (atom_place a MARK) (pos 0))

  step-length : (a : ℕ) (t : List ℤ) → length (turn_mark rank bonds m a t) ≡ length t
  step-length a t = length-set t (atom_place a MARK) (pos (turned_mark rank t bonds m a))

  run_length : (k n : ℕ) (t : List ℤ) → length (run (turn_mark rank bonds m) k n t) ≡ length t
  unfolding run
  run_length k zero t = refl
  run_length k (suc n) t = run_length (suc k) n (turn_mark rank bonds m k t) ∙ step-length k t

  -- one loop: a cell that no step writes, and the mark that a step writes
  run-other : (k n i : ℕ) (t : List ℤ) → ((j : ℕ) → k ≤ j → j < k + n → i ≡ atom_place j MARK → ⊥) → get_or (run (turn_mark rank bonds m) k n t) i (pos 0) ≡ get_or t i (pos 0)
  unfolding run
  run-other k zero i t h = refl
  run-other k (suc n) i t h =
      run-other (suc k) n i (turn_mark rank bonds m k t) (λ j l u e. h j (omega arith) (omega arith) e)
      ∙ get_or-set_other t (atom_place k MARK) i (pos (turned_mark rank t bonds m k)) (pos 0) (h k (omega arith) (omega arith))

  step_same : (a : ℕ) (t : List ℤ) → atom_cell (turn_mark rank bonds m a t) a MARK ≡ pos (turned_mark rank t bonds m a)
  unfolding number
  step_same a t = go (ltb (atom_place a MARK) (length t)) refl
    where
      go : (x : Bool) → ltb (atom_place a MARK) (length t) ≡ x → atom_cell (turn_mark rank bonds m a t) a MARK ≡ pos (turned_mark rank t bonds m a)
      go true e = get_or-set_same t (atom_place a MARK) (pos (turned_mark rank t bonds m a)) (pos 0) (ltb-true (atom_place a MARK) (length t) e)
      go false e =
          let h = ltb-false (atom_place a MARK) (length t) e in
          let z : atom_cell t a MARK ≡ pos 0 = get_or-eq_default t (pos 0) h in
          ap (λ (u : List ℤ). atom_cell u a MARK) (unmarked-stays t a z) ∙ z ∙ ap pos (sym (turned_none t a (ap number z)))

  run-same : (k n j : ℕ) (t : List ℤ) → j < n → atom_cell (run (turn_mark rank bonds m) k n t) (k + j) MARK ≡ pos (turned_mark rank t bonds m (k + j))
  unfolding run
  run-same k zero j t l = absurd (omega arith)
  run-same k (suc n) zero t l = rw (add-zero k) (run-other (suc k) n (atom_place k MARK) (turn_mark rank bonds m k t) (λ j u v e. omega arith) ∙ step_same k t)
  run-same k (suc n) (suc j) t l =
      let e : k + suc j ≡ suc k + j = omega arith in
      rw e
      (run-same (suc k) n j (turn_mark rank bonds m k t) (omega arith)
      ∙ ap pos
      (turned-mark-same (turn_mark rank bonds m k t) t (suc k + j)
      (ap number (get_or-set_other t (atom_place k MARK) (atom_place (suc k + j) HYDROGENS) (pos (turned_mark rank t bonds m k)) (pos 0) (λ q. omega arith)))
      (ap number (get_or-set_other t (atom_place k MARK) (atom_place (suc k + j) MARK) (pos (turned_mark rank t bonds m k)) (pos 0) (λ q. omega arith)))))

  module _ (n : ℕ) (t : List ℤ) where
    -- the marks of n atoms are turned
    pub turned-cell : (a : ℕ) → a < n → atom_cell (turn_marks rank bonds m n t) a MARK ≡ pos (turned_mark rank t bonds m a)
    unfolding turn_marks
    turned-cell a l = let e : 0 + a ≡ a = omega arith in rw e at (run-same 0 n a t l)

    -- every other cell stays, and so does the length
    pub turned-field : (a f : ℕ) → f < atom_cells → (f ≡ MARK → ⊥) → atom_cell (turn_marks rank bonds m n t) a f ≡ atom_cell t a f
    unfolding turn_marks
    turned-field a f l h = run-other 0 n (atom_place a f) t (λ j u v e. h (omega arith))

    pub turned-rest : (i : ℕ) → atom_cells * n ≤ i → get_or (turn_marks rank bonds m n t) i (pos 0) ≡ get_or t i (pos 0)
    unfolding turn_marks
    turned-rest i h = run-other 0 n i t (λ j u v e. omega arith)

    pub turned-length : length (turn_marks rank bonds m n t) ≡ length t
    unfolding turn_marks
    turned-length = run_length 0 n t

-- ranks that agree on the bonds at each atom turn a table alike
module _ (f g : ℕ → ℕ → ℕ) (bonds : List ℤ) (m : ℕ) (h : (a b : ℕ) → b < m → touches bonds a b ≡ true → f a b ≡ g a b) where
  pub turned-mark-alike : (t : List ℤ) (a : ℕ) → turned_mark f t bonds m a ≡ turned_mark g t bonds m a
  unfolding turned_mark
  turned-mark-alike t a = ap (λ (x : Bool). mark_if x (mark t a)) (turns_same (f a) (g a) t bonds m a (h a))

  run-alike : (k n : ℕ) (t : List ℤ) → run (turn_mark f bonds m) k n t ≡ run (turn_mark g bonds m) k n t
  unfolding run
  run-alike k zero t = refl
  run-alike k (suc n) t =
      ap (λ (x : ℕ). run (turn_mark f bonds m) (suc k) n (set t (atom_place k MARK) (pos x))) (turned-mark-alike t k)
      ∙ run-alike (suc k) n (turn_mark g bonds m k t)

  pub turned-alike : (n : ℕ) (t : List ℤ) → turn_marks f bonds m n t ≡ turn_marks g bonds m n t
  unfolding turn_marks
  turned-alike n t = run-alike 0 n t

-- ---- tables that differ in marks only, of n atoms that are marked in both or in neither
pub record ButMarks (t u : List ℤ) (n : ℕ) : Type 0 where
  pub field : (a f : ℕ) → f < atom_cells → (f ≡ MARK → ⊥) → atom_cell t a f ≡ atom_cell u a f
  pub marked : (a : ℕ) → a < n → ltb 0 (mark t a) ≡ ltb 0 (mark u a)

module _ {t u : List ℤ} {n : ℕ} (s : ButMarks t u n) where
  -- their late checks are the same
  but-loose : (bonds : List ℤ) (m : ℕ) → none_loose t bonds n m ≡ none_loose u bonds n m
  unfolding none_loose
  but-loose bonds m = each_same (λ a. not (loose t bonds m a)) (λ a. not (loose u bonds m a)) n (λ a l. rw (s.field a SELECTED (omega arith) (λ e. omega arith)))

  pub but-unfit : (bonds : List ℤ) (m : ℕ) → none_unfit t bonds n m ≡ none_unfit u bonds n m
  unfolding none_unfit
  but-unfit bonds m = each_same (λ a. not (unfit t bonds m a)) (λ a. not (unfit u bonds m a)) n (λ a l. rw (s.marked a l, s.field a HYDROGENS (omega arith) (λ e. omega arith)))

  pub but-late : (bonds : List ℤ) (m : ℕ) → late_code t bonds n m ≡ late_code u bonds n m
  unfolding late_code
  but-late bonds m = rw (but-loose bonds m, but-unfit bonds m)

-- one atom more
pub turn_more : (rank : ℕ → ℕ → ℕ) (bonds : List ℤ) (m k : ℕ) (t : List ℤ) → turn_marks rank bonds m (k + 1) t ≡ turn_mark rank bonds m k (turn_marks rank bonds m k t)
unfolding turn_marks
turn_more rank bonds m k t = let e : 0 + k ≡ k = omega arith in rw (add-one k) (run-last (turn_mark rank bonds m) 0 k t ∙ ap (λ (j : ℕ). turn_mark rank bonds m j (run (turn_mark rank bonds m) 0 k t)) e)

-- the marks of k atoms turned, of a table with n
module _ (rank : ℕ → ℕ → ℕ) (bonds : List ℤ) (m k n : ℕ) (t : List ℤ) where
  pub turned-but : ButMarks (turn_marks rank bonds m k t) t n
  unfolding number
  turned-but = record { field = turned-field rank bonds m k t; marked = λ a l. go a (ltb a k) refl }
    where
      go : (a : ℕ) (x : Bool) → ltb a k ≡ x → ltb 0 (mark (turn_marks rank bonds m k t) a) ≡ ltb 0 (mark t a)
      go a true e = ap (λ (z : ℤ). ltb 0 (number z)) (turned-cell rank bonds m k t a (ltb-true a k e)) ∙ turned-marked rank bonds m t a
      go a false e = ap (λ (z : ℤ). ltb 0 (number z)) (turned-rest rank bonds m k t (atom_place a MARK) (omega (arith, ltb-false a k e)))

  -- a valid table stays valid, a sound one sound
  turned-mark-ok : (a : ℕ) → mark_ok t a ≡ true → mark_ok (turn_marks rank bonds m k t) a ≡ true
  turned-mark-ok a h = go (ltb a k) refl
    where
      go : (x : Bool) → ltb a k ≡ x → mark_ok (turn_marks rank bonds m k t) a ≡ true
      go true e = rw (turned-cell rank bonds m k t a (ltb-true a k e)) (range-of (turned_mark rank t bonds m a) max_mark (turned-small rank bonds m t a (range-high (atom_cell t a MARK) max_mark h)))
      go false e = rw (turned-rest rank bonds m k t (atom_place a MARK) (omega (arith, ltb-false a k e))) h

  turned-atom : (a : ℕ) → atom_ok t a ≡ true → atom_ok (turn_marks rank bonds m k t) a ≡ true
  unfolding selected_ok
  turned-atom a h =
      let f = atom-fine t a h in
      let at : (g : ℕ) → g < atom_cells → (g ≡ MARK → ⊥) → atom_cell (turn_marks rank bonds m k t) a g ≡ atom_cell t a g = turned-field rank bonds m k t a in
      atom-fine-back (record {
        element = rw (at ELEMENT (omega arith) (λ e. omega arith)) f.element;
        isotope = rw (at ISOTOPE (omega arith) (λ e. omega arith)) f.isotope;
        hydrogens = rw (at HYDROGENS (omega arith) (λ e. omega arith)) f.hydrogens;
        charge = rw (at CHARGE (omega arith) (λ e. omega arith)) f.charge;
        extension = rw (at EXTENSION (omega arith) (λ e. omega arith)) f.extension;
        mark = turned-mark-ok a f.mark;
        selected = rw (at ELEMENT (omega arith) (λ e. omega arith), at SELECTED (omega arith) (λ e. omega arith)) f.selected;
      })

  pub turned-valid : {others : List ℤ} {o : ℕ} → Valid t others n o → Valid (turn_marks rank bonds m k t) others n o
  turned-valid v = record {
    atoms_few = v.atoms_few;
    bonds_few = v.bonds_few;
    atom_rows = each_all (atom_ok (turn_marks rank bonds m k t)) n (λ a l. turned-atom a (each_at (atom_ok t) n a v.atom_rows l));
    bond_rows = v.bond_rows;
    apart = v.apart;
  }

  pub turned-sound : (others : List ℤ) (o : ℕ) → sound t others n o ≡ true → sound (turn_marks rank bonds m k t) others n o ≡ true
  turned-sound others o h = sound_back (turn_marks rank bonds m k t) others n o (turned-valid (sound-valid t others n o h)) (but-late turned-but others o ∙ sound-late t others n o h)
