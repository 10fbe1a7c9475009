-- After the last byte: no bridge is open, and the atoms outside brackets get their hydrogens. Assumes nothing.
use mathlib.Core.Path.{◌≡◌, refl, ap, ◌∙◌, subst}
use mathlib.Core.Bool.{Bool, true, false}
use mathlib.Core.List.{List, [], ◌∷◌}
use Prim.Native.Nat.{ℕ, zero, suc, ◌+◌, ◌*◌, ◌<◌, ◌≤◌}
use native.Mathlib.Omega.{arith}
use lib.Dec.{eqb}
use lib.ListN.{length, get_or, set, length-set}
use lib.Seq.{get_or-set_same, get_or-set_other}
use lib.IntN.{ℤ, pos}
use borrow.Author.Tests.{eqb-true, eqb-false}
use Rattle.loops.specs.Loop.{pick, run}
use Rattle.valence.specs.Valence.{implied}
use Rattle.table_graph.specs.Graph.{bond_sum}
use Rattle.table.specs.Limits.{atom_cells, ELEMENT, SELECTED, HYDROGENS}
use Rattle.table.specs.Cells.{atom_place, atom_cell, element, selected}
use Rattle.ids.specs.Limits.{max_text, bridges}
use Rattle.reading.specs.Read.{hydrogenate, hydrogenated, earlier, leftmost}
use Rattle.writing_walk.specs.Reading.{Closure, vacant, at, closure_at, shut}
use Rattle.roundtrip.proofs.Held.{opener_of, Bridging}

-- ---- bridges
shut_at : (hs : List Closure) (r : ℕ) → shut hs ≡ true → closure_at hs r ≡ vacant
shut_at [] r h = refl
shut_at (vacant ∷ hs) zero h = refl
shut_at (vacant ∷ hs) (suc r) h = shut_at hs r h
shut_at (at u j ∷ hs) r h = absurd (let z : ◌≡◌ {A = ℕ} 0 1 = cc in omega arith)

pub none_left : (opener symbol offset : List ℕ) (hs : List Closure) → Bridging opener symbol hs → shut hs ≡ true → leftmost opener offset ≡ max_text
unfolding leftmost run
none_left opener symbol offset hs b h = go 0 bridges max_text (omega arith)
  where
    zero-at : (r : ℕ) → r < bridges → get_or opener r 0 ≡ 0
    zero-at zero l = b.unused
    zero-at (suc r) l = b.openers r l ∙ ap opener_of (shut_at hs r h)

    go : (k m p : ℕ) → k + m ≤ bridges → run (λ r p. earlier p (get_or opener r 0) (get_or offset r 0)) k m p ≡ p
    go k zero p l = refl
    go k (suc m) p l = rw (zero-at k (omega arith)) (go (suc k) m p (omega arith))

-- ---- hydrogens
module _ (outside : List ℕ) (bonds : List ℤ) (m : ℕ) where
  abbrev step : ℕ → List ℤ → List ℤ
  step = hydrogenate outside bonds m

  step-length : (a : ℕ) (t : List ℤ) → length (step a t) ≡ length t
  step-length a t = go (eqb (get_or outside a 0) 1)
    where
      go : (x : Bool) → length (pick x (set t (atom_place a HYDROGENS) (pos (implied (element t a) (selected t a) (bond_sum bonds m a)))) t) ≡ length t
      go true = length-set t (atom_place a HYDROGENS) (pos (implied (element t a) (selected t a) (bond_sum bonds m a)))
      go false = refl

  step_other : (a j : ℕ) (t : List ℤ) → (j ≡ atom_place a HYDROGENS → ⊥) → get_or (step a t) j (pos 0) ≡ get_or t j (pos 0)
  step_other a j t h = go (eqb (get_or outside a 0) 1)
    where
      go : (x : Bool) → get_or (pick x (set t (atom_place a HYDROGENS) (pos (implied (element t a) (selected t a) (bond_sum bonds m a)))) t) j (pos 0) ≡ get_or t j (pos 0)
      go true = get_or-set_other t (atom_place a HYDROGENS) j (pos (implied (element t a) (selected t a) (bond_sum bonds m a))) (pos 0) h
      go false = refl

  step_same : (a : ℕ) (t : List ℤ) → atom_place a HYDROGENS < length t → atom_cell (step a t) a HYDROGENS ≡ pick (eqb (get_or outside a 0) 1) (pos (implied (element t a) (selected t a) (bond_sum bonds m a))) (atom_cell t a HYDROGENS)
  step_same a t h = go (eqb (get_or outside a 0) 1)
    where
      go : (x : Bool) → get_or (pick x (set t (atom_place a HYDROGENS) (pos (implied (element t a) (selected t a) (bond_sum bonds m a)))) t) (atom_place a HYDROGENS) (pos 0) ≡ pick x (pos (implied (element t a) (selected t a) (bond_sum bonds m a))) (atom_cell t a HYDROGENS)
      go true = get_or-set_same t (atom_place a HYDROGENS) (pos (implied (element t a) (selected t a) (bond_sum bonds m a))) (pos 0) h
      go false = refl

  run_length : (k n : ℕ) (t : List ℤ) → length (run step k n t) ≡ length t
  unfolding run
  run_length k zero t = refl
  run_length k (suc n) t = run_length (suc k) n (step k t) ∙ step-length k t

  -- a cell that is no hydrogens cell of these atoms
  run-other : (k n j : ℕ) (t : List ℤ) → ((a : ℕ) → k ≤ a → a < k + n → j ≡ atom_place a HYDROGENS → ⊥) → get_or (run step k n t) j (pos 0) ≡ get_or t j (pos 0)
  unfolding run
  run-other k zero j t h = refl
  run-other k (suc n) j t h = run-other (suc k) n j (step k t) (λ a l u e. h a (omega arith) (omega arith) e) ∙ step_other k j t (h k (omega arith) (omega arith))

  run-same : (k n a : ℕ) (t : List ℤ) → k ≤ a → a < k + n → atom_place a HYDROGENS < length t
      → atom_cell (run step k n t) a HYDROGENS ≡ pick (eqb (get_or outside a 0) 1) (pos (implied (element t a) (selected t a) (bond_sum bonds m a))) (atom_cell t a HYDROGENS)
  unfolding run
  run-same k zero a t l u r = absurd (omega arith)
  run-same k (suc n) a t l u r = go (eqb a k) refl (run-same (suc k) n a (step k t))
    where
      go : (x : Bool) → eqb a k ≡ x
          → (suc k ≤ a → a < suc k + n → atom_place a HYDROGENS < length (step k t) → atom_cell (run step (suc k) n (step k t)) a HYDROGENS ≡ pick (eqb (get_or outside a 0) 1) (pos (implied (element (step k t) a) (selected (step k t) a) (bond_sum bonds m a))) (atom_cell (step k t) a HYDROGENS))
          → atom_cell (run step (suc k) n (step k t)) a HYDROGENS ≡ pick (eqb (get_or outside a 0) 1) (pos (implied (element t a) (selected t a) (bond_sum bonds m a))) (atom_cell t a HYDROGENS)
      go true e f =
          let i : a ≡ k = eqb-true a k e in
          run-other (suc k) n (atom_place a HYDROGENS) (step k t) (λ b x y z. omega arith)
          ∙ subst (λ (c : ℕ). atom_cell (step c t) a HYDROGENS ≡ pick (eqb (get_or outside a 0) 1) (pos (implied (element t a) (selected t a) (bond_sum bonds m a))) (atom_cell t a HYDROGENS)) i (step_same a t r)
      go false e f =
          let i = eqb-false a k e in
          f (omega arith) (omega arith) (rw (step-length k t) r)
          ∙ rw (step_other k (atom_place a ELEMENT) t (λ z. omega arith), step_other k (atom_place a SELECTED) t (λ z. omega arith), step_other k (atom_place a HYDROGENS) t (λ z. i (omega arith)))

  -- THE HYDROGENS of each atom, and all other cells
  pub hydrogens-cell : (n a : ℕ) (t : List ℤ) → a < n → atom_place a HYDROGENS < length t
      → atom_cell (hydrogenated outside bonds m n t) a HYDROGENS ≡ pick (eqb (get_or outside a 0) 1) (pos (implied (element t a) (selected t a) (bond_sum bonds m a))) (atom_cell t a HYDROGENS)
  unfolding hydrogenated
  hydrogens-cell n a t l r = run-same 0 n a t (omega arith) (omega arith) r

  pub other-cell : (n a f : ℕ) (t : List ℤ) → f < atom_cells → (f ≡ HYDROGENS → ⊥) → atom_cell (hydrogenated outside bonds m n t) a f ≡ atom_cell t a f
  unfolding hydrogenated
  other-cell n a f t l h = run-other 0 n (atom_place a f) t (λ b u v e. h (omega arith))

  pub rest-cell : (n j : ℕ) (t : List ℤ) → atom_cells * n ≤ j → get_or (hydrogenated outside bonds m n t) j (pos 0) ≡ get_or t j (pos 0)
  unfolding hydrogenated
  rest-cell n j t h = run-other 0 n j t (λ b u v e. omega arith)

  pub hydrogenated-length : (n : ℕ) (t : List ℤ) → length (hydrogenated outside bonds m n t) ≡ length t
  unfolding hydrogenated
  hydrogenated-length n t = run_length 0 n t
