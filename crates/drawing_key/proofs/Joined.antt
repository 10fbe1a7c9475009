-- Sums over the atoms that an atom is joined to. Assumes nothing.
use mathlib.Core.Path.{◌≡◌, sym, ap, ◌∙◌}
use Prim.Native.Nat.{ℕ, ◌<◌}
use Rattle.loops.specs.Loop.{pick}
use Rattle.same_model.specs.Same.{Molecule}
use Rattle.same_model.specs.Redrawing.{joined}
use Rattle.same_model.proofs.Totals.{total, run-total, total-same}
use Rattle.drawing_key.specs.Key.{joined_sum}

module _ (x : Molecule) where
  pub joined-sum : (f : ℕ → ℕ) (a : ℕ) → joined_sum x f a ≡ total (λ b. pick (joined x a b) (f b) 0) x.n
  unfolding joined_sum
  joined-sum f a = run-total (λ b. pick (joined x a b) (f b) 0) x.n

  -- only what stands at the atoms counts
  pub joined-agree : (f g : ℕ → ℕ) → ((b : ℕ) → b < x.n → f b ≡ g b) → (a : ℕ) → joined_sum x f a ≡ joined_sum x g a
  joined-agree f g h a =
      joined-sum f a
      ∙ total-same (λ b. pick (joined x a b) (f b) 0) (λ b. pick (joined x a b) (g b) 0) x.n (λ b l. ap (λ (s : ℕ). pick (joined x a b) s 0) (h b l))
      ∙ sym (joined-sum g a)
