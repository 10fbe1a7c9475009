-- The key of a copy is the key of the tables. Assumes nothing.
use Prim.Native.Nat.{ℕ}
use mathlib.Core.Path.{◌≡◌, sym, ap, ◌∙◌, subst}
use mathlib.Core.List.{List}
use lib.IntN.{ℤ}
use Rattle.table.specs.Valid.{Valid}
use Rattle.same_model.specs.Same.{Molecule, molecule}
use Rattle.folding.specs.Folding.{folded, Complete}
use Rattle.folding.proofs.Claims.{folded-complete}
use Rattle.drawing_key.specs.Key.{key_of}

module _ {a b a0 b0 : List ℤ} {n m : ℕ} (p : a ≡ a0) (q : b ≡ b0) (c : Complete (molecule a0 b0 n m)) where
  same : molecule a b n m ≡ molecule a0 b0 n m
  same = ap (λ (t : List ℤ). molecule t b n m) p ∙ ap (λ (t : List ℤ). molecule a0 t n m) q

  -- a copy is as complete as the tables
  pub copy-complete : Complete (molecule a b n m)
  copy-complete = subst Complete (sym same) c

  -- a folded copy is valid, and has the key of the folded molecule
  module _ {z : Molecule} (e : z ≡ folded (molecule a b n m)) where
    folded-same : z ≡ folded (molecule a0 b0 n m)
    folded-same = e ∙ ap folded same

    pub copy-valid : Valid z.atoms z.bonds z.n z.m
    copy-valid = subst (λ (z : Molecule). Valid z.atoms z.bonds z.n z.m) (sym folded-same) (folded-complete (molecule a0 b0 n m) c).valid

    pub copy_key : {k : ℕ} → k ≡ key_of z → k ≡ key_of (folded (molecule a0 b0 n m))
    copy_key h = h ∙ ap key_of folded-same
