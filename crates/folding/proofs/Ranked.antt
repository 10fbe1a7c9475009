-- Which plain hydrogens of an atom go: the first ones, as many as bring it to 9. Assumes nothing.
use mathlib.Core.Path.{◌≡◌, refl, ap, ◌∙◌}
use mathlib.Core.Bool.{Bool, true, false, ◌&&◌}
use Prim.Native.Nat.{ℕ, zero, suc, ◌+◌, ◌<◌, min}
use native.Mathlib.Omega.{arith}
use lib.Dec.{eqb, ltb}
use borrow.Author.Tests.{eqb-true, lt-ltb, le-ltb, ltb-true, ltb-false}
use Rattle.loops.specs.Loop.{pick, how_many}
use Rattle.table.specs.Cells.{hydrogens}
use Rattle.table.proofs.Valid.{hydrogens-small}
use Rattle.same_model.specs.Same.{Molecule}
use Rattle.same_model.proofs.Totals.{total}
use Rattle.folding.specs.Folding.{neighbour, plain_hydrogen, folded_to, goes, Complete}
use Rattle.folding.proofs.Ranks.{rank-none, rank-more}
use Rattle.folding.proofs.Neighbours.{neighbour-below}
use Rattle.folding.proofs.Plain.{plain-facts, gained, to-count, goes-when}

-- the atom j is a plain hydrogen, and its neighbour is p
abbrev pub hydrogen_of : Molecule → ℕ → ℕ → Bool
hydrogen_of x p j = plain_hydrogen x.atoms x.bonds x.m j && eqb (neighbour x.bonds x.m j) p

module _ (x : Molecule) (c : Complete x) where
  abbrev nb : ℕ → ℕ
  nb a = neighbour x.bonds x.m a

  abbrev plain : ℕ → Bool
  plain a = plain_hydrogen x.atoms x.bonds x.m a

  -- what the atom p has gained before the turn of j
  gained-so-far : (p j : ℕ) → p < x.n → hydrogens x.atoms p + total (gained x p) j ≡ min 9 (hydrogens x.atoms p + how_many (hydrogen_of x p) 0 j)
  unfolding total
  gained-so-far p zero l = let h = hydrogens-small c.valid p l in let e = rank-none (hydrogen_of x p) in omega arith
  gained-so-far p (suc j) l = go (plain j) refl (eqb (nb j) p) refl (gained-so-far p j l)
    where
      h : ℕ
      h = hydrogens x.atoms p

      done : ℕ
      done = total (gained x p) j

      ready : ℕ
      ready = how_many (hydrogen_of x p) 0 j

      more : (z : Bool) → hydrogen_of x p j ≡ z → how_many (hydrogen_of x p) 0 (suc j) ≡ ready + pick z 1 0
      more z e = rank-more (hydrogen_of x p) j ∙ ap (λ (z : Bool). ready + pick z 1 0) e

      went : (z : Bool) → (goes x j && eqb (nb j) p) ≡ z → gained x p j ≡ pick z 1 0
      went z e = ap (λ (z : Bool). pick z 1 0) e

      go : (y : Bool) → plain j ≡ y → (z : Bool) → eqb (nb j) p ≡ z → h + done ≡ min 9 (h + ready) → h + (done + gained x p j) ≡ min 9 (h + how_many (hydrogen_of x p) 0 (suc j))
      go true e true f ih = part (ltb (hydrogens (folded_to x j) (nb j)) 9) refl
        where
          now : hydrogens (folded_to x j) (nb j) ≡ h + done
          now = ap (hydrogens (folded_to x j)) (eqb-true (nb j) p f) ∙ to-count x c j p l

          part : (u : Bool) → ltb (hydrogens (folded_to x j) (nb j)) 9 ≡ u → h + (done + gained x p j) ≡ min 9 (h + how_many (hydrogen_of x p) 0 (suc j))
          part true q =
              let r = ltb-true (hydrogens (folded_to x j) (nb j)) 9 q in
              let g : goes x j ≡ true = goes-when x j ∙ rw (e, q) in
              omega (arith, now, more true (rw (e, f)), went true (rw (g, f)))
          part false q =
              let r = ltb-false (hydrogens (folded_to x j) (nb j)) 9 q in
              let g : goes x j ≡ false = goes-when x j ∙ rw (e, q) in
              omega (arith, now, more true (rw (e, f)), went false (rw g))
      go true e false f ih = omega (arith, more false (rw (e, f)), went false (none (goes x j)))
        where
          none : (u : Bool) → (u && eqb (nb j) p) ≡ false
          none true = f
          none false = refl
      go false e z f ih = let g : goes x j ≡ false = goes-when x j ∙ rw e in omega (arith, more false (rw e), went false (rw g))

  -- who goes, by the rank among the plain hydrogens of its neighbour
  pub goes-rank : (j : ℕ) → goes x j ≡ (plain j && ltb (hydrogens x.atoms (nb j) + how_many (hydrogen_of x (nb j)) 0 j) 9)
  goes-rank j = goes-when x j ∙ go (plain j) refl
    where
      go : (y : Bool) → plain j ≡ y → (y && ltb (hydrogens (folded_to x j) (nb j)) 9) ≡ (y && ltb (hydrogens x.atoms (nb j) + how_many (hydrogen_of x (nb j)) 0 j) 9)
      go false e = refl
      go true e = part (ltb (hydrogens x.atoms (nb j) + how_many (hydrogen_of x (nb j)) 0 j) 9) refl
        where
          l : nb j < x.n
          l = neighbour-below x c.valid j (plain-facts x.atoms x.bonds x.m j e).degree

          part : (u : Bool) → ltb (hydrogens x.atoms (nb j) + how_many (hydrogen_of x (nb j)) 0 j) 9 ≡ u → ltb (hydrogens (folded_to x j) (nb j)) 9 ≡ u
          part true q =
              let r = ltb-true (hydrogens x.atoms (nb j) + how_many (hydrogen_of x (nb j)) 0 j) 9 q in
              lt-ltb (hydrogens (folded_to x j) (nb j)) 9 (omega (arith, to-count x c j (nb j) l, gained-so-far (nb j) j l))
          part false q =
              let r = ltb-false (hydrogens x.atoms (nb j) + how_many (hydrogen_of x (nb j)) 0 j) 9 q in
              le-ltb (hydrogens (folded_to x j) (nb j)) 9 (omega (arith, to-count x c j (nb j) l, gained-so-far (nb j) j l))
