-- A redrawing of bare molecules can be chosen to carry those that go onto those that go: each plain hydrogen onto the one of its rank among those of its neighbour. Assumes nothing.
use mathlib.Core.Path.{◌≡◌, refl, sym, ap, ◌∙◌}
use mathlib.Core.Bool.{Bool, true, false, ◌&&◌, not}
use Prim.Native.Nat.{ℕ, ◌+◌, ◌<◌}
use native.Mathlib.Omega.{arith}
use lib.Dec.{eqb, ltb}
use lib.IntN.{pos}
use borrow.Author.Tests.{eqb-true, eq-eqb, ne_eqb}
use Rattle.loops.specs.Loop.{pick, up_to, how_many}
use Rattle.loops.proofs.Loops.{and_left, and_right, up_to-at}
use Rattle.table.specs.Limits.{ELEMENT, EXTENSION}
use Rattle.table.specs.Cells.{number, atom_cell, hydrogens}
use Rattle.matching.proofs.Graph.{never}
use Rattle.same_model.specs.Same.{Molecule, image}
use Rattle.same_model.specs.Redrawing.{Redrawing, settled_sum, joined}
use Rattle.same_model.proofs.Onto.{made}
use Rattle.same_model.proofs.Cells.{Alike, cells-alike}
use Rattle.folding.specs.Folding.{is_cell, neighbour, plain_hydrogen, goes, Complete}
use Rattle.folding.proofs.Ranks.{rank_less, rank-one, nth, Nth, nth-at}
use Rattle.folding.proofs.Neighbours.{order-turned, neighbour-below, lone-joined}
use Rattle.folding.proofs.Plain.{Plain, plain-facts, heavy-plain}
use Rattle.folding.proofs.Ranked.{hydrogen_of, goes-rank}
use Rattle.redrawing.proofs.Carried.{plain-settled, carried-below, carried-cells, carried-eqb, plain_carried, hydrogens-carried}

-- no extensions
pub record Bare (x : Molecule) : Type 0 where
  pub complete : Complete x
  pub none : (a : ℕ) → a < x.n → atom_cell x.atoms a EXTENSION ≡ pos 0

module _ {x y : Molecule} (w : Redrawing x y) (bx : Bare x) (by : Bare y) where
  abbrev c : Complete x
  c = bx.complete

  abbrev d : Complete y
  d = by.complete

  abbrev t : ℕ → ℕ
  t a = image w.renumbering a

  abbrev px : ℕ → Bool
  px a = plain_hydrogen x.atoms x.bonds x.m a

  abbrev py : ℕ → Bool
  py b = plain_hydrogen y.atoms y.bonds y.m b

  abbrev nx : ℕ → ℕ
  nx a = neighbour x.bonds x.m a

  abbrev ny : ℕ → ℕ
  ny b = neighbour y.bonds y.m b

  -- the plain hydrogen of the same rank
  abbrev mate : ℕ → ℕ
  mate a = nth (hydrogen_of y (t (nx a))) y.n (how_many (hydrogen_of x (nx a)) 0 a)

  -- the new renumbering
  u : ℕ → ℕ
  u a = pick (px a) (mate a) (t a)

  plain-u : (a : ℕ) → px a ≡ true → u a ≡ mate a
  unfolding u
  plain-u a h = rw h

  other-u : (a : ℕ) → px a ≡ false → u a ≡ t a
  unfolding u
  other-u a h = rw h

  -- ---- a plain hydrogen and its mate
  module _ (a : ℕ) (l : a < x.n) (h : px a ≡ true) where
    facts : Plain x.atoms x.bonds x.m a
    facts = plain-facts x.atoms x.bonds x.m a h

    near : nx a < x.n
    near = neighbour-below x c.valid a facts.degree

    own : hydrogen_of x (nx a) a ≡ true
    own = rw (h, eq-eqb (nx a) (nx a) refl)

    found : Nth (hydrogen_of y (t (nx a))) y.n (how_many (hydrogen_of x (nx a)) 0 a)
    found =
        nth-at (hydrogen_of y (t (nx a))) y.n (how_many (hydrogen_of x (nx a)) 0 a)
        (let p = rank_less (hydrogen_of x (nx a)) a x.n own l in let q = hydrogens-carried w c d (nx a) near in omega arith)

    mate-below : u a < y.n
    mate-below = rw (plain-u a h) found.below

    mate-plain : py (u a) ≡ true
    mate-plain = rw (plain-u a h) (and_left (py (mate a)) (eqb (ny (mate a)) (t (nx a))) found.passes)

    mate-near : ny (u a) ≡ t (nx a)
    mate-near = rw (plain-u a h) (eqb-true (ny (mate a)) (t (nx a)) (and_right (py (mate a)) (eqb (ny (mate a)) (t (nx a))) found.passes))

    mate-rank : how_many (hydrogen_of y (t (nx a))) 0 (u a) ≡ how_many (hydrogen_of x (nx a)) 0 a
    mate-rank = rw (plain-u a h) found.ranked

    mate-facts : Plain y.atoms y.bonds y.m (u a)
    mate-facts = plain-facts y.atoms y.bonds y.m (u a) mate-plain

  -- any other goes where it went, and is no plain hydrogen there
  other-plain : (a : ℕ) → a < x.n → px a ≡ false → py (u a) ≡ false
  other-plain a l h = ap py (other-u a h) ∙ sym (plain_carried w c d a l) ∙ h

  -- ---- the renumbering
  u-below : (a : ℕ) → a < x.n → u a < y.n
  u-below a l = go (px a) refl
    where
      go : (z : Bool) → px a ≡ z → u a < y.n
      go true h = mate-below a l h
      go false h = rw (other-u a h) (carried-below w c d a l)

  u-one : (a b : ℕ) → a < x.n → b < x.n → u a ≡ u b → a ≡ b
  u-one a b l k e = go (px a) refl (px b) refl
    where
      go : (y' : Bool) → px a ≡ y' → (z : Bool) → px b ≡ z → a ≡ b
      go true h true g =
          let p : nx a ≡ nx b = w.renumbers.one (nx a) (nx b) (near a l h) (near b k g) (sym (mate-near a l h) ∙ ap ny e ∙ mate-near b k g) in
          let q : hydrogen_of x (nx a) b ≡ true = rw (g, p, eq-eqb (nx b) (nx b) refl) in
          let s : how_many (hydrogen_of x (nx a)) 0 b ≡ how_many (hydrogen_of y (t (nx a))) 0 (u b) = rw p (sym (mate-rank b k g)) in
          rank-one (hydrogen_of x (nx a)) a b (own a l h) q (sym (mate-rank a l h) ∙ ap (how_many (hydrogen_of y (t (nx a))) 0) e ∙ sym s)
      go true h false g = absurd (never (py (u b)) (ap py (sym e) ∙ mate-plain a l h) (other-plain b k g))
      go false h true g = absurd (never (py (u a)) (ap py e ∙ mate-plain b k g) (other-plain a l h))
      go false h false g = w.renumbers.one a b l k (sym (other-u a h) ∙ e ∙ other-u b g)

  -- ---- cells
  u-cells : (a : ℕ) → a < x.n → Alike x y a (u a)
  u-cells a l = go (px a) refl
    where
      go : (z : Bool) → px a ≡ z → Alike x y a (u a)
      go true h =
          let p = facts a l h in
          let q = mate-facts a l h in
          record {
            element = p.element ∙ sym q.element;
            isotope = p.isotope ∙ sym q.isotope;
            hydrogens = p.hydrogens ∙ sym q.hydrogens;
            charge = p.charge ∙ sym q.charge;
            extension = bx.none a l ∙ sym (by.none (u a) (mate-below a l h));
          }
      go false h = rw (other-u a h) (carried-cells w c d a l)

  -- ---- which atoms are joined
  heavy-not : (z : Molecule) (p b : ℕ) → is_cell z.atoms p ELEMENT 1 ≡ false → plain_hydrogen z.atoms z.bonds z.m b ≡ true → eqb p b ≡ false
  heavy-not z p b h k = ne_eqb p b (λ e. never (plain_hydrogen z.atoms z.bonds z.m b) k (ap (plain_hydrogen z.atoms z.bonds z.m) (sym e) ∙ heavy-plain z.atoms z.bonds z.m p h))

  plain-joined : (a b : ℕ) → a < x.n → b < x.n → px a ≡ true → joined x a b ≡ joined y (u a) (u b)
  plain-joined a b l k h =
      let p = facts a l h in
      let q = mate-facts a l h in
      lone-joined x c.valid a p.degree p.sum b k
      ∙ go (px b) refl
      ∙ ap (λ (i : ℕ). eqb i (u b)) (sym (mate-near a l h))
      ∙ sym (lone-joined y d.valid (u a) q.degree q.sum (u b) (u-below b k))
    where
      go : (z : Bool) → px b ≡ z → eqb (nx a) b ≡ eqb (t (nx a)) (u b)
      go true g =
          heavy-not x (nx a) b (facts a l h).heavy g
          ∙ sym (heavy-not y (t (nx a)) (u b) (ap (λ (i : ℕ). is_cell y.atoms i ELEMENT 1) (sym (mate-near a l h)) ∙ (mate-facts a l h).heavy) (mate-plain b k g))
      go false g = sym (ap (eqb (t (nx a))) (other-u b g) ∙ carried-eqb w c d (nx a) b (near a l h) k)

  turned : (z : Molecule) (a b : ℕ) → joined z a b ≡ joined z b a
  turned z a b = ap (λ (o : ℕ). not (eqb o 0)) (order-turned z a b)

  u-joined : (a b : ℕ) → a < x.n → b < x.n → joined x a b ≡ joined y (u a) (u b)
  u-joined a b l k = go (px a) refl (px b) refl
    where
      go : (y' : Bool) → px a ≡ y' → (z : Bool) → px b ≡ z → joined x a b ≡ joined y (u a) (u b)
      go true h z g = plain-joined a b l k h
      go false h true g = turned x a b ∙ plain-joined b a k l g ∙ turned y (u b) (u a)
      go false h false g = rw (other-u a h, other-u b g) (w.bonds a b l k)

  -- ---- settled sums
  u-sums : (a : ℕ) → a < x.n → settled_sum x a ≡ settled_sum y (u a)
  u-sums a l = go (px a) refl
    where
      go : (z : Bool) → px a ≡ z → settled_sum x a ≡ settled_sum y (u a)
      go true h =
          let p = facts a l h in
          let q = mate-facts a l h in
          plain-settled x c.valid a l p.element ∙ p.sum ∙ sym (plain-settled y d.valid (u a) (mate-below a l h) q.element ∙ q.sum)
      go false h = rw (other-u a h) (w.sums a l)

  at : (a : ℕ) → a < x.n → image (up_to u 0 x.n) a ≡ u a
  at a l = up_to-at u x.n a 0 l

  pub matched : Redrawing x y
  matched =
      record {
        renumbering = up_to u 0 x.n;
        counts = w.counts;
        renumbers = made x.n u (λ a l. let p = u-below a l in let e : x.n ≡ y.n = w.counts in omega arith) u-one;
        cells = λ a l. rw (at a l) (cells-alike x y a (u a) (u-cells a l));
        bonds = λ a b l k. rw (at a l, at b k) (u-joined a b l k);
        sums = λ a l. rw (at a l) (u-sums a l);
      }

  -- ---- those that go are carried
  u-goes : (a : ℕ) → a < x.n → goes x a ≡ goes y (u a)
  u-goes a l = goes-rank x c a ∙ go (px a) refl ∙ sym (goes-rank y d (u a))
    where
      go : (z : Bool) → px a ≡ z → (z && ltb (hydrogens x.atoms (nx a) + how_many (hydrogen_of x (nx a)) 0 a) 9) ≡ (py (u a) && ltb (hydrogens y.atoms (ny (u a)) + how_many (hydrogen_of y (ny (u a))) 0 (u a)) 9)
      go true h =
          let e : hydrogens x.atoms (nx a) ≡ hydrogens y.atoms (t (nx a)) = ap number (carried-cells w c d (nx a) (near a l h)).hydrogens in
          let q : hydrogens x.atoms (nx a) + how_many (hydrogen_of x (nx a)) 0 a ≡ hydrogens y.atoms (t (nx a)) + how_many (hydrogen_of y (t (nx a))) 0 (u a) = let r = mate-rank a l h in omega arith in
          rw (mate-plain a l h, mate-near a l h) (ap (λ (i : ℕ). ltb i 9) q)
      go false h = rw (other-plain a l h)

  pub matched-goes : (a : ℕ) → a < x.n → goes x a ≡ goes y (image matched.renumbering a)
  unfolding matched
  matched-goes a l = rw (at a l) (u-goes a l)
