-- A renumbering keeps on which side of an atom each marked neighbour lies. Assumes nothing.
use Prim.Native.Nat.{ℕ, ◌<◌}
use native.Mathlib.Omega.{arith}
use mathlib.Core.Path.{◌≡◌, refl, sym, ap, ◌∙◌}
use mathlib.Core.Bool.{Bool, true, false, cond}
use mathlib.Core.List.{List, [], ◌∷◌, map}
use mathlib.Core.Logic.{◌↔◌}
use lib.ListN.{length}
use lib.IntN.{ℤ}
use lib.Dec.{eqb, ltb}
use borrow.Author.Tests.{eqb-true, eqb-false, eq-eqb, ne_eqb}
use Rattle.loops.specs.Loop.{pick}
use Rattle.loops.proofs.Loops.{length-up_to, up_to-at}
use Rattle.kinds.specs.Kind.{elided, mark_of, turned}
use Rattle.kinds.proofs.Kind.{turned-mark_of, turned-twice}
use Rattle.table.specs.Cells.{end1, end2, kind}
use Rattle.table.specs.Valid.{Valid}
use Rattle.table.specs.Marks.{side}
use Rattle.table.proofs.Valid.{bond-row}
use Rattle.conformation.specs.Sides.{other_end}
use Rattle.conformation.specs.Claims.{Lies, NoneMarked}
use Rattle.conformation.proofs.Claims.{Joins, forth, back, joins, not-twice}
use Rattle.writing_walk.specs.Token.{Bond, bond}
use Rattle.writing_walk.proofs.Count.{All, none, more, all-at}
use Rattle.writing_walk.proofs.Seen.{all-perm}
use Rattle.roundtrip_matchings.proofs.Chosen.{perm-sym}
use Rattle.writing.specs.Write.{walk_bond, bond_list}
use Rattle.writing.proofs.Bonds.{all-up_to}
use Rattle.roundtrip.specs.Claims.{numbered, renamed}
use Rattle.conformation_laws.specs.Claims.{Renumbers, Follows}

-- ---- what a bond of the walk says at an atom
abbrev side_in : ℕ → Bond → ℕ
side_in a x = pick (eqb x.lo a) (mark_of x.kind) (pick (eqb x.hi a) (turned (mark_of x.kind)) elided)

abbrev other_in : ℕ → Bond → ℕ
other_in a x = pick (eqb x.lo a) x.hi x.lo

side-in : (bonds : List ℤ) (a b : ℕ) → side bonds a b ≡ side_in a (walk_bond bonds b)
unfolding side
side-in bonds a b = refl

module _ {n m : ℕ} {r : List ℕ} {bonds U : List ℤ} {atoms : List ℤ} (valid : Valid atoms bonds n m) (w : Renumbers n m r bonds U) where
  -- ---- the bonds, one by one
  all-mapped : (P : Bond → Type 0) (f : Bond → Bond) (l : List Bond) → All (λ x. P (f x)) l → All P (map f l)
  all-mapped P f [] none = none
  all-mapped P f (x ∷ l) (more h a) = more h (all-mapped P f l a)

  mapped-all : (P : Bond → Type 0) (f : Bond → Bond) (l : List Bond) → All P (map f l) → All (λ x. P (f x)) l
  mapped-all P f [] none = none
  mapped-all P f (x ∷ l) (more h a) = more h (mapped-all P f l a)

  at-number : (P : Bond → Type 0) (t : List ℤ) → All P (bond_list t m) → (b : ℕ) → b < m → P (walk_bond t b)
  at-number P t h b l =
      let k : b < length (bond_list t m) = omega (arith, l, length-up_to (walk_bond t) 0 m) in
      let e : _ ≡ walk_bond t b = up_to-at (walk_bond t) m b (bond 0 0 0) l in
      rw e at (all-at P (bond 0 0 0) (bond_list t m) b h k)

  pub from-bond : (c : ℕ) → c < m → (b : ℕ) × ((b < m) × Follows r bonds U b c)
  from-bond = at-number Here U (all-perm Here w.permuted (all-mapped Here (renamed r) (bond_list bonds m) (all-up_to (λ x. Here (renamed r x)) (walk_bond bonds) 0 m (λ j a l. (j, (omega arith, refl))))))
    where
      Here : Bond → Type 0
      Here y = (b : ℕ) × ((b < m) × (y ≡ renamed r (walk_bond bonds b)))

  pub there-bond : (b : ℕ) → b < m → (c : ℕ) × ((c < m) × Follows r bonds U b c)
  there-bond = at-number (λ x. There (renamed r x)) bonds (mapped-all There (renamed r) (bond_list bonds m) (all-perm There (perm-sym w.permuted) (all-up_to There (walk_bond U) 0 m (λ j a l. (j, (omega arith, refl))))))
    where
      There : Bond → Type 0
      There y = (c : ℕ) × ((c < m) × (walk_bond U c ≡ y))

  -- no two bonds become one
  pub only-bond : (b d c : ℕ) → b < m → d < m → Follows r bonds U b c → Follows r bonds U d c → b ≡ d
  only-bond b d c l k f g = go (ltb (numbered r (end1 bonds b)) (numbered r (end2 bonds b))) (ltb (numbered r (end1 bonds d)) (numbered r (end2 bonds d))) (sym f ∙ g)
    where
      o : end1 bonds b < end2 bonds b
      o = (bond-row valid b l).order

      p : end1 bonds d < end2 bonds d
      p = (bond-row valid d k).order

      u : end2 bonds b < n
      u = (bond-row valid b l).second

      v : end2 bonds d < n
      v = (bond-row valid d k).second

      named : ℕ → Bool → Bond
      named x z = cond z (bond (numbered r (end1 bonds x)) (numbered r (end2 bonds x)) (kind bonds x)) (bond (numbered r (end2 bonds x)) (numbered r (end1 bonds x)) (turned (kind bonds x)))

      same : numbered r (end1 bonds b) ≡ numbered r (end1 bonds d) → numbered r (end2 bonds b) ≡ numbered r (end2 bonds d) → b ≡ d
      same q s = not-twice valid b d l k (w.injective (end1 bonds b) (end1 bonds d) (omega (arith, o, u)) (omega (arith, p, v)) q) (w.injective (end2 bonds b) (end2 bonds d) u v s)

      crossed : numbered r (end1 bonds b) ≡ numbered r (end2 bonds d) → numbered r (end2 bonds b) ≡ numbered r (end1 bonds d) → b ≡ d
      crossed q s = absurd (omega (arith, o, p, w.injective (end1 bonds b) (end2 bonds d) (omega (arith, o, u)) v q, w.injective (end2 bonds b) (end1 bonds d) u (omega (arith, p, v)) s))

      go : (x y : Bool) → named b x ≡ named d y → b ≡ d
      go true true e = same (ap (λ (z : Bond). z.lo) e) (ap (λ (z : Bond). z.hi) e)
      go false false e = same (ap (λ (z : Bond). z.hi) e) (ap (λ (z : Bond). z.lo) e)
      go true false e = crossed (ap (λ (z : Bond). z.lo) e) (ap (λ (z : Bond). z.hi) e)
      go false true e = crossed (ap (λ (z : Bond). z.hi) e) (ap (λ (z : Bond). z.lo) e)

  -- ---- one bond, seen from an atom
  same_test : (v a : ℕ) → v < n → a < n → eqb (numbered r v) (numbered r a) ≡ eqb v a
  same_test v a l k = go (eqb v a) refl
    where
      go : (x : Bool) → eqb v a ≡ x → eqb (numbered r v) (numbered r a) ≡ x
      go true e = eq-eqb (numbered r v) (numbered r a) (ap (numbered r) (eqb-true v a e))
      go false e = ne_eqb (numbered r v) (numbered r a) (λ q. eqb-false v a e (w.injective v a l k q))

  module _ (x : Bond) (order : x.lo < x.hi) (second : x.hi < n) (a : ℕ) (h : a < n) where
    e1 : eqb (numbered r x.lo) (numbered r a) ≡ eqb x.lo a
    e1 = same_test x.lo a (omega arith) h

    e2 : eqb (numbered r x.hi) (numbered r a) ≡ eqb x.hi a
    e2 = same_test x.hi a second h

    -- not both ends are the atom
    not-both : {A : Type 0} → eqb x.lo a ≡ true → eqb x.hi a ≡ true → A
    not-both p q = absurd (omega (arith, eqb-true x.lo a p, eqb-true x.hi a q, order))

    side-renamed : side_in (numbered r a) (renamed r x) ≡ side_in a x
    side-renamed = go (ltb (numbered r x.lo) (numbered r x.hi))
      where
        turn : (p : Bool) → eqb x.lo a ≡ p → (q : Bool) → eqb x.hi a ≡ q
            → pick q (mark_of (turned x.kind)) (pick p (turned (mark_of (turned x.kind))) elided) ≡ pick p (mark_of x.kind) (pick q (turned (mark_of x.kind)) elided)
        turn true p true q = not-both p q
        turn true p false q = ap turned (turned-mark_of x.kind) ∙ turned-twice (mark_of x.kind)
        turn false p true q = turned-mark_of x.kind
        turn false p false q = refl

        go : (z : Bool) → side_in (numbered r a) (cond z (bond (numbered r x.lo) (numbered r x.hi) x.kind) (bond (numbered r x.hi) (numbered r x.lo) (turned x.kind))) ≡ side_in a x
        go true = λ j. pick (e1 j) (mark_of x.kind) (pick (e2 j) (turned (mark_of x.kind)) elided)
        go false = (λ j. pick (e2 j) (mark_of (turned x.kind)) (pick (e1 j) (turned (mark_of (turned x.kind))) elided)) ∙ turn (eqb x.lo a) refl (eqb x.hi a) refl

    other-renamed : 0 < side_in a x → other_in (numbered r a) (renamed r x) ≡ numbered r (other_in a x)
    other-renamed s = go (ltb (numbered r x.lo) (numbered r x.hi))
      where
        same : (p : Bool) → pick p (numbered r x.hi) (numbered r x.lo) ≡ numbered r (pick p x.hi x.lo)
        same true = refl
        same false = refl

        turn : (p : Bool) → eqb x.lo a ≡ p → (q : Bool) → eqb x.hi a ≡ q → 0 < pick p (mark_of x.kind) (pick q (turned (mark_of x.kind)) elided)
            → pick q (numbered r x.lo) (numbered r x.hi) ≡ numbered r (pick p x.hi x.lo)
        turn true p true q u = not-both p q
        turn true p false q u = refl
        turn false p true q u = refl
        turn false p false q u = absurd (omega arith)

        go : (z : Bool) → other_in (numbered r a) (cond z (bond (numbered r x.lo) (numbered r x.hi) x.kind) (bond (numbered r x.hi) (numbered r x.lo) (turned x.kind))) ≡ numbered r (other_in a x)
        go true = ap (λ (p : Bool). pick p (numbered r x.hi) (numbered r x.lo)) e1 ∙ same (eqb x.lo a)
        go false = ap (λ (q : Bool). pick q (numbered r x.lo) (numbered r x.hi)) e2 ∙ turn (eqb x.lo a) refl (eqb x.hi a) refl s

  module _ (a : ℕ) (h : a < n) (b c : ℕ) (l : b < m) (f : Follows r bonds U b c) where
    side-follows : side U (numbered r a) c ≡ side bonds a b
    side-follows =
        side-in U (numbered r a) c ∙ ap (side_in (numbered r a)) f ∙ side-renamed (walk_bond bonds b) (bond-row valid b l).order (bond-row valid b l).second a h ∙ sym (side-in bonds a b)

    other-follows : 0 < side bonds a b → other_end U (numbered r a) c ≡ numbered r (other_end bonds a b)
    unfolding side
    other-follows s = ap (other_in (numbered r a)) f ∙ other-renamed (walk_bond bonds b) (bond-row valid b l).order (bond-row valid b l).second a h s

  -- ---- a marked neighbour, before and after
  -- the atom and its neighbour are atoms
  pub lies-below : {a v s : ℕ} → Lies bonds m a v s → (a < n) × (v < n)
  lies-below {a} {v} k = go (joins k)
    where
      go : Joins bonds a v k.bond → (a < n) × (v < n)
      go (forth p q) = (omega (arith, p, (bond-row valid k.bond k.used).order, (bond-row valid k.bond k.used).second), omega (arith, q, (bond-row valid k.bond k.used).second))
      go (back p q) = (omega (arith, p, (bond-row valid k.bond k.used).second), omega (arith, q, (bond-row valid k.bond k.used).order, (bond-row valid k.bond k.used).second))

  pub lies-forth : {a v s : ℕ} → Lies bonds m a v s → Lies U m (numbered r a) (numbered r v) s
  lies-forth {a} {v} {s} k =
      let t = there-bond k.bond k.used in
      let l = (lies-below k).0 in
      record {
        bond = t.0;
        used = t.1.0;
        neighbour = other-follows a l k.bond t.0 k.used t.1.1 (omega (arith, k.placed, k.marked)) ∙ ap (numbered r) k.neighbour;
        placed = side-follows a l k.bond t.0 k.used t.1.1 ∙ k.placed;
        marked = k.marked;
      }

  pub record Source (a x s : ℕ) : Type 0 where
    pub atom : ℕ
    pub below : atom < n
    pub number : numbered r atom ≡ x
    pub lies : Lies bonds m a atom s

  pub lies-source : {a x s : ℕ} → a < n → Lies U m (numbered r a) x s → Source a x s
  lies-source {a} {x} {s} h k =
      let t = from-bond k.bond k.used in
      let e : side bonds a t.0 ≡ s = sym (side-follows a h t.0 k.bond t.1.0 t.1.1) ∙ k.placed in
      let o : Lies bonds m a (other_end bonds a t.0) s = record { bond = t.0; used = t.1.0; neighbour = refl; placed = e; marked = k.marked } in
      record {
        atom = other_end bonds a t.0;
        below = (lies-below o).1;
        number = sym (other-follows a h t.0 k.bond t.1.0 t.1.1 (omega (arith, e, k.marked))) ∙ k.neighbour;
        lies = o;
      }

  -- THE STATEMENT: a marked neighbour lies on the same side after as before
  pub lies-kept : (a v s : ℕ) → a < n → v < n → Lies bonds m a v s ↔ Lies U m (numbered r a) (numbered r v) s
  lies-kept a v s h l = (lies-forth, λ k. (let o = lies-source h k in let e : o.atom ≡ v = w.injective o.atom v o.below l o.number in rw e at o.lies))

  pub none_kept : {a : ℕ} → a < n → NoneMarked bonds m a → NoneMarked U m (numbered r a)
  none_kept h u x s k = let o = lies-source h k in u o.atom s o.lies
