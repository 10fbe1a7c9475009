-- What a reading of tokens holds, in the arrays and tables of a reading of bytes: bridges, branches, atoms and bonds. Assumes nothing.
use mathlib.Core.Path.{◌≡◌, refl, sym, ap, ◌∙◌, subst}
use mathlib.Core.Bool.{Bool, true, false}
use mathlib.Core.Logic.{inl, inr}
use mathlib.Core.List.{List, [], ◌∷◌, ◌++◌}
use Prim.Native.Nat.{ℕ, zero, suc, ◌+◌, ◌*◌, ◌<◌, ◌≤◌}
use native.Mathlib.Omega.{arith}
use lib.Dec.{eqb}
use lib.ListN.{length, get_or, set, length-set, length-append, get_or-append}
use lib.Seq.{get_or-set_same, get_or-set_other, get_or_at}
use lib.IntN.{ℤ, pos}
use borrow.Author.Tests.{eqb-true, eqb-false}
use Rattle.table.specs.declared.Atom.{Atom}
use Rattle.table.specs.declared.Bond as table
use Rattle.table.specs.Limits.{max_atoms, max_bonds, atom_cells, bond_cells}
use Rattle.table.specs.Cells.{atom_place, bond_place, atom_cell, bond_cell}
use Rattle.table.specs.Rows.{cells_of, bond_cells_of, with_atom, with_bond}
use Rattle.table.proofs.Rows.{with-atom-length, with-atom-other, with-atom-field, with-bond-length, with-bond-other, with-bond-field}
use Rattle.ids.specs.Limits.{max_depth, bridges}
use Rattle.reading.specs.Memory.{new_bond}
use Rattle.writing_walk.specs.Token.{Bond, bond}
use Rattle.writing_walk.specs.Reading.{Closure, vacant, at, closure_at, set_closure}
use Rattle.writing_walk.proofs.Count.{All, none, more, all_append}

-- ---- bridges: a place r of the walk is the number r + 1
abbrev pub opener_of : Closure → ℕ
opener_of vacant = 0
opener_of (at u j) = u + 1

abbrev pub symbol_of : Closure → ℕ
symbol_of vacant = 0
symbol_of (at u j) = j

pub record Bridging (opener symbol : List ℕ) (hs : List Closure) : Type 0 where
  pub openers : (r : ℕ) → suc r < bridges → get_or opener (suc r) 0 ≡ opener_of (closure_at hs r)
  pub symbols : (r : ℕ) → suc r < bridges → get_or symbol (suc r) 0 ≡ symbol_of (closure_at hs r)
  pub unused : get_or opener 0 0 ≡ 0
  pub opener-length : length opener ≡ bridges
  pub symbol-length : length symbol ≡ bridges

pub hook-same : (hs : List Closure) (r : ℕ) (x : Closure) → closure_at (set_closure hs r x) r ≡ x
hook-same [] zero x = refl
hook-same [] (suc r) x = hook-same [] r x
hook-same (y ∷ hs) zero x = refl
hook-same (y ∷ hs) (suc r) x = hook-same hs r x

pub hook-other : (hs : List Closure) (r q : ℕ) (x : Closure) → (q ≡ r → ⊥) → closure_at (set_closure hs r x) q ≡ closure_at hs q
hook-other [] zero zero x h = absurd (h refl)
hook-other [] zero (suc q) x h = refl
hook-other [] (suc r) zero x h = refl
hook-other [] (suc r) (suc q) x h = hook-other [] r q x (λ e. h (ap suc e))
hook-other (y ∷ hs) zero zero x h = absurd (h refl)
hook-other (y ∷ hs) zero (suc q) x h = refl
hook-other (y ∷ hs) (suc r) zero x h = refl
hook-other (y ∷ hs) (suc r) (suc q) x h = hook-other hs r q x (λ e. h (ap suc e))

set_at : (f : Closure → ℕ) (l : List ℕ) (hs : List Closure) (r : ℕ) (x : Closure) → suc r < bridges → length l ≡ bridges → ((q : ℕ) → suc q < bridges → get_or l (suc q) 0 ≡ f (closure_at hs q)) → (q : ℕ) → suc q < bridges → get_or (set l (suc r) (f x)) (suc q) 0 ≡ f (closure_at (set_closure hs r x) q)
set_at f l hs r x h e k q g = go (eqb q r) refl
  where
    go : (y : Bool) → eqb q r ≡ y → get_or (set l (suc r) (f x)) (suc q) 0 ≡ f (closure_at (set_closure hs r x) q)
    go true y =
        subst (λ (i : ℕ). get_or (set l (suc r) (f x)) (suc i) 0 ≡ f (closure_at (set_closure hs r x) i)) (sym (eqb-true q r y))
        (get_or-set_same l (suc r) (f x) 0 (omega arith) ∙ ap f (sym (hook-same hs r x)))
    go false y =
        let z = eqb-false q r y in
        get_or-set_other l (suc r) (suc q) (f x) 0 (λ p. z (omega arith)) ∙ k q g ∙ ap f (sym (hook-other hs r q x z))

pub bridging-set : (opener symbol : List ℕ) (hs : List Closure) (r : ℕ) (x : Closure) → suc r < bridges → Bridging opener symbol hs → Bridging (set opener (suc r) (opener_of x)) (set symbol (suc r) (symbol_of x)) (set_closure hs r x)
bridging-set opener symbol hs r x h b = record {
  openers = set_at opener_of opener hs r x h b.opener-length b.openers;
  symbols = set_at symbol_of symbol hs r x h b.symbol-length b.symbols;
  unused = get_or-set_other opener (suc r) 0 (opener_of x) 0 (λ q. omega arith) ∙ b.unused;
  opener-length = length-set opener (suc r) (opener_of x) ∙ b.opener-length;
  symbol-length = length-set symbol (suc r) (symbol_of x) ∙ b.symbol-length;
}

-- ---- branches: the innermost is the last of the array
abbrev pub Stacked : List ℕ → List ℕ → Type 0
Stacked [] l = Unit {0}
Stacked (g ∷ stk) l = (get_or l (length stk) 0 ≡ g) × Stacked stk l

stacked-set : (stk l : List ℕ) (i x : ℕ) → length stk ≤ i → Stacked stk l → Stacked stk (set l i x)
stacked-set [] l i x h s = tt
stacked-set (g ∷ stk) l i x h s = (get_or-set_other l i (length stk) x 0 (λ q. omega arith) ∙ s.0, stacked-set stk l i x (omega arith) s.1)

pub record Branching (l stk : List ℕ) : Type 0 where
  pub hubs : Stacked stk l
  pub long : length l ≡ max_depth

pub branching-push : (l stk : List ℕ) (h : ℕ) → length stk < max_depth → Branching l stk → Branching (set l (length stk) h) (h ∷ stk)
branching-push l stk h g b = record {
  hubs = (get_or-set_same l (length stk) h 0 (let e = b.long in omega arith), stacked-set stk l (length stk) h (omega arith) b.hubs);
  long = length-set l (length stk) h ∙ b.long;
}

pub branching-pop : (l stk : List ℕ) (g : ℕ) → Branching l (g ∷ stk) → Branching (set l (length stk) 0) stk
branching-pop l stk g b = record { hubs = stacked-set stk l (length stk) 0 (omega arith) b.hubs.1; long = length-set l (length stk) 0 ∙ b.long }

-- ---- atoms: the row and the flag of each payload; p cells in all
pub record AtomTable (row : ℕ → Atom) (flag : ℕ → ℕ) (p : ℕ) (outside : List ℕ) (t : List ℤ) (xs : List ℕ) (n : ℕ) : Type 0 where
  pub many : length xs ≡ n
  pub flags : (a : ℕ) → a < n → get_or outside a 0 ≡ flag (get_or xs a 0)
  pub cells : (a f : ℕ) → a < n → f < atom_cells → atom_cell t a f ≡ get_or (cells_of (row (get_or xs a 0))) f (pos 0)
  pub after : (j : ℕ) → atom_cells * n ≤ j → get_or t j (pos 0) ≡ pos 0
  pub outside-length : length outside ≡ max_atoms
  pub long : length t ≡ p

module _ (row : ℕ → Atom) (flag : ℕ → ℕ) (p : ℕ) (room : atom_cells * max_atoms ≤ p) where
  pub atom-add : (outside : List ℕ) (t : List ℤ) (xs : List ℕ) (n w : ℕ) → n < max_atoms → AtomTable row flag p outside t xs n → AtomTable row flag p (set outside n (flag w)) (with_atom t n (row w)) (xs ++ (w ∷ [])) (suc n)
  atom-add outside t xs n w l h = record {
    many = length-append xs (w ∷ []) ∙ (let e = h.many in omega arith);
    flags = λ a g. flag_at a g (eqb a n) refl;
    cells = λ a f g k. cell_at a f g k (eqb a n) refl;
    after = λ j g. with-atom-other t n (row w) j (inr (omega arith)) ∙ h.after j (omega arith);
    outside-length = length-set outside n (flag w) ∙ h.outside-length;
    long = with-atom-length t n (row w) ∙ h.long;
  }
    where
      here : get_or (xs ++ (w ∷ [])) n 0 ≡ w
      here = get_or_at xs w [] 0 n h.many

      there : (a : ℕ) → a < n → get_or (xs ++ (w ∷ [])) a 0 ≡ get_or xs a 0
      there a g = get_or-append xs (w ∷ []) 0 a (let e = h.many in omega arith)

      flag_at : (a : ℕ) → a < suc n → (x : Bool) → eqb a n ≡ x → get_or (set outside n (flag w)) a 0 ≡ flag (get_or (xs ++ (w ∷ [])) a 0)
      flag_at a g true e =
          subst (λ (i : ℕ). get_or (set outside n (flag w)) i 0 ≡ flag (get_or (xs ++ (w ∷ [])) i 0)) (sym (eqb-true a n e))
          (get_or-set_same outside n (flag w) 0 (let o = h.outside-length in omega arith) ∙ ap flag (sym here))
      flag_at a g false e =
          let z = eqb-false a n e in
          get_or-set_other outside n a (flag w) 0 z ∙ h.flags a (omega arith) ∙ ap flag (sym (there a (omega arith)))

      cell_at : (a f : ℕ) → a < suc n → f < atom_cells → (x : Bool) → eqb a n ≡ x → atom_cell (with_atom t n (row w)) a f ≡ get_or (cells_of (row (get_or (xs ++ (w ∷ [])) a 0))) f (pos 0)
      cell_at a f g k true e =
          subst (λ (i : ℕ). atom_cell (with_atom t n (row w)) i f ≡ get_or (cells_of (row (get_or (xs ++ (w ∷ [])) i 0))) f (pos 0)) (sym (eqb-true a n e))
          (with-atom-field t n (row w) (let o = h.long in omega arith) f k ∙ ap (λ (v : ℕ). get_or (cells_of (row v)) f (pos 0)) (sym here))
      cell_at a f g k false e =
          let z = eqb-false a n e in
          with-atom-other t n (row w) (atom_place a f) (inl (omega arith)) ∙ h.cells a f (omega arith) k ∙ ap (λ (v : ℕ). get_or (cells_of (row v)) f (pos 0)) (sym (there a (omega arith)))

-- ---- bonds; q cells in all
abbrev pub nobond : Bond
nobond = bond 0 0 0

abbrev pub row_of_bond : Bond → table.Bond
row_of_bond b = new_bond b.lo b.hi b.kind

pub record BondTable (q : ℕ) (t : List ℤ) (bs : List Bond) : Type 0 where
  pub ordered : All (λ b. b.lo < b.hi) bs
  pub cells : (b f : ℕ) → b < length bs → f < bond_cells → bond_cell t b f ≡ get_or (bond_cells_of (row_of_bond (get_or bs b nobond))) f (pos 0)
  pub after : (j : ℕ) → bond_cells * length bs ≤ j → get_or t j (pos 0) ≡ pos 0
  pub long : length t ≡ q

module _ (q : ℕ) (room : bond_cells * max_bonds ≤ q) where
  pub bond-add : (t : List ℤ) (bs : List Bond) (x : Bond) → length bs < max_bonds → x.lo < x.hi → BondTable q t bs → BondTable q (with_bond t (length bs) (row_of_bond x)) (bs ++ (x ∷ []))
  bond-add t bs x l o h = record {
    ordered = all_append (λ b. b.lo < b.hi) bs (x ∷ []) h.ordered (more o none);
    cells = λ b f g k. cell_at b f (let e = longer in omega arith) k (eqb b (length bs)) refl;
    after = λ j g. with-bond-other t (length bs) (row_of_bond x) j (inr (let e = longer in omega arith)) ∙ h.after j (let e = longer in omega arith);
    long = with-bond-length t (length bs) (row_of_bond x) ∙ h.long;
  }
    where
      longer : length (bs ++ (x ∷ [])) ≡ suc (length bs)
      longer = length-append bs (x ∷ []) ∙ omega arith

      cell_at : (b f : ℕ) → b < suc (length bs) → f < bond_cells → (y : Bool) → eqb b (length bs) ≡ y → bond_cell (with_bond t (length bs) (row_of_bond x)) b f ≡ get_or (bond_cells_of (row_of_bond (get_or (bs ++ (x ∷ [])) b nobond))) f (pos 0)
      cell_at b f g k true e =
          subst (λ (i : ℕ). bond_cell (with_bond t (length bs) (row_of_bond x)) i f ≡ get_or (bond_cells_of (row_of_bond (get_or (bs ++ (x ∷ [])) i nobond))) f (pos 0)) (sym (eqb-true b (length bs) e))
          (with-bond-field t (length bs) (row_of_bond x) (let z = h.long in omega arith) f k ∙ ap (λ (v : Bond). get_or (bond_cells_of (row_of_bond v)) f (pos 0)) (sym (get_or_at bs x [] nobond (length bs) refl)))
      cell_at b f g k false e =
          let z = eqb-false b (length bs) e in
          with-bond-other t (length bs) (row_of_bond x) (bond_place b f) (inl (omega arith)) ∙ h.cells b f (omega arith) k
          ∙ ap (λ (v : Bond). get_or (bond_cells_of (row_of_bond v)) f (pos 0)) (sym (get_or-append bs (x ∷ []) nobond b (omega arith)))
