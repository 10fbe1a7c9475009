-- Writing what was read gives the same bytes, and the renumbering is the identity. Assumes nothing.
use mathlib.Core.Path.{◌≡◌, refl, sym, ap, ◌∙◌, subst}
use mathlib.Core.Bool.{Bool, false, ◌&&◌}
use mathlib.Core.List.{List, [], ◌∷◌, ◌++◌, map}
use Prim.Native.Nat.{ℕ, zero, suc, ◌+◌, ◌<◌, ◌≤◌}
use native.Mathlib.Omega.{arith}
use lib.Dec.{eqb}
use lib.ListN.{get_or}
use lib.IntN.{ℤ, pos, negsuc}
use Rattle.loops.specs.Loop.{pick, up_to}
use Rattle.element.specs.Lookup.{bare}
use Rattle.valence.specs.Valence.{implied}
use Rattle.table_graph.specs.Graph.{bond_sum}
use Rattle.table.specs.Limits.{atom_cells, ELEMENT, SELECTED, ISOTOPE, HYDROGENS, CHARGE, EXTENSION, MARK}
use Rattle.table.specs.Cells.{number, atom_cell, mark}
use Rattle.table.specs.Orders.{turned_mark}
use Rattle.table.specs.Valid.{Valid}
use Rattle.writing_walk.specs.Token.{Bond, Tok, apart, along, ring, branch, back}
use Rattle.writing_walk.specs.Emit.{pre}
use Rattle.writing_walk.specs.Walk.{forest_of, place, write}
use Rattle.writing_walk.proofs.Count.{All, none, more}
use Rattle.writing_walk.proofs.Walk.{range}
use Rattle.writing_walk.proofs.Trip.{completed}
use Rattle.writing_walk.proofs.Twice.{completed-inside, order-again, place_same, write_again}
use Rattle.writing_walk.proofs.Natural.{on_tok, write-natural}
use Rattle.writing_walk.proofs.Made.{Made, written-made}
use Rattle.writing_walk.proofs.Order.{atom-below, place-atom}
use Rattle.writing.specs.Spell.{isotope_bytes, symbol_bytes, mark_bytes, hydrogen_bytes, charge_bytes, extension_bytes, bracket_bytes, atom_bytes, kind_bytes, bridge_bytes, rest_bytes, tokens_bytes, without_brackets, spelled_atom}
use Rattle.writing.specs.Write.{bond_list, tokens, written_rank, marks_written, text_of, renumbering}
use Rattle.writing.proofs.Bonds.{inside}
use Rattle.writing.proofs.Marks.{spelled-but, written-but, written-mark}
use Rattle.roundtrip.proofs.Bonds.{distinct}
use Rattle.roundtrip.proofs.Back.{map_same, Molecule, ren, sum_same, cell-here}

-- ---- an atom's bytes depend on its cells, on the mark that is written and on its bond sum
abbrev zero? : ℤ → Bool
zero? (pos n) = eqb n 0
zero? (negsuc n) = false

abbrev bytes_by : ℤ → ℤ → ℤ → ℤ → ℤ → ℤ → ℕ → ℕ → List ℕ
bytes_by e s i h c x k sum =
    pick (eqb (number i) 0 && zero? c && eqb (number x) 0 && eqb k 0 && bare (number e) && eqb (implied (number e) (number s) sum) (number h))
    (symbol_bytes (number e) (number s))
    (91 ∷ (isotope_bytes (number i) ++ (symbol_bytes (number e) (number s) ++ (mark_bytes k ++ (hydrogen_bytes (number h) ++ (charge_bytes c ++ (extension_bytes (number x) ++ 93 ∷ [])))))))

by-cells : (atoms : List ℤ) (a k sum : ℕ) → spelled_atom atoms a k sum ≡ bytes_by (atom_cell atoms a ELEMENT) (atom_cell atoms a SELECTED) (atom_cell atoms a ISOTOPE) (atom_cell atoms a HYDROGENS) (atom_cell atoms a CHARGE) (atom_cell atoms a EXTENSION) k sum
unfolding spelled_atom without_brackets bracket_bytes
by-cells atoms a k sum = refl

-- ---- the bytes of tokens depend on the bytes of their atoms
rest-map : (f : ℕ → List ℕ) (g : ℕ → ℕ) (ts : List Tok) → rest_bytes f (map (on_tok g) ts) ≡ rest_bytes (λ a. f (g a)) ts
unfolding rest_bytes
rest-map f g [] = refl
rest-map f g (apart w ∷ ts) = ap (λ (l : List ℕ). 46 ∷ (f (g w) ++ l)) (rest-map f g ts)
rest-map f g (along k w ∷ ts) = ap (λ (l : List ℕ). (kind_bytes k ++ f (g w)) ++ l) (rest-map f g ts)
rest-map f g (ring k r ∷ ts) = ap (λ (l : List ℕ). (kind_bytes k ++ bridge_bytes r) ++ l) (rest-map f g ts)
rest-map f g (branch ∷ ts) = ap (λ (l : List ℕ). 40 ∷ l) (rest-map f g ts)
rest-map f g (back ∷ ts) = ap (λ (l : List ℕ). 41 ∷ l) (rest-map f g ts)

bytes-map : (f : ℕ → List ℕ) (g : ℕ → ℕ) (ts : List Tok) → tokens_bytes f (map (on_tok g) ts) ≡ tokens_bytes (λ a. f (g a)) ts
unfolding tokens_bytes
bytes-map f g [] = refl
bytes-map f g (apart w ∷ ts) = ap (λ (l : List ℕ). f (g w) ++ l) (rest-map f g ts)
bytes-map f g (along k w ∷ ts) = rest-map f g (along k w ∷ ts)
bytes-map f g (ring k r ∷ ts) = rest-map f g (ring k r ∷ ts)
bytes-map f g (branch ∷ ts) = rest-map f g (branch ∷ ts)
bytes-map f g (back ∷ ts) = rest-map f g (back ∷ ts)

abbrev Atom< : ℕ → Tok → Type 0
Atom< n = Made (λ v. v < n) (λ k. Unit {0})

module _ (n : ℕ) (f g : ℕ → List ℕ) (same : (a : ℕ) → a < n → f a ≡ g a) where
  rest-same : (ts : List Tok) → All (Atom< n) ts → rest_bytes f ts ≡ rest_bytes g ts
  unfolding rest_bytes
  rest-same [] none = refl
  rest-same (apart w ∷ ts) (more h a) = λ i. 46 ∷ (same w h i ++ rest-same ts a i)
  rest-same (along k w ∷ ts) (more h a) = λ i. (kind_bytes k ++ same w h.1 i) ++ rest-same ts a i
  rest-same (ring k r ∷ ts) (more h a) = λ i. (kind_bytes k ++ bridge_bytes r) ++ rest-same ts a i
  rest-same (branch ∷ ts) (more h a) = λ i. 40 ∷ rest-same ts a i
  rest-same (back ∷ ts) (more h a) = λ i. 41 ∷ rest-same ts a i

  bytes_same : (ts : List Tok) → All (Atom< n) ts → tokens_bytes f ts ≡ tokens_bytes g ts
  unfolding tokens_bytes
  bytes_same [] a = refl
  bytes_same (apart w ∷ ts) (more h a) = λ i. same w h i ++ rest-same ts a i
  bytes_same (along k w ∷ ts) a = rest-same (along k w ∷ ts) a
  bytes_same (ring k r ∷ ts) a = rest-same (ring k r ∷ ts) a
  bytes_same (branch ∷ ts) a = rest-same (branch ∷ ts) a
  bytes_same (back ∷ ts) a = rest-same (back ∷ ts) a

all-unit : (l : List Bond) → All (λ b. Unit {0}) l
all-unit [] = none
all-unit (b ∷ l) = more tt (all-unit l)

up_to-same : (f g : ℕ → ℕ) (k m : ℕ) → ((j : ℕ) → k ≤ j → j < k + m → f j ≡ g j) → up_to f k m ≡ up_to g k m
unfolding up_to
up_to-same f g k zero h = refl
up_to-same f g k (suc m) h = λ i. h k (omega arith) (omega arith) i ∷ up_to-same f g (suc k) m (λ j a b. h j (omega arith) (omega arith)) i

module _ (atoms bonds : List ℤ) (n m : ℕ) (v : Valid atoms bonds n m) {T U : List ℤ} {p q : ℕ} (M : Molecule atoms bonds n m T U p q) where
  abbrev pub bs : List Bond
  bs = bond_list bonds m

  abbrev pub walked : List ℕ
  walked = pre (forest_of n bs)

  sum-here : (a : ℕ) → a < n → bond_sum U m a ≡ bond_sum bonds m (get_or walked a 0)
  sum-here a l =
      let w = get_or walked a 0 in
      let r = ren atoms bonds n m v in
      subst (λ (x : ℕ). bond_sum U m x ≡ bond_sum bonds m w) (place-atom r a l) (sum_same atoms bonds n m v U M.listed w (atom-below r a l))

  -- the atoms as they are written the first time, and again
  abbrev W : List ℤ
  W = marks_written atoms bonds n m

  abbrev again : List ℤ
  again = marks_written T U n m

  mark-here : (a : ℕ) → a < n → mark again a ≡ mark W (get_or walked a 0)
  mark-here a l =
      let w = get_or walked a 0 in
      let r = ren atoms bonds n m v in
      written-mark T U n m a l ∙ subst (λ (x : ℕ). turned_mark (written_rank U n m) T U m x ≡ mark W w) (place-atom r a l) (M.rewritten w (atom-below r a l))

  atom-again : (a : ℕ) → a < n → atom_bytes again U m a ≡ atom_bytes W bonds m (get_or walked a 0)
  atom-again a l =
      let w = get_or walked a 0 in
      let at : (f : ℕ) → f < atom_cells → (f ≡ MARK → ⊥) → atom_cell T a f ≡ atom_cell atoms w f = cell-here atoms bonds n m v M a l in
      let e = at ELEMENT (omega arith) (λ q. omega arith) in
      let s = at SELECTED (omega arith) (λ q. omega arith) in
      let i = at ISOTOPE (omega arith) (λ q. omega arith) in
      let h = at HYDROGENS (omega arith) (λ q. omega arith) in
      let c = at CHARGE (omega arith) (λ q. omega arith) in
      let x = at EXTENSION (omega arith) (λ q. omega arith) in
      let k = mark-here a l in
      let b = sum-here a l in
      spelled-but (written-but T U n m) a (mark again a) (bond_sum U m a)
      ∙ by-cells T a (mark again a) (bond_sum U m a) ∙ (λ j. bytes_by (e j) (s j) (i j) (h j) (c j) (x j) (k j) (b j)) ∙ sym (by-cells atoms w (mark W w) (bond_sum bonds m w))
      ∙ sym (spelled-but (written-but atoms bonds n m) w (mark W w) (bond_sum bonds m w))

  -- the tokens of what is read are those of what was written, but for the numbers of the atoms
  abbrev pub walk_atom : ℕ → ℕ
  walk_atom a = get_or (map (λ a. a) walked) a 0

  pub tokens-again : map (on_tok walk_atom) (tokens U n m) ≡ tokens bonds n m
  unfolding tokens
  tokens-again =
      ap (λ (l : List Bond). map (on_tok walk_atom) (write n (λ a. a) l)) M.listed
      ∙ sym (write-natural n walk_atom (completed n bs)) ∙ write_again n (λ a. a) bs (inside v) (distinct v)

  small : All (Atom< n) (tokens U n m)
  unfolding tokens
  small =
      subst (λ (l : List Bond). All (Atom< n) (write n (λ a. a) l)) (sym M.listed)
      (written-made (λ w. w < n) (λ k. Unit {0}) tt (λ k u. tt) n (λ a. a) (completed n bs) (completed-inside n bs (inside v)) (λ w l. l) (all-unit (completed n bs)))

  -- THE TEXT AGAIN
  pub text-again : text_of T U n m ≡ text_of atoms bonds n m
  unfolding text_of
  text-again =
      let f = atom_bytes W bonds m in
      bytes_same n (atom_bytes again U m) (λ a. f (walk_atom a)) (λ a l. atom-again a l ∙ ap (λ (x : List ℕ). f (get_or x a 0)) (sym (map_same walked))) (tokens U n m) small
      ∙ sym (bytes-map f walk_atom (tokens U n m))
      ∙ ap (tokens_bytes f) tokens-again

  -- THE RENUMBERING AGAIN
  pub identity-again : renumbering U n m ≡ up_to (λ a. a) 0 n
  unfolding renumbering
  identity-again =
      ap (λ (l : List Bond). up_to (place (pre (forest_of n l))) 0 n) M.listed
      ∙ ap (λ (l : List ℕ). up_to (place l) 0 n) (order-again n bs (inside v))
      ∙ up_to-same (place (range 0 n)) (λ a. a) 0 n (λ a k l. place_same n a (omega arith))
