-- A row over the bonds of two graphs side by side is a matching exactly if its two parts are. Assumes nothing.
use Prim.Native.Nat.{ℕ, suc, ◌+◌, ◌<◌}
use native.Mathlib.Nat.{zero-add, add-zero}
use native.Mathlib.Omega.{arith}
use native.Mathlib.Decide.{ℕ_discrete, dec_lt}
use mathlib.Core.Path.{◌≡◌, refl, sym, ap, ◌∙◌}
use mathlib.Core.Bool.{Bool, true, false, ◌&&◌, ◌||◌, not}
use mathlib.Core.List.{List, [], ◌∷◌, ◌++◌, map}
use lib.ListN.{length, get_or-append}
use lib.Seq.{get_or-append-add}
use lib.Dec.{eqb, ltb}
use borrow.Author.Tests.{eq-eqb, ne_eqb, lt-ltb, le-ltb}
use Rattle.matching.specs.Enumeration.{Row}
use Rattle.mixture_rows.proofs.Parts.{and_assoc}
use Rattle.matching.specs.Graph.{Bond, flagged, induced, chosen_induced, count_if, touches, degree, each_once, is_matching}

-- a bond with both ends moved up by n
abbrev pub raised_bond : ℕ → Bond → Bond
raised_bond n b = record { end1 = n + b.end1; end2 = n + b.end2; elided = b.elided }

-- the ends of the bonds are below n
abbrev pub AllBelow : ℕ → List Bond → Type 0
AllBelow n [] = Unit {0}
AllBelow n (b ∷ bs) = ((b.end1 < n) × (b.end2 < n)) × AllBelow n bs

pub eqb-raised : (n a b : ℕ) → eqb (n + a) (n + b) ≡ eqb a b
eqb-raised n a b = split (ℕ_discrete a b)
  where
    split : Dec (a ≡ b) → eqb (n + a) (n + b) ≡ eqb a b
    split (yes e) = eq-eqb (n + a) (n + b) (ap (◌+◌ n) e) ∙ sym (eq-eqb a b e)
    split (no f) = ne_eqb (n + a) (n + b) (λ e. f (omega arith)) ∙ sym (ne_eqb a b f)

pub ltb-raised : (n a b : ℕ) → ltb (n + a) (n + b) ≡ ltb a b
ltb-raised n a b = split (dec_lt a b)
  where
    split : Dec (a < b) → ltb (n + a) (n + b) ≡ ltb a b
    split (yes l) = lt-ltb (n + a) (n + b) (omega arith) ∙ sym (lt-ltb a b l)
    split (no l) = le-ltb (n + a) (n + b) (omega arith) ∙ sym (le-ltb a b (omega arith))

and-swap : (a b c d : Bool) → ((a && b) && (c && d)) ≡ ((a && c) && (b && d))
and-swap true true c d = refl
and-swap true false true d = refl
and-swap true false false d = refl
and-swap false b c d = refl

-- ---- induced bonds
module _ (f g : List ℕ) where
  flag-first : (v : ℕ) → v < length f → flagged (f ++ g) v ≡ flagged f v
  flag-first v l = ap (λ (x : ℕ). eqb x 1) (get_or-append f g 0 v l)

  flag-second : (v : ℕ) → flagged (f ++ g) (length f + v) ≡ flagged g v
  flag-second v = ap (λ (x : ℕ). eqb x 1) (get_or-append-add f g v 0)

  induced-first : (b : Bond) → (b.end1 < length f) × (b.end2 < length f) → induced (f ++ g) b ≡ induced f b
  induced-first b l = λ i. (b.elided && flag-first b.end1 l.0 i) && flag-first b.end2 l.1 i

  induced-second : (b : Bond) → induced (f ++ g) (raised_bond (length f) b) ≡ induced g b
  induced-second b = λ i. (b.elided && flag-second b.end1 i) && flag-second b.end2 i

  chosen-second : (bs : List Bond) (s : Row) → chosen_induced (f ++ g) (map (raised_bond (length f)) bs) s ≡ chosen_induced g bs s
  unfolding chosen_induced
  chosen-second [] s = refl
  chosen-second (b ∷ bs) [] = refl
  chosen-second (b ∷ bs) (x ∷ s) = λ i. (eqb x 0 || induced-second b i) && chosen-second bs s i

  chosen-parts : (bs cs : List Bond) (r s : Row) → length r ≡ length bs → AllBelow (length f) bs → chosen_induced (f ++ g) (bs ++ map (raised_bond (length f)) cs) (r ++ s) ≡ (chosen_induced f bs r && chosen_induced g cs s)
  unfolding chosen_induced
  chosen-parts [] cs [] s e a = chosen-second cs s
  chosen-parts [] cs (x ∷ r) s e a = absurd (omega arith)
  chosen-parts (b ∷ bs) cs [] s e a = absurd (omega arith)
  chosen-parts (b ∷ bs) cs (x ∷ r) s e a =
      (λ i. (eqb x 0 || induced-first b a.0 i) && chosen-parts bs cs r s (omega arith) a.1 i)
      ∙ and_assoc (eqb x 0 || induced f b) (chosen_induced f bs r) (chosen_induced g cs s)

-- ---- degrees
count_add : (t : Bool) (a b : ℕ) → count_if t (a + b) ≡ count_if t a + b
count_add true a b = omega arith
count_add false a b = refl

degree-parts : (bs cs : List Bond) (r s : Row) (v : ℕ) → length r ≡ length bs → degree (bs ++ cs) (r ++ s) v ≡ degree bs r v + degree cs s v
unfolding degree
degree-parts [] cs [] s v e = sym (zero-add (degree cs s v))
degree-parts [] cs (x ∷ r) s v e = absurd (omega arith)
degree-parts (b ∷ bs) cs [] s v e = absurd (omega arith)
degree-parts (b ∷ bs) cs (x ∷ r) s v e =
    ap (count_if (not (eqb x 0) && touches b v)) (degree-parts bs cs r s v (omega arith)) ∙ count_add (not (eqb x 0) && touches b v) (degree bs r v) (degree cs s v)

-- bonds that do not touch the atom
count_none : (x t : Bool) (n : ℕ) → t ≡ false → count_if (x && t) n ≡ n
count_none true t n e = rw e
count_none false t n e = refl

module _ (n : ℕ) where
  no-touch-second : (b : Bond) (v : ℕ) → v < n → touches (raised_bond n b) v ≡ false
  no-touch-second b v l = rw (ne_eqb (n + b.end1) v (λ e. omega arith), ne_eqb (n + b.end2) v (λ e. omega arith))

  no-touch-first : (b : Bond) (v : ℕ) → (b.end1 < n) × (b.end2 < n) → touches b (n + v) ≡ false
  no-touch-first b v l = rw (ne_eqb b.end1 (n + v) (λ e. omega arith), ne_eqb b.end2 (n + v) (λ e. omega arith))

  touch-second : (b : Bond) (v : ℕ) → touches (raised_bond n b) (n + v) ≡ touches b v
  touch-second b v = λ i. eqb-raised n b.end1 v i || eqb-raised n b.end2 v i

  degree-low : (cs : List Bond) (s : Row) (v : ℕ) → v < n → degree (map (raised_bond n) cs) s v ≡ 0
  unfolding degree
  degree-low [] s v l = refl
  degree-low (b ∷ cs) [] v l = refl
  degree-low (b ∷ cs) (x ∷ s) v l = count_none (not (eqb x 0)) (touches (raised_bond n b) v) (degree (map (raised_bond n) cs) s v) (no-touch-second b v l) ∙ degree-low cs s v l

  degree-high : (bs : List Bond) (r : Row) (v : ℕ) → AllBelow n bs → degree bs r (n + v) ≡ 0
  unfolding degree
  degree-high [] r v a = refl
  degree-high (b ∷ bs) [] v a = refl
  degree-high (b ∷ bs) (x ∷ r) v a = count_none (not (eqb x 0)) (touches b (n + v)) (degree bs r (n + v)) (no-touch-first b v a.0) ∙ degree-high bs r v a.1

  degree-second : (cs : List Bond) (s : Row) (v : ℕ) → degree (map (raised_bond n) cs) s (n + v) ≡ degree cs s v
  unfolding degree
  degree-second [] s v = refl
  degree-second (b ∷ cs) [] v = refl
  degree-second (b ∷ cs) (x ∷ s) v = λ i. count_if (not (eqb x 0) && touch-second b v i) (degree-second cs s v i)

-- ---- each delocalized atom once
once-append : (bs : List Bond) (r : Row) (f g : List ℕ) (v : ℕ) → each_once bs r (f ++ g) v ≡ (each_once bs r f v && each_once bs r g (v + length f))
unfolding each_once
once-append bs r [] g v = rw (add-zero v)
once-append bs r (k ∷ f) g v =
    let e : v + suc (length f) ≡ suc v + length f = omega arith in
    rw e (ap (λ (t : Bool). (not (eqb k 1) || eqb (degree bs r v) 1) && t) (once-append bs r f g (suc v)) ∙ and_assoc (not (eqb k 1) || eqb (degree bs r v) 1) (each_once bs r f (suc v)) (each_once bs r g (suc v + length f)))

once-alike : (bs cs : List Bond) (r s : Row) (ks : List ℕ) (v w : ℕ) → ((j : ℕ) → j < length ks → degree bs r (v + j) ≡ degree cs s (w + j)) → each_once bs r ks v ≡ each_once cs s ks w
unfolding each_once
once-alike bs cs r s [] v w h = refl
once-alike bs cs r s (k ∷ ks) v w h =
    let e : degree bs r v ≡ degree cs s w = ap (degree bs r) (sym (add-zero v)) ∙ h 0 (omega arith) ∙ ap (degree cs s) (add-zero w) in
    λ i. (not (eqb k 1) || eqb (e i) 1) && once-alike bs cs r s ks (suc v) (suc w) (λ j l. ap (degree bs r) (next v j) ∙ h (suc j) (omega arith) ∙ ap (degree cs s) (sym (next w j))) i
  where
    next : (x j : ℕ) → suc x + j ≡ x + suc j
    next x j = omega arith

-- ---- together
module _ (f g : List ℕ) (bs cs : List Bond) (below : AllBelow (length f) bs) (r s : Row) (long : length r ≡ length bs) where
  once-first : each_once (bs ++ map (raised_bond (length f)) cs) (r ++ s) f 0 ≡ each_once bs r f 0
  once-first =
      once-alike (bs ++ map (raised_bond (length f)) cs) bs (r ++ s) r f 0 0
      (λ j l.
      let z : 0 + j < length f = omega arith in
      degree-parts bs (map (raised_bond (length f)) cs) r s (0 + j) long ∙ ap (λ (x : ℕ). degree bs r (0 + j) + x) (degree-low (length f) cs s (0 + j) z) ∙ add-zero (degree bs r (0 + j)))

  once-second : each_once (bs ++ map (raised_bond (length f)) cs) (r ++ s) g (0 + length f) ≡ each_once cs s g 0
  once-second =
      once-alike (bs ++ map (raised_bond (length f)) cs) cs (r ++ s) s g (0 + length f) 0
      (λ j l.
      ap (λ (x : ℕ). degree (bs ++ map (raised_bond (length f)) cs) (r ++ s) (x + j)) (zero-add (length f))
      ∙ degree-parts bs (map (raised_bond (length f)) cs) r s (length f + j) long
      ∙ (λ i. degree-high (length f) bs r j below i + degree-second (length f) cs s j i)
      ∙ zero-add (degree cs s j)
      ∙ ap (degree cs s) (sym (zero-add j)))

  -- THE LAW
  pub matching-parts : is_matching (f ++ g) (bs ++ map (raised_bond (length f)) cs) (r ++ s) ≡ (is_matching f bs r && is_matching g cs s)
  unfolding is_matching
  matching-parts =
      (λ i. chosen-parts f g bs cs r s long below i && once-append (bs ++ map (raised_bond (length f)) cs) (r ++ s) f g 0 i)
      ∙ (λ i. (chosen_induced f bs r && chosen_induced g cs s) && (once-first i && once-second i))
      ∙ and-swap (chosen_induced f bs r) (chosen_induced g cs s) (each_once bs r f 0) (each_once cs s g 0)
