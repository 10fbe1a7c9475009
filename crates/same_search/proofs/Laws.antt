-- The search with finer keys: an image that is passed over leads to nothing. Assumes nothing.
use mathlib.Core.Path.{◌≡◌, refl, sym, ap, ◌∙◌, subst}
use mathlib.Core.Bool.{Bool, true, false, ◌&&◌, not}
use mathlib.Core.List.{List, [], ◌∷◌, ◌++◌, map}
use Prim.Native.Nat.{ℕ, ◌+◌, ◌-◌, ◌<◌}
use native.Mathlib.Omega.{arith}
use native.Mathlib.Numerals.{add-one}
use lib.Dec.{eqb}
use lib.ListN.{length, get_or, set, take, replicate, length-set, get_or-replicate}
use lib.Seq.{get_or-take, take-suc-set, length-take-le, get_or-set_same, get_or-set_other}
use borrow.Author.Tests.{eqb-true, eqb-false, eq-eqb, ne_eqb}
use Rattle.matching.specs.Enumeration.{Row}
use Rattle.matching.specs.Model.{some?}
use Rattle.matching.proofs.Enumeration.{passing-none}
use Rattle.matching.proofs.Graph.{never}
use Rattle.same_model.specs.Same.{max_same, image, words}
use Rattle.same_model.proofs.Lists.{All, at_all}
use Rattle.same_place.specs.Place.{placeable, good_from, goods, Prefix, Solved}
use Rattle.same_place.proofs.Laws.{placeable-prefix, branch, Trying, trying_start, trying-found, skip}
use Rattle.same_keys.specs.Keys.{at, key_sum}
use Rattle.same_finer.specs.Finer.{finer_told, Whole, Keeps, ways_by, Hopeless}
use Rattle.same_finer.proofs.Keeping.{keeps-told, unlike-sums, none-by, good-next}
use Rattle.same_search.specs.Search.{Level, hopeful}
use Rattle.same_search.proofs.Brief.{kept_on}

no : {A : Type 0} → ◌≡◌ {A = Bool} true false → A
no h = absurd (never true refl h)

empty : (g : List Row) → some? g ≡ false → g ≡ []
empty [] e = refl
empty (s ∷ g) e = no e

no-branch : (o1 o2 ok : List ℕ) (n : ℕ) (p : List ℕ) (k d : ℕ) → ways_by o1 o2 ok n p k d ≡ [] → branch o1 o2 ok n p k d ≡ []
unfolding branch ways_by
no-branch o1 o2 ok n p k d e = ap (map (λ (s : Row). d ∷ s)) e

not-placed : (o1 o2 ok : List ℕ) (n : ℕ) (p : List ℕ) (k d : ℕ) → placeable o1 o2 ok p (length p) d ≡ false → ways_by o1 o2 ok n p k d ≡ []
unfolding ways_by good_from
not-placed o1 o2 ok n p k d h = rw h (passing-none (words n k))

ways-goods : (o1 o2 ok : List ℕ) (n : ℕ) (p : List ℕ) (k d : ℕ) → placeable o1 o2 ok p (length p) d ≡ true → ways_by o1 o2 ok n p k d ≡ goods o1 o2 ok n (p ++ (d ∷ [])) k
unfolding ways_by good_from goods
ways-goods o1 o2 ok n p k d h = rw h

-- whether an atom may come next, test by test
module _ (o1 o2 ok k1 k2 dead ren : List ℕ) (from d : ℕ) where
  pub hope-marked : at dead d ≡ 1 → false ≡ hopeful o1 o2 ok k1 k2 dead ren from d
  hope-marked e = sym (ap (λ (z : Bool). not z && eqb (at k1 from) (at k2 d) && placeable o1 o2 ok ren from d) (eq-eqb (at dead d) 1 e))

  pub hope-unlike : (at dead d ≡ 1 → ⊥) → (at k1 from ≡ at k2 d → ⊥) → false ≡ hopeful o1 o2 ok k1 k2 dead ren from d
  hope-unlike e f =
      sym (ap (λ (z : Bool). not z && eqb (at k1 from) (at k2 d) && placeable o1 o2 ok ren from d) (ne_eqb (at dead d) 1 e) ∙ ap (λ (z : Bool). z && placeable o1 o2 ok ren from d) (ne_eqb (at k1 from) (at k2 d) f))

  pub hope-placed : (at dead d ≡ 1 → ⊥) → at k1 from ≡ at k2 d → {r : Bool} → r ≡ placeable o1 o2 ok ren from d → r ≡ hopeful o1 o2 ok k1 k2 dead ren from d
  hope-placed e f h =
      h ∙ sym (ap (λ (z : Bool). not z && eqb (at k1 from) (at k2 d) && placeable o1 o2 ok ren from d) (ne_eqb (at dead d) 1 e) ∙ ap (λ (z : Bool). z && placeable o1 o2 ok ren from d) (eq-eqb (at k1 from) (at k2 d) f))

-- the search stands at the image d
pub record Searching (o1 o2 ok : List ℕ) (n from : ℕ) (ren₀ ren dead : List ℕ) (d : ℕ) : Type 0 where
  pub trying : Trying o1 o2 ok n from ren₀ ren d
  pub hopeless : Hopeless o1 o2 ok n (take from ren₀) (n - (from + 1)) dead

module _ {o1 o2 ok w1 w2 k1 k2 : List ℕ} {n from : ℕ} {ren₀ : List ℕ} (q : Prefix n ren₀ from) (v : Level o1 o2 ok w1 w2 k1 k2 n ren₀ from) (l : (from ≡ n → ⊥)) where
  abbrev p : List ℕ
  p = take from ren₀

  abbrev k : ℕ
  k = n - (from + 1)

  size : length (take from ren₀) ≡ from
  size = length-take-le from ren₀ (omega (arith, q.upto, q.room))

  low : All (λ d. d < n) (take from ren₀)
  low = at_all (λ (d : ℕ). d < n) 0 (take from ren₀) (λ i h. let j : i < from = omega (arith, size) in rw (get_or-take from ren₀ i 0 j) (q.below i j))

  -- no list is left that goes on so
  none-on : (d : ℕ) → d < n → ((t : List ℕ) → Whole o1 o2 ok n t → ((b : ℕ) → b < from → image t b ≡ image ren₀ b) → image t from ≡ d → ⊥) → ways_by o1 o2 ok n (take from ren₀) (n - (from + 1)) d ≡ []
  none-on d i f =
      none-by o1 o2 ok n (take from ren₀) (n - (from + 1)) (omega (arith, size, q.upto)) low v.good d i
      (λ t w h e. f t w (λ b j. h b (omega (arith, size)) ∙ get_or-take from ren₀ b 0 j) (sym (ap (image t) size) ∙ e))

  pub search-start : Searching o1 o2 ok n from ren₀ ren₀ (replicate max_same 0) 0
  search-start = record { trying = trying_start o1 o2 ok q l; hopeless = record { at = λ x i e. absurd (let u = get_or-replicate {A = ℕ} max_same x 0 0 (omega (arith, q.few)) in omega arith) } }

  module _ {ren dead : List ℕ} {d : ℕ} (s : Searching o1 o2 ok n from ren₀ ren dead d) (i : d < n) where
    -- one image fewer
    pub pass-over : ways_by o1 o2 ok n (take from ren₀) (n - (from + 1)) d ≡ [] → {ren' dead' : List ℕ} → length ren' ≡ length ren₀ → take from ren' ≡ take from ren₀ → Hopeless o1 o2 ok n (take from ren₀) (n - (from + 1)) dead' → Searching o1 o2 ok n from ren₀ ren' dead' (d + 1)
    pass-over e a b h =
        record {
          trying = record { within = omega arith; long = a; kept = b; same = skip o1 o2 ok q l s.trying i (no-branch o1 o2 ok n (take from ren₀) (n - (from + 1)) d e) };
          hopeless = h;
        }

    -- as it is placed now
    may : placeable o1 o2 ok ren from d ≡ placeable o1 o2 ok (take from ren₀) (length (take from ren₀)) d
    may = sym (placeable-prefix o1 o2 ok ren from d) ∙ ap (λ (r : List ℕ). placeable o1 o2 ok r from d) s.trying.kept ∙ ap (λ (a : ℕ). placeable o1 o2 ok (take from ren₀) a d) (sym size)

    not-hopeful : hopeful o1 o2 ok k1 k2 dead ren from d ≡ false → ways_by o1 o2 ok n (take from ren₀) (n - (from + 1)) d ≡ []
    not-hopeful = go (eqb (at dead d) 1) (eqb (at k1 from) (at k2 d)) (placeable o1 o2 ok ren from d) refl refl refl
      where
        go : (x y z : Bool) → eqb (at dead d) 1 ≡ x → eqb (at k1 from) (at k2 d) ≡ y → placeable o1 o2 ok ren from d ≡ z → (not x && y && z) ≡ false → ways_by o1 o2 ok n (take from ren₀) (n - (from + 1)) d ≡ []
        go true y z e f g h = s.hopeless.at d i (eqb-true (at dead d) 1 e)
        go false false z e f g h = none-on d i (λ t w u j. eqb-false (at k1 from) (at k2 d) f (v.keeps.kept t w u from (omega (arith, q.upto)) ∙ ap (at k2) j))
        go false true false e f g h = not-placed o1 o2 ok n (take from ren₀) (n - (from + 1)) d (sym may ∙ g)
        go false true true e f g h = no h

    pub search-not : {f : Bool} → f ≡ hopeful o1 o2 ok k1 k2 dead ren from d → f ≡ false → {ren' dead' : List ℕ} → ren' ≡ ren → dead' ≡ dead → Searching o1 o2 ok n from ren₀ ren' dead' (d + 1)
    search-not e f g h = rw (g, h) (pass-over (not-hopeful (sym e ∙ f)) s.trying.long s.trying.kept s.hopeless)

    -- keys with the atom and its image told apart
    keeps_on : Keeps o1 o2 ok n (set ren₀ from d) (from + 1) (finer_told w1 n k1 from) (finer_told w2 n k2 d)
    keeps_on = keeps-told v.weighed1 v.weighed2 d v.keeps (omega (arith, q.upto)) (omega (arith, q.upto, q.room))

    image-on : (b : ℕ) → b < from → image (set ren₀ from d) b ≡ image ren₀ b
    image-on b j = get_or-set_other ren₀ from b d 0 (λ e. omega arith)

    pub search-sums : {s1 s2 : ℕ} → s1 ≡ key_sum (finer_told w1 n k1 from) n → s2 ≡ key_sum (finer_told w2 n k2 d) n → (s2 ≡ s1 → ⊥) → {ren' dead' : List ℕ} → ren' ≡ ren → dead' ≡ dead → Searching o1 o2 ok n from ren₀ ren' dead' (d + 1)
    search-sums e f g h j =
        rw (h, j) (pass-over
        (none-on d i
        (λ t w u x.
        unlike-sums v.weighed1 v.weighed2 keeps_on (λ z. g (f ∙ sym z ∙ sym e)) t w
        (λ b y. go t u x b y (eqb b from) refl)))
        s.trying.long s.trying.kept s.hopeless)
      where
        go : (t : List ℕ) → ((b : ℕ) → b < from → image t b ≡ image ren₀ b) → image t from ≡ d → (b : ℕ) → b < from + 1 → (z : Bool) → eqb b from ≡ z → image t b ≡ image (set ren₀ from d) b
        go t u x b y true c = let m : b ≡ from = eqb-true b from c in rw m (x ∙ sym (get_or-set_same ren₀ from d 0 (omega (arith, q.upto, q.room))))
        go t u x b y false c = let m = eqb-false b from c in u b (omega arith) ∙ sym (image-on b (omega arith))

    module _ {f : Bool} (hf : f ≡ hopeful o1 o2 ok k1 k2 dead ren from d) (yes : f ≡ true) where
      placed : placeable o1 o2 ok (take from ren₀) (length (take from ren₀)) d ≡ true
      placed = sym may ∙ go (eqb (at dead d) 1) (eqb (at k1 from) (at k2 d)) (placeable o1 o2 ok ren from d) (sym hf ∙ yes)
        where
          go : (x y z : Bool) → (not x && y && z) ≡ true → z ≡ true
          go true y z h = no (sym h)
          go false true z h = h
          go false false z h = no (sym h)

      prefix : take (from + 1) (set ren from d) ≡ take from ren₀ ++ (d ∷ [])
      prefix = rw (add-one from, take-suc-set ren from d (omega (arith, s.trying.long, q.upto, q.room))) (ap (λ (t : List ℕ). t ++ (d ∷ [])) s.trying.kept)

      images : (b : ℕ) → b < from → image ren b ≡ image ren₀ b
      images b j = sym (get_or-take from ren b 0 j) ∙ ap (λ (r : List ℕ). get_or r b 0) s.trying.kept ∙ get_or-take from ren₀ b 0 j

      -- what the next step is asked with
      pub level-next : {t1 t2 : List ℕ} → t1 ≡ finer_told w1 n k1 from → t2 ≡ finer_told w2 n k2 d → Level o1 o2 ok w1 w2 t1 t2 n (set ren from d) (from + 1)
      level-next {t1} {t2} e1 e2 =
          record {
            weighed1 = v.weighed1;
            weighed2 = v.weighed2;
            good = rw prefix (good-next o1 o2 ok (take from ren₀) d v.good placed);
            keeps = rw (e1, e2) record { long1 = keeps_on.long1; long2 = keeps_on.long2; kept = λ t w h. keeps_on.kept t w (λ b j. h b j ∙ same b j (eqb b from) refl) };
          }
        where
          same : (b : ℕ) → b < from + 1 → (z : Bool) → eqb b from ≡ z → image (set ren from d) b ≡ image (set ren₀ from d) b
          same b j true c = let m : b ≡ from = eqb-true b from c in rw m (get_or-set_same ren from d 0 (omega (arith, s.trying.long, q.upto, q.room)) ∙ sym (get_or-set_same ren₀ from d 0 (omega (arith, q.upto, q.room))))
          same b j false c = let m = eqb-false b from c in get_or-set_other ren from b d 0 m ∙ images b (omega arith) ∙ sym (image-on b (omega arith))

      pub search-found : {r : Bool} {ren' : List ℕ} → Solved (goods o1 o2 ok n (take (from + 1) (set ren from d)) (n - (from + 1))) n (from + 1) (set ren from d) r ren' → r ≡ true → Solved (goods o1 o2 ok n (take from ren₀) (n - from)) n from ren₀ true ren'
      search-found u h = trying-found o1 o2 ok q l s.trying i (sym (may ∙ placed)) refl u h

      module _ {r : Bool} {ren' : List ℕ} (u : Solved (goods o1 o2 ok n (take (from + 1) (set ren from d)) (n - (from + 1))) n (from + 1) (set ren from d) r ren') (failed : r ≡ false) where
        pub no-ways : ways_by o1 o2 ok n (take from ren₀) (n - (from + 1)) d ≡ []
        no-ways =
            ways-goods o1 o2 ok n (take from ren₀) (n - (from + 1)) d placed
            ∙ ap (λ (t : List ℕ). goods o1 o2 ok n t (n - (from + 1))) (sym prefix)
            ∙ empty (goods o1 o2 ok n (take (from + 1) (set ren from d)) (n - (from + 1))) (sym u.told ∙ failed)

        pub kept-after : take from ren' ≡ take from ren₀
        kept-after = kept_on from d ren₀ ren ren' u.kept s.trying.kept

        pub long_after : length ren' ≡ length ren₀
        long_after = u.long ∙ length-set ren from d ∙ s.trying.long

        pub prefix-after : Prefix n ren' from
        prefix-after =
            record {
              few = q.few;
              upto = q.upto;
              room = omega (arith, long_after, q.room);
              below = λ b j. rw (sym (get_or-take from ren' b 0 j) ∙ ap (λ (r : List ℕ). get_or r b 0) kept-after ∙ get_or-take from ren₀ b 0 j) (q.below b j);
            }

        -- what marking is asked with, and what it leaves
        pub marks-ask : (ways_by o1 o2 ok n (take from ren') (n - (from + 1)) d ≡ []) × Hopeless o1 o2 ok n (take from ren') (n - (from + 1)) dead
        marks-ask =
            (ap (λ (t : List ℕ). ways_by o1 o2 ok n t (n - (from + 1)) d) kept-after ∙ no-ways, subst (λ (t : List ℕ). Hopeless o1 o2 ok n t (n - (from + 1)) dead) (sym kept-after) s.hopeless)

        pub search-next : {dead' : List ℕ} → Hopeless o1 o2 ok n (take from ren') (n - (from + 1)) dead' → {ren'' dead'' : List ℕ} → ren'' ≡ ren' → dead'' ≡ dead' → Searching o1 o2 ok n from ren₀ ren'' dead'' (d + 1)
        search-next {dead'} h e g = rw (e, g) (pass-over no-ways long_after kept-after (subst (λ (t : List ℕ). Hopeless o1 o2 ok n t (n - (from + 1)) dead') kept-after h))
