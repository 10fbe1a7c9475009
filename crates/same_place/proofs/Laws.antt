-- The search atom by atom: where an atom may not go, nothing is found; where it may, what is found after it. Assumes nothing.
use mathlib.Core.Path.{◌≡◌, refl, sym, ap, ◌∙◌, fun_ext}
use mathlib.Core.Bool.{Bool, true, false, ◌&&◌, not}
use mathlib.Core.List.{List, [], ◌∷◌, ◌++◌, map, flat_map, append_assoc, append-nil}
use Prim.Native.Nat.{ℕ, suc, ◌+◌, ◌-◌, ◌<◌, ◌≤◌}
use native.Mathlib.Omega.{arith}
use native.Mathlib.Numerals.{add-one}
use lib.Dec.{eqb}
use lib.ListN.{length, get_or, set, take, length-set}
use lib.Seq.{get_or-take, take-suc-set, take-set-le, take-take, length-take-le, get_or-set_same, get_or-set_other}
use borrow.Author.Tests.{eq-eqb, eqb-true}
use Rattle.loops.specs.Loop.{up_to}
use Rattle.loops.proofs.Loops.{each_same}
use Rattle.matching.specs.Enumeration.{Row, passing}
use Rattle.matching.specs.Model.{some?, head_or}
use Rattle.matching.proofs.Enumeration.{passing-append, passing-map, passing-none}
use Rattle.matching.proofs.Graph.{never}
use Rattle.same_model.specs.Same.{max_same, words}
use Rattle.same_place.specs.Place.{entry, beside, placeable, good_from, goods, Prefix, Solved}

passing-flat_map : (q : Row → Bool) (f : ℕ → List Row) (l : List ℕ) → passing q (flat_map f l) ≡ flat_map (λ d. passing q (f d)) l
unfolding flat_map passing
passing-flat_map q f [] = refl
passing-flat_map q f (d ∷ l) = passing-append q (f d) (flat_map f l) ∙ ap (λ (r : List Row). passing q (f d) ++ r) (passing-flat_map q f l)

flat_map-same : (f g : ℕ → List Row) → ((d : ℕ) → f d ≡ g d) → (l : List ℕ) → flat_map f l ≡ flat_map g l
flat_map-same f g h l = ap (λ (k : ℕ → List Row). flat_map k l) (fun_ext h)

-- only the cells before a are looked at
pub placeable-prefix : (o1 o2 ok ren : List ℕ) (a d : ℕ) → placeable o1 o2 ok (take a ren) a d ≡ placeable o1 o2 ok ren a d
unfolding placeable
placeable-prefix o1 o2 ok ren a d =
    ap (λ (z : Bool). eqb (entry ok a d) 1 && z)
    (each_same (beside o1 o2 (take a ren) a d) (beside o1 o2 ren a d) a (λ b l. ap (λ (i : ℕ). not (eqb i d) && eqb (entry o1 a b) (entry o2 d i)) (get_or-take a ren b 0 l)))

module _ (o1 o2 ok : List ℕ) (n : ℕ) (p : List ℕ) (k : ℕ) where
  -- the ways on with d next
  unfoldable pub branch : ℕ → List Row
  branch d = map (λ (s : Row). d ∷ s) (passing (λ s. good_from o1 o2 ok p (d ∷ s)) (words n k))

  pub goods-suc : goods o1 o2 ok n p (suc k) ≡ flat_map branch (up_to (λ (d : ℕ). d) 0 n)
  unfolding goods words branch
  goods-suc =
      passing-flat_map (good_from o1 o2 ok p) (λ d. map (λ (s : Row). d ∷ s) (words n k)) (up_to (λ (d : ℕ). d) 0 n)
      ∙ flat_map-same (λ d. passing (good_from o1 o2 ok p) (map (λ (s : Row). d ∷ s) (words n k))) branch (λ d. passing-map (good_from o1 o2 ok p) d (words n k)) (up_to (λ (d : ℕ). d) 0 n)

  pub branch-not : (d : ℕ) → placeable o1 o2 ok p (length p) d ≡ false → branch d ≡ []
  unfolding branch good_from
  branch-not d h = rw h (ap (map (λ (s : Row). d ∷ s)) (passing-none (words n k)))

  pub branch_yes : (d : ℕ) → placeable o1 o2 ok p (length p) d ≡ true → branch d ≡ map (λ (s : Row). d ∷ s) (goods o1 o2 ok n (p ++ (d ∷ [])) k)
  unfolding branch good_from goods
  branch_yes d h = rw h

-- no way on in a list of ways that are mapped
map-none : (d : ℕ) (l : List Row) → some? l ≡ false → map (λ (s : Row). d ∷ s) l ≡ []
map-none d [] h = refl
map-none d (s ∷ l) h = absurd (never true refl h)

pub goods-end : (o1 o2 ok : List ℕ) (n : ℕ) (p : List ℕ) → goods o1 o2 ok n p 0 ≡ [] ∷ []
unfolding goods words good_from passing
goods-end o1 o2 ok n p = refl

-- the search stands at the image d of the atom `from`: what is left to try leads to the same
pub record Trying (o1 o2 ok : List ℕ) (n from : ℕ) (ren₀ ren : List ℕ) (d : ℕ) : Type 0 where
  pub within : d ≤ n
  pub long : length ren ≡ length ren₀
  pub kept : take from ren ≡ take from ren₀
  pub same : goods o1 o2 ok n (take from ren₀) (n - from) ≡ flat_map (branch o1 o2 ok n (take from ren₀) (n - (from + 1))) (up_to (λ (e : ℕ). e) d (n - d))

module _ (o1 o2 ok : List ℕ) {n from : ℕ} {ren₀ : List ℕ} (q : Prefix n ren₀ from) where
  room : n ≤ length ren₀
  room = q.room

  pub all_placed : from ≡ n → Solved (goods o1 o2 ok n (take from ren₀) (n - from)) n from ren₀ true ren₀
  all_placed e =
      let z : n - from ≡ 0 = omega arith in
      let g : goods o1 o2 ok n (take from ren₀) (n - from) ≡ [] ∷ [] = rw z (goods-end o1 o2 ok n (take from ren₀)) in
      record { long = refl; kept = refl; told = sym (ap some? g); found = λ h. rw (g, e) (sym (append-nil (take n ren₀))) }

  module _ (l : (from ≡ n → ⊥)) where
    sizes : n - from ≡ suc (n - (from + 1))
    sizes = omega (arith, q.upto)

    prefix-length : length (take from ren₀) ≡ from
    prefix-length = length-take-le from ren₀ (omega (arith, q.upto, q.room))

    pub trying_start : Trying o1 o2 ok n from ren₀ ren₀ 0
    trying_start = record { within = omega arith; long = refl; kept = refl; same = let d : n - 0 ≡ n = omega arith in rw (sizes, d) (goods-suc o1 o2 ok n (take from ren₀) (n - (from + 1))) }

    -- the images of the atoms before stay
    images-kept : {d : ℕ} {ren : List ℕ} → Trying o1 o2 ok n from ren₀ ren d → (b : ℕ) → b < from → get_or ren b 0 ≡ get_or ren₀ b 0
    images-kept {ren = ren} w b j = sym (get_or-take from ren b 0 j) ∙ ap (λ (r : List ℕ). get_or r b 0) w.kept ∙ get_or-take from ren₀ b 0 j

    pub images-below : {d : ℕ} {ren : List ℕ} → Trying o1 o2 ok n from ren₀ ren d → (b : ℕ) → b < from → get_or ren b 0 < max_same
    images-below w b j = rw (images-kept w b j) (omega (arith, q.below b j, q.few))

    -- the prefix after a trial
    pub prefix-next : (d : ℕ) {ren : List ℕ} → Trying o1 o2 ok n from ren₀ ren d → d < n → Prefix n (set ren from d) (from + 1)
    prefix-next d {ren} w i =
        record {
          few = q.few;
          upto = omega (arith, q.upto);
          room = simp length-set (omega (arith, w.long, q.room));
          below = λ b j. go b j (eqb b from) refl;
        }
      where
        go : (b : ℕ) → b < from + 1 → (z : Bool) → eqb b from ≡ z → get_or (set ren from d) b 0 < n
        go b j true e = let u : b ≡ from = eqb-true b from e in rw (u, get_or-set_same ren from d 0 (omega (arith, w.long, q.upto, q.room))) i
        go b j false e =
            let u : b ≡ from → ⊥ = λ k. never (eqb b from) (eq-eqb b from k) e in
            rw (get_or-set_other ren from b d 0 u, images-kept w b (omega arith)) (q.below b (omega arith))

    module _ {ren : List ℕ} {d : ℕ} (w : Trying o1 o2 ok n from ren₀ ren d) where
      abbrev p : List ℕ
      p = take from ren₀

      abbrev fs : List Row
      fs = goods o1 o2 ok n (take from ren₀) (n - from)

      abbrev on : ℕ → List Row
      on = branch o1 o2 ok n (take from ren₀) (n - (from + 1))

      may : {f : Bool} → f ≡ placeable o1 o2 ok ren from d → f ≡ placeable o1 o2 ok p (length p) d
      may e =
          e ∙ sym (placeable-prefix o1 o2 ok ren from d)
          ∙ ap (λ (r : List ℕ). placeable o1 o2 ok r from d) w.kept
          ∙ ap (λ (a : ℕ). placeable o1 o2 ok p a d) (sym prefix-length)

      -- one image fewer
      pub skip : d < n → on d ≡ [] → fs ≡ flat_map on (up_to (λ (e : ℕ). e) (d + 1) (n - (d + 1)))
      unfolding up_to flat_map
      skip i e = let z : n - d ≡ suc (n - (d + 1)) = omega arith in w.same ∙ rw (z, e, add-one d)

      here : d < n → fs ≡ on d ++ flat_map on (up_to (λ (e : ℕ). e) (suc d) (n - (d + 1)))
      unfolding up_to flat_map
      here i = let z : n - d ≡ suc (n - (d + 1)) = omega arith in w.same ∙ rw z

      pub trying-not : d < n → {f : Bool} → f ≡ placeable o1 o2 ok ren from d → f ≡ false → {ren' : List ℕ} → ren' ≡ ren → Trying o1 o2 ok n from ren₀ ren' (d + 1)
      trying-not i f g e =
          rw e record { within = omega arith; long = w.long; kept = w.kept; same = skip i (branch-not o1 o2 ok n p (n - (from + 1)) d (sym (may f) ∙ g)) }

      -- what a trial of d gives
      module _ (i : d < n) {f : Bool} (placed : f ≡ placeable o1 o2 ok ren from d) (yes' : f ≡ true) {r : Bool} {ren' : List ℕ}
          (s : Solved (goods o1 o2 ok n (take (from + 1) (set ren from d)) (n - (from + 1))) n (from + 1) (set ren from d) r ren') where
        prefix : take (from + 1) (set ren from d) ≡ p ++ (d ∷ [])
        prefix = rw (add-one from, take-suc-set ren from d (omega (arith, w.long, q.upto, q.room))) (ap (λ (t : List ℕ). t ++ (d ∷ [])) w.kept)

        abbrev gs : List Row
        gs = goods o1 o2 ok n (p ++ (d ∷ [])) (n - (from + 1))

        told : r ≡ some? gs
        told = s.told ∙ ap (λ (t : List ℕ). some? (goods o1 o2 ok n t (n - (from + 1)))) prefix

        branched : on d ≡ map (λ (t : Row). d ∷ t) gs
        branched = branch_yes o1 o2 ok n p (n - (from + 1)) d (sym (may placed) ∙ yes')

        kept : take from ren' ≡ take from ren₀
        kept =
            sym (take-take from (from + 1) ren' (omega arith))
            ∙ ap (take from) s.kept
            ∙ take-take from (from + 1) (set ren from d) (omega arith)
            ∙ take-set-le from ren from d (omega arith)
            ∙ w.kept

        size : length ren' ≡ length ren
        size = s.long ∙ length-set ren from d

        pub trying-next : r ≡ false → {ren'' : List ℕ} → ren'' ≡ ren' → Trying o1 o2 ok n from ren₀ ren'' (d + 1)
        trying-next h e =
            rw e record {
              within = omega arith;
              long = size ∙ w.long;
              kept = kept;
              same = skip i (branched ∙ map-none d gs (sym told ∙ h));
            }

        pub trying-found : r ≡ true → Solved fs n from ren₀ true ren'
        trying-found h = go gs refl (sym told ∙ h)
          where
            go : (l : List Row) → gs ≡ l → some? l ≡ true → Solved fs n from ren₀ true ren'
            go [] e k = absurd (never false k refl)
            go (t ∷ l) e k =
                let v : fs ≡ (d ∷ t) ∷ (map (λ (t : Row). d ∷ t) l ++ flat_map on (up_to (λ (e : ℕ). e) (suc d) (n - (d + 1)))) = here i ∙ rw (branched, e) in
                record {
                  long = size ∙ w.long;
                  kept = kept;
                  told = sym (ap some? v);
                  found = λ _.
                      s.found h
                      ∙ ap (λ (u : List ℕ). u ++ head_or [] (goods o1 o2 ok n u (n - (from + 1)))) prefix
                      ∙ ap (λ (g : List Row). (p ++ (d ∷ [])) ++ head_or [] g) e
                      ∙ append_assoc p (d ∷ []) t
                      ∙ ap (λ (g : List Row). p ++ head_or [] g) (sym v);
                }

      pub trying-end : n ≤ d → Solved fs n from ren₀ false ren
      unfolding up_to flat_map
      trying-end h =
          let z : n - d ≡ 0 = omega arith in
          let v : fs ≡ [] = w.same ∙ rw z in
          record { long = w.long; kept = w.kept; told = sym (ap some? v); found = λ k. absurd (never false k refl) }
